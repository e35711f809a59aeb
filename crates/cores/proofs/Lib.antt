-- Laws of reading cores.
pub mod CoreForm
pub mod CoreRecords
pub mod JudgeSteps
pub mod ListSteps
pub mod ReadSteps
pub mod CorePlaces
pub mod CoreTerms
pub mod DesugaredCores
