-- What a pattern that a host lends will cost. Read in this order.
pub mod Lent
pub mod Results
