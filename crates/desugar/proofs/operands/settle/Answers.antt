-- `desugar::operands::settle` meets its contract.
use Rattle.desugar.proofs.Closing.{lies_copied}
use Rattle.desugar.proofs.operands.settle.Goals as goal

pub returns-then-core-to-clause-lies : goal.returns-then-core-to-clause-lies
returns-then-core-to-clause-lies c = lies_copied c.copy.ensures.copied
