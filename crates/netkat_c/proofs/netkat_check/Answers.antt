-- `netkat_c::netkat_check` meets its contract: that of the function that it calls.
use Rattle.netkat_c.proofs.netkat_check.Goals as goal

pub returns : goal.returns
returns c = c.netkat_check.ensures
