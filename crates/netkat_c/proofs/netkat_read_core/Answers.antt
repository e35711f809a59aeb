-- `netkat_c::netkat_read_core` meets its contract: that of the function that it calls.
use Rattle.netkat_c.proofs.netkat_read_core.Goals as goal

pub returns : goal.returns
returns c = c.netkat_read_core.ensures
