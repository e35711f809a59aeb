-- `netkat_c::netkat_num_fields` meets its contract: that of the function that it calls.
use Rattle.netkat_c.proofs.netkat_num_fields.Goals as goal

pub returns : goal.returns
returns c = c.netkat_num_fields.ensures
