-- `netkat_c::netkat_is_test_fragment` meets its contract: that of the function that it calls.
use Rattle.netkat_c.proofs.netkat_is_test_fragment.Goals as goal

pub returns : goal.returns
returns c = c.netkat_is_test_fragment.ensures
