-- `netkat_c::netkat_run_packets` meets its contract: that of the function that it calls.
use Rattle.netkat_c.proofs.netkat_run_packets.Goals as goal

pub returns-clause-answers : goal.returns-clause-answers
returns-clause-answers c = c.netkat_run_packets.ensures.answers
