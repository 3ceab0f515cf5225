use Rattle.loop_nest_laws.proofs.Law as proved
use Rattle.loop_nest_laws.proofs.laws.loops_call_each_number.Goals as goal

pub returns : goal.returns
returns c = proved.loops_call_each_number
