use Rattle.fault_lines.proofs.Common.{◌≡◌, take, flat_map, further_piece}
use Rattle.fault_lines.proofs.json.further_text.Given as goal

abbrev pub invariant-loop-fault : goal.invariant-loop-fault
invariant-loop-fault l = l.text.items ≡ flat_map further_piece (take l.fault-index l.faults)
