use Rattle.fault_lines.proofs.Common.{◌≡◌, take, flat_map, fault_line}
use Rattle.fault_lines.proofs.text.faults_text.Given as goal

abbrev pub invariant-loop-fault : goal.invariant-loop-fault
invariant-loop-fault l = l.text.items ≡ flat_map fault_line (take l.fault-index l.faults)
