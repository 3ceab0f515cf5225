use Rattle.log_told.proofs.Common.{◌≡◌, ℕ, List, take, map, All, told_use, IsTable, IsToldUse}
use Rattle.log_told.proofs.table.LineTable.findings.Given as goal

abbrev pub invariant-loop-finding : goal.invariant-loop-finding
invariant-loop-finding l = (texts : List (List ℕ)) (wanted : List ℕ) → IsTable texts wanted l.self → All (IsToldUse wanted) l.findings → l.told ≡ map (told_use texts) (take l.finding-index l.findings)
