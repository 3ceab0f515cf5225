use Rattle.log_told.proofs.Common.{◌≡◌, ℕ, List, take, map, All, told_race, IsTable, IsToldRace}
use Rattle.log_told.proofs.table.LineTable.races.Given as goal

abbrev pub invariant-loop-found : goal.invariant-loop-found
invariant-loop-found l = (texts : List (List ℕ)) (wanted : List ℕ) → IsTable texts wanted l.self → All (IsToldRace wanted) l.races → l.told ≡ map (told_race texts) (take l.found-index l.races)
