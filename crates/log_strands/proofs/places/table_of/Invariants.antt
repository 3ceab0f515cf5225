use Rattle.log_strands.proofs.Common.{ℕ, take, strand, IsPlaceOf, place_told}
use Rattle.log_strands.proofs.places.table_of.Given as goal

abbrev pub invariant-loop-place : goal.invariant-loop-place
invariant-loop-place l = (t i : ℕ) → IsPlaceOf l.log (take l.place l.order) (strand t i) (place_told l.table t i)
