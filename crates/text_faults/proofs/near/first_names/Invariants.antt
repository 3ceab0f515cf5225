use Rattle.std.proofs.Common.{◌≡◌, map, take}
use Rattle.text_faults.proofs.near.first_names.Given as goal

abbrev pub invariant-loop-place : goal.invariant-loop-place
invariant-loop-place l = map (λ n. n.now) l.names.items ≡ map (λ e. e.name) (take l.place l.table)
