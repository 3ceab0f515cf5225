-- The place of a task in the tree of forks, without its number.
use Rattle.std.specs.Prelude.{◌≡◌, ℕ, Bool, List, [], ◌∷◌, Contains}
use Rattle.hh_model.specs.declared.data.Edge.{Edge}
use Rattle.hh_model.specs.Step.{is_left, strand, edge}

-- for a task and each of its ancestors except the root, the lowest first: how many forks of its parent had joined when
-- it was forked, and whether it is the left child
abbrev pub ForkPlace : Type 0
ForkPlace = List (ℕ × Bool)

abbrev pub IsForkPlace : List Edge → ForkPlace → ℕ → Type 0
IsForkPlace edges [] t = t ≡ 0
IsForkPlace edges (x ∷ above) t = (p : ℕ) × IsForkPlace edges above p × Contains edges (edge (strand p x.0) (strand t 0)) × (is_left t ≡ x.1)
