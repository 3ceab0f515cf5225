-- Journals, each entry of which belongs to one worker.
use Rattle.std.specs.Prelude.{◌≢◌, ℕ, ◌<◌, ◌==◌, List, [], ◌∷◌, filter}

-- no entry is worker w's
abbrev pub NoneBy : {E : Type 0} → (E → ℕ) → ℕ → List E → Type 0
NoneBy worker_of w [] = Unit {0}
NoneBy worker_of w (e ∷ es) = (worker_of e ≢ w) × NoneBy worker_of w es

-- the entries of worker w, in order
abbrev pub entries_by : {E : Type 0} → (E → ℕ) → ℕ → List E → List E
entries_by worker_of w es = filter (λ e. worker_of e == w) es

-- each entry is of a worker below n
abbrev pub AllBelow : {E : Type 0} → (E → ℕ) → ℕ → List E → Type 0
AllBelow worker_of n [] = Unit {0}
AllBelow worker_of n (e ∷ es) = (worker_of e < n) × AllBelow worker_of n es
