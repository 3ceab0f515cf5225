-- What is reached is the least set that contains the starts and is closed under the edges.
use Rattle.std.specs.Prelude.{◌≡◌, Bool, true}
use Rattle.walk_laws.specs.Reached.{IsReached}

-- the set that a test decides
abbrev pub Passes : {A : Type 0} → (A → Bool) → A → Type 0
Passes test a = test a ≡ true

-- the edges that a test of two nodes decides
abbrev pub Links : {A : Type 0} → (A → A → Bool) → A → A → Type 0
Links test a b = test a b ≡ true

-- the set contains the starts, and no edge leaves it
pub record IsClosed {A : Type 0} (starts : A → Type 0) (leads : A → A → Type 0) (P : A → Type 0) : Type 0 where
  pub start : (a : A) → starts a → P a
  pub more : (m a : A) → P m → leads m a → P a

-- it is closed, and a subset of every closed set
abbrev pub ReachedIsLeast : Type 0 → Type 0
ReachedIsLeast A =
    (starts : A → Bool) (leads : A → A → Bool)
    → IsClosed (Passes starts) (Links leads) (IsReached (Passes starts) (Links leads))
    × ((set : A → Bool) → IsClosed (Passes starts) (Links leads) (Passes set) → (a : A) → IsReached (Passes starts) (Links leads) a → set a ≡ true)
