-- Paths to the root and owners as walks along parents, and what forks and joins change of them.
use Rattle.std.specs.Prelude.{◌≡◌, ◌⊎◌, ◌↔◌, ◌==◌, ◌||◌, ℕ, ◌<◌, ◌≤◌, Bool, true, false, Option, Some, List, [], ◌∷◌}
use Rattle.path_laws.specs.Common.{Edge, owner_in, path_in, AreLow, Tree}

-- WALKS UP

-- these tasks, each the parent of the one before it, lead from t up to a
abbrev pub IsWalkUp : (ℕ → Option ℕ) → ℕ → List ℕ → ℕ → Type 0
IsWalkUp par t [] a = t ≡ a
IsWalkUp par t (p ∷ ps) a = (par t ≡ Some p) × IsWalkUp par p ps a

-- the same, where each task but the last has joined its parent
abbrev pub IsWalkOfJoined : (ℕ → Option ℕ) → (ℕ → Bool) → ℕ → List ℕ → ℕ → Type 0
IsWalkOfJoined par jd t [] a = t ≡ a
IsWalkOfJoined par jd t (p ∷ ps) a = (jd t ≡ true) × (par t ≡ Some p) × IsWalkOfJoined par jd p ps a

-- PATHS

-- one of the two is the other or an ancestor of it
abbrev pub OnePath : (ℕ → Option ℕ) → ℕ → ℕ → Type 0
OnePath par a b = (path_in par a b ≡ true) ⊎ (path_in par b a ≡ true)

-- which tasks are on the path of a task
pub record ArePaths (par : ℕ → Option ℕ) : Type 0 where
  -- those to which a walk up leads from it
  pub walks : (a t : ℕ) → (path_in par a t ≡ true) ↔ ((ps : List ℕ) × IsWalkUp par t ps a)
  pub itself : (t : ℕ) → path_in par t t ≡ true
  -- a child's path is the child and its parent's path
  pub child : (a t p : ℕ) → par t ≡ Some p → path_in par a t ≡ ((a == t) || path_in par a p)
  -- the parent of a task on a path is on it
  pub parent : (a p t : ℕ) → par a ≡ Some p → path_in par a t ≡ true → path_in par p t ≡ true
  -- a proper ancestor of a task has a child on its path
  pub through : (a t : ℕ) → path_in par a t ≡ true → (a ≡ t) ⊎ ((c : ℕ) × (par c ≡ Some a) × (path_in par c t ≡ true))
  pub along : (a b t : ℕ) → path_in par a b ≡ true → path_in par b t ≡ true → path_in par a t ≡ true
  pub one : (a b t : ℕ) → path_in par a t ≡ true → path_in par b t ≡ true → OnePath par a b
  pub low : (a t : ℕ) → path_in par a t ≡ true → a ≤ t

abbrev pub PathsAreWalks : Type 0
PathsAreWalks = (par : ℕ → Option ℕ) → AreLow par → ArePaths par

-- OWNERS

-- who owns what each task allocated
pub record AreOwners (par : ℕ → Option ℕ) (jd wt : ℕ → Bool) : Type 0 where
  -- a task that hasn't joined, reached upward over joined tasks
  pub live : (a : ℕ) → jd (owner_in par jd a) ≡ false
  pub walks : (a : ℕ) → (ps : List ℕ) × IsWalkOfJoined par jd a ps (owner_in par jd a)
  -- a task that hasn't joined owns what it allocated
  pub own : (a : ℕ) → jd a ≡ false → owner_in par jd a ≡ a
  -- no task on the path of a task that hasn't joined has joined
  pub above : (a t : ℕ) → path_in par a t ≡ true → jd t ≡ false → jd a ≡ false
  pub joined : (a t : ℕ) → jd a ≡ true → jd t ≡ false → path_in par a t ≡ false
  -- a task that doesn't wait is no proper ancestor of a task that hasn't joined
  pub leaf : (a t : ℕ) → jd t ≡ false → (a ≡ t → ⊥) → wt a ≡ false → path_in par a t ≡ false

abbrev pub OwnersAreWalks : Type 0
OwnersAreWalks = (n : ℕ) (par : ℕ → Option ℕ) (jd wt : ℕ → Bool) (js : ℕ → ℕ) (es : List Edge) → Tree n par jd wt js es → AreOwners par jd wt

-- AFTER A JOIN

-- after two children l and r of p, and no others, have joined
pub record JoinsTwo (par : ℕ → Option ℕ) (jd jd' : ℕ → Bool) (l r p : ℕ) : Type 0 where
  pub left : par l ≡ Some p
  pub right : par r ≡ Some p
  pub left_live : jd l ≡ false
  pub right_live : jd r ≡ false
  pub left_joined : jd' l ≡ true
  pub right_joined : jd' r ≡ true
  pub parent : jd' p ≡ false
  pub others : (u : ℕ) → (u ≡ l → ⊥) → (u ≡ r → ⊥) → jd' u ≡ jd u
