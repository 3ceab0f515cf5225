-- Far links: beside the link to its parent, each place has one to a farther ancestor.
--
-- The depth alone determines how far that link leads. The lengths are such that a climb to any depth follows O(log
-- depth) links.
use Rattle.std.specs.Prelude.{◌≡◌, ◌+◌, ◌-◌, ◌<◌, ◌≤◌, ◌==◌, ◌⊎◌, ℕ, zero, suc, Option, Some, None, if◌then◌else◌}
use Rattle.jump_pointers.specs.Walk.{ancestor}

-- how many links a place's far link skips
abbrev pub span : (ℕ → ℕ) → (ℕ → ℕ) → ℕ → ℕ
span depth far t = depth t - depth (far t)

-- the target of the far link of a child of t: past the two next far links if these are equally long, otherwise t
abbrev pub next_far : (ℕ → ℕ) → (ℕ → ℕ) → ℕ → ℕ
next_far depth far t = if span depth far t == span depth far (far t) then far (far t) else t

-- a far link of rank 0 leads to the parent; one of rank r + 1 leads to the parent and from there over two far links of
-- rank r
abbrev pub HasRank : (ℕ → Option ℕ) → (ℕ → ℕ) → ℕ → ℕ → Type 0
HasRank parent far zero t = parent t ≡ Some (far t)
HasRank parent far (suc rank) t =
    (p : ℕ) × (parent t ≡ Some p) × HasRank parent far rank p × HasRank parent far rank (far p) × (far t ≡ far (far p))

-- the next link of a climb to a depth: the far one unless it leads past that depth, otherwise the one to the parent
abbrev pub IsNextLink : (ℕ → Option ℕ) → (ℕ → ℕ) → (ℕ → ℕ) → ℕ → ℕ → ℕ → Type 0
IsNextLink parent depth far least t up =
    ((least ≤ depth (far t)) × (up ≡ far t)) ⊎ ((depth (far t) < least) × (parent t ≡ Some up))

-- a climb to the depth follows at most this many links
abbrev pub Within : (ℕ → Option ℕ) → (ℕ → ℕ) → (ℕ → ℕ) → ℕ → ℕ → ℕ → Type 0
Within parent depth far least zero t = depth t ≤ least
Within parent depth far least (suc more) t =
    (depth t ≤ least) ⊎ ((up : ℕ) → IsNextLink parent depth far least t up → Within parent depth far least more up)

-- the links of n places: parents have smaller numbers than their children, depths count links, and far links lead up;
-- each has a rank, and on the way up by them each is longer than the one before, except that the second may be as long
-- as the first
pub record AreLinked (n : ℕ) (parent : ℕ → Option ℕ) (depth far : ℕ → ℕ) : Type 0 where
  pub top : (t : ℕ) → t < n → parent t ≡ None → depth t ≡ 0
  pub low : (t p : ℕ) → parent t ≡ Some p → p < t
  pub deeper : (t p : ℕ) → parent t ≡ Some p → depth t ≡ depth p + 1
  pub far_low : (t : ℕ) → t < n → far t ≤ t
  pub far_up : (t : ℕ) → t < n → ancestor parent (depth t - depth (far t)) t ≡ Some (far t)
  pub far_rises : (t : ℕ) → t < n → 0 < depth t → depth (far t) < depth t
  pub ranked : (t : ℕ) → t < n → 0 < depth t → (rank : ℕ) × HasRank parent far rank t
  pub no_shorter : (t : ℕ) → t < n → 0 < depth (far t) → span depth far t ≤ span depth far (far t)
  pub longer : (t : ℕ) → t < n → 0 < depth (far (far t)) → span depth far (far t) < span depth far (far (far t))

-- place n has no parent, or the link of a child
abbrev pub IsNewLink : ℕ → (ℕ → ℕ) → (ℕ → ℕ) → Option ℕ → ℕ → ℕ → Type 0
IsNewLink n depth far None its_depth its_far = (its_depth ≡ 0) × (its_far ≡ n)
IsNewLink n depth far (Some p) its_depth its_far = (p < n) × (its_depth ≡ depth p + 1) × (its_far ≡ next_far depth far p)

-- the links of n places are kept, and of the places from n on only place n may have a parent
pub record HasOneMore (n : ℕ) (parent parent' : ℕ → Option ℕ) (depth depth' far far' : ℕ → ℕ) : Type 0 where
  pub parents : (u : ℕ) → u < n → parent' u ≡ parent u
  pub depths : (u : ℕ) → u < n → depth' u ≡ depth u
  pub fars : (u : ℕ) → u < n → far' u ≡ far u
  pub past : (u : ℕ) → n < u → parent' u ≡ None
  pub new : IsNewLink n depth far (parent' n) (depth' n) (far' n)
