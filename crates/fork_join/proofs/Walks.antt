-- Walks to the root if parents stay the same.
use Rattle.fork_join.proofs.Common.{◌≡◌, ℕ, zero, suc, ◌<◌, refl, sym, ap, ◌∙◌, Option, Some, None, List, [], ◌∷◌, arith, slice_get, length, option_and_then, Ready, Joined, ancestor, IsUpFrom, TaskNode, parent_in, parent_of, with_state, states_change, joined_nodes}
use Rattle.fork_join.proofs.Owners.{some_same}

-- a tree in which each parent stays the same has the same walks
up_by : (par par' : ℕ → Option ℕ) → ((u q : ℕ) → par u ≡ Some q → par' u ≡ Some q) → (k t a : ℕ) → ancestor par k t ≡ Some a → ancestor par' k t ≡ Some a
up_by par par' keeps zero t a h = h
up_by par par' keeps (suc k) t a h = up_by_cases (λ q n. up_by par par' keeps k q a n) (par t) refl h
  where
    up_by_cases : ((q : ℕ) → ancestor par k q ≡ Some a → ancestor par' k q ≡ Some a) → (o : Option ℕ) → par t ≡ o → option_and_then (ancestor par k) o ≡ Some a → ancestor par' (suc k) t ≡ Some a
    up_by_cases again None e n = absurd (let m : None ≡ Some a = n in cc)
    up_by_cases again (Some q) e n = ap (λ (x : Option ℕ). option_and_then (ancestor par' k) x) (keeps t q e) ∙ again q n

pub up_kept : (par par' : ℕ → Option ℕ) → ((u q : ℕ) → par u ≡ Some q → par' u ≡ Some q) → (t a : ℕ) → IsUpFrom par t a → IsUpFrom par' t a
up_kept par par' keeps t a (k, h) = (k, up_by par par' keeps k t a h)

-- from a child other than the goal, the walk passes through the parent
pub up_over : (par : ℕ → Option ℕ) (c p a : ℕ) → par c ≡ Some p → (a ≡ c → ⊥) → IsUpFrom par c a → IsUpFrom par p a
up_over par c p a e ne (zero, h) = absurd (ne (sym (some_same c a h)))
up_over par c p a e ne (suc k, h) = (k, sym (ap (λ (x : Option ℕ). option_and_then (ancestor par k) x) e) ∙ h)

more : (par : ℕ → Option ℕ) (c p : ℕ) → par c ≡ Some p → (k t : ℕ) → ancestor par k t ≡ Some c → ancestor par (suc k) t ≡ Some p
more par c p e zero t h = ap (λ (x : ℕ). option_and_then (ancestor par 0) (par x)) (some_same t c h) ∙ ap (λ (x : Option ℕ). option_and_then (ancestor par 0) x) e
more par c p e (suc k) t h = more_by_cases (λ q n. more par c p e k q n) (par t) h
  where
    more_by_cases : ((q : ℕ) → ancestor par k q ≡ Some c → ancestor par (suc k) q ≡ Some p) → (o : Option ℕ) → option_and_then (ancestor par k) o ≡ Some c → option_and_then (ancestor par (suc k)) o ≡ Some p
    more_by_cases again None n = absurd (let m : None ≡ Some c = n in cc)
    more_by_cases again (Some q) n = again q n

-- a descendant of a child is a descendant of its parent
pub up_more : (par : ℕ → Option ℕ) (t c p : ℕ) → par c ≡ Some p → IsUpFrom par t c → IsUpFrom par t p
up_more par t c p e (k, h) = (suc k, more par c p e k t h)

-- ---- parents stay

pub joined_parent : (nodes : List TaskNode) (p c d u q : ℕ) → parent_of nodes u ≡ Some q → parent_of (joined_nodes nodes p c d) u ≡ Some q
joined_parent nodes p c d u q e =
    ap (λ (f : ℕ → Option ℕ). f u) (states_change (with_state (with_state nodes c Joined) d Joined) p Ready).parents
    ∙ (ap (λ (f : ℕ → Option ℕ). f u) (states_change (with_state nodes c Joined) d Joined).parents ∙ (ap (λ (f : ℕ → Option ℕ). f u) (states_change nodes c Joined).parents ∙ e))

within : (xs : List TaskNode) (u q : ℕ) → parent_in (slice_get xs u) ≡ Some q → u < length xs
within [] u q e = absurd (let m : None ≡ Some q = e in cc)
within (x ∷ xs) zero q e = omega arith
within (x ∷ xs) (suc u) q e = let h : u < length xs = within xs u q e in omega arith
