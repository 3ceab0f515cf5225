-- Walks up a forest, and the links of its places.
use Rattle.jump_pointers.proofs.Common.{◌≡◌, ℕ, zero, suc, ◌+◌, ◌-◌, ◌<◌, ◌≤◌, Option, Some, None, refl, ap, ◌∙◌, arith, option_and_then, same_Some, ancestor, AreLinked}

-- ---- a walk from another walk

first_by : (par : ℕ → Option ℕ) (k a : ℕ) (p : Option ℕ) → option_and_then (ancestor par k) p ≡ Some a → (q : ℕ) × (p ≡ Some q) × (ancestor par k q ≡ Some a)
first_by par k a None h = cc
first_by par k a (Some q) h = (q, refl, h)

-- the first link, and then the others
pub first_link : (par : ℕ → Option ℕ) (k t a : ℕ) → ancestor par (suc k) t ≡ Some a → (q : ℕ) × (par t ≡ Some q) × (ancestor par k q ≡ Some a)
first_link par k t a h = first_by par k a (par t) h

pub link_first : (par : ℕ → Option ℕ) (k t q a : ℕ) → par t ≡ Some q → ancestor par k q ≡ Some a → ancestor par (suc k) t ≡ Some a
link_first par k t q a e h = ap (option_and_then (ancestor par k)) e ∙ h

-- j links, and then k more
pub ancestor_add : (par : ℕ → Option ℕ) (j k t u : ℕ) → ancestor par j t ≡ Some u → ancestor par (j + k) t ≡ ancestor par k u
ancestor_add par zero k t u h =
    let e : 0 + k ≡ k = omega arith in
    let same : t ≡ u = same_Some t u h in
    rw (e, same)
ancestor_add par (suc j) k t u h =
    let e : suc j + k ≡ suc (j + k) = omega arith in
    let f = first_link par j t u h in
    rw e (ap (option_and_then (ancestor par (j + k))) f.1 ∙ ancestor_add par j k f.0 u f.2)

-- one link leads to the parent
pub ancestor_parent : (par : ℕ → Option ℕ) (t p : ℕ) → par t ≡ Some p → ancestor par 1 t ≡ Some p
ancestor_parent par t p h = link_first par 0 t p p h refl

same_through : (p q : Option ℕ) (f g : ℕ → Option ℕ) → p ≡ q → ((u : ℕ) → q ≡ Some u → f u ≡ g u) → option_and_then f p ≡ option_and_then g q
same_through p None f g e go = rw e
same_through p (Some u) f g e go = rw e (go u refl)

-- walks from below n depend only on the parents below n
pub same_ancestor : (n : ℕ) (par par' : ℕ → Option ℕ) → ((t p : ℕ) → par t ≡ Some p → p < t) → ((t : ℕ) → t < n → par' t ≡ par t) → (k t : ℕ) → t < n → ancestor par' k t ≡ ancestor par k t
same_ancestor n par par' low same zero t lt = refl
same_ancestor n par par' low same (suc k) t lt =
    same_through (par' t) (par t) (ancestor par' k) (ancestor par k) (same t lt)
    (λ u e. let l : u < t = low t u e in same_ancestor n par par' low same k u (omega arith))

-- ---- depths and walks

module _ (n : ℕ) (par : ℕ → Option ℕ) (dep far : ℕ → ℕ) (links : AreLinked n par dep far) where
  -- each link reduces the depth by one
  pub walk_depth : (k t a : ℕ) → ancestor par k t ≡ Some a → (dep t ≡ dep a + k) × (a ≤ t)
  walk_depth zero t a h =
      let same : t ≡ a = same_Some t a h in
      let d : dep t ≡ dep a = ap dep same in
      (omega arith, omega arith)
  walk_depth (suc k) t a h =
      let f = first_link par k t a h in
      let d : dep t ≡ dep f.0 + 1 = links.deeper t f.0 f.1 in
      let l : f.0 < t = links.low t f.0 f.1 in
      let both : (dep f.0 ≡ dep a + k) × (a ≤ f.0) = walk_depth k f.0 a f.2 in
      (omega arith, omega arith)

  parent_by : (t : ℕ) (p : Option ℕ) → t < n → 0 < dep t → par t ≡ p → (q : ℕ) × (p ≡ Some q)
  parent_by t None made deep e = let flat : dep t ≡ 0 = links.top t made e in absurd (omega arith)
  parent_by t (Some q) made deep e = (q, refl)

  -- a place that isn't a root has a parent
  pub has_parent : (t : ℕ) → t < n → 0 < dep t → (q : ℕ) × (par t ≡ Some q)
  has_parent t made deep = parent_by t (par t) made deep refl

  upto_place : (t : ℕ) (p : Option ℕ) → t < n → par t ≡ p → ((q : ℕ) → q < t → dep q ≤ q) → dep t ≤ t
  upto_place t None made e again = let flat : dep t ≡ 0 = links.top t made e in omega arith
  upto_place t (Some q) made e again =
      let d : dep t ≡ dep q + 1 = links.deeper t q e in
      let l : q < t = links.low t q e in
      let r : dep q ≤ q = again q l in
      omega arith

  shallow_by : (fuel t : ℕ) → t < fuel → t < n → dep t ≤ t
  shallow_by zero t lt made = absurd (omega arith)
  shallow_by (suc fuel) t lt made = upto_place t (par t) made refl (λ q l. shallow_by fuel q (omega arith) (omega arith))

  -- a place's depth is at most its number
  pub shallow : (t : ℕ) → t < n → dep t ≤ t
  shallow t made = shallow_by (suc t) t (omega arith) made
