-- The tasks that haven't joined, and the chunks in use, one after another.
use Rattle.heap_reading.proofs.Common.{◌≡◌, ℕ, ◌+◌, ◌<◌, ◌*◌, arith, List, [], ◌∷◌, ◌++◌, slice_get, inl, inr, ap, sym, subst, ◌∙◌, same_Some, below_next, owner_of, Slot, slot_at, TaskNode, SharedValue, accounts, InUse, LiveTask, AreAll, IsInUse, IsLiveIn}
use Rattle.heap_reading.proofs.InOrder.{all_more, all_none, all_same}

module _ {A : Type 0} (number : A → ℕ) (Is : A → Type 0) (once : (x y : A) → Is x → Is y → number x ≡ number y → x ≡ y) where
  abbrev Below : ℕ → A → Type 0
  Below k x = Is x × (number x < k)

  abbrev Before : A → A → Type 0
  Before x y = number x < number y

  pub none_below : AreAll Before (Below 0) []
  none_below = all_none Before (Below 0) (λ x h. (let lt : number x < 0 = h.1 in absurd (omega arith)))

  pub one_below : (k : ℕ) (xs : List A) (y : A) → AreAll Before (Below k) xs → Is y → number y ≡ k → AreAll Before (Below (k + 1)) (xs ++ y ∷ [])
  one_below k xs y all is at =
      all_more Before (Below k) (Below (k + 1)) xs y all
      (λ x h. subst (λ z. number x < z) (sym at) h.1)
      (is, (let lt : number y < k + 1 = omega (arith, at) in lt))
      (λ x h. (h.0, (let lt = h.1 in let le : number x < k + 1 = omega (arith, lt) in le)))
      (λ x h. elim (below_next (number x) k h.1) [ inl lt ↦ inl (h.0, lt) | inr e ↦ inr (once y x is h.0 (at ∙ sym e)) ])

  pub skip_below : (k : ℕ) (xs : List A) → AreAll Before (Below k) xs → ((x : A) → number x ≡ k → Is x → ⊥) → AreAll Before (Below (k + 1)) xs
  skip_below k xs all none =
      all_same Before (Below k) (Below (k + 1)) xs all
      (λ x h. (h.0, (let lt = h.1 in let le : number x < k + 1 = omega (arith, lt) in le)))
      (λ x h. elim (below_next (number x) k h.1) [ inl lt ↦ (h.0, lt) | inr e ↦ absurd (none x e h.0) ])

  pub all_below : (k : ℕ) (xs : List A) → AreAll Before (Below k) xs → ((x : A) → Is x → number x < k) → AreAll Before Is xs
  all_below k xs all few = all_same Before (Below k) Is xs all (λ x h. h.0) (λ x h. (h, few x h))

pub live_once : (tree : List TaskNode) (x y : LiveTask) → IsLiveIn tree x → IsLiveIn tree y → x.number ≡ y.number → x ≡ y
live_once tree x y a b e =
    let same : record { parent = x.parent; state = x.state } ≡ record { parent = y.parent; state = y.state } = same_Some (record { parent = x.parent; state = x.state }) (record { parent = y.parent; state = y.state }) (sym a.is ∙ (ap (slice_get tree) e ∙ b.is)) in
    let p : x.parent ≡ y.parent = ap (λ (n : TaskNode). n.parent) same in
    let s : x.state ≡ y.state = ap (λ (n : TaskNode). n.state) same in
    λ i. record { number = e i; parent = p i; state = s i }

pub chunk_once : (w : SharedValue) (c d : InUse) → IsInUse w c → IsInUse w d → c.number ≡ d.number → c ≡ d
chunk_once w c d a b e =
    let same : a.slot ≡ b.slot = same_Some a.slot b.slot (sym a.is ∙ (ap (slot_at w.pool) e ∙ b.is)) in
    let o : c.owner ≡ d.owner = a.owner ∙ (ap (λ (h : Slot). owner_of (accounts w).machine.tasks h.owner) same ∙ sym b.owner) in
    let n : c.words ≡ d.words = a.words ∙ (ap (λ (h : Slot). 1024 * h.units) same ∙ sym b.words) in
    λ i. record { number = e i; owner = o i; words = n i }
