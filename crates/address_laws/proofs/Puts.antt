-- Objects of a heap by their addresses, after one was put elsewhere or marked.
use Rattle.address_laws.proofs.Common.{◌≡◌, ℕ, ◌<◌, true, List, [], ◌∷◌, length, refl, sym, ap, ◌∙◌, subst, inl, inr, ◌⊎◌, is_some, cases_lt, le-ltb, Addr, Cell, Mark, IsBorn, IsObject, with_mark, ChunkValue, cell_of, place_in, chunk_position, put_object, HasObjectAt, addr_cases, put_cases, In}
use Rattle.object_layout.proofs.ChunkLaws as laws

pub in_or_not : (xs : List Addr) (a : Addr) → In xs a ⊎ (In xs a → ⊥)
in_or_not [] a = inr (λ h. h)
in_or_not (x ∷ xs) a =
    elim (addr_cases x a) [
      | inl e ↦ inl (inl e)
      | inr n ↦ elim (in_or_not xs a) [
        | inl i ↦ inl (inr i)
        | inr m ↦ inr (λ h. elim h [ inl e ↦ n e | inr i ↦ m i ])
      ]
    ]

-- ---- one object marked

module _ (h : List ChunkValue) (x : Addr) (m : Mark) where
  pub mark_other : (a : Addr) → (x ≡ a → ⊥) → cell_of (put_object h x (with_mark (cell_of h x) m)) a ≡ cell_of h a
  mark_other a ne = laws.cell_of-put_other h x a (with_mark (cell_of h x) m) refl (λ e. ne (sym e))

  -- only marks change
  pub mark_alone : (a : Addr) (n : Mark) → with_mark (cell_of (put_object h x (with_mark (cell_of h x) m)) a) n ≡ with_mark (cell_of h a) n
  mark_alone a n =
      elim (addr_cases x a) [
        | inl e ↦ subst (λ (y : Addr). with_mark (cell_of (put_object h x (with_mark (cell_of h x) m)) y) n ≡ with_mark (cell_of h y) n) e (elim (put_cases h x (with_mark (cell_of h x) m)) [
          | inl p ↦ ap (λ (c : Cell). with_mark c n) p
          | inr p ↦ ap (λ (c : Cell). with_mark c n) p.0
        ])
        | inr ne ↦ ap (λ (c : Cell). with_mark c n) (mark_other a ne)
      ]

  pub mark_object : IsObject m → (a : Addr) → IsObject (cell_of h a).mark → IsObject (cell_of (put_object h x (with_mark (cell_of h x) m)) a).mark
  mark_object o a was =
      elim (addr_cases x a) [
        | inl e ↦ subst (λ (y : Addr). IsObject (cell_of (put_object h x (with_mark (cell_of h x) m)) y).mark) e (elim (put_cases h x (with_mark (cell_of h x) m)) [
          | inl p ↦ subst (λ (c : Cell). IsObject c.mark) (sym p) o
          | inr p ↦ subst (λ (c : Cell). IsObject c.mark) (sym p.0) (subst (λ (y : Addr). IsObject (cell_of h y).mark) (sym e) was)
        ])
        | inr ne ↦ subst (λ (c : Cell). IsObject c.mark) (sym (mark_other a ne)) was
      ]

  -- an object whose mark is replaced has no birth name
  pub mark_dead : (IsBorn m → ⊥) → HasObjectAt (put_object h x (with_mark (cell_of h x) m)) x → ⊥
  mark_dead d l =
      elim (put_cases h x (with_mark (cell_of h x) m)) [
        | inl p ↦ d (subst (λ (c : Cell). IsBorn c.mark) p l)
        | inr p ↦ let z = subst (λ (c : Cell). IsBorn c.mark) (p.0 ∙ p.1) l in z
      ]

-- an object with its birth name is in a chunk
pub live_chunk : (h : List ChunkValue) (a : Addr) → HasObjectAt h a → chunk_position h a.chunk < length h
live_chunk h a l = laws.chunk_of_object h a (laws.born_object h a l)

-- ---- whether an address is in a chunk of the heap

pub owned : (h : List ChunkValue) (n : ℕ) → is_some (place_in h n) ≡ true → chunk_position h n < length h
owned h n e =
    elim (cases_lt (chunk_position h n) (length h)) [
      | inl l ↦ l
      | inr l ↦ let w = rw (le-ltb (chunk_position h n) (length h) l) at e in absurd cc
    ]
