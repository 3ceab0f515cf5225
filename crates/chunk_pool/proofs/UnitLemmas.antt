-- Units in use after a change at one number.
use Rattle.chunk_pool.proofs.Common.{◌≡◌, ◌≢◌, IfSome, subst, ℕ, zero, suc, ◌+◌, ◌-◌, ◌^◌, ◌<◌, ◌≤◌, Option, Some, None, List, [], ◌∷◌, get_or, set, length, inl, inr, refl, sym, ap, ◌∙◌, arith, cases_eq, same_Some, get_or-set_same, get_or-set_other, Slot, PoolValue, slot_units, units_in, Reserves, Releases, Relabels, KeepsOthers, UnitsAreCounted, AreChunks}

abbrev first : List (Option Slot) → Option Slot
first [] = None
first (x ∷ xs) = x

abbrev rest : List (Option Slot) → List (Option Slot)
rest [] = []
rest (x ∷ xs) = xs

at_first : (xs : List (Option Slot)) → get_or xs 0 None ≡ first xs
at_first [] = refl
at_first (x ∷ xs) = refl

at_rest : (xs : List (Option Slot)) (k : ℕ) → get_or xs (suc k) None ≡ get_or (rest xs) k None
at_rest [] k = refl
at_rest (x ∷ xs) k = refl

units_split : (xs : List (Option Slot)) → units_in xs ≡ slot_units (first xs) + units_in (rest xs)
units_split [] = refl
units_split (x ∷ xs) = refl

none_held : (xs : List (Option Slot)) → ((k : ℕ) → get_or xs k None ≡ None) → units_in xs ≡ 0
none_held [] same = refl
none_held (x ∷ xs) same =
    let h : slot_units x ≡ 0 = ap slot_units (same 0) in
    let t : units_in xs ≡ 0 = none_held xs (λ k. same (suc k)) in
    omega arith

-- the same at each number
pub units_same : (xs ys : List (Option Slot)) → ((k : ℕ) → get_or ys k None ≡ get_or xs k None) → units_in ys ≡ units_in xs
units_same [] ys same = none_held ys same
units_same (x ∷ xs) ys same =
    let h : slot_units (first ys) ≡ slot_units x = ap slot_units (sym (at_first ys) ∙ same 0) in
    let t : units_in (rest ys) ≡ units_in xs = units_same xs (rest ys) (λ k. sym (at_rest ys k) ∙ same (suc k)) in
    let s : units_in ys ≡ slot_units (first ys) + units_in (rest ys) = units_split ys in
    omega arith

suc_apart : (k j : ℕ) → k ≢ j → suc k ≢ suc j
suc_apart k j ne e = let h : k ≡ j = omega arith in ne h

-- another chunk at one number
pub units_changed : (n : ℕ) (xs ys : List (Option Slot)) → ((k : ℕ) → k ≢ n → get_or ys k None ≡ get_or xs k None) → units_in ys + slot_units (get_or xs n None) ≡ units_in xs + slot_units (get_or ys n None)
units_changed zero xs ys same =
    let t : units_in (rest ys) ≡ units_in (rest xs) = units_same (rest xs) (rest ys)
    (λ k. let ne : suc k ≢ 0 = omega arith in sym (at_rest ys k) ∙ (same (suc k) ne ∙ at_rest xs k)) in
    let a = units_split xs in
    let b = units_split ys in
    let hx : slot_units (get_or xs 0 None) ≡ slot_units (first xs) = ap slot_units (at_first xs) in
    let hy : slot_units (get_or ys 0 None) ≡ slot_units (first ys) = ap slot_units (at_first ys) in
    omega (arith, a, b)
units_changed (suc n) xs ys same =
    let z : 0 ≢ suc n = omega arith in
    let h : slot_units (first ys) ≡ slot_units (first xs) = ap slot_units (sym (at_first ys) ∙ (same 0 z ∙ at_first xs)) in
    let t : units_in (rest ys) + slot_units (get_or (rest xs) n None) ≡ units_in (rest xs) + slot_units (get_or (rest ys) n None) =
    units_changed n (rest xs) (rest ys) (λ k ne. sym (at_rest ys k) ∙ (same (suc k) (suc_apart k n ne) ∙ at_rest xs k)) in
    let a = units_split xs in
    let b = units_split ys in
    let hx : slot_units (get_or xs (suc n) None) ≡ slot_units (get_or (rest xs) n None) = ap slot_units (at_rest xs n) in
    let hy : slot_units (get_or ys (suc n) None) ≡ slot_units (get_or (rest ys) n None) = ap slot_units (at_rest ys n) in
    omega (arith, a, b)

-- numbers of 32 bits and units, after a change at one number
pub chunks_set : (xs ys : List (Option Slot)) (n : ℕ) (h : Slot) → AreChunks xs → ((k : ℕ) → k ≢ n → get_or ys k None ≡ get_or xs k None) → get_or ys n None ≡ Some h → (n < 2 ^ 32) × (0 < h.units) → AreChunks ys
chunks_set xs ys n h C others now fit k g e = elim (cases_eq k n) [
  | inl same ↦
      let here : h ≡ g = same_Some h g (sym now ∙ (ap (λ z. get_or ys z None) (sym same) ∙ e)) in
      (subst (λ z. z < 2 ^ 32) (sym same) fit.0, subst (λ (z : Slot). 0 < z.units) here fit.1)
  | inr off ↦ C k g (sym (others k off) ∙ e)
]

pub chunks_unset : (xs ys : List (Option Slot)) (n : ℕ) → AreChunks xs → ((k : ℕ) → k ≢ n → get_or ys k None ≡ get_or xs k None) → get_or ys n None ≡ None → AreChunks ys
chunks_unset xs ys n C others now k g e = elim (cases_eq k n) [
  | inl same ↦ absurd (let both : get_or ys n None ≡ Some g = ap (λ z. get_or ys z None) (sym same) ∙ e in cc)
  | inr off ↦ C k g (sym (others k off) ∙ e)
]

abbrev pool_of : ℕ → List (Option Slot) → PoolValue
pool_of limit xs = record { limit = limit; slots = xs }

module _ (limit used : ℕ) (xs ys : List (Option Slot)) (within : UnitsAreCounted limit used xs) (n : ℕ) (others : (k : ℕ) → k ≢ n → get_or ys k None ≡ get_or xs k None) where
  change : units_in ys + slot_units (get_or xs n None) ≡ units_in xs + slot_units (get_or ys n None)
  change = units_changed n xs ys others

  kept : KeepsOthers (pool_of limit xs) (pool_of limit ys) n
  kept = record { limit = refl; others = others }

  module _ (h : Slot) (free : get_or xs n None ≡ None) (now : get_or ys n None ≡ Some h) where
    taken_units : units_in ys ≡ units_in xs + h.units
    taken_units =
        let a : slot_units (get_or xs n None) ≡ 0 = ap slot_units free in
        let b : slot_units (get_or ys n None) ≡ h.units = ap slot_units now in
        omega (arith, change)

    pub takes : Reserves (pool_of limit xs) (pool_of limit ys) n h
    takes = record { was_free = free; taken = now; units = taken_units; rest = kept }

    pub takes_within : used + h.units ≤ limit → (n < 2 ^ 32) × (0 < h.units) → UnitsAreCounted limit (used + h.units) ys
    takes_within le fit =
        let u = taken_units in
        let c : used ≡ units_in xs = within.counted in
        record { small = within.small; counted = omega (arith, u); within = le; chunks = chunks_set xs ys n h within.chunks others now fit }

  module _ (h : Slot) (was : get_or xs n None ≡ Some h) (now : get_or ys n None ≡ None) where
    given_units : units_in ys + h.units ≡ units_in xs
    given_units =
        let a : slot_units (get_or xs n None) ≡ h.units = ap slot_units was in
        let b : slot_units (get_or ys n None) ≡ 0 = ap slot_units now in
        omega (arith, change)

    pub given_fits : h.units ≤ used
    given_fits =
        let u = given_units in
        let c : used ≡ units_in xs = within.counted in
        omega (arith, u)

    pub gives : Releases (pool_of limit xs) (pool_of limit ys) n
    gives =
        let b : slot_units (get_or ys n None) ≡ 0 = ap slot_units now in
        record { free = now; units = omega (arith, change); rest = kept }

    pub gives_within : UnitsAreCounted limit (used - h.units) ys
    gives_within =
        let u = given_units in
        let c : used ≡ units_in xs = within.counted in
        let le : used ≤ limit = within.within in
        record { small = within.small; counted = omega (arith, u); within = omega arith; chunks = chunks_unset xs ys n within.chunks others now }

  module _ (h g : Slot) (was : get_or xs n None ≡ Some h) (now : get_or ys n None ≡ Some g) (same : g.units ≡ h.units) where
    same_units : units_in ys ≡ units_in xs
    same_units =
        let a : slot_units (get_or xs n None) ≡ h.units = ap slot_units was in
        let b : slot_units (get_or ys n None) ≡ g.units = ap slot_units now in
        omega (arith, change)

    pub relabels_within : UnitsAreCounted limit used ys
    relabels_within =
        let u = same_units in
        let c : used ≡ units_in xs = within.counted in
        let old = within.chunks n h was in
        let some : 0 < g.units = subst (λ z. 0 < z) (sym same) old.1 in
        record { small = within.small; counted = omega (arith, u); within = within.within; chunks = chunks_set xs ys n g within.chunks others now (old.0, some) }

  pub relabels : (h : Slot) (owner : ℕ) → get_or xs n None ≡ Some h → get_or ys n None ≡ Some (record h { owner = owner }) → Relabels (pool_of limit xs) (pool_of limit ys) n owner
  relabels h owner was now = record {
    relabelled = let P : Option Slot → Type 0 = λ o. IfSome o (λ x. get_or ys n None ≡ Some (record x { owner = owner })) in subst P (sym was) now;
    units = same_units h (record h { owner = owner }) was now refl;
    rest = kept;
  }

pub used_within : (xs : List (Option Slot)) (n : ℕ) (h : Slot) → get_or xs n None ≡ Some h → n < length xs
used_within [] n h e = absurd cc
used_within (x ∷ xs) zero h e = omega arith
used_within (x ∷ xs) (suc n) h e =
    let r : n < length xs = used_within xs n h e in
    omega arith

pub set_there : (xs : List (Option Slot)) (n : ℕ) (h : Slot) (v : Option Slot) → get_or xs n None ≡ Some h → get_or (set xs n v) n None ≡ v
set_there xs n h v e = get_or-set_same xs n v None (used_within xs n h e)

pub set_elsewhere : (xs : List (Option Slot)) (n : ℕ) (v : Option Slot) (k : ℕ) → k ≢ n → get_or (set xs n v) k None ≡ get_or xs k None
set_elsewhere xs n v k ne = get_or-set_other xs n k v None ne
