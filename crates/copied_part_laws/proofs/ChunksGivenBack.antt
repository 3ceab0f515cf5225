-- The chunks that a collection releases: all distinct, and none of them in the heap.
use Rattle.copied_part_laws.proofs.Common.{◌≡◌, ◌⊎◌, ℕ, ◌*◌, ◌/◌, not, arith, All, Bool, true, false, Option, Some, List, [], ◌∷◌, ◌++◌, map, filter, inl, inr, refl, ap, sym, subst, ◌∙◌, reverse, false≢true, reverse-append, in_append_cases, in_append_left, in_append_right, in_from_kept, all_from, map_in, MachineState, Heap, Addr, ChunkValue, number_of, Slot, PoolValue, slot_at, owner_of, slot_units, HaveDistinctNumbers, LeafHeapValue, IsFresh, unit_count, Survivor, olds, AreNew, Laying, nothing_laid, smalls, led_chunk, emptied, reserved_of, unreserved, AreSurvivors, back_of, keeps, large_of, laid_of, laying_of, leaves, CanTake, Distinct, numbers, within_at, in_unreserved, units_in_slots, In, AreMeasured, same_chunk}
use Rattle.std.specs.Prelude.{option_map}
use Rattle.address_laws.proofs.Extent as extent
use Rattle.address_laws.proofs.Numbers as nums
use Rattle.leaf_collections.proofs.below.copying_gc.NewNumbers as new_numbers
use Rattle.collected_heap_laws.proofs.Reading as reading
use Rattle.copied_part_laws.proofs.ChunkWords as units_of
use Rattle.copied_part_laws.proofs.CopiedForm.{told_in}
use Rattle.copied_part_laws.proofs.BeforeTheCopy.{Old}
use Rattle.copied_part_laws.proofs.ObjectsMoved as moving
use Rattle.copied_part_laws.proofs.CopiedNames as naming

numbers_emptied : (ks : List ChunkValue) → numbers (map emptied ks) ≡ numbers ks
numbers_emptied ks = nums.numbers_of_map emptied (λ k. refl) ks

pub size_of_new : (ks : List ChunkValue) (k : ChunkValue) → AreNew ks → In ks k → k.size ≡ 1024
size_of_new [] k n i = absurd i
size_of_new (x ∷ ks) k n (inl e) = ap (λ (z : ChunkValue). z.size) (sym e) ∙ n.0.1
size_of_new (x ∷ ks) k n (inr i) = size_of_new ks k n.1 i

module _ (h : LeafHeapValue) (from : List (Option Addr)) (ss : List Survivor) (news : List ChunkValue) (S : AreSurvivors h.chunks from ss) (T : CanTake h.chunks news) (m : MachineState) (a : Heap) (O : Old h ss m a) where
  abbrev y : Laying
  y = laying_of h.chunks ss (reverse news)

  abbrev U : List ChunkValue
  U = unreserved h.chunks h.reserved

  abbrev L : List ChunkValue
  L = laid_of h ss (reverse news)

  abbrev K : List ChunkValue
  K = large_of h ss (reverse news)

  abbrev R : List ChunkValue
  R = reserved_of h.chunks h.reserved

  abbrev Back : List ChunkValue
  Back = back_of h ss (reverse news)

  both : Distinct (numbers h.chunks ++ numbers news)
  both = reading.all_once h from ss news S T (naming.settled h from ss news S T m a O) (naming.reserved h from ss news S T m a O)

  once_h : Distinct (numbers h.chunks)
  once_h = reading.once_h h from ss news S T (naming.settled h from ss news S T m a O) (naming.reserved h from ss news S T m a O)

  parts : numbers y.laid ++ numbers y.spare ≡ numbers (reverse news)
  parts = reading.laid_parts h from ss news S T (naming.settled h from ss news S T m a O) (naming.reserved h from ss news S T m a O)

  once_parts : Distinct (numbers y.laid ++ numbers y.spare)
  once_parts = subst Distinct (sym parts) (nums.distinct_reverse news (nums.distinct_right (numbers h.chunks) (numbers news) both))

  back_numbers : numbers Back ≡ numbers (filter (leaves ss) U) ++ numbers (reverse y.spare)
  back_numbers = nums.numbers_append (map emptied (filter (leaves ss) U)) (reverse y.spare) ∙ ap (λ ns. ns ++ numbers (reverse y.spare)) (numbers_emptied (filter (leaves ss) U))

  -- a number that is released is an old one, and a spare one is new
  old_number : (n : ℕ) → In (numbers (filter (leaves ss) U)) n → In (numbers h.chunks) n
  old_number n i = new_numbers.in_unreserved h.chunks once_h h.reserved n (nums.in_filtered (leaves ss) U n i)

  spare_in : (n : ℕ) → In (numbers (reverse y.spare)) n → In (numbers y.spare) n
  spare_in n i = nums.in_reverse y.spare n i

  new_number : (n : ℕ) → In (numbers y.spare) n → In (numbers news) n
  new_number n i = nums.in_reverse news n (subst (λ ns. In ns n) parts (in_append_right (numbers y.laid) (numbers y.spare) n i))

  pub back_apart : HaveDistinctNumbers Back
  back_apart = nums.distinct_apart Back
      (subst Distinct (sym back_numbers)
      (nums.distinct_append (numbers (filter (leaves ss) U)) (numbers (reverse y.spare))
      (nums.distinct_filtered (leaves ss) U (new_numbers.distinct_unreserved h.chunks once_h h.reserved))
      (nums.distinct_reverse y.spare (nums.distinct_right (numbers y.laid) (numbers y.spare) once_parts))
      (λ n i j. nums.distinct_apart_parts (numbers h.chunks) (numbers news) both n (old_number n i) (new_number n (spare_in n j)))))

  -- no chunk both stays and is released
  stay_or_leave : (n : ℕ) → In (numbers (filter (leaves ss) U)) n → In (numbers K) n → ⊥
  stay_or_leave n i j =
      let c = map_in number_of (filter (leaves ss) U) n i in
      let l = in_from_kept (leaves ss) U c.0 c.1 in
      let d = map_in number_of K n j in
      let x = map_in (led_chunk (moving.g h from ss news S T (naming.settled h from ss news S T m a O) (naming.reserved h from ss news S T m a O))) (filter (keeps ss) U) d.0 d.1 in
      let k = in_from_kept (keeps ss) U x.0 x.1 in
      let same : c.0 ≡ x.0 = same_chunk h.chunks c.0 x.0 (naming.settled h from ss news S T m a O).apart (in_unreserved h.chunks h.reserved c.0 l.0) (in_unreserved h.chunks h.reserved x.0 k.0)
      (c.2 ∙ sym (ap (λ (z : ChunkValue). z.number) x.2 ∙ d.2)) in
      both_not (keeps ss x.0) k.1 (ap (leaves ss) (sym same) ∙ l.1)
    where
      both_not : (b : Bool) → b ≡ true → not b ≡ true → ⊥
      both_not true e q = false≢true q
      both_not false e q = false≢true e

  kept_old : (n : ℕ) → In (numbers K) n → In (numbers h.chunks) n
  kept_old n j =
      let d = map_in number_of K n j in
      let x = map_in (led_chunk (moving.g h from ss news S T (naming.settled h from ss news S T m a O) (naming.reserved h from ss news S T m a O))) (filter (keeps ss) U) d.0 d.1 in
      let k = in_from_kept (keeps ss) U x.0 x.1 in
      subst (In (numbers h.chunks)) (ap (λ (z : ChunkValue). z.number) x.2 ∙ d.2) (extent.number_there h.chunks x.0 (in_unreserved h.chunks h.reserved x.0 k.0))

  within : new_numbers.Within h.chunks h.reserved
  within = within_at h.chunks h.reserved (naming.reserved h from ss news S T m a O)

  laid_same : numbers L ≡ numbers y.laid
  laid_same = reading.laid_numbers h from ss news S T (naming.settled h from ss news S T m a O) (naming.reserved h from ss news S T m a O)

  -- no number of the heap's is released
  not_there : (n : ℕ) → In (numbers Back) n → In (numbers (L ++ (K ++ R))) n → ⊥
  not_there n i j = elim (in_append_cases (numbers (filter (leaves ss) U)) (numbers (reverse y.spare)) n (subst (λ ns. In ns n) back_numbers i)) [
    | inl l ↦ elim not_there_there [
      | inl q ↦ reading.laid_apart h from ss news S T (naming.settled h from ss news S T m a O) (naming.reserved h from ss news S T m a O) n q (old_number n l)
      | inr (inl q) ↦ stay_or_leave n l q
      | inr (inr q) ↦ new_numbers.reserved_apart h.chunks once_h h.reserved within n (nums.in_filtered (leaves ss) U n l) q
    ]
    | inr s ↦ elim not_there_there [
      | inl q ↦ nums.distinct_apart_parts (numbers y.laid) (numbers y.spare) once_parts n (subst (λ ns. In ns n) laid_same q) (spare_in n s)
      | inr (inl q) ↦ nums.distinct_apart_parts (numbers h.chunks) (numbers news) both n (kept_old n q) (new_number n (spare_in n s))
      | inr (inr q) ↦ nums.distinct_apart_parts (numbers h.chunks) (numbers news) both n (new_numbers.in_reserved h.chunks once_h h.reserved within n q) (new_number n (spare_in n s))
    ]
  ]
    where
      not_there_there : In (numbers L) n ⊎ (In (numbers K) n ⊎ In (numbers R) n)
      not_there_there = elim (in_append_cases (numbers L) (numbers (K ++ R)) n (subst (λ ns. In ns n) (nums.numbers_append L (K ++ R)) j)) [
        | inl q ↦ inl q
        | inr q ↦ inr (in_append_cases (numbers K) (numbers R) n (subst (λ ns. In ns n) (nums.numbers_append K R) q))
      ]

  pub back_gone : All (λ k. IsFresh (L ++ (K ++ R)) k.number) Back
  back_gone = all_from (λ (k : ChunkValue). IsFresh (L ++ (K ++ R)) k.number) Back (λ k i. nums.fresh_from (L ++ (K ++ R)) k.number (λ j. not_there k.number (extent.number_there Back k i) j))

  -- ---- WHAT THEY WERE

  reversed : (ks : List ChunkValue) (k : ChunkValue) → In (reverse ks) k → In ks k
  reversed ks k i = in_reversed ks k i
    where
      in_reversed : (ks : List ChunkValue) (k : ChunkValue) → In (reverse ks) k → In ks k
      in_reversed [] k i = i
      in_reversed (x ∷ ks) k i = elim (in_append_cases (reverse ks) (x ∷ []) k (subst (λ zs. In zs k) (reverse-append (x ∷ []) ks) i)) [
        | inl j ↦ inr (in_reversed ks k j)
        | inr (inl e) ↦ inl e
        | inr (inr z) ↦ absurd z
      ]

  -- a released chunk has the number and the size of an old one or of a new one
  pub record Was (k : ChunkValue) : Type 0 where
    pub chunk : ChunkValue
    pub there : In (h.chunks ++ news) chunk
    pub number : chunk.number ≡ k.number
    pub size : chunk.size ≡ k.size

  pub was : (k : ChunkValue) → In Back k → Was k
  was k i = elim (in_append_cases (map emptied (filter (leaves ss) U)) (reverse y.spare) k i) [
    | inl j ↦
        let x = map_in emptied (filter (leaves ss) U) k j in
        let p = in_from_kept (leaves ss) U x.0 x.1 in
        record { chunk = x.0; there = in_append_left h.chunks news x.0 (in_unreserved h.chunks h.reserved x.0 p.0); number = ap (λ (z : ChunkValue). z.number) x.2; size = ap (λ (z : ChunkValue). z.size) x.2 }
    | inr j ↦
        let n = new_number k.number (extent.number_there y.spare k (reversed y.spare k j)) in
        let c = map_in number_of news k.number n in
        record { chunk = c.0; there = in_append_right h.chunks news c.0 c.1; number = c.2; size = size_of_new news c.0 T.new c.1 ∙ sym (size_of_new y.spare k spare_new (reversed y.spare k j)) }
  ]
    where
      spare_new : AreNew y.spare
      spare_new = units_of.spare_new (nothing_laid (reverse news)) h.chunks (smalls h.chunks (olds ss)) (new_numbers.new_reverse news T.new)

  -- and so has a chunk of the heap
  pub heap_was : (k : ChunkValue) → In (L ++ (K ++ R)) k → Was k
  heap_was k i = elim (in_append_cases L (K ++ R) k i) [
    | inl j ↦
        let n = moving.laid_new h from ss news S T (naming.settled h from ss news S T m a O) (naming.reserved h from ss news S T m a O) k.number (extent.number_there L k j) in
        let c = map_in number_of news k.number n in
        record { chunk = c.0; there = in_append_right h.chunks news c.0 c.1; number = c.2; size = size_of_new news c.0 T.new c.1 ∙ sym (told_in m L k (naming.told h from ss news S T m a O) j) }
    | inr j ↦ elim (in_append_cases K R k j) [
      | inl q ↦
          let x = map_in (led_chunk (moving.g h from ss news S T (naming.settled h from ss news S T m a O) (naming.reserved h from ss news S T m a O))) (filter (keeps ss) U) k q in
          let p = in_from_kept (keeps ss) U x.0 x.1 in
          record { chunk = x.0; there = in_append_left h.chunks news x.0 (in_unreserved h.chunks h.reserved x.0 p.0); number = ap (λ (z : ChunkValue). z.number) x.2; size = ap (λ (z : ChunkValue). z.size) x.2 }
      | inr q ↦ record { chunk = k; there = in_append_left h.chunks news k (moving.of_reserved h.chunks h.reserved (naming.reserved h from ss news S T m a O) k q).0; number = refl; size = refl }
    ]
  ]

  -- ---- IN THE POOL
  module _ (pool : PoolValue) (t : ℕ) (M : AreMeasured pool t (h.chunks ++ news)) where
    held_back : (k : ChunkValue) → In Back k → slot_at pool k.number ≡ Some (record { owner = t; units = k.size / 1024 })
    held_back k i =
        let W = was k i in
        ap (slot_at pool) (sym W.number) ∙ (M W.chunk W.there ∙ ap (λ n. let r : Slot = record { owner = t; units = n / 1024 } in Some r) W.size)

    pub back_owned : All (λ k. owner_of pool k.number ≡ Some t) Back
    back_owned = all_from (λ (k : ChunkValue). owner_of pool k.number ≡ Some t) Back (λ k i. ap (option_map (λ (x : Slot). x.owner)) (held_back k i))

    whole_back : (k : ChunkValue) → In Back k → k.size ≡ 1024 * (k.size / 1024)
    whole_back k i =
        let W = was k i in
        subst (λ n. n ≡ 1024 * (n / 1024)) W.size (elim (in_append_cases h.chunks news W.chunk W.there) [
          | inl j ↦ O.form.whole W.chunk j
          | inr j ↦ let s = size_of_new news W.chunk T.new j in omega (arith, s)
        ])

    units_all : (ks : List ChunkValue) → ((k : ChunkValue) → In ks k → slot_at pool k.number ≡ Some (record { owner = t; units = k.size / 1024 })) → ((k : ChunkValue) → In ks k → k.size ≡ 1024 * (k.size / 1024)) → units_in_slots pool ks ≡ unit_count ks
    units_all [] f g = refl
    units_all (k ∷ ks) f g =
        let u : slot_units (slot_at pool k.number) ≡ k.size / 1024 = ap slot_units (f k (inl refl)) in
        let w = g k (inl refl) in
        let r = units_all ks (λ x i. f x (inr i)) (λ x i. g x (inr i)) in
        omega (arith, u, w, r)

    pub back_units : units_in_slots pool Back ≡ unit_count Back
    back_units = units_all Back held_back whole_back

    pub heap_measured : AreMeasured pool t (L ++ (K ++ R))
    heap_measured k i =
        let W = heap_was k i in
        ap (slot_at pool) (sym W.number) ∙ (M W.chunk W.there ∙ ap (λ n. let r : Slot = record { owner = t; units = n / 1024 } in Some r) W.size)
