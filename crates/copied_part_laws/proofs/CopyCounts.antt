-- The numbers of a collection are those of its account.
use Rattle.copied_part_laws.proofs.Common.{◌≡◌, ℕ, zero, suc, ◌+◌, ◌-◌, ◌*◌, ◌/◌, ◌<◌, ◌≤◌, ◌==◌, not, arith, Bool, true, false, cond, Option, Some, None, List, [], ◌∷◌, ◌++◌, length, length-append, map, filter, inl, inr, refl, ap, sym, subst, ◌∙◌, eq-eqb, remove, reverse, unwrap_or, flat_map, cases_Bool, cond-false, eqb-true, false≢true, length-map, length-reverse, sum_by-append, sum_by-cons, in_map, map_in, read_in, Name, MachineState, Heap, begun_in, chunk_words, small_in, units, units_in, units_sum, words_at, words_sum, holds_name, Full, heap_words, kept_weight, Addr, Cell, moved_to, ChunkValue, words_in, chunk_at, held_words, Located, objects_from, AreTidy, LeafHeapValue, IsReserved, IsTidy, counted32, unit_count, Survivor, olds, Laying, nothing_laid, smalls, emptied, reserved_of, unreserved, AreSurvivors, back_of, keeps, large_of, laid_of, laying_of, leaves, CanTake, new_reverse, within_at, all_tidy, in_unreserved, numbers, removed_at, In, object_name, objects_of_chunks, words, in_objects, large_names, names_in, small_lists, chunk_of, chunks_of, large_are, names_are, small_names, place_there, unit_sum}
use Rattle.leaf_collections.specs.below.run_ledger.{collected as account_collected, words_in as words_held}
use Rattle.leaf_collections.proofs.below.copying_gc.NewNumbers as new_numbers
use Rattle.address_laws.proofs.Extent as extent
use Rattle.collected_heap_laws.proofs.Reading as reading
use Rattle.copied_part_laws.proofs.CopiedForm as forming
use Rattle.copied_part_laws.proofs.BeforeTheCopy.{Old}
use Rattle.copied_part_laws.proofs.NamesLaid.{Told}
use Rattle.copied_part_laws.proofs.LargeNames.{large_unreserved}
use Rattle.copied_part_laws.proofs.ObjectsMoved as moving
use Rattle.copied_part_laws.proofs.ChunkWords.{chunks_held, count_numbers, spare_new, units_emptied, units_new}
use Rattle.copied_part_laws.proofs.CopiedNames as naming

module _ (h : LeafHeapValue) (from : List (Option Addr)) (ss : List Survivor) (news : List ChunkValue) (S : AreSurvivors h.chunks from ss) (T : CanTake h.chunks news) (m : MachineState) (a : Heap) (O : Old h ss m a) where
  abbrev L : List ChunkValue
  L = laid_of h ss (reverse news)

  abbrev K : List ChunkValue
  K = large_of h ss (reverse news)

  abbrev R : List ChunkValue
  R = reserved_of h.chunks h.reserved

  abbrev y : Laying
  y = laying_of h.chunks ss (reverse news)

  abbrev U : List ChunkValue
  U = unreserved h.chunks h.reserved

  abbrev pub Then : Heap
  Then = account_collected m a

  -- ---- HOW MANY CHUNKS

  pub taken_is : length L ≡ length Then.chunks
  taken_is = sym (length-map L (λ (k : ChunkValue). names_in k.cells)) ∙ ap (λ (ls : List (List Name)). length ls) (naming.lists_now h from ss news S T m a O)

  laid_count : length L + length y.spare ≡ length news
  laid_count =
      let e : length (numbers y.laid ++ numbers y.spare) ≡ length (numbers (reverse news)) = ap (λ (ns : List ℕ). length ns) (new_numbers.laid_numbers (nothing_laid (reverse news)) h.chunks (smalls h.chunks (olds ss))) in
      let p = length-append (numbers y.laid) (numbers y.spare) in
      let l = count_numbers y.laid in
      let s = count_numbers y.spare in
      let n = count_numbers (reverse news) in
      let r = length-reverse news in
      let d = count_numbers L in
      let q = ap (λ (ns : List ℕ). length ns) (reading.laid_numbers h from ss news S T (naming.settled h from ss news S T m a O) (naming.reserved h from ss news S T m a O)) in
      omega (arith, e, p, l, s, n, r, d, q)

  -- ---- THE WORDS LEFT

  tidy_now : AreTidy (L ++ (K ++ R))
  tidy_now = all_tidy (forming.g h from ss news S T m a O) h.chunks ss news h.reserved O.form.tidy T.new (within_at h.chunks h.reserved O.form.shaped.reserved) L refl

  words_now : (o : Located) → In (objects_of_chunks (chunks_of (L ++ (K ++ R)))) o → words_at m (object_name o) ≡ words o
  words_now o i =
      let c = moving.came h from ss news S T (naming.settled h from ss news S T m a O) (naming.reserved h from ss news S T m a O) o i in
      let w = O.words c.object c.there in
      let n : object_name o ≡ object_name c.object = ap object_name c.is in
      let r : length o.refs ≡ length c.object.refs = ap (λ (z : Located). length z.refs) c.is ∙ length-map c.object.refs _ in
      let s : length o.ints ≡ length c.object.ints = ap (λ (z : Located). length z.ints) c.is in
      ap (words_at m) n ∙ (w ∙ (let e : words c.object ≡ words o = omega (arith, r, s) in e))

  pub left_is : held_words (L ++ (K ++ R)) ≡ words_held m Then
  left_is =
      let e = chunks_held m (L ++ (K ++ R)) (λ k i c j. read_in (λ (c : Cell). moved_to c.mark ≡ None) k.cells c j (read_in IsTidy (L ++ (K ++ R)) k i tidy_now).unmoved) words_now in
      let s = ap (λ ls. words_sum m (flat_map (λ ns. ns) ls)) (naming.small_now h from ss news S T m a O) in
      let l = ap (words_sum m) (naming.large_now h from ss news S T m a O) in
      let b = sum_by-append (words_at m) (small_in Then) Then.large in
      omega (arith, e, s, l, b)

  -- ---- THE UNITS GIVEN

  abbrev Units : List Name → ℕ
  Units ns = units_sum m ns

  -- each large chunk except the reserved one has its object
  pub has_one : (k : ChunkValue) → In U k → (k.size == 1024) ≡ false → naming.One h from ss news S T m a O k
  has_one k i big = elim (naming.one_of h from ss news S T m a O k (in_unreserved h.chunks h.reserved k i) big) [
    | inr o ↦ o
    | inl none ↦ absurd (empty_not k i big none)
  ]
    where
      no_objects : (k : ChunkValue) → names_in k.cells ≡ [] → objects_from k.number 0 k.cells ≡ []
      no_objects k e = no_objects_by_cases (objects_from k.number 0 k.cells) (names_are k.cells k.number 0 ∙ e)
        where
          no_objects_by_cases : (os : List Located) → map object_name os ≡ [] → os ≡ []
          no_objects_by_cases [] q = refl
          no_objects_by_cases (o ∷ os) q = absurd cc

      empty_not : (k : ChunkValue) → In (unreserved h.chunks h.reserved) k → (k.size == 1024) ≡ false → names_in k.cells ≡ [] → ⊥
      empty_not k i big none =
          let at = place_there h.chunks k (in_unreserved h.chunks h.reserved k i) in
          let r : h.reserved ≡ Some at.0 = O.form.spare at.0 at.1 (λ e. false≢true (sym big ∙ eq-eqb k.size 1024 (ap (λ (z : ChunkValue). z.size) (sym at.2) ∙ e))) (ap (λ (z : ChunkValue). (chunk_of z).objects) at.2 ∙ no_objects k none) in
          let j : In (remove h.chunks at.0) k = subst (λ o. In (unreserved h.chunks o) k) r i in
          removed_at h.chunks at.0 at.1 (reading.once_h h from ss news S T (naming.settled h from ss news S T m a O) (naming.reserved h from ss news S T m a O))
          (subst (λ (z : ChunkValue). In (numbers (remove h.chunks at.0)) z.number) (sym at.2) (extent.number_there (remove h.chunks at.0) k j))

  leaving : (us : List ChunkValue) → ((k : ChunkValue) → In us k → In U k) → unit_count (filter (leaves ss) us) + Units (large_names (filter (keeps ss) us)) ≡ length (small_lists us) + Units (large_names us)
  leaving [] f = refl
  leaving (k ∷ us) f = leaving_by_cases (k.size == 1024) refl (leaving us (λ j i. f j (inr i)))
    where
      old : In h.chunks k
      old = in_unreserved h.chunks h.reserved k (f k (inl refl))

      small : (k.size == 1024) ≡ true → unit_count (filter (leaves ss) us) + Units (large_names (filter (keeps ss) us)) ≡ length (small_lists us) + Units (large_names us)
          → unit_count (k ∷ filter (leaves ss) us) + Units (large_names (filter (keeps ss) us)) ≡ suc (length (small_lists us)) + Units (large_names us)
      small e go = let s : k.size ≡ 1024 = eqb-true k.size 1024 e in omega (arith, s, go)

      large : (b : Bool) (n : Name) → (k.size == 1024) ≡ false → names_in k.cells ≡ n ∷ [] → units k.size ≡ units (words_at m n)
          → unit_count (filter (leaves ss) us) + Units (large_names (filter (keeps ss) us)) ≡ length (small_lists us) + Units (large_names us)
          → unit_count (cond (not b) (k ∷ filter (leaves ss) us) (filter (leaves ss) us)) + Units (large_names (cond b (k ∷ filter (keeps ss) us) (filter (keeps ss) us))) ≡ length (small_lists us) + Units (names_in k.cells ++ large_names us)
      large true n e z q go =
          let g = ap Units (cond-false (k.size == 1024) (large_names (filter (keeps ss) us)) (names_in k.cells ++ large_names (filter (keeps ss) us)) e ∙ ap (λ ns. ns ++ large_names (filter (keeps ss) us)) z) in
          let g' = sum_by-cons (λ n. units (words_at m n)) n (large_names (filter (keeps ss) us)) in
          let d = ap (λ ns. Units (ns ++ large_names us)) z in
          let d' = sum_by-cons (λ n. units (words_at m n)) n (large_names us) in
          omega (arith, g, g', d, d', go)
      large false n e z q go =
          let d = ap (λ ns. Units (ns ++ large_names us)) z in
          let d' = sum_by-cons (λ n. units (words_at m n)) n (large_names us) in
          omega (arith, d, d', q, go)

      leaving_by_cases : (b : Bool) → (k.size == 1024) ≡ b → unit_count (filter (leaves ss) us) + Units (large_names (filter (keeps ss) us)) ≡ length (small_lists us) + Units (large_names us)
          → unit_count (filter (leaves ss) (k ∷ us)) + Units (large_names (filter (keeps ss) (k ∷ us))) ≡ length (cond b (names_in k.cells ∷ small_lists us) (small_lists us)) + Units (cond b (large_names us) (names_in k.cells ++ large_names us))
      leaving_by_cases true e go =
          ap (λ b. unit_count (cond (not b) (k ∷ filter (leaves ss) us) (filter (leaves ss) us)) + Units (large_names (cond b (k ∷ filter (keeps ss) us) (filter (keeps ss) us)))) (naming.first_small h from ss news S T m a O k old e)
          ∙ small e go
      leaving_by_cases false e go =
          let o = has_one k (f k (inl refl)) e in
          let i : In (objects_of_chunks (chunks_of h.chunks)) o.object = in_objects (chunks_of h.chunks) (chunk_of k) o.object (in_map chunk_of h.chunks k old) (subst (λ os. In os o.object) (sym o.objects) (inl refl)) in
          let w : k.size ≡ 1024 * (k.size / 1024) = O.form.whole k old in
          let u : k.size / 1024 ≡ units (words o.object) = o.units in
          let v : units (words_at m (object_name o.object)) ≡ units (words o.object) = ap units (O.words o.object i) in
          ap (λ b. unit_count (cond (not b) (k ∷ filter (leaves ss) us) (filter (leaves ss) us)) + Units (large_names (cond b (k ∷ filter (keeps ss) us) (filter (keeps ss) us)))) o.kept
          ∙ large (holds_name a.survivors (object_name o.object)) (object_name o.object) e o.names (let q : units k.size ≡ k.size / 1024 = omega (arith, w) in q ∙ (u ∙ sym v)) go

  small_count : length (small_lists U) ≡ length a.chunks
  small_count = small_count_by_cases h.reserved O.form.shaped.reserved ∙ ap (λ (ls : List (List Name)). length ls) (sym (small_names h.chunks) ∙ O.names.small)
    where
      removed : (ks : List ChunkValue) (i : ℕ) → i < length ks → 1024 < (chunk_at ks i).size → length (small_lists (remove ks i)) ≡ length (small_lists ks)
      removed [] i lt big = absurd (omega (arith, lt))
      removed (k ∷ ks) zero lt big = ap (λ (ls : List (List Name)). length ls) (sym (cond-false (k.size == 1024) (names_in k.cells ∷ small_lists ks) (small_lists ks) (ne k big)))
        where
          ne : (k : ChunkValue) → 1024 < k.size → (k.size == 1024) ≡ false
          ne k b = elim (cases_Bool (k.size == 1024)) [ inr e ↦ e | inl e ↦ absurd (let s : k.size ≡ 1024 = eqb-true k.size 1024 e in omega (arith, b, s)) ]
      removed (k ∷ ks) (suc i) lt big = along (k.size == 1024) (removed ks i (omega (arith, lt)) big)
        where
          along : (b : Bool) → length (small_lists (remove ks i)) ≡ length (small_lists ks) → length (cond b (names_in k.cells ∷ small_lists (remove ks i)) (small_lists (remove ks i))) ≡ length (cond b (names_in k.cells ∷ small_lists ks) (small_lists ks))
          along true e = ap suc e
          along false e = e

      small_count_by_cases : (o : Option ℕ) → IsReserved h.chunks o → length (small_lists (unreserved h.chunks o)) ≡ length (small_lists h.chunks)
      small_count_by_cases None w = refl
      small_count_by_cases (Some i) w = removed h.chunks i w.0 w.1.0

  less_units : Units Then.large ≤ Units a.large
  less_units = kept_weight (λ n. units (words_at m n)) (holds_name a.survivors) a.large

  module _ (began : a.begun ≡ Some (length news)) where
    begun_is : begun_in a ≡ length news
    begun_is = ap (λ o. unwrap_or o 0) began

    pub given_is : unit_count (back_of h ss (reverse news)) ≡ length a.chunks + (begun_in a - length Then.chunks) + (Units a.large - Units Then.large)
    given_is =
        let both = unit_sum (map emptied (filter (leaves ss) U)) (reverse y.spare) in
        let one = units_emptied (filter (leaves ss) U) in
        let fresh = spare_new (nothing_laid (reverse news)) h.chunks (smalls h.chunks (olds ss)) (new_reverse news T.new) in
        let two = units_new (reverse y.spare) (new_reverse y.spare fresh) in
        let rev = length-reverse y.spare in
        let go = leaving U (λ k i. i) in
        let kept = ap Units (naming.large_kept h from ss news S T m a O U (λ k i. in_unreserved h.chunks h.reserved k i)) in
        let names : large_names U ≡ a.large = large_unreserved h.chunks h.reserved O.form.shaped.reserved ∙ (sym (large_are h.chunks) ∙ O.names.large) in
        let all = ap Units names in
        let then_ : Units (filter (holds_name a.survivors) (large_names U)) ≡ Units Then.large = ap (λ ns. Units (filter (holds_name a.survivors) ns)) names in
        let small = small_count in
        let laid = laid_count in
        let took = taken_is in
        let begun = begun_is in
        let less = less_units in
        omega (arith, both, one, two, rev, go, kept, all, then_, small, laid, took, begun, less)

    -- ---- THEY FIT IN 32 BITS

    module _ (few : units_in m a ≤ 65536) where
      full : Full m Then.chunks
      full ns i =
          let k = map_in (λ (k : ChunkValue). names_in k.cells) L ns (subst (λ ls. In ls ns) (sym (naming.lists_now h from ss news S T m a O)) i) in
          let t = told_sum L k.0 (naming.told h from ss news S T m a O) k.1 in
          let s : k.0.size ≡ 1024 = t.0 in
          let w : words_sum m (names_in k.0.cells) ≡ words_in k.0.cells = t.1 in
          let le = forming.laid_inside h from ss news S T m a O k.0 k.1 in
          subst (λ ns. words_sum m ns ≤ chunk_words) k.2 (omega (arith, s, w, le))
        where
          told_sum : (ks : List ChunkValue) (k : ChunkValue) → Told m ks → In ks k → (k.size ≡ 1024) × (words_sum m (names_in k.cells) ≡ words_in k.cells)
          told_sum [] k t i = absurd i
          told_sum (x ∷ ks) k t (inl e) = subst (λ (z : ChunkValue). (z.size ≡ 1024) × (words_sum m (names_in z.cells) ≡ words_in z.cells)) e t.0
          told_sum (x ∷ ks) k t (inr i) = told_sum ks k t.1 i

      pub taken_counted : counted32 (length L) ≡ length Then.chunks
      taken_counted = let e = taken_is in let c = laid_count in let b = begun_is in omega (arith, e, c, b, few)

      pub given_counted : counted32 (unit_count (back_of h ss (reverse news))) ≡ length a.chunks + (begun_in a - length Then.chunks) + (Units a.large - Units Then.large)
      given_counted = let e = given_is in omega (arith, e, few)

      pub left_counted : counted32 (held_words (L ++ (K ++ R))) ≡ words_held m Then
      left_counted =
          let e = left_is in
          let w : words_held m Then ≤ chunk_words * (length Then.chunks + units_sum m Then.large) = heap_words m Then full in
          let t = taken_is in
          let c = laid_count in
          let b = begun_is in
          let l = less_units in
          omega (arith, e, w, t, c, b, l, few)
