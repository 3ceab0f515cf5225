-- The places of strands, one more of which is noted.
use Rattle.log_strands.proofs.Common.{◌≡◌, ◌<◌, ◌≤◌, ◌+◌, ◌==◌, ◌++◌, ◌∷◌, ◌∙◌, ◌⊎◌, inl, inr, ℕ, zero, suc, Bool, true, false, List, [], length, get_or, take, refl, sym, ap, subst, Option, Some, None, slice_get, arith, if◌then◌else◌, take_more, take_all, length-take-le, nat_tests, get_or_from_slice_get, got_front, got_within, got_last, got_more, GraphStrand, strand, is_that, LogPiece, LogTasks, log_strand, and_left, and_right, number_same, PlaceTable, is_known, StrandStandsAt, IsPlaceOf, KnowsPlaces, place_told, noted_if}

-- THE SAME STRAND

pub that_is : (u v : GraphStrand) → is_that u v.task v.index ≡ true → u ≡ v
that_is u v e =
    let task : u.task ≡ v.task = number_same u.task v.task (and_left (u.task == v.task) (u.index == v.index) e) in
    let index : u.index ≡ v.index = number_same u.index v.index (and_right (u.task == v.task) (u.index == v.index) e) in
    ap (λ (t : ℕ). strand t u.index) task ∙ ap (strand v.task) index

same_is_that : (u : GraphStrand) → is_that u u.task u.index ≡ true
same_is_that u = grind (arith, nat_tests)

pub not_that : (u v : GraphStrand) → is_that u v.task v.index ≡ false → u ≡ v → ⊥
not_that u v e same = (let z : true ≡ false = sym (same_is_that u) ∙ ap (λ (w : GraphStrand). is_that u w.task w.index) same ∙ e in cc)

-- AN ORDER WITH ONE STRAND MORE

module _ (log : LogTasks) (xs : List GraphStrand) (u s : GraphStrand) where
  stands_still : (p : ℕ) → StrandStandsAt log xs s p → StrandStandsAt log (xs ++ u ∷ []) s p
  stands_still p h = record { strand = h.strand; at = got_front xs (u ∷ []) p (got_within xs p h.strand h.at) ∙ h.at; known = h.known; is = h.is }

  still_place : (old : Option ℕ) → IsPlaceOf log xs s old → ((p : ℕ) → StrandStandsAt log (xs ++ u ∷ []) s p → StrandStandsAt log xs s p) → IsPlaceOf log (xs ++ u ∷ []) s old
  still_place None h back = λ p there. h p (back p there)
  still_place (Some p) h back = stands_still p h

  stood_before : (p : ℕ) (v : GraphStrand) → ((u ≡ v) → ⊥) → is_known log v ≡ true → log_strand log.numbers v ≡ s → (slice_get xs p ≡ Some v) ⊎ ((p ≡ length xs) × (u ≡ v)) → StrandStandsAt log xs s p
  stood_before p v other known is (inl at) = record { strand = v; at = at; known = known; is = is }
  stood_before p v other known is (inr new) = absurd (other new.1)

  back_by : (other : (v : GraphStrand) → is_known log v ≡ true → log_strand log.numbers v ≡ s → u ≡ v → ⊥) (p : ℕ) → StrandStandsAt log (xs ++ u ∷ []) s p → StrandStandsAt log xs s p
  back_by other p h = stood_before p h.strand (other h.strand h.known h.is) h.known h.is (got_more xs u h.strand p h.at)

  noted_by : (known that : Bool) → is_known log u ≡ known → is_that (log_strand log.numbers u) s.task s.index ≡ that → (old : Option ℕ) → IsPlaceOf log xs s old
      → IsPlaceOf log (xs ++ u ∷ []) s (if known then (if that then Some (length xs) else old) else old)
  noted_by true true k t old h = record { strand = u; at = got_last xs u; known = k; is = that_is (log_strand log.numbers u) s t }
  noted_by true false k t old h = still_place old h (back_by (λ v known is same. not_that (log_strand log.numbers u) s t (ap (log_strand log.numbers) same ∙ is)))
  noted_by false that k t old h = still_place old h (back_by (λ v known is same. (let z : true ≡ false = sym known ∙ ap (is_known log) (sym same) ∙ k in cc)))

as_noted : (known : Bool) (table : PlaceTable) (s : GraphStrand) (place t i : ℕ) → noted_if known table s place t i ≡ (if known then (if is_that s t i then Some place else place_told table t i) else place_told table t i)
as_noted true table s place t i = refl
as_noted false table s place t i = refl

-- the strand at the next place was taken
pub place_more : (log : LogTasks) (order : List GraphStrand) (n : ℕ) (d : GraphStrand) (old new : PlaceTable) → n < length order
    → ((t i : ℕ) → IsPlaceOf log (take n order) (strand t i) (place_told old t i))
    → ((t i : ℕ) → place_told new t i ≡ noted_if (is_known log (get_or order n d)) old (log_strand log.numbers (get_or order n d)) n t i)
    → (t i : ℕ) → IsPlaceOf log (take (n + 1) order) (strand t i) (place_told new t i)
place_more log order n d old new lt h e t i =
    let u = get_or order n d in
    let size : length (take n order) ≡ n = length-take-le n order (omega (arith, lt)) in
    subst (λ (xs : List GraphStrand). IsPlaceOf log xs (strand t i) (place_told new t i)) (sym (take_more order n d lt))
    (subst (λ (o : Option ℕ). IsPlaceOf log (take n order ++ u ∷ []) (strand t i) o)
    (sym (e t i ∙ as_noted (is_known log u) old (log_strand log.numbers u) n t i ∙ ap (λ (k : ℕ). if is_known log u then (if is_that (log_strand log.numbers u) t i then Some k else place_told old t i) else place_told old t i) (sym size)))
    (noted_by log (take n order) u (strand t i) (is_known log u) (is_that (log_strand log.numbers u) t i) refl refl (place_told old t i) (h t i)))

-- and so were all
pub all_places : (log : LogTasks) (order : List GraphStrand) (n : ℕ) (table : PlaceTable) → length order ≤ n → ((t i : ℕ) → IsPlaceOf log (take n order) (strand t i) (place_told table t i))
    → (t i : ℕ) → IsPlaceOf log order (strand t i) (place_told table t i)
all_places log order n table le h t i = subst (λ (xs : List GraphStrand). IsPlaceOf log xs (strand t i) (place_told table t i)) (take_all n order le) (h t i)

-- PIECES

abbrev pub AreFirst : LogTasks → List GraphStrand → List LogPiece → List (Option ℕ) → Type 0
AreFirst log order pieces places = (k : ℕ) (p : LogPiece) (place : Option ℕ) → slice_get pieces k ≡ Some p → slice_get places k ≡ Some place → IsPlaceOf log order p.strand place

-- the place of the next piece's strand was added
pub first_more : (log : LogTasks) (order : List GraphStrand) (table : PlaceTable) (pieces : List LogPiece) (places new : List (Option ℕ)) (n : ℕ) (d : LogPiece) (place : Option ℕ) → KnowsPlaces table log order
    → place ≡ place_told table (get_or pieces n d).strand.task (get_or pieces n d).strand.index → length places ≡ n → new ≡ places ++ place ∷ [] → AreFirst log order pieces places → AreFirst log order pieces new
first_more log order table pieces places new n d place knows is count pushed each k p other gp gn = by_place (got_more places place other k (sym (ap (λ (xs : List (Option ℕ)). slice_get xs k) pushed) ∙ gn))
  where
    first_more_here : IsPlaceOf log order (get_or pieces n d).strand place
    first_more_here = subst (λ (o : Option ℕ). IsPlaceOf log order (get_or pieces n d).strand o) (sym is) (knows (get_or pieces n d).strand.task (get_or pieces n d).strand.index)

    by_place : (slice_get places k ≡ Some other) ⊎ ((k ≡ length places) × (place ≡ other)) → IsPlaceOf log order p.strand other
    by_place (inl old) = each k p other gp old
    by_place (inr last) =
        let same : get_or pieces n d ≡ p = get_or_from_slice_get pieces n p d (sym (ap (slice_get pieces) (last.0 ∙ count)) ∙ gp) in
        subst (λ (o : Option ℕ). IsPlaceOf log order p.strand o) last.1 (subst (λ (q : LogPiece). IsPlaceOf log order q.strand place) same first_more_here)

-- NUMBERS

pub past_is : (xs : List ℕ) (k : ℕ) → slice_get xs k ≡ None → get_or xs k 0 ≡ 0
past_is [] k e = refl
past_is (x ∷ xs) zero e = absurd (let z : Some x ≡ None = e in cc)
past_is (x ∷ xs) (suc k) e = past_is xs k e
