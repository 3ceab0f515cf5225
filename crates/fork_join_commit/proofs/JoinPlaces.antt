-- Spare capacity changes nothing of what a shared value holds.
use Rattle.fork_join_commit.proofs.Common.{◌≡◌, ℕ, ◌++◌, arith, inl, inr, option_map, Option, Some, None, List, [], ◌∷◌, length, slice_get, refl, ap, sym, subst, ◌∙◌, cases_eq, same_Some, fun_ext, none_some, LeafHeapValue, with_places, Level, sibling, SetOf, content_at, content_of, Belongings, Noted, Memory, StandsForAll, WorkerFits, Private, ParkedTask, Work, Calls, Result, SharedValue, accounts, marks_at, belongings_by, belongings_in, rest_at, tree_counts_of, value_of, AreMeasured, IsFree, HeapForm, IsSharedValue, WorkerPartFits, part_of, noted_of, places_form, alone_entry, TaskSlotsValue, EndsChild, GetsPlaces, HasHeapRoom, HasPlaces, HasSetRoom, IsSameRest, SameButPlaces, SameButPlacesOf, chunk_count, chunks_of_both, sources_at, sources_by, sources_of_both}
use Rattle.fork_join_commit.proofs.SetsNoted.{noted_by}

same_belongings : (h : LeafHeapValue) (view : List Level) (n slots spare : ℕ) (x : Work) → belongings_by (with_places h slots spare) view n x ≡ belongings_by h view n x
same_belongings h view n slots spare (Calls s) = refl
same_belongings h view n slots spare (Result k r) = refl

belongings_same : (o o' : Option ParkedTask) → IsSameRest o o' → belongings_in o' ≡ belongings_in o
belongings_same None o' e = ap belongings_in e
belongings_same (Some r) o' e = ap belongings_in e.2 ∙ same_belongings r.heap r.view r.allocations e.0 e.1 r.work

module _ (w : SharedValue) (rests : List (Option ParkedTask)) (sets : List SetOf) (many : length rests ≡ length w.rests) (same : (u : ℕ) → IsSameRest (rest_at w.rests u) (rest_at rests u)) (many_sets : length sets ≡ length w.sets)
    (same_sets : (u : ℕ) → content_at sets u ≡ content_at w.sets u) where
  abbrev w' : SharedValue
  w' = record w { rests = rests; sets = sets }

  value_same : value_of w' ≡ value_of w
  value_same =
      let hs : (λ t. belongings_in (rest_at rests t)) ≡ (λ t. belongings_in (rest_at w.rests t)) = fun_ext (λ u. belongings_same (rest_at w.rests u) (rest_at rests u) (same u)) in
      let ns : (value_of w').noted ≡ (value_of w).noted = fun_ext (λ u. ap (λ (z : Noted). record z { marked = marks_at w.marks u }) (noted_by sets u ∙ (ap noted_of (same_sets u) ∙ sym (noted_by w.sets u)))) in
      ap (λ (f : ℕ → Belongings). let v : Memory = record { belongings = f; noted = (value_of w').noted; owner = (value_of w).owner } in v) hs
      ∙ ap (λ (f : ℕ → Noted). let v : Memory = record { belongings = (value_of w).belongings; noted = f; owner = (value_of w).owner } in v) ns

  module _ (I : IsSharedValue w) where
    form_then : (u : ℕ) (r : ParkedTask) (o : Option ParkedTask) → rest_at w.rests u ≡ o → IsSameRest o (rest_at rests u) → rest_at rests u ≡ Some r → HeapForm r.heap
    form_then u r None e S is = none_some (sym S ∙ is)
    form_then u r (Some z) e S is = subst (λ (y : ParkedTask). HeapForm y.heap) (same_Some _ r (sym S.2 ∙ is)) (places_form z.heap S.0 S.1 (I.heaps u z e))

    measured_then : (u : ℕ) (r : ParkedTask) (o : Option ParkedTask) → rest_at w.rests u ≡ o → IsSameRest o (rest_at rests u) → rest_at rests u ≡ Some r → IsFree w.tasks_out u → AreMeasured w.pool u r.heap.chunks
    measured_then u r None e S is f = none_some (sym S ∙ is)
    measured_then u r (Some z) e S is f = subst (λ (y : ParkedTask). AreMeasured w.pool u y.heap.chunks) (same_Some _ r (sym S.2 ∙ is)) (I.measured u z e f)

    places_world_by : IsSharedValue w'
    places_world_by = record {
      settings = I.settings;
      form = I.form;
      legal = I.legal;
      made = many ∙ I.made;
      noted = many_sets ∙ I.noted;
      workers = I.workers;
      limit = I.limit;
      stands = subst (λ (v : Memory). StandsForAll v (tree_counts_of w) (accounts w)) (sym value_same) I.stands;
      heaps = λ u r is. form_then u r (rest_at w.rests u) refl (same u) is;
      measured = λ u r is f. measured_then u r (rest_at w.rests u) refl (same u) is f;
    }

  places_fit_by : (k : ℕ) (p : Private) → WorkerPartFits w k p → WorkerPartFits w' k p
  places_fit_by k p F = record {
    out = F.out;
    fits = subst (λ (v : Memory). WorkerFits w.program w.settings (part_of w.settings p) v (accounts w)) (sym value_same) F.fits;
    form = F.form;
    measured = F.measured;
    leaf_limit = F.leaf_limit;
    field_limit = F.field_limit;
  }

module _ (w after : SharedValue) (P : SameButPlaces w after) where
  pub places_world : IsSharedValue w → IsSharedValue after
  places_world I = subst IsSharedValue (sym P.rest) (places_world_by w after.rests after.sets P.many P.rests P.many_sets P.sets I)

  pub places_fit : (k : ℕ) (p : Private) → WorkerPartFits w k p → WorkerPartFits after k p
  places_fit k p F = subst (λ (z : SharedValue). WorkerPartFits z k p) (sym P.rest) (places_fit_by w after.rests after.sets P.many P.rests P.many_sets P.sets k p F)

  -- what doesn't depend on slots and sets is the same
  pub places_same : (G : SharedValue → Type 0) → ((rests : List (Option ParkedTask)) (sets : List SetOf) → G w → G (record w { rests = rests; sets = sets })) → G w → G after
  places_same G keeps g = subst G (sym P.rest) (keeps after.rests after.sets g)

  -- an entry made after it is one made before it
  pub places_ends : (then_ : SharedValue) (k : ℕ) (p : Private) (answer : Option ℕ) → EndsChild after then_ k p answer → EndsChild w then_ k p answer
  places_ends then_ k p answer E = record {
    enters = record { journal = E.enters.journal ∙ ap (λ (z : SharedValue). z.journal.items ++ alone_entry k p ∷ []) P.rest; program = E.enters.program ∙ ap (λ (z : SharedValue). z.program) P.rest; settings = E.enters.settings ∙ ap (λ (z : SharedValue). z.settings) P.rest; halted = E.enters.halted ∙ ap (λ (z : SharedValue). z.halted) P.rest };
    goes = E.goes;
    resumed = E.resumed;
    others = λ u r ne G. E.others u r ne (places_fit u r G);
  }

-- ---- CAPACITY IS RESERVED

pub same_itself : (o o' : Option ParkedTask) → o' ≡ o → IsSameRest o o'
same_itself None o' e = e
same_itself (Some r) o' e = (r.heap.slots, r.heap.spare, e)

pub same_world : (w : SharedValue) → SameButPlaces w w
same_world w = record { rest = refl; many = refl; rests = λ u. same_itself (rest_at w.rests u) (rest_at w.rests u) refl; many_sets = refl; sets = λ u. refl }

module _ (w : SharedValue) (h n : TaskSlotsValue) (q : ℕ) (S : SameButPlacesOf h n q) where
  pub placed_same : SameButPlaces (record w { rests = h.rests; sets = h.sets }) (record w { rests = n.rests; sets = n.sets })
  placed_same = record {
    rest = refl;
    many = S.many;
    rests = λ u. elim (cases_eq u q) [
      | inl e ↦ subst (λ z. IsSameRest (rest_at h.rests z) (rest_at n.rests z)) (sym e) S.same
      | inr ne ↦ same_itself (rest_at h.rests u) (rest_at n.rests u) (S.others u ne)
    ];
    many_sets = S.many_sets;
    sets = S.same_sets;
  }

  pub placed_has : (p : Private) → (q ≡ sibling p.task → ⊥) → GetsPlaces h n p q → HasPlaces (record w { rests = n.rests; sets = n.sets }) p q
  placed_has p ne G =
      let other : chunk_count (rest_at n.rests (sibling p.task)) ≡ chunk_count (rest_at h.rests (sibling p.task)) = ap chunk_count (S.others (sibling p.task) (λ e. ne (sym e))) in
      let own_s : length (sources_at n.sets p.task) ≡ length (sources_at h.sets p.task) = ap (λ o. length (sources_by o)) (S.same_sets p.task) in
      let other_s : length (sources_at n.sets (sibling p.task)) ≡ length (sources_at h.sets (sibling p.task)) = ap (λ o. length (sources_by o)) (S.same_sets (sibling p.task)) in
      let c : chunks_of_both h.rests p ≡ chunks_of_both n.rests p = omega (arith, other) in
      let d : sources_of_both h.sets p ≡ sources_of_both n.sets p = omega (arith, own_s, other_s) in
      record { heap = subst (λ k. HasHeapRoom k (rest_at n.rests q)) c G.slot_room; set = subst (λ k. HasSetRoom k (slice_get n.sets q)) d G.set_room }

-- the sources of an existing set
pub set_sources : (sets : List SetOf) (u : ℕ) (s : SetOf) → slice_get sets u ≡ Some s → s.remembered.sources ≡ sources_at sets u
set_sources sets u s e = ap (λ o. sources_by (option_map content_of o)) (sym e)
