-- A marking of a waiting heap begins, from the registers and the roots as they are now: it can go on to the whole
-- snapshot.
use Rattle.heap_marking.proofs.Common.{◌≡◌, ◌⊎◌, ◌↔◌, ℕ, suc, ◌+◌, ◌<◌, ◌≤◌, ◌++◌, true, Some, None, List, [], ◌∷◌, length, slice_get, inl, inr, refl, ap, sym, subst, ◌∙◌, contains_from_in, in_append_cases, in_append_left, in_append_right, in_from_contains, reached_more, reached_start, reached_within, is_waiting, wait_there, waiting_stops, heap_of, legal_sound, Addr, cell_of, object_count, ChunkValue, HasObjectAt, RefersTo, Located, CallFrame, IsMarking, IsOf, MarkingValue, Fork, IsInSnapshot, MarkStarts, Rests, legal_idle, In, object_name, objects, objects_of_chunks, HoldsAt, IsRememberedRoot, LeadsAt, CanGoOnMarking, kept, IsReachedNow, StartsNow, snapshot_now, ParkedTask, chunks_of, SharedValue, accounts, belongings_in, rest_at, value_of, HeapForm, IsSharedValue, stands_now, objects_counted, belongings_chunks, MarksBegin}
use Rattle.heap_marking.proofs.HeapClosed.{held_seen, seen_held}
use Rattle.heap_marking.proofs.HeapAsked.{heap_names}

pub length_chunks : (cs : List ChunkValue) → length (chunks_of cs) ≡ length cs
length_chunks [] = refl
length_chunks (c ∷ cs) = ap suc (length_chunks cs)

-- no worker holds a task that waits
pub waiting_rests : (w : SharedValue) → IsSharedValue w → (accounts w).end ≡ None → (t : ℕ) → is_waiting (slice_get (accounts w).machine.tasks t) ≡ true → Rests (accounts w) t
waiting_rests w I on t wait = legal_idle w.program w.settings w.journal.items I.legal on t (waiting_stops (slice_get (accounts w).machine.tasks t) wait)

-- the chunks of a heap at rest
pub chunks_at_rest : (w : SharedValue) (t : ℕ) (r : ParkedTask) → rest_at w.rests t ≡ Some r → ((value_of w).belongings t).chunks ≡ chunks_of r.heap.chunks
chunks_at_rest w t r there = ap (λ o. (belongings_in o).chunks) there ∙ belongings_chunks r

module _ (w : SharedValue) (I : IsSharedValue w) (on : (accounts w).end ≡ None) (t : ℕ) (r : ParkedTask) (there : rest_at w.rests t ≡ Some r) (wait : is_waiting (slice_get (accounts w).machine.tasks t) ≡ true) (keeps : ((value_of w).noted t).keeps ≡ true) where
  open (heap_names w t) use {l, v}

  abbrev ks : List ChunkValue
  ks = r.heap.chunks

  abbrev form : HeapForm r.heap
  form = I.heaps t r there

  abbrev chunks_are : (v.belongings t).chunks ≡ chunks_of ks
  chunks_are = chunks_at_rest w t r there

  pub to_belongings : (o : Located) → In (objects_of_chunks (chunks_of ks)) o → In (objects v t) o
  to_belongings o i = subst (λ cs. In (objects_of_chunks cs) o) (sym chunks_are) i

  pub from_belongings : (o : Located) → In (objects v t) o → In (objects_of_chunks (chunks_of ks)) o
  from_belongings o i = subst (λ cs. In (objects_of_chunks cs) o) chunks_are i

  pub is_held : (o : Located) → In (objects v t) o → HasObjectAt ks o.at
  is_held o i = (seen_held ks form.shaped.apart o (from_belongings o i)).0

  pub seen_at : (a : Addr) → HasObjectAt ks a → (o : Located) × In (objects v t) o × (o.at ≡ a) × ((cell_of ks a).refs ≡ o.refs)
  seen_at a h = let o = held_seen ks a h in (o.0, to_belongings o.0 o.1, o.2, o.3)

  pub refs_are : (o : Located) → In (objects v t) o → (cell_of ks o.at).refs ≡ o.refs
  refs_are o i = (seen_held ks form.shaped.apart o (from_belongings o i)).1

  -- the roots: what registers name, and what remembered fields hold
  module _ (roots : List Addr) (are : (a : Addr) → In roots a ↔ (((o : Located) × HoldsAt (v.belongings t) a o × ((f : CallFrame) × In (v.belongings t).frames f × In f.refs (Some a))) ⊎ IsRememberedRoot v l t a)) where
    abbrev pub f : Fork
    f = record { heap = ks; roots = roots }

    abbrev IsThere : Addr → Type 0
    IsThere a = IsReachedNow v l t a × ((o : Located) × HoldsAt (v.belongings t) a o)

    start_now : (a : Addr) → MarkStarts f (kept v t) a → IsThere a
    start_now a s =
        let o = seen_at a s.0 in
        let at : HoldsAt (v.belongings t) a o.0 = (o.1, o.2) in
        let now : ((g : CallFrame) × In (v.belongings t).frames g × In g.refs (Some a)) ⊎ (IsRememberedRoot v l t a ⊎ In (kept v t) a) = elim (in_append_cases roots (kept v t) a (in_from_contains (roots ++ kept v t) a s.1)) [
          | inl i ↦ elim ((are a).0 i) [ inl n ↦ inl n.2 | inr y ↦ inr (inl y) ]
          | inr k ↦ inr (inr k)
        ] in
        (reached_start (StartsNow v l t) (LeadsAt (v.belongings t)) a (o.0, at, now), (o.0, at))

    more_now : (b a : Addr) → IsThere b → RefersTo ks b a → IsThere a
    more_now b a y d =
        let o : (o : Located) × HoldsAt (v.belongings t) b o = y.1 in
        let q = seen_at a d.1 in
        let at : HoldsAt (v.belongings t) a q.0 = (q.1, q.2) in
        let refs : (cell_of ks b).refs ≡ o.0.refs = ap (λ x. (cell_of ks x).refs) (sym o.1.1) ∙ refs_are o.0 o.1.0 in
        (reached_more (StartsNow v l t) (LeadsAt (v.belongings t)) b a y.0 (o.0, q.0, o.1, subst (λ rs. In rs (Some a)) refs (in_from_contains (cell_of ks b).refs (Some a) d.2), at), (q.0, at))

    to_now : (a : Addr) → IsInSnapshot f (kept v t) a → IsReachedNow v l t a
    to_now a g = (reached_within (MarkStarts f (kept v t)) (RefersTo ks) IsThere start_now more_now a g).0

    held_at : (a : Addr) (o : Located) → HoldsAt (v.belongings t) a o → HasObjectAt ks a
    held_at a o at = subst (HasObjectAt ks) at.1 (is_held o at.0)

    start_then : (a : Addr) → StartsNow v l t a → IsInSnapshot f (kept v t) a
    start_then a s =
        reached_start (MarkStarts f (kept v t)) (RefersTo ks) a (
          held_at a s.0 s.1,
          contains_from_in (roots ++ kept v t) a (elim s.2 [
            | inl n ↦ in_append_left roots (kept v t) a ((are a).1 (inl (s.0, s.1, n)))
            | inr y ↦ elim y [
              | inl z ↦ in_append_left roots (kept v t) a ((are a).1 (inr z))
              | inr k ↦ in_append_right roots (kept v t) a k
            ]
          ]),
        )

    more_then : (b a : Addr) → IsInSnapshot f (kept v t) b → LeadsAt (v.belongings t) b a → IsInSnapshot f (kept v t) a
    more_then b a g d =
        let refs : (cell_of ks b).refs ≡ d.0.refs = ap (λ x. (cell_of ks x).refs) (sym d.2.1) ∙ refs_are d.0 d.2.0 in
        reached_more (MarkStarts f (kept v t)) (RefersTo ks) b a g (held_at b d.0 d.2, held_at a d.1 d.4, contains_from_in (cell_of ks b).refs (Some a) (subst (λ rs. In rs (Some a)) (sym refs) d.3))

    from_now : (a : Addr) → IsReachedNow v l t a → IsInSnapshot f (kept v t) a
    from_now a g = reached_within (StartsNow v l t) (LeadsAt (v.belongings t)) (IsInSnapshot f (kept v t)) start_then more_then a g

    pub snapshot_is : (o : Located) → In (objects v t) o → IsInSnapshot f (kept v t) o.at ↔ In (heap_of l t).snapshot (object_name o)
    snapshot_is o i =
        let x = wait_there (slice_get l.machine.tasks t) wait in
        let S = stands_now w I on in
        let s = snapshot_now v l t x.0 (legal_sound w.program w.settings w.journal.items I.legal) S.belongings x.1 wait (waiting_rests w I on t wait) (S.since t keeps) o i in
        ((λ g. s.0 (to_now o.at g)), (λ n. from_now o.at (s.1 n)))

    -- what the marking has found at that point
    pub begun_goes_on : (m : MarkingValue) → IsOf ks (kept v t) m → IsMarking f (kept v t) m → CanGoOnMarking v t (heap_of l t).snapshot m
    begun_goes_on m own marks =
        let count : object_count ks ≡ length (objects v t) = objects_counted ks form.tidy ∙ ap (λ cs. length (objects_of_chunks cs)) (sym chunks_are) in
        let chunks : length ks ≡ length (v.belongings t).chunks = sym (length_chunks ks) ∙ ap (λ cs. length cs) (sym chunks_are) in
        record {
          fork = f;
          marks = marks;
          there = is_held;
          were = λ a h. (let o = seen_at a h in (o.0, o.1, o.2));
          overwritten = λ o a i c d. inl (subst (λ rs. In rs (Some a)) (refs_are o i) (in_from_contains (cell_of ks o.at).refs (Some a) d.2));
          snapshot = snapshot_is;
          once = own.room.once;
          marked = own.marked;
          followed = own.followed;
          slots = subst (λ n. n < length m.found + m.slots) count own.room.slots;
          spare = subst (λ n. n < length m.found + m.spare) count own.room.spare;
          places = subst (λ n. n ≤ m.places) chunks own.room.places;
        }

pub marks_begin : MarksBegin
marks_begin w t r roots m I on there wait keeps are own marks = begun_goes_on w I on t r there wait keeps roots are m own marks
