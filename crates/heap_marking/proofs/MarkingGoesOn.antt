-- A marking that can go on marks more: what it requires of the heap, and that it can go on afterwards.
use Rattle.heap_marking.proofs.Common.{◌≡◌, ◌⊎◌, ◌↔◌, ℕ, ◌+◌, ◌<◌, ◌≤◌, true, Some, None, List, All, Contains, length, slice_get, inl, inr, ap, sym, subst, ◌∙◌, contains_from_in, in_from_contains, all_from, reached_more, reached_within, is_waiting, wait_there, heap_of, held_in, left_in, snapshots_are_held, legal_sound, Addr, cell_of, object_count, ChunkValue, HeapIsClosed, HasObjectAt, RefersTo, Located, IsAllMarked, IsMarking, IsOf, MarkingValue, marked_of, Fork, IsInSnapshot, IsSince, MarkStarts, In, object_name, objects, objects_of_chunks, LeadsAt, CanGoOnMarking, MarksStand, kept, StandsFor, marks_are_all, snapshot_now, IsReachedNow, StartsNow, lies_in, ParkedTask, SharedValue, accounts, rest_at, tree_counts_of, value_of, HeapForm, IsSharedValue, objects_counted, stands_now, MarksGoFurther}
use Rattle.heap_marking.proofs.HeapClosed.{closed as is_closed}
use Rattle.heap_marking.proofs.MarkBegun as begun
use Rattle.heap_marking.proofs.HeapAsked.{heap_names}

module _ (w : SharedValue) (I : IsSharedValue w) (on : (accounts w).end ≡ None) (t : ℕ) (r : ParkedTask) (there : rest_at w.rests t ≡ Some r) (wait : is_waiting (slice_get (accounts w).machine.tasks t) ≡ true) (keeps : ((value_of w).noted t).keeps ≡ true)
    (m : MarkingValue) (G : CanGoOnMarking (value_of w) t (heap_of (accounts w) t).snapshot m) where
  open (heap_names w t) use {l, v}

  abbrev ks : List ChunkValue
  ks = r.heap.chunks

  abbrev stands : StandsFor v (tree_counts_of w) l
  stands = stands_now w I on

  abbrev form : HeapForm r.heap
  form = I.heaps t r there

  now : (q : Located) → In (objects v t) q → IsReachedNow v l t q.at ↔ In (heap_of l t).snapshot (object_name q)
  now =
      let x = wait_there (slice_get l.machine.tasks t) wait in
      snapshot_now v l t x.0 (legal_sound w.program w.settings w.journal.items I.legal) stands.belongings x.1 wait (begun.waiting_rests w I on t wait) (stands.since t keeps)

  reached_held : (a : Addr) → IsInSnapshot G.fork (kept v t) a → HasObjectAt G.fork.heap a
  reached_held a g = reached_within (MarkStarts G.fork (kept v t)) (RefersTo G.fork.heap) (HasObjectAt G.fork.heap) (λ x s. s.0) (λ b x h d. d.1) a g

  written : (b a : Addr) → IsInSnapshot G.fork (kept v t) b → RefersTo ks b a → IsInSnapshot G.fork (kept v t) a
  written b a g d =
      let o = G.were b (reached_held b g) in
      let q = begun.seen_at w I on t r there wait keeps a d.1 in
      let name = (G.snapshot o.0 o.1).0 (subst (IsInSnapshot G.fork (kept v t)) (sym o.2) g) in
      let from : IsReachedNow v l t b = subst (IsReachedNow v l t) o.2 ((now o.0 o.1).1 name) in
      let refs : (cell_of ks b).refs ≡ o.0.refs = ap (λ x. (cell_of ks x).refs) (sym o.2) ∙ begun.refs_are w I on t r there wait keeps o.0 o.1 in
      let to : IsReachedNow v l t a = reached_more (StartsNow v l t) (LeadsAt (v.belongings t)) b a from (o.0, q.0, (o.1, o.2), subst (λ rs. In rs (Some a)) refs (in_from_contains (cell_of ks b).refs (Some a) d.2), (q.1, q.2)) in
      subst (IsInSnapshot G.fork (kept v t)) q.2 ((G.snapshot q.0 q.1).1 ((now q.0 q.1).0 (subst (IsReachedNow v l t) (sym q.2) to)))

  overwritten : (b a : Addr) → RefersTo G.fork.heap b a → RefersTo ks b a ⊎ Contains (kept v t) a
  overwritten b a d =
      let o = G.were b d.0 in
      let q = G.were a d.1 in
      let from : HasObjectAt ks b = subst (HasObjectAt ks) o.2 (begun.is_held w I on t r there wait keeps o.0 o.1) in
      let to : HasObjectAt ks a = subst (HasObjectAt ks) q.2 (begun.is_held w I on t r there wait keeps q.0 q.1) in
      let mine : v.owner a.chunk ≡ Some t = ap (λ (z : Addr). v.owner z.chunk) (sym q.2) ∙ lies_in v l stands.belongings t q.0 (begun.waiting_rests w I on t wait) q.1 in
      let refs : (cell_of ks b).refs ≡ o.0.refs = ap (λ x. (cell_of ks x).refs) (sym o.2) ∙ begun.refs_are w I on t r there wait keeps o.0 o.1 in
      elim (G.overwritten o.0 a o.1 mine (subst (λ z. RefersTo G.fork.heap z a) (sym o.2) d)) [
        | inl i ↦ inl (from, to, contains_from_in (cell_of ks b).refs (Some a) (subst (λ rs. In rs (Some a)) (sym refs) i))
        | inr k ↦ inr (contains_from_in (kept v t) a k)
      ]

  pub is_since : IsSince G.fork (kept v t) ks
  is_since = record {
    objects = λ a. (
      (λ h. let o = G.were a h in subst (HasObjectAt ks) o.2 (begun.is_held w I on t r there wait keeps o.0 o.1)),
      (λ h. let o = begun.seen_at w I on t r there wait keeps a h in subst (HasObjectAt G.fork.heap) o.2 (G.there o.0 o.1)),
    );
    written = written;
    overwritten = overwritten;
  }

  -- what was marked further can go on
  pub goes_further : (m' : MarkingValue) → IsOf ks (kept v t) m' → ((f : Fork) → IsSince f (kept v t) ks → IsMarking f (kept v t) m → IsMarking f (kept v t) m') → CanGoOnMarking v t (heap_of l t).snapshot m'
  goes_further m' own marks =
      let count : object_count ks ≡ length (objects v t) = objects_counted ks form.tidy ∙ ap (λ cs. length (objects_of_chunks cs)) (sym (begun.chunks_at_rest w t r there)) in
      let chunks : length ks ≡ length (v.belongings t).chunks = sym (begun.length_chunks ks) ∙ ap (λ cs. length cs) (sym (begun.chunks_at_rest w t r there)) in
      record {
        fork = G.fork;
        marks = marks G.fork is_since G.marks;
        there = G.there;
        were = G.were;
        overwritten = G.overwritten;
        snapshot = G.snapshot;
        once = own.room.once;
        marked = own.marked;
        followed = own.followed;
        slots = subst (λ n. n < length m'.found + m'.slots) count own.room.slots;
        spare = subst (λ n. n < length m'.found + m'.spare) count own.room.spare;
        places = subst (λ n. n ≤ m'.places) chunks own.room.places;
      }

  -- WHAT IT REQUIRES: what it has found is in the heap
  pub own : IsOf ks (kept v t) m
  own =
      let count : object_count ks ≡ length (objects v t) = objects_counted ks form.tidy ∙ ap (λ cs. length (objects_of_chunks cs)) (sym (begun.chunks_at_rest w t r there)) in
      let chunks : length ks ≡ length (v.belongings t).chunks = sym (begun.length_chunks ks) ∙ ap (λ cs. length cs) (sym (begun.chunks_at_rest w t r there)) in
      record {
        room = record {
          each = λ a c. (is_since.objects a).0 (reached_held a (G.marks.each a c));
          once = G.once;
          slots = subst (λ n. n < length m.found + m.slots) (sym count) G.slots;
          spare = subst (λ n. n < length m.found + m.spare) (sym count) G.spare;
          places = subst (λ n. n ≤ m.places) (sym chunks) G.places;
        };
        marked = G.marked;
        followed = G.followed;
      }

  -- what was kept is there
  pub kept_held : All (HasObjectAt ks) (kept v t)
  kept_held = all_from (HasObjectAt ks) (kept v t) (λ b i. let o = (stands.since t keeps).each b i in subst (HasObjectAt ks) o.2 (begun.is_held w I on t r there wait keeps o.0 o.1))

  -- and each reference into a chunk of the heap leads to an object
  pub closed : HeapIsClosed ks
  closed = is_closed v l stands.belongings t (begun.waiting_rests w I on t wait) ks (begun.chunks_at_rest w t r there) form.shaped.apart form.near

  -- WHEN NOTHING IS LEFT
  pub left_is : MarksStand v l t (marked_of m) → IsAllMarked G.fork (kept v t) m ↔ (left_in (heap_of l t) ≡ 0)
  left_is M =
      let S = snapshots_are_held w.program w.settings w.journal.items t I.legal wait in
      let all = marks_are_all v l t (marked_of m) stands.belongings (begun.waiting_rests w I on t wait) S.once
      (λ n i. in_from_contains (held_in (heap_of l t)) n (S.held n (contains_from_in (heap_of l t).snapshot n i))) M in (
        (λ a. all.1 (λ q i n. in_from_contains (marked_of m) q.at (a q.at ((G.snapshot q i).1 n)))),
        (λ e a g.
            let o = G.were a (reached_held a g) in
            let n = (G.snapshot o.0 o.1).0 (subst (IsInSnapshot G.fork (kept v t)) (sym o.2) g) in
            contains_from_in (marked_of m) a (subst (In (marked_of m)) o.2 (all.0 e o.0 o.1 n))),
      )

pub marks_go_further : MarksGoFurther
marks_go_further w t r m I on there wait keeps G = record { fork = G.fork; since = is_since w I on t r there wait keeps m G; marks = G.marks; kept = kept_held w I on t r there wait keeps m G; closed = closed w I on t r there wait keeps m G; left = left_is w I on t r there wait keeps m G; own = own w I on t r there wait keeps m G; further = goes_further w I on t r there wait keeps m G }
