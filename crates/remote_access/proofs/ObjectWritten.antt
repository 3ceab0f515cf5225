-- The value after an object of another task is written: only the object changes.
use Rattle.remote_access.proofs.Common.{◌≡◌, ℕ, ◌<◌, length, cond, Option, Some, None, List, map, slice_get, slice_set, is_none, inl, inr, refl, ap, ap₂, sym, subst, ◌∙◌, option_flatten, cases_eq, cond-true, same_Some, got_other, got_same, got_within, Name, Ledger, heap_of, task_steps, Addr, Birth, Cell, size_of, cell_of, Located, located, with_fields, LeafHeapValue, room_of, Level, CallFrame, RefField, SetOf, Rests, own, rested, Chunk, Belongings, In, Memory, mapped_chunk, object_name, objects, objects_of_chunks, put_at, sources, WritesAt, with_belongings, words, BelongingsStand, in_chunk, at_belongings, off_belongings, Private, ParkedTask, Work, Calls, Result, SharedValue, accounts, belongings_by, belongings_in, belongings_of, no_belongings, rest_at, value_by, value_of, with_marks, chunks_of, HeapForm, IsSharedValue, WorkerPartFits, belongings_of_part, IsWell, free_at_rest, by_chunks, seen_object, measured_written, chunks_elsewhere, chunks_put, chunks_same, form_written, room_written, put_rest}
use Rattle.step_commit.proofs.below.core_invariant.PartFitsMachine as link
use Rattle.remote_access.proofs.ForeignObject.{IsForeign}

-- belongings of which only the heap changes
belongings_written : (h h' : LeafHeapValue) (view : List Level) (count : ℕ) (x : Work) → room_of h' ≡ room_of h → h'.since ≡ h.since → belongings_by h' view count x ≡ record (belongings_by h view count x) { chunks = chunks_of h'.chunks }
belongings_written h h' view count (Calls s) er es = ap₂ (λ n m. record (belongings_by h view count (Calls s)) { chunks = chunks_of h'.chunks; room = n; since = m }) er es
belongings_written h h' view count (Result k b) er es = ap₂ (λ n m. record (belongings_by h view count (Result k b)) { chunks = chunks_of h'.chunks; room = n; since = m }) er es

-- the belongings of the tasks that no worker holds
abbrev pub resting : Ledger → (ℕ → Belongings) → ℕ → Belongings
resting l hs u = cond (is_none (heap_of l u).worker) (hs u) no_belongings

pub resting_is : (l : Ledger) (hs : ℕ → Belongings) (u : ℕ) → Rests l u → resting l hs u ≡ hs u
resting_is l hs u r = cond-true (is_none (heap_of l u).worker) (hs u) no_belongings (ap is_none r)

module _ (w : SharedValue) (k : ℕ) (p : Private) (I : IsSharedValue w) (F : WorkerPartFits w k p) (on : (accounts w).end ≡ None) where
  abbrev pub t : ℕ
  t = p.task

  abbrev pub l : Ledger
  l = accounts w

  abbrev pub h : Belongings
  h = belongings_of_part p

  abbrev pub L : Ledger
  L = rested (task_steps w.program l t p.fresh) t

  -- the value without the belongings of those that workers hold
  abbrev pub v0 : Memory
  v0 = record (value_of w) { belongings = resting l (value_of w).belongings }

  module _ (n : Name) (a : Addr) (O : IsForeign w (with_belongings (value_of w) t h) L t n a) where
    abbrev pub u : ℕ
    u = own L n

    abbrev pub r : ParkedTask
    r = O.rest

    abbrev pub c : Cell
    c = cell_of r.heap.chunks a

    -- the object's chunk has only one owner
    owner_apart : (z : ℕ) → (value_of w).owner a.chunk ≡ Some z → z ≡ u
    owner_apart z e = same_Some z u (sym e ∙ O.place.chunk)

    lies_with : (z : ℕ) (hs : Belongings) → BelongingsStand (with_belongings (value_of w) t h) L z → (with_belongings (value_of w) t h).belongings z ≡ hs → (z ≡ u → ⊥) → (o : Located) → In (objects_of_chunks hs.chunks) o → o.at ≡ a → ⊥
    lies_with z hs H e ne o i at =
        let x = in_chunk hs.chunks o i in
        let j : In ((with_belongings (value_of w) t h).belongings z).chunks x.0 = subst (λ (q : Belongings). In q.chunks x.0) (sym e) x.1 in
        ne (owner_apart z (ap (λ (q : Addr). (value_of w).owner q.chunk) (sym at) ∙ (ap (value_of w).owner (H.inside x.0 o j x.2) ∙ H.owned x.0 j)))

    -- no object of the task itself, or of another task that no worker holds, has this address
    none_own : (o : Located) → In (objects_of_chunks h.chunks) o → o.at ≡ a → ⊥
    none_own o i at = lies_with t h ((link.W w k p I F on).belongings t (link.at_rest w k p I F on)) (at_belongings (value_of w) t h) (λ e. O.apart (sym e)) o i at

    none_other : (z : ℕ) → (z ≡ t → ⊥) → (z ≡ u → ⊥) → Rests l z → (o : Located) → In (objects_of_chunks ((value_of w).belongings z).chunks) o → o.at ≡ a → ⊥
    none_other z nt nu rz o i at =
        lies_with z ((value_of w).belongings z) ((link.W w k p I F on).belongings z (link.rests_then w k p I F on z nt rz)) (off_belongings (value_of w) t h z nt) nu o i at

    -- THE OBJECT IS WRITTEN: its cell becomes d, and the object as it is read is changed by f
    module _ (d : Cell) (mark : d.mark ≡ c.mark) (size : size_of d ≡ size_of c) (f : Located → Located) (fields : (number at : ℕ) (b : Birth) → with_fields d (located number at b c) ≡ f (located number at b c))
        (sets : List SetOf) (top : CallFrame) where
      abbrev pub r' : ParkedTask
      r' = put_rest r a d

      abbrev pub rests : List (Option ParkedTask)
      rests = slice_set w.rests u (Some r')

      abbrev pub v' : Memory
      v' = with_marks w.marks (value_by rests sets w.pool)

      abbrev pub v1 : Memory
      v1 = record v' { belongings = resting l v'.belongings }

      abbrev pub q : Private
      q = record p { frames = record { below = p.frames.below; top = top }; fresh = 0 }

      abbrev pub g : Belongings
      g = belongings_of_part q

      form : HeapForm r.heap
      form = I.heaps u r O.there

      was_there : slice_get w.rests u ≡ Some (Some r)
      was_there = was_there_by_cases (slice_get w.rests u) O.there
        where
          was_there_by_cases : (o : Option (Option ParkedTask)) → option_flatten o ≡ Some r → o ≡ Some (Some r)
          was_there_by_cases None e = absurd cc
          was_there_by_cases (Some x) e = ap Some e

      -- every heap keeps its form
      pub well : IsWell w.pool u r'
      well = (form_written r.heap a d form mark size, measured_written w.pool u r.heap.chunks a d (I.measured u r O.there (free_at_rest w u I on O.rests)))

      pub has_slot : u < length w.rests
      has_slot = got_within w.rests u (Some r) was_there

      -- the belongings of the object's owner
      abbrev changed : Belongings → Belongings
      changed x = record x { chunks = map (mapped_chunk (put_at a f)) x.chunks }

      chunks_changed : chunks_of r'.heap.chunks ≡ map (mapped_chunk (put_at a f)) (chunks_of r.heap.chunks)
      chunks_changed =
          chunks_put r.heap.chunks a d form.shaped.apart (sym mark) (sym size)
          ∙ chunks_same a (with_fields d) f (chunks_of r.heap.chunks) (λ o i at.
          let y = seen_object r.heap.chunks o form.shaped.apart i in
          let e : o ≡ located o.at.chunk o.at.offset o.birth c = y.is ∙ ap (λ (z : Addr). located o.at.chunk o.at.offset o.birth (cell_of r.heap.chunks z)) at in
          ap (with_fields d) e ∙ (fields o.at.chunk o.at.offset o.birth ∙ ap f (sym e)))

      belongings_owner : v'.belongings u ≡ changed ((value_of w).belongings u)
      belongings_owner =
          ap belongings_in (ap option_flatten (got_same w.rests u (Some r) (Some r') was_there))
          ∙ (belongings_written r.heap r'.heap r.view r.allocations r.work (room_written r.heap a d form mark size) refl
          ∙ (ap (λ (ks : List Chunk). record (belongings_of r) { chunks = ks }) (chunks_changed ∙ ap (map (mapped_chunk (put_at a f))) (sym (by_chunks r.heap r.view r.allocations r.work)))
          ∙ ap (λ o. changed (belongings_in o)) (sym O.there)))

      belongings_other : (z : ℕ) → (z ≡ t → ⊥) → (z ≡ u → ⊥) → Rests l z → v'.belongings z ≡ changed ((value_of w).belongings z)
      belongings_other z nt nu rz =
          ap (λ o. belongings_in (option_flatten o)) (got_other w.rests u z (Some r') nu)
          ∙ ap (λ (ks : List Chunk). record ((value_of w).belongings z) { chunks = ks }) (sym (chunks_elsewhere a f ((value_of w).belongings z).chunks (none_other z nt nu rz)))

      belongings_by_worker : (z : ℕ) → (z ≡ t → ⊥) → (o : Option ℕ) → (heap_of l z).worker ≡ o → cond (is_none o) (v'.belongings z) no_belongings ≡ changed (cond (is_none o) ((value_of w).belongings z) no_belongings)
      belongings_by_worker z nt (Some x) e = refl
      belongings_by_worker z nt None e = elim (cases_eq z u) [
        | inl q ↦ subst (λ y. v'.belongings y ≡ changed ((value_of w).belongings y)) (sym q) belongings_owner
        | inr nu ↦ belongings_other z nt nu e
      ]

      abbrev old : Memory
      old = with_belongings v0 t h

      abbrev new : Memory
      new = with_belongings v1 t g

      pub belongings_off : (z : ℕ) → (z ≡ t → ⊥) → new.belongings z ≡ changed (old.belongings z)
      belongings_off z nt = off_belongings v1 t g z nt ∙ (belongings_by_worker z nt (heap_of l z).worker refl ∙ ap changed (sym (off_belongings v0 t h z nt)))

      pub belongings_new : new.belongings t ≡ g
      belongings_new = at_belongings v1 t g

      pub belongings_old : old.belongings t ≡ h
      belongings_old = at_belongings v0 t h

      -- its effect on any belongings, except for the frames of its own
      each : {A : Type 0} (look : Belongings → A) → look g ≡ look (changed h) → (z : ℕ) → look (new.belongings z) ≡ look (changed (old.belongings z))
      each look own z = elim (cases_eq z t) [
        | inl e ↦ ap (λ y. look (new.belongings y)) e ∙ (ap look belongings_new ∙ (own ∙ (ap (λ x. look (changed x)) (sym belongings_old) ∙ ap (λ y. look (changed (old.belongings y))) (sym e))))
        | inr ne ↦ ap look (belongings_off z ne)
      ]

      pub writes : ((o : Located) → object_name (f o) ≡ object_name o) → ((o : Located) → (f o).at ≡ o.at) → ((o : Located) → words (f o) ≡ words o) → ((o : Located) → (f o).mutable ≡ o.mutable) → ((z : ℕ) (s : RefField) → In (sources (value_of w) z) s → In (sources v' z) s) → WritesAt old new t a f
      writes same_name same_at same_words same_kind noted = record {
        same_name = same_name;
        same_at = same_at;
        same_words = same_words;
        same_kind = same_kind;
        chunks = each (λ x. x.chunks) (sym (chunks_elsewhere a f h.chunks none_own));
        room = each (λ x. x.room) refl;
        since = each (λ x. x.since) refl;
        count = each (λ x. x.count) refl;
        begun = each (λ x. x.begun) refl;
        view = each (λ x. x.view) refl;
        frames = λ z ne. ap (λ (x : Belongings). x.frames) (belongings_off z ne);
        result = λ z ne. ap (λ (x : Belongings). x.result) (belongings_off z ne);
        owner = λ y. refl;
        noted = noted;
      }

      -- THE OBJECT is in no other task's heap
      none_by : (z : ℕ) → (z ≡ t → ⊥) → (z ≡ u → ⊥) → (o : Located) → o.at ≡ a → (x : Option ℕ) → (heap_of l z).worker ≡ x → In (objects_of_chunks (cond (is_none x) ((value_of w).belongings z) no_belongings).chunks) o → ⊥
      none_by z nt nu o at (Some y) e j = j
      none_by z nt nu o at None e j = none_other z nt nu e o j at

      -- and is read from its cell
      pub read_old : (o : Located) → In (objects old u) o → o.at ≡ a → (b : Birth) × (o ≡ located o.at.chunk o.at.offset b c)
      read_old o i at =
          let j : In (objects_of_chunks (resting l (value_of w).belongings u).chunks) o = subst (λ (x : Belongings). In (objects_of_chunks x.chunks) o) (off_belongings v0 t h u O.apart) i in
          let k' : In (objects_of_chunks (belongings_in (rest_at w.rests u)).chunks) o = subst (λ (x : Belongings). In (objects_of_chunks x.chunks) o) (resting_is l (value_of w).belongings u O.rests) j in
          let m : In (objects_of_chunks (chunks_of r.heap.chunks)) o = subst (λ ks. In (objects_of_chunks ks) o) (by_chunks r.heap r.view r.allocations r.work) (subst (λ x. In (objects_of_chunks (belongings_in x).chunks) o) O.there k') in
          let y = seen_object r.heap.chunks o form.shaped.apart m in
          (o.birth, y.is ∙ ap (λ (z : Addr). located o.at.chunk o.at.offset o.birth (cell_of r.heap.chunks z)) at)

      pub there_old : (o : Located) × In (objects old u) o × (o.at ≡ a) × ((b : Birth) × (o ≡ located o.at.chunk o.at.offset b c))
      there_old =
          let x = O.place.here (link.rests_then w k p I F on u O.apart O.rests) in
          let i : In (objects_of_chunks ((value_of w).belongings u).chunks) x.0 = subst (λ (y : Belongings). In (objects_of_chunks y.chunks) x.0) (off_belongings (value_of w) t h u O.apart) x.1 in
          let j : In (objects old u) x.0 = subst (λ (y : Belongings). In (objects_of_chunks y.chunks) x.0) (sym (off_belongings v0 t h u O.apart)) (subst (λ (y : Belongings). In (objects_of_chunks y.chunks) x.0) (sym (resting_is l (value_of w).belongings u O.rests)) i) in
          (x.0, j, x.2.at, read_old x.0 j x.2.at)
