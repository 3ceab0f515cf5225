-- The belongings of a part that fits the machine, and whose heap is as its account says, are read by their addresses in
-- a value.
use Rattle.step_commit.proofs.Common.{◌≡◌, ℕ, ◌-◌, ◌<◌, ◌^◌, arith, Option, Some, None, List, [], ◌∷◌, min, slice_get, inl, inr, refl, ap, ap₂, sym, subst, ◌∙◌, cases_eq, same_Some, ProgramText, Frame as ModelFrame, Name, Object, Task, object_at, runs_is, Heap, Ledger, heap_of, Addr, Born, cell_of, ChunkValue, Located, located, LiesThere, CallFrame, own, Chunk, Belongings, In, Lies, Memory, object_name, objects, objects_of_chunks, BelongingsAreRead, AreLaidOut, AllRead, FrameIsRead, FramesAreRead, HoldsRead, IsModelObject, TaskIsRead, ChunksHaveNames, BelongingsStand, LiesWithOwner, in_chunk, Private, HeapMatchesAccount, FitsNow as FitsMachine, AreAt, FrameStands, FramesStand, Places, birth_of, chunks_of, belongings_of_part, object_seen, seen_object, large_are, small_names, Formed, content_of, inside_from, laid_from}

-- ---- REFERENCES

module _ (place : Places) (at : Name → Addr → Type 0) (lies : (n : Name) (a : Addr) → place n ≡ Some a → at n a) where
  pub refs_read : (ns : List (Option Name)) (as' : List (Option Addr)) → AreAt place ns as' → AllRead at as' ns
  refs_read [] [] h = tt
  refs_read [] (a ∷ as') h = absurd h
  refs_read (n ∷ ns) [] h = absurd h
  refs_read (None ∷ ns) (None ∷ as') h = (tt, refs_read ns as' h.1)
  refs_read (None ∷ ns) (Some a ∷ as') h = absurd h.0
  refs_read (Some n ∷ ns) (None ∷ as') h = absurd h.0
  refs_read (Some n ∷ ns) (Some a ∷ as') h = (lies n a h.0, refs_read ns as' h.1)

  pub frame_read : (f : ModelFrame) (g : CallFrame) → FrameStands place f g → FrameIsRead at g f
  frame_read f g h = record { function = h.function; next = h.next; ints = h.ints; refs = refs_read f.refs g.refs h.refs }

  pub frames_read : (fs : List ModelFrame) (gs : List CallFrame) → FramesStand place fs gs → FramesAreRead at gs fs
  frames_read [] [] h = tt
  frames_read [] (g ∷ gs) h = absurd h
  frames_read (f ∷ fs) [] h = absurd h
  frames_read (f ∷ fs) (g ∷ gs) h = (frame_read f g h.0, frames_read fs gs h.1)

-- ---- THE BELONGINGS

module _ (program : ProgramText) (q : Private) (L : Ledger) (above : Places) (G : FitsMachine program q L.machine above) (F : Formed q.heap) (C : HeapMatchesAccount q.heap (heap_of L q.task)) (few : (heap_of L q.task).since < 2 ^ 64)
    (v : Memory) (here : v.belongings q.task ≡ belongings_of_part q) (owned : (k : ChunkValue) → In q.heap.chunks k → v.owner k.number ≡ Some q.task)
    (elsewhere : (n : Name) (a : Addr) → (own L n ≡ q.task → ⊥) → above n ≡ Some a → LiesWithOwner v L n a) where
  abbrev t : ℕ
  t = q.task

  abbrev cells : List ChunkValue
  cells = q.heap.chunks

  abbrev ks : List Chunk
  ks = chunks_of q.heap.chunks

  abbrev a_t : Heap
  a_t = heap_of L t

  belongings_chunks : (v.belongings t).chunks ≡ ks
  belongings_chunks = ap (λ (h : Belongings). h.chunks) here

  in_part : (o : Located) → In (objects v t) o → In (objects_of_chunks ks) o
  in_part o i = subst (λ cs. In (objects_of_chunks cs) o) belongings_chunks i

  lying : (o : Located) → In (objects_of_chunks ks) o → LiesThere cells o
  lying o i = seen_object cells o F.shaped.apart i

  owned_chunk : (k : Chunk) → In ks k → v.owner k.number ≡ Some t
  owned_chunk k i = let c = content_of cells k i in ap (λ (z : Chunk). v.owner z.number) (sym c.2) ∙ owned c.0 c.1

  -- ---- NAMES

  -- the map has an object's name at its address
  placed : (o : Located) → In (objects_of_chunks ks) o → G.place (object_name o) ≡ Some o.at
  placed o i = (G.heap.objects o.at o.birth (lying o i).mark).placed

  -- two objects at one address are equal
  same_place : (o r : Located) → In (objects_of_chunks ks) o → In (objects_of_chunks ks) r → o.at ≡ r.at → o ≡ r
  same_place o r i j e =
      let y = lying o i in
      let z = lying r j in
      let marks : Born o.birth ≡ Born r.birth = sym y.mark ∙ (ap (λ a. (cell_of cells a).mark) e ∙ z.mark) in
      let births : o.birth ≡ r.birth = cc in
      y.is ∙ (ap₂ (λ (a : Addr) b. located a.chunk a.offset b (cell_of cells a)) e births ∙ sym z.is)

  same_name : (o r : Located) → In (objects_of_chunks ks) o → In (objects_of_chunks ks) r → object_name o ≡ object_name r → o ≡ r
  same_name o r i j e = same_place o r i j (same_Some o.at r.at (sym (placed o i) ∙ (ap G.place e ∙ placed r j)))

  belongings_then : BelongingsStand v L t
  belongings_then = record {
    names = subst (λ cs. ChunksHaveNames cs a_t) (sym belongings_chunks) (record { small = small_names cells ∙ C.chunks; large = large_are cells ∙ C.large });
    room = ap (λ (h : Belongings). h.room) here ∙ C.room;
    since = ap (λ (h : Belongings). h.since) here ∙ (C.since ∙ (let e : min a_t.since (2 ^ 64 - 1) ≡ a_t.since = omega (arith, few) in e));
    count = λ live. ap (λ (h : Belongings). h.count) here ∙ G.count;
    owned = λ k i. owned_chunk k (subst (λ cs. In cs k) belongings_chunks i);
    inside = λ k o i j. inside_from cells k o (subst (λ cs. In cs k) belongings_chunks i) j;
    once = λ o r i j. same_place o r (in_part o i) (in_part r j);
    named = λ o r i j. same_name o r (in_part o i) (in_part r j);
    laid = subst (λ cs. AreLaidOut cs a_t.reserved) (sym belongings_chunks) (laid_from q.heap F a_t.reserved C.reserved);
  }

  -- ---- ADDRESSES

  own_place : (n : Name) (a : Addr) → own L n ≡ t → G.place n ≡ Some a → LiesWithOwner v L n a
  own_place n a mine e =
      let i : In (objects_of_chunks ks) (located a.chunk a.offset (birth_of n) (cell_of cells a)) = object_seen cells a (birth_of n) (G.heap.own n a mine e) in
      let c = in_chunk ks _ i in
      record {
        chunk = ap v.owner (inside_from cells c.0 _ c.1 c.2) ∙ (owned_chunk c.0 c.1 ∙ ap Some (sym mine));
        here = λ r. subst (λ u. Lies (v.belongings u).chunks n a) (sym mine) (subst (λ cs. Lies cs n a) (sym belongings_chunks) (located a.chunk a.offset (birth_of n) (cell_of cells a), i, record { name = refl; at = refl }));
      }

  lies : (n : Name) (a : Addr) → G.place n ≡ Some a → LiesWithOwner v L n a
  lies n a e = elim (cases_eq (own L n) t) [ inl mine ↦ own_place n a mine e | inr ne ↦ elsewhere n a ne (sym (G.heap.others n ne) ∙ e) ]

  content : (o : Located) → In (objects v t) o → (x : Object) × (object_at L.machine.store (object_name o) ≡ Some x) × IsModelObject (LiesWithOwner v L) o x
  content o i =
      let y = lying o (in_part o i) in
      let O = G.heap.objects o.at o.birth y.mark in
      subst (λ (z : Located). (x : Object) × (object_at L.machine.store (object_name z) ≡ Some x) × IsModelObject (LiesWithOwner v L) z x) (sym y.is)
      (O.object, O.is, record { mutable = O.stands.mutable; refs = refs_read G.place (LiesWithOwner v L) lies O.object.refs (cell_of cells o.at).refs O.stands.refs; ints = O.stands.ints })

  task_then : (x : Task) → slice_get L.machine.tasks t ≡ Some x → TaskIsRead (LiesWithOwner v L) (v.belongings t) x
  task_then x e =
      let same : G.task ≡ x = same_Some G.task x (sym G.is ∙ e) in
      let read : FramesAreRead (LiesWithOwner v L) (belongings_of_part q).frames (G.task.top ∷ G.task.below) =
      (frame_read G.place (LiesWithOwner v L) lies G.task.top q.frames.top G.stack.top, frames_read G.place (LiesWithOwner v L) lies G.task.below q.frames.below G.stack.below) in
      subst (TaskIsRead (LiesWithOwner v L) (v.belongings t)) same
      (subst (HoldsRead (LiesWithOwner v L) (v.belongings t) G.task) (sym (runs_is G.task.status G.running)) (subst (λ (z : Belongings). FramesAreRead (LiesWithOwner v L) z.frames (G.task.top ∷ G.task.below)) (sym here) read))

  pub belongings_read : BelongingsAreRead v L t
  belongings_read = record { belongings = belongings_then; contents = content; task = task_then }
