-- The start of the marking of a waiting heap, computed from its words, is its start by the accounts.
use Rattle.heap_marking.proofs.Common.{◌≡◌, ◌↔◌, ℕ, true, All, Option, Some, None, List, [], ◌∷◌, slice_get, inl, inr, refl, ap, sym, subst, ◌∙◌, flat_map, in_append_cases, in_append_left, in_append_right, in_flat, all_from, TaskStatus, Running, Waiting, Ended, Joined, Task, Name, is_waiting, waits, wait_there, Addr, has_chunk, ChunkValue, HasObjectAt, Located, CallFrame, frames_of, RefField, AreFields, into, targets_of, references_in, Rests, AreRoots, HoldsAt, FramesAreRead, HoldsRead, LiesWithOwner, MemoryStands, Belongings, In, objects, objects_of_chunks, sources, from_flat, lies_in, frame_name, ParkedTask, Work, Calls, Result, resting_references, chunks_of, heaps_of, sources_of, SharedValue, accounts, frames_down, belongings_by, belongings_in, belongings_of, rest_at, value_of, IsSharedValue, stands_now, into_tells, into_there, read_at_rest, noted_sources, IsStart, registers_of, starts_by, starts_in, starts_of}
use Rattle.core_invariant.proofs.RootsHeld as held
use Rattle.heap_marking.proofs.MarkBegun as begun
use Rattle.heap_marking.proofs.HeapAsked.{heap_names}

-- REGISTERS: the references of frames, in the order of the stack and in that of belongings
abbrev seen_frames : Work → List CallFrame
seen_frames (Calls s) = frames_down s
seen_frames (Result k r) = []

belongings_frames : (r : ParkedTask) → (belongings_of r).frames ≡ seen_frames r.work
belongings_frames r = belongings_frames_by_cases r.work
  where
    belongings_frames_by_cases : (x : Work) → (belongings_by r.heap r.view r.allocations x).frames ≡ seen_frames x
    belongings_frames_by_cases (Calls s) = refl
    belongings_frames_by_cases (Result k n) = refl

registers_tell : (x : Work) (o : Option Addr) → In (registers_of x) o → (f : CallFrame) × In (seen_frames x) f × In f.refs o
registers_tell (Calls s) o i =
    let f = from_flat references_in (frames_of s) o i in
    elim (in_append_cases s.below (s.top ∷ []) f.0 f.1) [
      | inl j ↦ (f.0, inr j, f.2)
      | inr j ↦ elim j [ inl e ↦ (f.0, inl e, f.2) | inr k ↦ absurd k ]
    ]
registers_tell (Result k r) o i = absurd i

registers_there : (x : Work) (f : CallFrame) (o : Option Addr) → In (seen_frames x) f → In f.refs o → In (registers_of x) o
registers_there (Calls s) f o (inl e) j = in_flat references_in (frames_of s) f o (in_append_right s.below (s.top ∷ []) f (inl e)) j
registers_there (Calls s) f o (inr i) j = in_flat references_in (frames_of s) f o (in_append_left s.below (s.top ∷ []) f i) j
registers_there (Result k r) f o i j = absurd i

frames_read : (at : Name → Addr → Type 0) (h : Belongings) (x : Task) (s : TaskStatus) → waits s ≡ true → HoldsRead at h x s → FramesAreRead at h.frames (x.top ∷ x.below)
frames_read at h x Running e k = k
frames_read at h x Waiting e k = k
frames_read at h x (Ended n r) e k = absurd cc
frames_read at h x Joined e k = absurd cc

-- A WAITING TASK, with its parked state
module _ (w : SharedValue) (I : IsSharedValue w) (on : (accounts w).end ≡ None) (t : ℕ) (r : ParkedTask) (there : rest_at w.rests t ≡ Some r) (wait : is_waiting (slice_get (accounts w).machine.tasks t) ≡ true) where
  open (heap_names w t) use {l, v}

  abbrev ks : List ChunkValue
  ks = r.heap.chunks

  abbrev ss : List RefField
  ss = sources_of (slice_get w.sets t)

  W : MemoryStands v l
  W = (stands_now w I on).belongings

  abbrev rests : Rests l t
  rests = begun.waiting_rests w I on t wait

  abbrev own_chunks : (v.belongings t).chunks ≡ chunks_of ks
  own_chunks = begun.chunks_at_rest w t r there

  frames_are : (v.belongings t).frames ≡ seen_frames r.work
  frames_are = ap (λ o. (belongings_in o).frames) there ∙ belongings_frames r

  sources_are : sources v t ≡ ss
  sources_are = noted_sources (slice_get w.sets t)

  read : (u : ℕ) → (u ≡ t → ⊥) → Rests l u → (o : Located) → In (objects v u) o → resting_references (heaps_of w) o.at ≡ o.refs
  read u ne q o i = read_at_rest w u I o i (lies_in v l W u o q i)

  -- its remembered fields are fields
  pub fields_there : AreFields resting_references (heaps_of w) ss
  fields_there = held.are_fields v l t W rests ks own_chunks ss sources_are (heaps_of w) read

  roots_are : AreRoots v l t (targets_of resting_references (heaps_of w) ks ss)
  roots_are = held.are_roots v l t W rests ks own_chunks ss sources_are (heaps_of w) read

  task : (x : Task) × (slice_get l.machine.tasks t ≡ Some x)
  task = wait_there (slice_get l.machine.tasks t) wait

  registers_read : FramesAreRead (LiesWithOwner v l) (v.belongings t).frames (task.0.top ∷ task.0.below)
  registers_read = frames_read (LiesWithOwner v l) (v.belongings t) task.0 task.0.status (ap is_waiting (sym task.1) ∙ wait) (W.tasks t task.0 rests task.1)

  -- a register that leads into the heap leads to an object of it
  at_register : (f : CallFrame) (a : Addr) → In (v.belongings t).frames f → In f.refs (Some a) → has_chunk ks a.chunk ≡ true → (q : Located) × HoldsAt (v.belongings t) a q
  at_register f a i j h =
      let n = frame_name (LiesWithOwner v l) (v.belongings t).frames (task.0.top ∷ task.0.below) f a registers_read i j in
      let q = held.lies_here v l t W rests ks own_chunks ss sources_are (heaps_of w) read n.0 a n.2 (held.own_chunk v l t W rests ks own_chunks ss sources_are (heaps_of w) read a.chunk h) in
      (q.0, (subst (λ cs. In (objects_of_chunks cs) q.0) (sym own_chunks) q.1, q.2))

  abbrev starts : List Addr
  starts = starts_in (heaps_of w) ss r

  abbrev own : List Addr
  own = flat_map (into ks) (registers_of r.work)

  abbrev roots : List Addr
  roots = targets_of resting_references (heaps_of w) ks ss

  register_to : (a : Addr) → In own a → IsStart v l t a
  register_to a i =
      let o = from_flat (into ks) (registers_of r.work) a i in
      let b = into_tells ks o.0 a o.2 in
      let f = registers_tell r.work (Some a) (subst (In (registers_of r.work)) b.0 o.1) in
      let j : In (v.belongings t).frames f.0 = subst (λ fs. In fs f.0) (sym frames_are) f.1 in
      let q = at_register f.0 a j f.2 b.1 in
      inl (q.0, q.1, (f.0, j, f.2))

  register_from : (a : Addr) (o : Located) → HoldsAt (v.belongings t) a o → (f : CallFrame) → In (v.belongings t).frames f → In f.refs (Some a) → In own a
  register_from a o at f i j =
      let h : has_chunk ks a.chunk ≡ true =
      ap (λ (z : Addr). has_chunk ks z.chunk) (sym at.1) ∙ held.object_chunk v l t W rests ks own_chunks ss sources_are (heaps_of w) read o (subst (λ cs. In (objects_of_chunks cs) o) own_chunks at.0) in
      in_flat (into ks) (registers_of r.work) (Some a) a (registers_there r.work f (Some a) (subst (λ fs. In fs f) frames_are i) j) (into_there ks (Some a) a refl h)

  starts_by_rest : starts_of w t ≡ starts
  starts_by_rest = ap (starts_by (heaps_of w) ss) there

  -- THE START OF THE MARKING
  pub starts_are : (a : Addr) → In (starts_of w t) a ↔ IsStart v l t a
  starts_are a = (to, from)
    where
      to : In (starts_of w t) a → IsStart v l t a
      to i = elim (in_append_cases roots own a (subst (λ xs. In xs a) starts_by_rest i)) [ inl j ↦ inr ((roots_are a).0 j) | inr j ↦ register_to a j ]

      back : IsStart v l t a → In starts a
      back (inl s) = in_append_right roots own a (register_from a s.0 s.1 s.2.0 s.2.1 s.2.2)
      back (inr R) = in_append_left roots own a ((roots_are a).1 R)

      from : IsStart v l t a → In (starts_of w t) a
      from s = subst (λ xs. In xs a) (sym starts_by_rest) (back s)

  -- there is an object of the heap
  pub starts_held : ((value_of w).noted t).keeps ≡ true → All (HasObjectAt ks) (starts_of w t)
  starts_held keeps = all_from (HasObjectAt ks) (starts_of w t) (λ a i. held_one a (held_by_start a ((starts_are a).0 i)))
    where
      held_by_start : (a : Addr) → IsStart v l t a → (o : Located) × HoldsAt (v.belongings t) a o
      held_by_start a (inl s) = (s.0, s.1)
      held_by_start a (inr R) =
          let q = held.root_here v l t W rests ks own_chunks ss sources_are (heaps_of w) read a ((roots_are a).1 R) in
          (q.0, (subst (λ cs. In (objects_of_chunks cs) q.0) (sym own_chunks) q.1, q.2))

      held_one : (a : Addr) → (o : Located) × HoldsAt (v.belongings t) a o → HasObjectAt ks a
      held_one a q = subst (HasObjectAt ks) q.1.1 (begun.is_held w I on t r there wait keeps q.0 q.1.0)
