-- What a collection returns, and when it can begin to copy.
use Rattle.copied_part_laws.proofs.Common.{◌≡◌, ℕ, All, Option, Some, None, List, [], ◌∷◌, length, map, slice_get, inl, inr, refl, ap, sym, subst, ◌∙◌, same_Some, flat_in, got_in, in_append_cases, all_from, read_in, ProgramText, Frame as ModelFrame, Name, MachineState, Running, Task, SettingsValue, Ledger, heap_of, let_go, heap_machine, Addr, ChunkValue, held_words, HeapIsClosed, IsSoundReference, LeafHeapValue, counted32, unit_count, Level, CallFrame, FramesValue, frames_of, as_reference, frame_references as refs_held, outside, references_in, rested_view, rested_worker, Begun, Belongings, In, Memory, AllRead, FramesAreRead, HoldsRead, TaskIsRead, LiesWithOwner, chunks_of, frames_down, BegunCanCopy, CanCopy, CollectionHasBegun, NumbersAreSaid}
use Rattle.heap_marking.proofs.HeapClosed as reads
use Rattle.copied_part_laws.proofs.CopyMade as copying
use Rattle.copied_part_laws.proofs.CopyCounts as counting
use Rattle.copied_part_laws.proofs.SurvivorsReached.{from_stack}

-- ---- NUMBERS

pub numbers_are_said : NumbersAreSaid
numbers_are_said p s t h view count frames b news v l B few h' frames' out C =
    let O = copying.O p s t h view count frames b news v l B h' frames' out C in
    let began : (heap_of l t).begun ≡ Some (length news) = sym (rested_view (λ x. x.begun) (λ x. refl) l t) ∙ ((copying.began p s t h view count frames b news v l B).few ∙ ap Some B.all) in
    let taken = C.taken ∙ counting.taken_counted h (outside frames b.roots) C.survivors news C.are B.new l.machine (heap_of l t) O began few in
    let given = C.given ∙ (ap (λ ks. counted32 (unit_count ks)) C.back ∙ counting.given_counted h (outside frames b.roots) C.survivors news C.are B.new l.machine (heap_of l t) O began few) in
    let left = C.left ∙ (ap (λ (x : LeafHeapValue). counted32 (held_words x.chunks)) C.heap ∙ counting.left_counted h (outside frames b.roots) C.survivors news C.are B.new l.machine (heap_of l t) O began few) in
    λ i. (taken i, given i, left i)

-- ---- REFERENCES THAT LEAD TO OBJECTS

read_one : (at : Name → Addr → Type 0) (rs : List (Option Addr)) (xs : List (Option Name)) (r : Addr) → AllRead at rs xs → In rs (Some r) → (n : Name) × at n r
read_one at [] xs r h i = absurd i
read_one at (x ∷ rs) [] r h i = absurd h
read_one at (None ∷ rs) (y ∷ xs) r h (inl e) = absurd cc
read_one at (Some x ∷ rs) (None ∷ xs) r h (inl e) = absurd h.0
read_one at (Some x ∷ rs) (Some n ∷ xs) r h (inl e) = (n, subst (at n) (same_Some x r e) h.0)
read_one at (x ∷ rs) (y ∷ xs) r h (inr i) = read_one at rs xs r h.1 i

frame_one : (at : Name → Addr → Type 0) (fs : List CallFrame) (xs : List ModelFrame) (f : CallFrame) (r : Addr) → FramesAreRead at fs xs → In fs f → In f.refs (Some r) → (n : Name) × at n r
frame_one at [] xs f r h i j = absurd i
frame_one at (x ∷ fs) [] f r h i j = absurd h
frame_one at (x ∷ fs) (y ∷ xs) f r h (inl e) j = read_one at x.refs y.refs r h.0.refs (subst (λ (z : CallFrame). In z.refs (Some r)) (sym e) j)
frame_one at (x ∷ fs) (y ∷ xs) f r h (inr i) j = frame_one at fs xs f r h.1 i j

module _ (p : ProgramText) (st : SettingsValue) (t : ℕ) (h : LeafHeapValue) (view : List Level) (count : ℕ) (s : FramesValue) (b : Begun) (news : List ChunkValue) (v : Memory) (l : Ledger) (B : CollectionHasBegun p st t h view count s b news v l) where
  abbrev V : Memory
  V = copying.V p st t h view count s b news v l B

  abbrev lt : Ledger
  lt = copying.lt p st t h view count s b news v l B

  abbrev At : Name → Addr → Type 0
  At n r = LiesWithOwner V lt n r

  belongings : (V.belongings t).chunks ≡ chunks_of h.chunks
  belongings = ap (λ (z : Belongings). z.chunks) (copying.own_belongings p st t h view count s b news v l B)

  -- where a name is read
  sound_at : (n : Name) (r : Addr) → At n r → IsSoundReference h.chunks (Some r)
  sound_at = reads.sound_at V lt (copying.stands p st t h view count s b news v l B) t (rested_worker l t) h.chunks belongings B.form.shaped.apart B.form.near

  closed : HeapIsClosed h.chunks
  closed = reads.closed V lt (copying.stands p st t h view count s b news v l B) t (rested_worker l t) h.chunks belongings B.form.shaped.apart B.form.near

  module _ (x : Task) (is : slice_get l.machine.tasks t ≡ Some x) (runs : x.status ≡ Running) (rooted : All (IsSoundReference h.chunks) (map as_reference b.roots)) where
    read : FramesAreRead At (frames_down s) (x.top ∷ x.below)
    read =
        let T : TaskIsRead At (V.belongings t) x = (copying.stands p st t h view count s b news v l B).tasks t x (rested_worker l t) (ap (λ (m : MachineState). slice_get m.tasks t) (heap_machine l t let_go) ∙ is) in
        subst (λ (z : Belongings). FramesAreRead At z.frames (x.top ∷ x.below)) (copying.own_belongings p st t h view count s b news v l B) (subst (HoldsRead At (V.belongings t) x) runs T)

    held : (r : Option Addr) → In (refs_held (frames_of s)) r → IsSoundReference h.chunks r
    held None i = tt
    held (Some r) i =
        let f = flat_in references_in (frames_of s) (Some r) i in
        let n = frame_one At (frames_down s) (x.top ∷ x.below) f.1 r read (from_stack s f.1 (got_in (frames_of s) f.0 f.1 f.2)) f.3 in
        sound_at n.0 r n.1

    root : (r : Option Addr) → In (map as_reference b.roots) r → IsSoundReference h.chunks r
    root r i = read_in (IsSoundReference h.chunks) (map as_reference b.roots) r i rooted

    pub can_copy : CanCopy h s b.roots
    can_copy = record {
      closed = closed;
      outside = all_from (IsSoundReference h.chunks) (outside s b.roots) (λ r i. elim (in_append_cases (refs_held (frames_of s)) (map as_reference b.roots) r i) [ inl j ↦ held r j | inr j ↦ root r j ]);
    }

pub begun_can_copy : BegunCanCopy
begun_can_copy p s t h view count frames b news v l x B is runs rooted = can_copy p s t h view count frames b news v l B x is runs rooted
