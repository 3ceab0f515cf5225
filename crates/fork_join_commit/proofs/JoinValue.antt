-- What the code takes and puts for a join, and the resulting shared value.
use Rattle.fork_join_commit.proofs.Common.{◌≡◌, ℕ, ◌+◌, ◌<◌, ◌++◌, false, Some, None, [], ◌∷◌, length, slice_get, slice_set, refl, ap, ap₂, sym, subst, ◌∙◌, IfSome, ReservedVecValue, EntryValue, PoolValue, FramesValue, Ended, parent_of as parent_in_tree, state_of as state_in_tree, with_state, is_left, sibling, RememberedValue, SetOf, content_at, content_of, EndedChild, AreRelabelled, JoinsSides, joined_nodes, with_results, Private, TaskSlot, ParkedTask, Calls, TaskSlotsValue, SharedValue, marks_at, rest_at, IsSharedValue, HasFrames, alone_entry, EndsChild, CanJoin, HasPlaces, RestsJoin, IsRestOf, SetsJoin, left_child_of, other_child, own_child, parent_side, right_of, sources_at}
use Rattle.fork_join_commit.proofs.JoinEntries as entry
use Rattle.fork_join_commit.proofs.ChildReturns.{AsksEnd, own_made}
use Rattle.fork_join_commit.proofs.JoinPlaces.{set_sources}
use Rattle.fork_join_commit.proofs.JoinTakes.{TaskSlotsPut, TaskSlotsTaken, above_was, beside_empty, beside_set_was, beside_was, rests_join, own_empty, parent_set, set_others, set_was, sets_many, unmarked}

-- what is taken: all that belongs to the task and its sibling, and the parked state of their parent and what is noted
-- for its heap
pub record Taken (w : SharedValue) (p : Private) (parent other : ℕ) (h h1 h2 h3 h4 : TaskSlotsValue) (slot beside : TaskSlot) (above : ParkedTask) (set : SetOf) (notes : RememberedValue) (own oth left right : EndedChild) : Type 0 where
  pub rests_are : h.rests ≡ w.rests
  pub sets_are : h.sets ≡ w.sets
  pub marks_are : h.marks ≡ w.marks
  pub task_slots : TaskSlotsTaken h h1 h2 h3 h4 p.task other parent slot beside above set
  pub notes_are : notes ≡ set.remembered
  pub own_is : own ≡ own_child p slot.set.remembered
  pub other_is : (r : ParkedTask) × IsRestOf beside.rest r × (oth ≡ other_child other r beside.set.remembered)
  pub left_is : left ≡ left_child_of (is_left own.side.task) own oth
  pub right_is : right ≡ right_of (is_left own.side.task) own oth

-- and what is put: the parked state of the parent, and what its set remembers
pub record Put (w : SharedValue) (parent : ℕ) (h4 h5 h6 : TaskSlotsValue) (notes : RememberedValue) (above : ParkedTask) (left right : EndedChild) (pool : PoolValue) (rest : ParkedTask) (noted : RememberedValue) (put : SetOf) : Type 0 where
  pub pool_is : AreRelabelled w.pool pool (left.side.heap.chunks ++ right.side.heap.chunks) parent
  pub side : JoinsSides (parent_side parent above notes) (parent_side parent rest noted) left.side right.side
  pub rest_is : (s : FramesValue) → above.work ≡ Calls s → rest ≡ record above { work = Calls (with_results s left.result right.result); heap = rest.heap }
  pub task_slots : TaskSlotsPut h4 h5 h6 parent rest put
  pub put_is : content_of put ≡ record { sources = noted.sources; kept = []; keeps = false }

module _ {w : SharedValue} {k : ℕ} {p : Private} (asks : AsksEnd w k p) (ended : state_in_tree w.tree (sibling p.task) ≡ Some Ended) (h h1 h2 h3 h4 : TaskSlotsValue) (slot beside_slot : TaskSlot) (above : ParkedTask) (set : SetOf) (notes : RememberedValue)
    (own oth left right : EndedChild) where
  open asks use {I}

  abbrev q : ℕ
  q = entry.q asks ended

  abbrev s : ℕ
  s = sibling p.task

  module _ (K : Taken w p q s h h1 h2 h3 h4 slot beside_slot above set notes own oth left right) where
    abbrev beside : ParkedTask
    beside = K.other_is.0

    abbrev own_notes : RememberedValue
    own_notes = slot.set.remembered

    abbrev other_notes : RememberedValue
    other_notes = beside_slot.set.remembered

    qt : q ≡ p.task → ⊥
    qt = entry.parent_apart asks ended

    qs : q ≡ s → ⊥
    qs = entry.parent_other asks ended

    st : s ≡ p.task → ⊥
    st = entry.other_apart asks ended

    beside_of : IsRestOf (rest_at w.rests s) beside
    beside_of = subst (λ o. IsRestOf o beside) (beside_was h h1 h2 h3 h4 p s q slot beside_slot above set K.task_slots st ∙ ap (λ xs. rest_at xs s) K.rests_are) K.other_is.1

    above_there : Some above ≡ rest_at w.rests q
    above_there = sym (above_was h h1 h2 h3 h4 p s q slot beside_slot above set K.task_slots qt qs) ∙ ap (λ xs. rest_at xs q) K.rests_are

    above_of : IsRestOf (rest_at w.rests q) above
    above_of = subst (λ o. IsRestOf o above) above_there refl

    abbrev L : EndedChild
    L = left_child_of (is_left p.task) (own_child p own_notes) (other_child s beside other_notes)

    abbrev R : EndedChild
    R = right_of (is_left p.task) (own_child p own_notes) (other_child s beside other_notes)

    left_so : left ≡ L
    left_so = K.left_is ∙ ap₂ (λ a b. left_child_of (is_left a.side.task) a b) K.own_is K.other_is.2

    right_so : right ≡ R
    right_so = K.right_is ∙ ap₂ (λ a b. right_of (is_left a.side.task) a b) K.own_is K.other_is.2

    own_sources : own_notes.sources ≡ sources_at w.sets p.task
    own_sources = set_sources w.sets p.task slot.set (ap (λ xs. slice_get xs p.task) (sym K.sets_are) ∙ K.task_slots.own_set)

    other_sources : other_notes.sources ≡ sources_at w.sets s
    other_sources = set_sources w.sets s beside_slot.set (ap (λ xs. slice_get xs s) (sym K.sets_are) ∙ beside_set_was h h1 h2 h3 h4 p s q slot beside_slot above set K.task_slots st)

    set_there : slice_get w.sets q ≡ Some set
    set_there = ap (λ xs. slice_get xs q) (sym K.sets_are) ∙ set_was h h1 h2 h3 h4 p s q slot beside_slot above set K.task_slots qt qs

    set_is : IfSome (slice_get w.sets q) (λ i. notes ≡ i.remembered)
    set_is = subst (λ o. IfSome o (λ i. notes ≡ i.remembered)) (sym set_there) K.notes_are

    own_set_sources : notes.sources ≡ sources_at w.sets q
    own_set_sources = ap (λ (n : RememberedValue). n.sources) K.notes_are ∙ set_sources w.sets q set set_there

    at_work_q : HasFrames above.work
    at_work_q = entry.at_work asks ended above beside own_notes other_notes notes above_of beside_of

    can_join_q : HasPlaces w p q → CanJoin (with_state w.tree p.task Ended) w.pool (parent_side q above notes) left right
    can_join_q places =
        subst (λ a. CanJoin (with_state w.tree p.task Ended) w.pool (parent_side q above notes) a right) (sym left_so)
        (subst (λ b. CanJoin (with_state w.tree p.task Ended) w.pool (parent_side q above notes) L b) (sym right_so)
        (entry.can_join asks ended above beside own_notes other_notes notes above_of beside_of places own_sources other_sources set_is))

    module _ (pool : PoolValue) (rest : ParkedTask) (noted : RememberedValue) (h5 h6 : TaskSlotsValue) (put : SetOf) (P : Put w q h4 h5 h6 notes above L R pool rest noted put) (j : ReservedVecValue EntryValue) where
      made_sets : (u : ℕ) → u < length w.sets → u < length h.sets
      made_sets u lt = subst (λ xs. u < length xs) (sym K.sets_are) lt

      made_rests : (u : ℕ) → u < length w.tree → u < length h.rests
      made_rests u lt = subst (λ xs. u < length xs) (sym K.rests_are) (subst (λ n. u < n) (sym I.made) lt)

      N : SetsJoin w.sets h6.sets q L.side.task (L.side.task + 1) above.heap.chunks
      N =
          entry.sets_join asks ended above beside own_notes other_notes notes above_of beside_of h6.sets rest noted P.side own_sources other_sources own_set_sources
          (sets_many h h1 h2 h3 h4 p s q slot beside_slot above set K.task_slots h5 h6 rest put P.task_slots ∙ ap (λ xs. length xs) K.sets_are)
          (own_empty h h1 h2 h3 h4 p s q slot beside_slot above set K.task_slots h5 h6 rest put P.task_slots qt st (made_sets p.task (entry.own_set asks ended)))
          (beside_empty h h1 h2 h3 h4 p s q slot beside_slot above set K.task_slots h5 h6 rest put P.task_slots qs (made_sets s (entry.other_set asks ended)))
          (parent_set h h1 h2 h3 h4 p s q slot beside_slot above set K.task_slots h5 h6 rest put P.task_slots (made_sets q (entry.parent_set asks ended)) _ P.put_is)
          (λ u nq nt ns. set_others h h1 h2 h3 h4 p s q slot beside_slot above set K.task_slots h5 h6 rest put P.task_slots u nq nt ns ∙ ap (λ xs. content_at xs u) K.sets_are)

      abbrev frames : FramesValue
      frames = entry.frames asks ended above beside own_notes other_notes notes above_of beside_of

      H : RestsJoin w.rests h6.rests p q s (with_results frames L.result R.result) rest.heap above
      H =
          subst (λ xs. RestsJoin xs h6.rests p q s (with_results frames L.result R.result) rest.heap above) K.rests_are
          (rests_join h h1 h2 h3 h4 p s q slot beside_slot above set K.task_slots h5 h6 rest put P.task_slots (with_results frames L.result R.result) rest.heap qt qs st
          (made_rests p.task (own_made asks)) (made_rests s (entry.other_made asks ended)) (made_rests q (entry.parent_made asks ended))
          (P.rest_is frames (entry.frames_are asks ended above beside own_notes other_notes notes above_of beside_of)))

      unmarked_then : (u : ℕ) → (u ≡ p.task → ⊥) → (u ≡ s → ⊥) → marks_at h6.marks u ≡ marks_at w.marks u
      unmarked_then u nt ns = unmarked h h1 h2 h3 h4 p s q slot beside_slot above set K.task_slots h5 h6 rest put P.task_slots u nt ns ∙ ap (λ ms. marks_at ms u) K.marks_are

      abbrev made_of : ℕ → EndedChild → EndedChild → SharedValue
      made_of n a b = record w {
        tree = joined_nodes (with_state w.tree p.task Ended) n a.side.task b.side.task;
        pool = pool;
        rests = h6.rests;
        sets = h6.sets;
        marks = h6.marks;
        tasks_out = slice_set w.tasks_out k None;
        steps = w.steps + (p.fresh + 1);
        journal = record { items = w.journal.items ++ alone_entry k p ∷ []; room = j.room };
      }

      made_world_q : IsSharedValue (made_of q L R)
      made_world_q =
          entry.then_world asks ended above beside own_notes other_notes notes above_of beside_of h6.rests h6.sets h6.marks unmarked_then pool rest H N P.pool_is noted P.side j

      made_joins_q : EndsChild w (made_of q L R) k p (Some q)
      made_joins_q =
          entry.then_joins asks ended above beside own_notes other_notes notes above_of beside_of h6.rests h6.sets h6.marks unmarked_then pool rest H N P.pool_is noted P.side j

    module _ (pool : PoolValue) (rest : ParkedTask) (noted : RememberedValue) (h5 h6 : TaskSlotsValue) (put : SetOf) (P : Put w q h4 h5 h6 notes above left right pool rest noted put) (j : ReservedVecValue EntryValue) where
      P' : Put w q h4 h5 h6 notes above L R pool rest noted put
      P' = subst (λ a. Put w q h4 h5 h6 notes above a R pool rest noted put) left_so (subst (λ b. Put w q h4 h5 h6 notes above left b pool rest noted put) right_so P)

      both_made_q : IsSharedValue (made_of pool rest noted h5 h6 put P' j q left right) × EndsChild w (made_of pool rest noted h5 h6 put P' j q left right) k p (Some q)
      both_made_q =
          let G : EndedChild → EndedChild → Type 0 = λ a b. IsSharedValue (made_of pool rest noted h5 h6 put P' j q a b) × EndsChild w (made_of pool rest noted h5 h6 put P' j q a b) k p (Some q) in
          subst (λ a. G a right) (sym left_so) (subst (λ b. G L b) (sym right_so) (made_world_q pool rest noted h5 h6 put P' j, made_joins_q pool rest noted h5 h6 put P' j))

-- ---- THE SAME, for the parent and the sibling as the code has them
module _ {w : SharedValue} {k : ℕ} {p : Private} (asks : AsksEnd w k p) (ended : state_in_tree w.tree (sibling p.task) ≡ Some Ended) (parent other : ℕ) (parent_is : parent_in_tree w.tree p.task ≡ Some parent) (other_is : other ≡ sibling p.task) (h h1 h2 h3 h4 : TaskSlotsValue) (slot beside : TaskSlot)
    (above : ParkedTask) (set : SetOf) (notes : RememberedValue) (own oth left right : EndedChild) where
  abbrev z : ℕ
  z = entry.q asks ended

  same_parent : z ≡ parent
  same_parent = entry.parent_is asks ended parent parent_is

  -- what holds for these two holds for those
  moved : (G : ℕ → ℕ → Type 0) → G z (sibling p.task) → G parent other
  moved G g = subst (λ n. G n other) same_parent (subst (G z) (sym other_is) g)

  abbrev K : ℕ → ℕ → Type 0
  K n o = Taken w p n o h h1 h2 h3 h4 slot beside above set notes own oth left right

  pub can_join : K parent other → HasPlaces w p parent → HasFrames above.work × CanJoin (with_state w.tree p.task Ended) w.pool (parent_side parent above notes) left right
  can_join =
      moved (λ n o. K n o → HasPlaces w p n → HasFrames above.work × CanJoin (with_state w.tree p.task Ended) w.pool (parent_side n above notes) left right)
      (λ T places. (
        at_work_q asks ended h h1 h2 h3 h4 slot beside above set notes own oth left right T,
        can_join_q asks ended h h1 h2 h3 h4 slot beside above set notes own oth left right T places,
      ))

  module _ (pool : PoolValue) (rest : ParkedTask) (noted : RememberedValue) (h5 h6 : TaskSlotsValue) (put : SetOf) (j : ReservedVecValue EntryValue) where
    abbrev pub made : ℕ → SharedValue
    made n = record w {
      tree = joined_nodes (with_state w.tree p.task Ended) n left.side.task right.side.task;
      pool = pool;
      rests = h6.rests;
      sets = h6.sets;
      marks = h6.marks;
      tasks_out = slice_set w.tasks_out k None;
      steps = w.steps + (p.fresh + 1);
      journal = record { items = w.journal.items ++ alone_entry k p ∷ []; room = j.room };
    }

    pub both_made : K parent other → Put w parent h4 h5 h6 notes above left right pool rest noted put → IsSharedValue (made parent) × EndsChild w (made parent) k p (Some parent)
    both_made =
        moved (λ n o. K n o → Put w n h4 h5 h6 notes above left right pool rest noted put → IsSharedValue (made n) × EndsChild w (made n) k p (Some n))
        (λ T P. both_made_q asks ended h h1 h2 h3 h4 slot beside above set notes own oth left right T pool rest noted h5 h6 put P j)
