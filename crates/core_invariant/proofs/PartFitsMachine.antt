-- A part that fits the shared value fits the machine, with the addresses of the value's belongings.
use Rattle.core_invariant.proofs.Common.{◌≡◌, ℕ, ◌+◌, ◌<◌, ◌≤◌, ◌==◌, arith, Bool, true, false, cond, Option, Some, None, List, [], ◌∷◌, ◌++◌, length, nat_lt, replicate, slice_get, is_none, ◌⊎◌, inl, inr, refl, ap, sym, subst, ◌∙◌, eq-eqb, ne_eqb, option_map, cases_eq, cond-true, cond-false, eqb-true, ltb-true, false≢true, both_ways, same_Some, in_got, in_map, Frame as ModelFrame, Name, Object, Running, MachineState, object_at, is_joined, is_on_path, is_waiting, parents, run, run_from, runs, start, run_on, start_is_fork_join_state, path_along, path_le, runs_idle, runs_live, limit_from, field_limit, Ran, Heap, Ledger, heap_of, let_go, tasks_of, is_name, task_steps, tasks_are_out_once, kind_machine, machine_is_run, heap_machine, is_name_itself, same_from_is_name, machine_goes_on, wait_run, Addr, Birth, Born, Cell, cell_of, place_in, chunk_position, ChunkValue, Located, located, seen_at, CallFrame, Rests, own, LedgerIsKnown, StepsAlone, rested_worker, legal_knows, leaf_alone, Chunk, Belongings, In, Lies, Memory, as_shown, object_name, objects, objects_of_chunks, shown_at, AllRead, FrameIsRead, FramesAreRead, HoldsRead, IsModelObject, ReadsReference, TaskIsRead, BelongingsStand, LiesWithOwner, MemoryStands, FitsAt, ahead, with_belongings, belongings_own, object_kept, task_kept, in_chunk, ahead_alone, ahead_sound, noted_mutable, at_belongings, off_belongings, aside_is, Private, AreAt, FrameStands, FramesStand, NamesAddress, birth_of, name_of, FitsNow as FitsMachine, HeapStands, IsOwnObject, IsReachedByRun, IsShownBy, StackStands, ParkedTask, Work, Calls, Result, chunk_of, SharedValue, accounts, frames_down, rest_at, value_of, belongings_in, belongings_by, HeapForm, IsSharedValue, WorkerPartFits, belongings_of_part, part_of, FitsFirst, above_of, find_at}
use Rattle.refinement_laws.specs.below.hh_model.{owner_of}
use Rattle.refinement_laws.proofs.below.run_ledger.{SoundLedger}
use Rattle.core_invariant.proofs.CellsRead.{object_seen, seen_object}
use Rattle.core_invariant.proofs.Levels.{shown_found, shown_there}
use Rattle.core_invariant.proofs.BeforeTheEnd.{fits_now}
use Rattle.core_invariant.proofs.StepsEntered.{status}
use Rattle.core_invariant.proofs.StepAccounts.{After, after_all, hold_same}

-- ---- LOOKING NAMES UP

pub record IsFound (os : List Located) (n : Name) (a : Addr) : Type 0 where
  pub object : Located
  pub there : In os object
  pub name : object_name object ≡ n
  pub at : object.at ≡ a

pub found_is : (os : List Located) (n : Name) (a : Addr) → find_at os n ≡ Some a → IsFound os n a
found_is [] n a e = absurd cc
found_is (o ∷ os) n a e = found_is_by_cases (is_name (object_name o) n) refl e (found_is os n a)
  where
    found_is_by_cases : (b : Bool) → is_name (object_name o) n ≡ b → cond b (Some o.at) (find_at os n) ≡ Some a → (find_at os n ≡ Some a → IsFound os n a) → IsFound (o ∷ os) n a
    found_is_by_cases true q h go = record { object = o; there = inl refl; name = same_from_is_name (object_name o) n q; at = same_Some o.at a h }
    found_is_by_cases false q h go = let f = go h in record { object = f.object; there = inr f.there; name = f.name; at = f.at }

found_some : (os : List Located) (o : Located) → In os o → (q : Located) × In os q × (object_name q ≡ object_name o) × (find_at os (object_name o) ≡ Some q.at)
found_some [] o i = absurd i
found_some (y ∷ os) o i = found_some_by_cases (is_name (object_name y) (object_name o)) refl i (found_some os o)
  where
    found_some_by_cases : (b : Bool) → is_name (object_name y) (object_name o) ≡ b → (y ≡ o) ⊎ In os o → (In os o → (q : Located) × In os q × (object_name q ≡ object_name o) × (find_at os (object_name o) ≡ Some q.at))
        → (q : Located) × In (y ∷ os) q × (object_name q ≡ object_name o) × (cond b (Some y.at) (find_at os (object_name o)) ≡ Some q.at)
    found_some_by_cases true e j go = (y, inl refl, same_from_is_name (object_name y) (object_name o) e, refl)
    found_some_by_cases false e (inl q) go = absurd (false≢true (sym e ∙ (ap (λ (z : Located). is_name (object_name y) (object_name z)) (sym q) ∙ is_name_itself (object_name y))))
    found_some_by_cases false e (inr j) go = let r = go j in (r.0, inr r.1, r.2, r.3)

-- a name with an address is found
found_at : (ks : List Chunk) (n : Name) (a : Addr) → ((o q : Located) → In (objects_of_chunks ks) o → In (objects_of_chunks ks) q → object_name o ≡ object_name q → o ≡ q) → Lies ks n a → find_at (objects_of_chunks ks) n ≡ Some a
found_at ks n a named y =
    let f = found_some (objects_of_chunks ks) y.0 y.1 in
    let same : f.0 ≡ y.0 = named f.0 y.0 f.1 y.1 f.2 in
    ap (find_at (objects_of_chunks ks)) (sym y.2.name) ∙ (f.3 ∙ ap Some (ap (λ (z : Located). z.at) same ∙ y.2.at))

pub placed_in : (ks : List ChunkValue) (number i : ℕ) → place_in ks number ≡ Some i → (k : ChunkValue) × In ks k × (k.number ≡ number)
placed_in ks number i e = placed_in_at ks (lt (nat_lt (chunk_position ks number) (length ks)) refl e)
  where
    lt : (b : Bool) → nat_lt (chunk_position ks number) (length ks) ≡ b → cond b (Some (chunk_position ks number)) None ≡ Some i → chunk_position ks number < length ks
    lt true q h = ltb-true (chunk_position ks number) (length ks) q
    lt false q h = absurd cc

    placed_in_at : (ks : List ChunkValue) → chunk_position ks number < length ks → (k : ChunkValue) × In ks k × (k.number ≡ number)
    placed_in_at [] h = absurd (omega (arith, h))
    placed_in_at (y ∷ ys) h = placed_in_at_by_cases (y.number == number) refl h (placed_in_at ys)
      where
        placed_in_at_by_cases : (b : Bool) → (y.number == number) ≡ b → cond b 0 (1 + chunk_position ys number) < length (y ∷ ys) → (chunk_position ys number < length ys → (k : ChunkValue) × In ys k × (k.number ≡ number)) → (k : ChunkValue) × In (y ∷ ys) k × (k.number ≡ number)
        placed_in_at_by_cases true q h go = (y, inl refl, eqb-true y.number number q)
        placed_in_at_by_cases false q h go = let r = go (omega (arith, h)) in (r.0, inr r.1, r.2)

-- ---- READING

module _ (place : Name → Option Addr) where
  abbrev At : Name → Addr → Type 0
  At n a = place n ≡ Some a

  is_at : (r : Option Addr) (x : Option Name) → ReadsReference At r x → NamesAddress place x r
  is_at None None h = tt
  is_at None (Some n) h = h
  is_at (Some a) None h = h
  is_at (Some a) (Some n) h = h

  are_at : (rs : List (Option Addr)) (xs : List (Option Name)) → AllRead At rs xs → AreAt place xs rs
  are_at [] [] h = tt
  are_at [] (x ∷ xs) h = h
  are_at (r ∷ rs) [] h = h
  are_at (r ∷ rs) (x ∷ xs) h = (is_at r x h.0, are_at rs xs h.1)

  frame_stands : (f : CallFrame) (x : ModelFrame) → FrameIsRead At f x → FrameStands place x f
  frame_stands f x h = record { function = h.function; next = h.next; ints = h.ints; refs = are_at f.refs x.refs h.refs }

  frames_stand : (fs : List CallFrame) (xs : List ModelFrame) → FramesAreRead At fs xs → FramesStand place xs fs
  frames_stand [] [] h = tt
  frames_stand [] (x ∷ xs) h = h
  frames_stand (f ∷ fs) [] h = h
  frames_stand (f ∷ fs) (x ∷ xs) h = (frame_stands f x h.0, frames_stand fs xs h.1)

-- ---- THE LINK

rest_near : (o : Option ParkedTask) → ((r : ParkedTask) → o ≡ Some r → HeapForm r.heap) → (q : Located) → In (objects_of_chunks (belongings_in o).chunks) q → q.at.offset < 1024
rest_near None h q i = absurd i
rest_near (Some r) h q i = rest_near_by_cases r.work i
  where
    rest_near_by_cases : (x : Work) → In (objects_of_chunks (belongings_by r.heap r.view r.allocations x).chunks) q → q.at.offset < 1024
    rest_near_by_cases (Calls s) j = (h r refl).near q j
    rest_near_by_cases (Result n b) j = (h r refl).near q j

module _ (w : SharedValue) (k : ℕ) (p : Private) (I : IsSharedValue w) (F : WorkerPartFits w k p) (on : (accounts w).end ≡ None) where
  abbrev l : Ledger
  l = accounts w

  abbrev t : ℕ
  t = p.task

  abbrev v : Memory
  v = value_of w

  abbrev h : Belongings
  h = belongings_of_part p

  abbrev v' : Memory
  v' = with_belongings v t h

  abbrev then_ : Ledger
  then_ = task_steps w.program l t p.fresh

  abbrev L : Ledger
  L = ahead w.program (part_of w.settings p) l

  abbrev pub V : FitsAt w.program w.settings (part_of w.settings p) v l
  V = fits_now w k p F on

  pub W : MemoryStands v' L
  W = V.stands

  pub knows : LedgerIsKnown l
  knows = legal_knows w.program w.settings w.journal.items I.legal

  pub sound : SoundLedger L
  sound = ahead_sound w.program w.settings (part_of w.settings p) l knows.sound F.fits.steady

  pub alone : StepsAlone l L t
  alone = ahead_alone w.program w.settings (part_of w.settings p) l knows.sound F.fits.steady V.private

  abbrev pub goes : l.machine.end ≡ None
  goes = machine_goes_on w.program w.settings w.journal.items on

  pub A : After l then_ t F.fits.task
  A = after_all w.program w.settings t p.fresh l F.fits.task goes F.fits.is (status w k p I F on) V.private

  pub machine_is : L.machine ≡ then_.machine
  machine_is = heap_machine then_ t let_go

  pub task_is_in_machine : slice_get L.machine.tasks t ≡ Some A.task
  task_is_in_machine = ap (λ (m : MachineState). slice_get m.tasks t) machine_is ∙ A.is

  pub run_status : A.task.status ≡ Running
  run_status = A.status ∙ status w k p I F on

  pub idle : is_waiting (slice_get L.machine.tasks t) ≡ false
  idle = runs_idle A.task task_is_in_machine run_status

  pub live : is_joined (slice_get L.machine.tasks t) ≡ false
  live = runs_live A.task task_is_in_machine run_status

  pub at_rest : Rests L t
  at_rest = rested_worker then_ t

  abbrev own_belongings : v'.belongings t ≡ h
  own_belongings = at_belongings v t h

  pub off : (u : ℕ) → (u ≡ t → ⊥) → v'.belongings u ≡ v.belongings u
  off u ne = off_belongings v t h u ne

  pub own_same : (n : Name) → own L n ≡ own l n
  own_same n = alone.tree.owners n.task

  -- the worker still holds it
  pub worker_then : (heap_of then_ t).worker ≡ Some k
  worker_then = ap (λ (x : Option ℕ × Option ℕ × List Name × Bool). x.0) (hold_same (slice_get l.heaps t) (slice_get then_.heaps t) A.heap) ∙ F.out

  -- an ancestor waits, so no worker holds it
  pub rests_above : (a : ℕ) → (a ≡ t → ⊥) → is_on_path L.machine.tasks a t ≡ true → Rests l a
  rests_above a ne path = rests_above_by_cases (heap_of l a).worker refl
    where
      waiting : (b : Bool) → is_waiting (slice_get L.machine.tasks a) ≡ b → is_waiting (slice_get l.machine.tasks a) ≡ true
      waiting true e = ap is_waiting (sym (alone.tasks a ne)) ∙ e
      waiting false e = absurd (ne (leaf_alone L sound a t e live path))

      rests_above_by_cases : (o : Option ℕ) → (heap_of l a).worker ≡ o → Rests l a
      rests_above_by_cases None e = e
      rests_above_by_cases (Some u) e =
          absurd (wait_run l.machine a (waiting (is_waiting (slice_get L.machine.tasks a)) refl) ((tasks_are_out_once w.program w.settings w.journal.items I.legal).runs on a u e))

  pub rests_then : (a : ℕ) → (a ≡ t → ⊥) → Rests l a → Rests L a
  rests_then a ne r = ap (λ (z : Heap). z.worker) (alone.heaps a ne) ∙ r

  abbrev above : Name → Option Addr
  above = above_of v l t

  abbrev place : Name → Option Addr
  place n = cond (own l n == t) (find_at (objects_of_chunks h.chunks) n) (above n)

  place_own : (n : Name) → own l n ≡ t → place n ≡ find_at (objects_of_chunks h.chunks) n
  place_own n e = cond-true (own l n == t) (find_at (objects_of_chunks h.chunks) n) (above n) (eq-eqb (own l n) t e)

  place_off : (n : Name) → (own l n ≡ t → ⊥) → place n ≡ above n
  place_off n ne = cond-false (own l n == t) (find_at (objects_of_chunks h.chunks) n) (above n) (ne_eqb (own l n) t ne)

  pub above_rests : (n : Name) → (own l n ≡ t → ⊥) → Rests l (own l n) → above n ≡ find_at (objects v (own l n)) n
  above_rests n ne r =
      cond-false (own l n == t) None (cond (is_none (heap_of l (own l n)).worker) (find_at (objects v (own l n)) n) None) (ne_eqb (own l n) t ne)
      ∙ cond-true (is_none (heap_of l (own l n)).worker) (find_at (objects v (own l n)) n) None (ap is_none r)

  -- what the map gives
  pub above_tells : (n : Name) (a : Addr) → above n ≡ Some a → (own l n ≡ t → ⊥) × Rests l (own l n) × (find_at (objects v (own l n)) n ≡ Some a)
  above_tells n a e = above_tells_by_cases (own l n == t) refl (heap_of l (own l n)).worker refl e
    where
      above_tells_by_cases : (b : Bool) → (own l n == t) ≡ b → (o : Option ℕ) → (heap_of l (own l n)).worker ≡ o → cond b None (cond (is_none o) (find_at (objects v (own l n)) n) None) ≡ Some a
          → (own l n ≡ t → ⊥) × Rests l (own l n) × (find_at (objects v (own l n)) n ≡ Some a)
      above_tells_by_cases true q o r g = absurd cc
      above_tells_by_cases false q (Some u) r g = absurd cc
      above_tells_by_cases false q None r g = ((λ z. false≢true (sym q ∙ eq-eqb (own l n) t z)), r, g)

  named_here : (o q : Located) → In (objects_of_chunks h.chunks) o → In (objects_of_chunks h.chunks) q → object_name o ≡ object_name q → o ≡ q
  named_here o q i j e = (W.belongings t at_rest).named o q (subst (λ (z : Belongings). In (objects_of_chunks z.chunks) o) (sym own_belongings) i) (subst (λ (z : Belongings). In (objects_of_chunks z.chunks) q) (sym own_belongings) j) e

  belongings_off : (a : ℕ) → (a ≡ t → ⊥) → Rests l a → BelongingsStand v' L a
  belongings_off a ne r = W.belongings a (rests_then a ne r)

  pub named_off : (a : ℕ) → (a ≡ t → ⊥) → Rests l a → (o q : Located) → In (objects v a) o → In (objects v a) q → object_name o ≡ object_name q → o ≡ q
  named_off a ne r o q i j e = (belongings_off a ne r).named o q (subst (λ (z : Belongings). In (objects_of_chunks z.chunks) o) (sym (off a ne)) i) (subst (λ (z : Belongings). In (objects_of_chunks z.chunks) q) (sym (off a ne)) j) e

  -- a name of the path is at its address by the map
  place_is : (n : Name) (a : Addr) → is_on_path L.machine.tasks (own L n) t ≡ true → LiesWithOwner v' L n a → place n ≡ Some a
  place_is n a path P = elim (cases_eq (own l n) t) [
    | inl e ↦
        let e' : own L n ≡ t = own_same n ∙ e in
        let lies : Lies h.chunks n a = subst (λ (z : Belongings). Lies z.chunks n a) own_belongings (subst (λ u. Lies (v'.belongings u).chunks n a) e' (P.here (subst (Rests L) (sym e') at_rest))) in
        place_own n e ∙ found_at h.chunks n a named_here lies
    | inr ne ↦
        let ne' : own L n ≡ t → ⊥ = λ z. ne (sym (own_same n) ∙ z) in
        let r : Rests l (own l n) = subst (Rests l) (own_same n) (rests_above (own L n) ne' path) in
        let lies : Lies (v.belongings (own l n)).chunks n a = subst (λ (z : Belongings). Lies z.chunks n a) (off (own l n) ne) (subst (λ u. Lies (v'.belongings u).chunks n a) (own_same n) (P.here (rests_then (own L n) ne' (rests_above (own L n) ne' path)))) in
        place_off n ne ∙ (above_rests n ne r ∙ found_at (v.belongings (own l n)).chunks n a (named_off (own l n) ne r) lies)
  ]

  -- FRAMES
  task_at : TaskIsRead (At place) (v'.belongings t) A.task
  task_at = task_kept (LiesWithOwner v' L) (At place) (v'.belongings t) A.task (λ n i a P. place_is n a (sound.apart.of_task t A.task n task_is_in_machine i).1 P) (W.tasks t A.task at_rest task_is_in_machine)

  frames_at : FramesAreRead (At place) (frames_down p.frames) (A.task.top ∷ A.task.below)
  frames_at = subst (λ (z : Belongings). FramesAreRead (At place) z.frames (A.task.top ∷ A.task.below)) own_belongings (subst (HoldsRead (At place) (v'.belongings t) A.task) run_status task_at)

  stack : StackStands place A.task p.frames
  stack = record { top = frame_stands place p.frames.top A.task.top frames_at.0; below = frames_stand place p.frames.below A.task.below frames_at.1 }

  -- OBJECTS
  in_here : (o : Located) → In (objects_of_chunks h.chunks) o → In (objects v' t) o
  in_here o i = subst (λ (z : Belongings). In (objects_of_chunks z.chunks) o) (sym own_belongings) i

  -- a reference of an own object goes up or inside
  refs_up : (o : Located) (x : Object) → In (objects v' t) o → object_at L.machine.store (object_name o) ≡ Some x → (n : Name) → In x.refs (Some n) → is_on_path L.machine.tasks (own L n) t ≡ true
  refs_up o x i e n j =
      let at = in_got x.refs (Some n) j in
      elim (W.remembered t o x at.0 n at_rest i e at.1) [
        | inl path ↦ path
        | inr s ↦
            let S = W.sources (own L n) _ s in
            let c = in_chunk (v'.belongings t).chunks o i in
            let owner : v'.owner o.at.chunk ≡ Some t = ap v'.owner ((W.belongings t at_rest).inside c.0 o c.1 c.2) ∙ (W.belongings t at_rest).owned c.0 c.1 in
            let same : own L S.name ≡ t = same_Some (own L S.name) t (sym S.place.chunk ∙ owner) in
            absurd (both_ways (is_waiting (slice_get L.machine.tasks t)) idle (ap (λ z. is_waiting (slice_get L.machine.tasks z)) (sym same) ∙ S.waits))
      ]

  object_is : (o : Located) → In (objects_of_chunks h.chunks) o → (x : Object) × (object_at L.machine.store (object_name o) ≡ Some x) × IsModelObject (At place) o x
  object_is o i =
      let c = W.contents t o at_rest (in_here o i) in
      (c.0, c.1, object_kept (LiesWithOwner v' L) (At place) o c.0 (λ n j a P. place_is n a (refs_up o c.0 (in_here o i) c.1 n j) P) c.2)

  own_here : (o : Located) → In (objects_of_chunks h.chunks) o → own L (object_name o) ≡ t
  own_here o i = belongings_own v' L sound t (W.belongings t at_rest) o (in_here o i)

  cell_is_own : (a : Addr) (b : Birth) → (cell_of p.heap.chunks a).mark ≡ Born b → IsOwnObject place (owner_of L.machine.tasks) t L.machine.store (name_of b) a (cell_of p.heap.chunks a)
  cell_is_own a b e =
      let o : Located = located a.chunk a.offset b (cell_of p.heap.chunks a) in
      let i : In (objects_of_chunks h.chunks) o = object_seen p.heap.chunks a b e in
      let x = object_is o i in
      let owned : own L (object_name o) ≡ t = own_here o i in
      record {
        owned = owned;
        placed = place_own (name_of b) (sym (own_same (object_name o)) ∙ owned) ∙ found_at h.chunks (name_of b) a named_here (o, i, record { name = refl; at = refl });
        object = x.0;
        is = x.1;
        stands = record { mutable = x.2.mutable; refs = are_at place (cell_of p.heap.chunks a).refs x.0.refs x.2.refs; ints = x.2.ints };
      }

  born_there : (n : Name) (a : Addr) → owner_of L.machine.tasks n.task ≡ t → place n ≡ Some a → (cell_of p.heap.chunks a).mark ≡ Born (birth_of n)
  born_there n a e q =
      let f = found_is (objects_of_chunks h.chunks) n a (sym (place_own n (sym (own_same n) ∙ e)) ∙ q) in
      let y = seen_object p.heap.chunks f.object F.form.shaped.apart f.there in
      ap (λ z. (cell_of p.heap.chunks z).mark) (sym f.at) ∙ (y.mark ∙ ap (λ m. Born (birth_of m)) f.name)

  -- if the map has a name, its chunk is its owner's
  pub above_chunk : (n : Name) (a : Addr) → (own l n ≡ t → ⊥) → (r : Rests l (own l n)) → (o : Located) → In (objects v (own l n)) o → o.at ≡ a → v.owner a.chunk ≡ Some (own l n)
  above_chunk n a ne r o i q =
      let H = belongings_off (own l n) ne r in
      let c = in_chunk (v'.belongings (own l n)).chunks o (subst (λ (z : Belongings). In (objects_of_chunks z.chunks) o) (sym (off (own l n) ne)) i) in
      ap (λ (z : Addr). v.owner z.chunk) (sym q) ∙ (ap v.owner (H.inside c.0 o c.1 c.2) ∙ H.owned c.0 c.1)

  once : (n m : Name) (a : Addr) → above n ≡ Some a → above m ≡ Some a → n ≡ m
  once n m a en em =
      let x = above_tells n a en in
      let y = above_tells m a em in
      let f = found_is (objects v (own l n)) n a x.2 in
      let g = found_is (objects v (own l m)) m a y.2 in
      let same : own l m ≡ own l n = same_Some (own l m) (own l n) (sym (above_chunk m a y.0 y.1 g.object g.there g.at) ∙ above_chunk n a x.0 x.1 f.object f.there f.at) in
      let H = belongings_off (own l n) x.0 x.1 in
      let i = subst (λ (z : Belongings). In (objects_of_chunks z.chunks) f.object) (sym (off (own l n) x.0)) f.there in
      let j = subst (λ (z : Belongings). In (objects_of_chunks z.chunks) g.object) (sym (off (own l n) x.0)) (subst (λ u. In (objects v u) g.object) same g.there) in
      let o : f.object ≡ g.object = H.once f.object g.object i j (f.at ∙ sym g.at) in
      sym f.name ∙ (ap object_name o ∙ g.name)

  apart : (n : Name) (a : Addr) → above n ≡ Some a → place_in p.heap.chunks a.chunk ≡ None
  apart n a e = apart_by_cases (place_in p.heap.chunks a.chunk) refl
    where
      apart_by_cases : (o : Option ℕ) → place_in p.heap.chunks a.chunk ≡ o → place_in p.heap.chunks a.chunk ≡ None
      apart_by_cases None q = q
      apart_by_cases (Some i) q =
          let x = above_tells n a e in
          let f = found_is (objects v (own l n)) n a x.2 in
          let c = placed_in p.heap.chunks a.chunk i q in
          let there : In (v'.belongings t).chunks (chunk_of c.0) = subst (λ (z : Belongings). In z.chunks (chunk_of c.0)) (sym own_belongings) (in_map chunk_of p.heap.chunks c.0 c.1) in
          let mine : v.owner a.chunk ≡ Some t = ap v.owner (sym c.2) ∙ (W.belongings t at_rest).owned (chunk_of c.0) there in
          absurd (x.0 (same_Some (own l n) t (sym (above_chunk n a x.0 x.1 f.object f.there f.at) ∙ mine)))

  within : (n : Name) (a : Addr) → place n ≡ Some a → a.offset < 1024
  within n a e = elim (cases_eq (own l n) t) [
    | inl q ↦
        let f = found_is (objects_of_chunks h.chunks) n a (sym (place_own n q) ∙ e) in
        subst (λ (z : Addr). z.offset < 1024) f.at (F.form.near f.object f.there)
    | inr ne ↦
        let x = above_tells n a (sym (place_off n ne) ∙ e) in
        let f = found_is (objects v (own l n)) n a x.2 in
        subst (λ (z : Addr). z.offset < 1024) f.at (rest_near (rest_at w.rests (own l n)) (λ r e. I.heaps (own l n) r e) f.object f.there)
  ]

  heap : HeapStands place (owner_of L.machine.tasks) t L.machine.store p.heap.chunks above
  heap = record {
    objects = cell_is_own;
    own = born_there;
    others = λ n ne. place_off n (λ z. ne (own_same n ∙ z));
    once = once;
    apart = apart;
    within = within;
  }

  -- WHAT THE VIEW SHOWS
  module _ (n : Name) (a : Addr) (there : above n ≡ Some a) (path : is_on_path L.machine.tasks (own L n) t ≡ true) where
    abbrev u : ℕ
    u = own l n

    tells : (u ≡ t → ⊥) × Rests l u × (find_at (objects v u) n ≡ Some a)
    tells = above_tells n a there

    found : IsFound (objects v u) n a
    found = found_is (objects v u) n a tells.2

    abbrev q : Located
    q = found.object

    in_then : In (objects v' u) q
    in_then = subst (λ (z : Belongings). In (objects_of_chunks z.chunks) q) (sym (off u tells.0)) found.there

    rest_then : Rests L u
    rest_then = rests_then u tells.0 tells.1

    above_now : is_on_path L.machine.tasks u t ≡ true
    above_now = ap (λ z. is_on_path L.machine.tasks z t) (sym (own_same n)) ∙ path

    view_shows : option_map (shown_there a) (seen_at p.view a) ≡ as_shown q
    view_shows =
        sym (shown_found p.view a)
        ∙ (ap (λ (z : Belongings). shown_at z.view a) (sym own_belongings) ∙ (ap (shown_at (v'.belongings t).view) (sym found.at) ∙ W.views t at_rest live u q above_now tells.0 rest_then in_then))

    read : (x : Object) × (object_at L.machine.store (object_name q) ≡ Some x) × IsModelObject (LiesWithOwner v' L) q x
    read = W.contents u q rest_then in_then

    -- an immutable object refers only up, so to what others own
    ref_up : q.mutable ≡ false → (k : Name) → In read.0.refs (Some k) → is_on_path L.machine.tasks (own L k) u ≡ true
    ref_up frozen k j =
        let at = in_got read.0.refs (Some k) j in
        elim (W.remembered u q read.0 at.0 k rest_then in_then read.1 at.1) [
          | inl up ↦ up
          | inr s ↦ absurd (both_ways q.mutable frozen (noted_mutable v' L (own L k) u q _ W in_then rest_then s refl))
        ]

    ref_placed : q.mutable ≡ false → (k : Name) → In read.0.refs (Some k) → (b : Addr) → LiesWithOwner v' L k b → above k ≡ Some b
    ref_placed frozen k j b P =
        let up = ref_up frozen k j in
        let on : is_on_path L.machine.tasks (own L k) t ≡ true = path_along (parents L.machine.tasks) sound.fork_join.tree.low (own L k) u t up above_now in
        let over : own L k ≤ u = path_le (parents L.machine.tasks) sound.fork_join.tree.low u (own L k) u up in
        let under : u ≤ t = path_le (parents L.machine.tasks) sound.fork_join.tree.low t u t above_now in
        let ne : own l k ≡ t → ⊥ = λ e. (let e' : own L k ≡ t = own_same k ∙ e in tells.0 (omega (arith, e', over, under))) in
        sym (place_off k ne) ∙ place_is k b on P

    shown_by : (o : Object) → read.0 ≡ o → (c : Option Cell) (b : Bool) → q.mutable ≡ b → option_map (shown_there a) c ≡ cond b None (Some q) → IsShownBy above o c
    shown_by o e None true m s = ap (λ (z : Object). z.mutable) (sym e) ∙ (sym read.2.mutable ∙ m)
    shown_by o e None false m s = absurd cc
    shown_by o e (Some c) true m s = absurd cc
    shown_by o e (Some c) false m s =
        let is : shown_there a c ≡ q = same_Some (shown_there a c) q s in
        let refs : AreAt above read.0.refs q.refs = are_at above q.refs read.0.refs (object_kept (LiesWithOwner v' L) (At above) q read.0 (λ k j b P. ref_placed m k j b P) read.2).refs in (
          ap (λ (z : Object). z.mutable) (sym e) ∙ (sym read.2.mutable ∙ m),
          record {
            mutable = ap (λ (z : Located). z.mutable) is ∙ (read.2.mutable ∙ ap (λ (z : Object). z.mutable) e);
            refs = subst (λ (z : Object). AreAt above z.refs c.refs) e (subst (λ (z : Located). AreAt above read.0.refs z.refs) (sym is) refs);
            ints = ap (λ (z : Located). z.ints) is ∙ (read.2.ints ∙ ap (λ (z : Object). z.ints) e);
          },
        )

    shows : (o : Object) → object_at L.machine.store n ≡ Some o → IsShownBy above o (seen_at p.view a)
    shows o e = shown_by o (same_Some read.0 o (sym read.1 ∙ (ap (object_at L.machine.store) found.name ∙ e))) (seen_at p.view a) q.mutable refl view_shows

  -- THE MACHINE
  started : l.machine ≡ run w.program (field_limit w.settings.version) (tasks_of w.journal.items)
  started = machine_is_run w.program w.settings w.journal.items

  pub limit : l.machine.field_limit ≡ field_limit w.settings.version
  limit = ap (λ (m : MachineState). m.field_limit) started ∙ limit_from w.program (start w.program (field_limit w.settings.version)) (tasks_of w.journal.items) (start_is_fork_join_state w.program (field_limit w.settings.version))

  reached : IsReachedByRun w.program L.machine
  reached = (
    field_limit w.settings.version,
    tasks_of w.journal.items ++ replicate p.fresh t,
    machine_is
        ∙ (kind_machine w.program w.settings l k (Ran t p.fresh)
        ∙ (ap (λ (m : MachineState). run_from w.program m (replicate p.fresh t)) started
        ∙ sym (run_on w.program (tasks_of w.journal.items) (replicate p.fresh t) (start w.program (field_limit w.settings.version))))),
  )

  pub first_fits : FitsMachine w.program p L.machine above
  first_fits = record {
    reached = reached;
    going = ap (λ (m : MachineState). m.end) machine_is ∙ (A.goes ∙ goes);
    task = A.task;
    is = task_is_in_machine;
    running = ap runs run_status;
    limit = F.field_limit ∙ sym (ap (λ (m : MachineState). m.field_limit) machine_is ∙ (A.limit ∙ limit));
    count = ap (λ (z : Belongings). z.count) (sym own_belongings) ∙ (W.belongings t at_rest).count live;
    place = place;
    stack = stack;
    heap = heap;
    shape = F.form.shaped;
    shown = λ n a o there path ne e. shows n a there path o e;
  }

  -- THE SECOND FITS GIVES THE FIRST
  pub second_gives_first : FitsFirst w p
  second_gives_first = subst (λ (z : Ledger). FitsMachine w.program p (ahead w.program (part_of w.settings p) z).machine above) (sym (aside_is l goes)) first_fits
