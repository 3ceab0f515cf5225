-- Entries with a store into an object of another task, as the calls make them.
use Rattle.remote_access.proofs.Common.{◌≡◌, ℕ, ℤ, pos, ◌+◌, ◌<◌, ◌++◌, Option, Some, None, List, [], ◌∷◌, length, slice_get, slice_set, option_map, refl, ap, sym, subst, ◌∙◌, IsSome, slice_index_or, same_Some, slice_get-get_or, ReservedVecValue, Frame, Name, Object, Task, ref_in, EntryValue, Ledger, task_steps, touched, Addr, Cell, BeginsInFirstUnit, cell_with_int as cell_int, with_ref as cell_ref, cell_of, object_of, slot_at, owner_of as pool_owner, FramesValue, ref_of, SetOf, PointsIntoOwned, content_after, content_at, own, rested, JustReads, Splits, Belongings, Memory, gone_on, with_belongings, StoresInto, StoresNotes, LiesWithOwner, name_at, Private, born_is, born_object, ParkedTask, SharedValue, accounts, rest_at, value_of, IsSharedValue, belongings_of_part, owner_held, GoesAlone, alone_entry, AsksAlone, AsksLast, StoresNumber, IsWritable, SaysOther, TellsOther, WritesNumber, WritesReference, put_rest, store_frames, store_of, then_places}
use Rattle.step_commit.proofs.below.core_invariant.PartFitsMachine as link
use Rattle.step_commit.proofs.AloneEntries as own
use Rattle.step_commit.proofs.LastStepEntry as last
use Rattle.remote_access.proofs.ForeignObject.{IsForeign, register_at, x}
use Rattle.remote_access.proofs.OtherEntries as entries
use Rattle.remote_access.proofs.TreePaths.{made_there}
use Rattle.remote_access.proofs.StoresByCalls as stored
use Rattle.remote_access.proofs.StoreValue.{reads_address}
use Rattle.remote_access.proofs.StoreKinds.{Made, by_cas, by_putr, reads_cas, reads_puti, reads_putr}

abbrev pub flag_of : Option ℕ → Option (ℕ × ℤ)
flag_of swap = option_map (λ d. let z : ℕ × ℤ = (d, pos 1) in z) swap

store_top : (swap : Option ℕ) (s : FramesValue) → (store_frames swap s).top ≡ gone_on (flag_of swap) s.top
store_top None s = refl
store_top (Some d) s = refl

store_below : (swap : Option ℕ) (s : FramesValue) → record { below = s.below; top = (store_frames swap s).top } ≡ store_frames swap s
store_below None s = refl
store_below (Some d) s = refl

module _ {w : SharedValue} {k : ℕ} {p : Private} (asks : AsksAlone w k p) where
  open asks use {I, F}

  abbrev pub t : ℕ
  t = p.task

  abbrev pub l : Ledger
  l = accounts w

  abbrev pub M : Ledger
  M = task_steps w.program l t p.fresh

  abbrev pub h : Belongings
  h = belongings_of_part p

  abbrev pub asked : AsksLast w k p
  asked = own.asks_last asks

  abbrev pub on : l.end ≡ None
  on = last.on asked

  abbrev pub S : Splits w.program w.settings l (last.L asked) t p.fresh
  S = last.S asked

  abbrev pub X : Task
  X = x w k p I F on

  owned : (b u : ℕ) → pool_owner w.pool b ≡ Some u → u < length w.tree
  owned b u e = made_there w I on u (sym ((link.alone w k p I F on).tree.made u) ∙ (link.W w k p I F on).made b u e)

  abbrev pub place : Name → Addr → Type 0
  place = LiesWithOwner (with_belongings (value_of w) t h) (rested M t)

  placed : (n : Name) (e : Addr) → place n e → PointsIntoOwned (length w.tree) w.pool (Some e)
  placed n e P = (owner_held w.pool e.chunk (own (rested M t) n) P.chunk, λ u q. owned e.chunk u q)

  -- what a register holds may be written
  register_owned : (b : ℕ) → PointsIntoOwned (length w.tree) w.pool (ref_of p.frames.top b)
  register_owned b = register_owned_by_cases (ref_of p.frames.top b) refl
    where
      register_owned_by_cases : (r : Option Addr) → ref_of p.frames.top b ≡ r → PointsIntoOwned (length w.tree) w.pool r
      register_owned_by_cases None e = tt
      register_owned_by_cases (Some a) e = let n = reads_address place (ref_of p.frames.top b) (ref_in X.top b) a (register_at w k p I F on b) e in placed n.0 a n.2

  -- ---- REFERENCES
  module _ (swap : Option ℕ) (a : Addr) (i : ℕ) (r : Option Addr) where
    pub record IsStoreOf : Type 0 where
      pub o : ℕ
      pub j : ℕ
      pub b : ℕ
      pub writes : WritesReference M.machine t S.task S.line o j i
      pub touches : touched S.task.top S.line.instr ≡ Some writes.name
      pub at : ref_of p.frames.top o ≡ Some a
      pub value : r ≡ ref_of p.frames.top b
      pub not : (f : Frame) → JustReads S.task S.line.instr writes.object f → ⊥
      pub pack : (y : Object) (v v' : Memory) (C : StoresInto v v' M t h S.task y o j b (flag_of swap)) → StoresNotes (with_belongings v t h) (with_belongings v' t C.0) t C.4 C.1 → Made v v' M t h S.task y S.line.instr C.0

  store_is : (swap : Option ℕ) (a : Addr) (i : ℕ) (r : Option Addr) → SaysOther w.program (then_places w p) p M.machine t S.task S.line (store_of swap a i r) → IsStoreOf swap a i r
  store_is None a i r s = record {
    o = s.0;
    j = s.1;
    b = s.2;
    writes = s.5;
    touches = ap (touched S.task.top) s.3 ∙ s.5.named;
    at = s.4;
    value = s.6;
    not = λ f q. reads_putr S.task S.line.instr s.5.object f s.0 s.1 s.2 s.3 q;
    pack = λ y v v' C N. by_putr v v' M t h S.task y S.line.instr s.0 s.1 s.2 s.3 C N;
  }
  store_is (Some d) a i r s = record {
    o = s.0;
    j = s.1;
    b = s.3;
    writes = s.6;
    touches = ap (touched S.task.top) s.4 ∙ s.6.named;
    at = s.5;
    value = s.8;
    not = λ f q. reads_cas S.task S.line.instr s.6.object f d s.0 s.1 s.2 s.3 i s.4 s.6.place s.7 q;
    pack = λ y v v' C N. by_cas v v' M t h S.task y S.line.instr d s.0 s.1 s.2 s.3 s.4 C N;
  }

  module _ (swap : Option ℕ) (a : Addr) (i : ℕ) (r : Option Addr) (line : ℕ) (T : TellsOther w p (store_of swap a i r) line) where
    pub store : IsStoreOf swap a i r
    store = store_is swap a i r (entries.said asks (store_of swap a i r) line T).1

    abbrev pub n : Name
    n = store.writes.name

    abbrev pub foreign : IsForeign w (with_belongings (value_of w) t h) (rested M t) t n a
    foreign =
        stored.foreign asked n store.writes.object store.touches store.writes.is store.writes.frame store.writes.store store.writes.does store.not store.o store.writes.named a store.at

    abbrev pub owner : ℕ
    owner = own (rested M t) n

    abbrev pub cell : Cell
    cell = cell_of foreign.rest.heap.chunks a

    cell_is : object_of foreign.rest.heap.chunks a ≡ cell
    cell_is = born_object foreign.rest.heap.chunks a foreign.birth foreign.mark

    field_there : i < length (object_of foreign.rest.heap.chunks a).refs
    field_there =
        stored.field_there asked n store.writes.object store.touches store.writes.is store.writes.frame store.writes.store store.writes.does store.not store.o store.writes.named a store.at
        store.b store.j i (flag_of swap) store.writes.place store.pack (store_frames swap p.frames).top (store_top swap p.frames)

    held_owned : PointsIntoOwned (length w.tree) w.pool (slice_index_or (object_of foreign.rest.heap.chunks a).refs i None)
    held_owned = held_owned_by_cases (slice_index_or (object_of foreign.rest.heap.chunks a).refs i None) (ap (λ (q : Cell). slice_get q.refs i) (sym cell_is) ∙ slice_get-get_or (object_of foreign.rest.heap.chunks a).refs i None field_there)
      where
        held_owned_by_cases : (q : Option Addr) → slice_get cell.refs i ≡ Some q → PointsIntoOwned (length w.tree) w.pool q
        held_owned_by_cases None e = tt
        held_owned_by_cases (Some z) e = let y = name_at place cell.refs foreign.object.refs i z foreign.refs e in placed y.0 z y.2

    pub writable : IsWritable (length w.tree) w.pool w.rests a i
    writable = record {
      owner = owner;
      rest = foreign.rest;
      owns = foreign.place.chunk;
      used = owner_held w.pool a.chunk owner foreign.place.chunk;
      inside = owned a.chunk owner foreign.place.chunk;
      there = foreign.there;
      object = born_is cell.mark foreign.birth foreign.mark;
      field = field_there;
      overwritten = held_owned;
    }

    pub value_owned : PointsIntoOwned (length w.tree) w.pool r
    value_owned = subst (PointsIntoOwned (length w.tree) w.pool) (sym store.value) (register_owned store.b)

    pub value_place : BeginsInFirstUnit r
    value_place = subst BeginsInFirstUnit (sym store.value) ((own.is_safe asks).places store.b)

    abbrev pub part_after : Private
    part_after = record p { frames = store_frames swap p.frames; fresh = 0 }

    abbrev pub IsNoted : List SetOf → Option Addr → Type 0
    IsNoted sets q = (z : ℕ) → content_at sets z ≡ option_map (content_after w.tree w.pool (record { object = a; field = i }) (slice_index_or (object_of foreign.rest.heap.chunks a).refs i None) q z) (content_at w.sets z)

    abbrev pub after_store : List SetOf → Option Addr → ReservedVecValue EntryValue → SharedValue
    after_store sets q space = record w {
      rests = slice_set w.rests owner (Some (put_rest foreign.rest a (cell_ref cell i q)));
      sets = sets;
      steps = w.steps + (p.fresh + 1);
      journal = record { items = w.journal.items ++ alone_entry k p ∷ []; room = space.room };
    }

    module _ (sets : List SetOf) (many : length sets ≡ length w.sets) (C : IsNoted sets r) (space : ReservedVecValue EntryValue) where
      noted_so : IsNoted sets (ref_of p.frames.top store.b)
      noted_so = subst (IsNoted sets) store.value C

      pub store_world : IsSharedValue (after_store sets r space)
      store_world =
          subst (λ q. IsSharedValue (after_store sets q space)) (sym store.value)
          (stored.reference_world asked n store.writes.object store.touches store.writes.is store.writes.frame store.writes.store store.writes.does store.not store.o store.writes.named a store.at
          store.b store.j i (flag_of swap) store.writes.place store.pack (store_frames swap p.frames).top (store_top swap p.frames) sets many noted_so space)

      pub store_goes : GoesAlone w (after_store sets r space) k p part_after
      store_goes =
          subst (λ q. GoesAlone w (after_store sets q space) k p part_after) (sym store.value)
          (subst (λ (s : FramesValue). GoesAlone w (after_store sets (ref_of p.frames.top store.b) space) k p (record p { frames = s; fresh = 0 })) (store_below swap p.frames)
          (stored.reference_goes asked n store.writes.object store.touches store.writes.is store.writes.frame store.writes.store store.writes.does store.not store.o store.writes.named a store.at
          store.b store.j i (flag_of swap) store.writes.place store.pack (store_frames swap p.frames).top (store_top swap p.frames) sets many noted_so space))

  -- ---- NUMBERS
  module _ (a : Addr) (i : ℕ) (value : ℤ) (line : ℕ) (T : TellsOther w p (StoresNumber a i value) line) where
    abbrev pub said : SaysOther w.program (then_places w p) p M.machine t S.task S.line (StoresNumber a i value)
    said = (entries.said asks (StoresNumber a i value) line T).1

    abbrev pub writes : WritesNumber M.machine t S.task S.line said.0 said.1 i
    writes = said.5

    abbrev pub n_number : Name
    n_number = writes.name

    pub touches_number : touched S.task.top S.line.instr ≡ Some writes.name
    touches_number = ap (touched S.task.top) said.3 ∙ writes.named

    pub not_number : (f : Frame) → JustReads S.task S.line.instr writes.object f → ⊥
    not_number f q = reads_puti S.task S.line.instr writes.object f said.0 said.1 said.2 said.3 q

    abbrev pub foreign_number : IsForeign w (with_belongings (value_of w) t h) (rested M t) t n_number a
    foreign_number = stored.foreign asked writes.name writes.object touches_number writes.is writes.frame writes.store writes.does not_number said.0 writes.named a said.4

    abbrev pub owner_number : ℕ
    owner_number = own (rested M t) n_number

    same_owner : (z : ℕ) → pool_owner w.pool a.chunk ≡ Some z → z ≡ owner_number
    same_owner z e = same_Some z owner_number (sym e ∙ foreign_number.place.chunk)

    pub used_number : IsSome (slot_at w.pool a.chunk)
    used_number = owner_held w.pool a.chunk owner_number foreign_number.place.chunk

    pub there_number : (z : ℕ) → pool_owner w.pool a.chunk ≡ Some z → IsSome (rest_at w.rests z)
    there_number z e = subst (λ y. IsSome (rest_at w.rests y)) (sym (same_owner z e)) (subst IsSome (sym foreign_number.there) refl)

    pub field_number : (z : ℕ) (r : ParkedTask) → pool_owner w.pool a.chunk ≡ Some z → rest_at w.rests z ≡ Some r → i < length (object_of r.heap.chunks a).ints
    field_number z r e f =
        let is : r ≡ foreign_number.rest = same_Some r foreign_number.rest (sym f ∙ (ap (rest_at w.rests) (same_owner z e) ∙ foreign_number.there)) in
        subst (λ (q : ParkedTask). i < length (object_of q.heap.chunks a).ints) (sym is)
        (stored.number_there asked writes.name writes.object touches_number writes.is writes.frame writes.store writes.does not_number said.0 writes.named a said.4
        said.2 said.1 i writes.place said.3 (store_frames None p.frames).top (store_top None p.frames))

    abbrev pub part_number : Private
    part_number = record p { frames = store_frames None p.frames; fresh = 0 }

    abbrev pub after_number : ℤ → ReservedVecValue EntryValue → SharedValue
    after_number q space = record w {
      rests = slice_set w.rests owner_number (Some (put_rest foreign_number.rest a (cell_int (cell_of foreign_number.rest.heap.chunks a) i q)));
      steps = w.steps + (p.fresh + 1);
      journal = record { items = w.journal.items ++ alone_entry k p ∷ []; room = space.room };
    }

    pub number_world : (space : ReservedVecValue EntryValue) → IsSharedValue (after_number value space)
    number_world space =
        subst (λ q. IsSharedValue (after_number q space)) (sym said.6)
        (stored.number_world asked writes.name writes.object touches_number writes.is writes.frame writes.store writes.does not_number said.0 writes.named a said.4
        said.2 said.1 i writes.place said.3 (store_frames None p.frames).top (store_top None p.frames) space)

    pub number_goes : (space : ReservedVecValue EntryValue) → GoesAlone w (after_number value space) k p part_number
    number_goes space =
        subst (λ q. GoesAlone w (after_number q space) k p part_number) (sym said.6)
        (stored.number_goes asked writes.name writes.object touches_number writes.is writes.frame writes.store writes.does not_number said.0 writes.named a said.4
        said.2 said.1 i writes.place said.3 (store_frames None p.frames).top (store_top None p.frames) space)
