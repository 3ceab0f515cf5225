-- Stores into objects of other tasks, as the calls make them.
use Rattle.remote_access.proofs.Common.{◌≡◌, ℕ, ℤ, ◌<◌, Option, Some, None, List, length, slice_get, slice_set, option_map, refl, ap, sym, subst, ◌∙◌, slice_index_or, same_Some, slice_get-get_or, got_same, ReservedVecValue, Instr, Puti, Frame as ModelFrame, Name, Object, MachineState, Task, Goes, effect, int_in, object_at, place_in, ref_in, follow, runs, setting, place_within, EntryValue, touched, Addr, Cell, size_of, cell_with_int as cell_int, with_ref as cell_ref, cell_of, object_of, CallFrame, int_of, ref_of, SetOf, content_after, content_at, own, rested, JustReads, WritesOther, Belongings, Memory, StoresAt, gone_on, with_field, with_int_field as number_field, with_belongings, StoresInto, StoresNotes, Private, born_object, ParkedTask, SharedValue, value_of, IsSharedValue, belongings_of_part, refs_long, GoesAlone, AsksLast, same_object, writing}
use Rattle.step_commit.specs.below.hh_model.{owner_of}
use Rattle.step_commit.proofs.below.core_invariant.PartFitsMachine as link
use Rattle.step_commit.proofs.LastStepEntry as last
use Rattle.remote_access.proofs.ForeignObject.{IsForeign, in_register, x}
use Rattle.remote_access.proofs.ObjectWritten as other
use Rattle.remote_access.proofs.StoreValue as stores
use Rattle.remote_access.proofs.WriteEntered as written
use Rattle.remote_access.proofs.StoreKinds.{Made}

module _ {w : SharedValue} {k : ℕ} {p : Private} (asks : AsksLast w k p) where
  open asks use {I, F}
  open (last.names asks) use {t, l, M, L, h, S}

  abbrev pub on : l.end ≡ None
  on = last.on asks

  abbrev pub X : Task
  X = x w k p I F on

  task_is : X ≡ S.task
  task_is = same_Some X S.task (sym (link.A w k p I F on).is ∙ S.at.task)

  -- the step works on the object n, and goes on with this frame and store
  module _ (n : Name) (y : Object) (touches : touched S.task.top S.line.instr ≡ Some n) (is : object_at M.machine.store n ≡ Some y) (frame : ModelFrame) (store : List (List Object)) (does : effect (setting M.machine t S.task) S.task.top M.machine.store S.line.instr ≡ Goes frame store)
      (not : (f : ModelFrame) → JustReads S.task S.line.instr y f → ⊥) where
    abbrev z : Task
    z = record S.task { top = frame }

    machine_is : L.machine ≡ record M.machine { tasks = slice_set M.machine.tasks t z; store = store }
    machine_is = last.machine_then asks ∙ (last.taken asks ∙ ap (follow M.machine t S.task S.line.number) does)

    at_then : slice_get L.machine.tasks t ≡ Some z
    at_then = ap (λ (m : MachineState). slice_get m.tasks t) machine_is ∙ got_same M.machine.tasks t S.task z S.at.task

    goes_then : L.machine.end ≡ None
    goes_then = ap (λ (m : MachineState). m.end) machine_is ∙ last.mid_goes asks

    pub K : WritesOther M L t S.task S.line
    K =
        writing w.program M L t S.task S.line (last.is_not_private asks) n touches z at_then (ap runs S.at.runs) goes_then y is
        not S.kind S.last

    pub object_is : y ≡ K.object
    object_is = same_object w.program M L t S.task S.line (last.is_not_private asks) n touches z at_then (ap runs S.at.runs) goes_then y is K

    apart : own (rested M t) n ≡ t → ⊥
    apart e = K.foreign (ap (λ (r : Name). owner_of M.machine.tasks r.task) (sym (same_Some n K.name (sym touches ∙ K.touches))) ∙ (ap (λ (m : MachineState). owner_of m.tasks n.task) (sym (link.machine_is w k p I F on)) ∙ e))

    -- the object in the register o
    module _ (o : ℕ) (named : ref_in S.task.top o ≡ Some n) (a : Addr) (at_a : ref_of p.frames.top o ≡ Some a) where
      pub held : ref_in X.top o ≡ Some n
      held = ap (λ (q : Task). ref_in q.top o) task_is ∙ named

      pub foreign : IsForeign w (with_belongings (value_of w) t h) (rested M t) t n a
      foreign =
          let r = in_register w k p I F on o n held apart in
          subst (IsForeign w (with_belongings (value_of w) t h) (rested M t) t n) (same_Some r.0 a (sym r.1 ∙ at_a)) r.2

      same_foreign : foreign.object ≡ y
      same_foreign = same_Some foreign.object y (sym foreign.is ∙ (ap (λ (m : MachineState). object_at m.store n) (link.machine_is w k p I F on) ∙ is))

      pub refs_many : length (cell_of foreign.rest.heap.chunks a).refs ≡ length y.refs
      refs_many = refs_long _ (cell_of foreign.rest.heap.chunks a).refs foreign.object.refs foreign.refs ∙ ap (λ (q : Object). length q.refs) same_foreign

      pub ints_many : length (cell_of foreign.rest.heap.chunks a).ints ≡ length y.ints
      ints_many = ap length foreign.ints ∙ ap (λ (q : Object). length q.ints) same_foreign

      -- ---- A REFERENCE, from the register b, into the field i, whose number is in the register j
      module _ (b j i : ℕ) (swap : Option (ℕ × ℤ)) (place : place_in (length y.refs) (int_in S.task.top j) ≡ Some i)
          (pack : (y' : Object) (v v' : Memory) (C : StoresInto v v' M t h S.task y' o j b swap) → StoresNotes (with_belongings v t h) (with_belongings v' t C.0) t C.4 C.1 → Made v v' M t h S.task y' S.line.instr C.0)
          (top : CallFrame) (goes : top ≡ gone_on swap p.frames.top) where
        abbrev pub rest : ParkedTask
        rest = foreign.rest

        abbrev pub cell : Cell
        cell = cell_of rest.heap.chunks a

        object_same : object_of rest.heap.chunks a ≡ cell
        object_same = born_object rest.heap.chunks a foreign.birth foreign.mark

        abbrev pub overwritten : Option Addr
        overwritten = slice_index_or (object_of rest.heap.chunks a).refs i None

        pub field_there : i < length (object_of rest.heap.chunks a).refs
        field_there =
            let lt : i < length y.refs = place_within (length y.refs) (int_in S.task.top j) i place in
            subst (λ m. i < m) (sym (ap (λ (q : Cell). length q.refs) object_same ∙ refs_many)) lt

        was : slice_get cell.refs i ≡ Some overwritten
        was = ap (λ (q : Cell). slice_get q.refs i) (sym object_same) ∙ slice_get-get_or (object_of rest.heap.chunks a).refs i None field_there

        abbrev value : Option Addr
        value = ref_of p.frames.top b

        module _ (sets : List SetOf) (many : length sets ≡ length w.sets) (C : (q : ℕ) → content_at sets q ≡ option_map (content_after w.tree w.pool (record { object = a; field = i }) overwritten value q) (content_at w.sets q)) where
          abbrev d : Cell
          d = cell_ref cell i value

          pub size : size_of d ≡ size_of cell
          size = stores.size w k p I F on n a foreign o held at_a b i swap overwritten was sets C top goes

          abbrev v0 : Memory
          v0 = written.v0 asks

          abbrev v1 : Memory
          v1 = other.v1 w k p I F on n a foreign d refl size (with_field i value) (λ m e birth. refl) sets top

          abbrev q : Private
          q = record p { frames = record { below = p.frames.below; top = top }; fresh = 0 }

          abbrev g : Belongings
          g = belongings_of_part q

          store_is_at : StoresAt (with_belongings v0 t h) (with_belongings v1 t g) (rested M t) t p.frames.top p.frames.below a b i swap
          store_is_at = stores.stores_at w k p I F on n a foreign o held at_a b i swap overwritten was sets C top goes

          pub made : Made v0 v1 M t h S.task K.object S.line.instr g
          made =
              pack K.object v0 v1
              (g, i, p.frames.top, p.frames.below, a, subst (λ (q : Object). place_in (length q.refs) (int_in S.task.top j) ≡ Some i) object_is place, store_is_at, at_a)
              (stores.stores_notes w k p I F on n a foreign o held at_a b i swap overwritten was sets C top goes)

          module _ (space : ReservedVecValue EntryValue) where
            pub reference_world : IsSharedValue (written.w' asks n a foreign d refl size (with_field i value) (λ m e birth. refl) sets many top K made.0 made.1 made.2 space)
            reference_world = written.written_world asks n a foreign d refl size (with_field i value) (λ m e birth. refl) sets many top K made.0 made.1 made.2 space

            pub reference_goes : GoesAlone w (written.w' asks n a foreign d refl size (with_field i value) (λ m e birth. refl) sets many top K made.0 made.1 made.2 space) k p q
            reference_goes = written.written_goes asks n a foreign d refl size (with_field i value) (λ m e birth. refl) sets many top K made.0 made.1 made.2 space

      -- ---- A NUMBER, from the register b, into the field i, whose number is in the register j
      module _ (b j i : ℕ) (place : place_in (length y.ints) (int_in S.task.top j) ≡ Some i) (by : S.line.instr ≡ Puti o j b) (top : CallFrame) (goes : top ≡ gone_on None p.frames.top) where
        abbrev rest_n : ParkedTask
        rest_n = foreign.rest

        abbrev cell_n : Cell
        cell_n = cell_of rest_n.heap.chunks a

        same_n : object_of rest_n.heap.chunks a ≡ cell_n
        same_n = born_object rest_n.heap.chunks a foreign.birth foreign.mark

        pub number_there : i < length (object_of rest_n.heap.chunks a).ints
        number_there =
            let lt : i < length y.ints = place_within (length y.ints) (int_in S.task.top j) i place in
            subst (λ m. i < m) (sym (ap (λ (q : Cell). length q.ints) same_n ∙ ints_many)) lt

        abbrev number : ℤ
        number = int_of p.frames.top b

        abbrev d_n : Cell
        d_n = cell_int cell_n i number

        pub size_n : size_of d_n ≡ size_of cell_n
        size_n = stores.size_number w k p I F on n a foreign o held at_a b i top goes

        abbrev v0_n : Memory
        v0_n = written.v0 asks

        abbrev v1_n : Memory
        v1_n = other.v1 w k p I F on n a foreign d_n refl size_n (number_field i number) (λ m e birth. refl) w.sets top

        abbrev q_n : Private
        q_n = record p { frames = record { below = p.frames.below; top = top }; fresh = 0 }

        abbrev g_n : Belongings
        g_n = belongings_of_part q_n

        pub made_n : Made v0_n v1_n M t h S.task K.object S.line.instr g_n
        made_n =
            subst (λ (e : Instr). Made v0_n v1_n M t h S.task K.object e g_n) (sym by) (
              (g_n, i, p.frames.top, p.frames.below, a, subst (λ (q : Object). place_in (length q.ints) (int_in S.task.top j) ≡ Some i) object_is place, stores.stores_number w k p I F on n a foreign o held at_a b i top goes, at_a),
              stores.number_notes w k p I F on n a foreign o held at_a b i top goes,
              refl,
            )

        module _ (space : ReservedVecValue EntryValue) where
          pub number_world : IsSharedValue (written.w' asks n a foreign d_n refl size_n (number_field i number) (λ m e birth. refl) w.sets refl top K made_n.0 made_n.1 made_n.2 space)
          number_world = written.written_world asks n a foreign d_n refl size_n (number_field i number) (λ m e birth. refl) w.sets refl top K made_n.0 made_n.1 made_n.2 space

          pub number_goes : GoesAlone w (written.w' asks n a foreign d_n refl size_n (number_field i number) (λ m e birth. refl) w.sets refl top K made_n.0 made_n.1 made_n.2 space) k p q_n
          number_goes = written.written_goes asks n a foreign d_n refl size_n (number_field i number) (λ m e birth. refl) w.sets refl top K made_n.0 made_n.1 made_n.2 space
