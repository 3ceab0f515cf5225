-- A read of an object of another task is committed.
use Rattle.remote_access.proofs.Common.{◌≡◌, ℕ, ◌+◌, ◌++◌, Some, None, List, [], ◌∷◌, slice_get, slice_set, refl, ap, sym, ◌∙◌, got_same, ReservedVecValue, Frame as ModelFrame, Object, MachineState, Task, Effect, Goes, follow, runs, EntryValue, CallFrame, Reading, ReadsOther, RunsPrivateSteps, stepped_by, FrameIsRead, frames_go, Private, SharedValue, IsSharedValue, same_form, MakesSteps, steps_world, all_kept, GoesAlone, alone_entry, AsksLast, goes_alone, last_enters, last_steps, reading, ReadsTo, then_places}
use Rattle.step_commit.proofs.LastStepEntry as last

same_frame : (f g : ModelFrame) (s r : List (List Object)) → Goes f s ≡ Goes g r → f ≡ g
same_frame f g s r e = ap frame_in e
  where
    frame_in : Effect → ModelFrame
    frame_in (Goes z store) = z
    frame_in _ = f

module _ {w : SharedValue} {k : ℕ} {p : Private} (asks : AsksLast w k p) where
  open asks use {I, F, free}
  open (last.names asks) use {t, l, M, L, v, h, S}

  -- the machine's frame afterwards is top, and the part's is g
  module _ (top : ModelFrame) (T : ReadsTo M.machine t S.task S.line top) (g : CallFrame) (is_read : FrameIsRead (then_places w p) p.frames.top S.task.top → FrameIsRead (then_places w p) g top) where
    abbrev z : Task
    z = record S.task { top = top }

    abbrev m' : MachineState
    m' = record M.machine { tasks = slice_set M.machine.tasks t z }

    machine_is : L.machine ≡ m'
    machine_is =
        last.machine_then asks
        ∙ (last.taken asks ∙ ap (follow M.machine t S.task S.line.number) T.does)

    goes_then : L.machine.end ≡ None
    goes_then = ap (λ (m : MachineState). m.end) machine_is ∙ last.mid_goes asks

    at_then : slice_get L.machine.tasks t ≡ Some z
    at_then = ap (λ (m : MachineState). slice_get m.tasks t) machine_is ∙ got_same M.machine.tasks t S.task z S.at.task

    R : ReadsOther M L t S.task S.line
    R =
        reading w.program M L t S.task S.line (last.is_not_private asks) T.name T.touches z at_then (ap runs S.at.runs) goes_then T.object T.is
        top T.reads S.kind S.last

    -- how the entry splits
    abbrev E : RunsPrivateSteps w.program w.settings l L t k p.fresh
    E = record (last.runs_so asks) { splits = record S { kind = Reading; last = R; apart = last.is_not_private asks; on = λ u. goes_then } }

    frame_is : R.frame ≡ top
    frame_is = same_frame R.frame top M.machine.store M.machine.store (sym R.does ∙ T.does)

    goes_to : L ≡ stepped_by M (record M.machine { tasks = slice_set M.machine.tasks t z })
    goes_to = R.goes ∙ ap (λ (f : ModelFrame). stepped_by M (record M.machine { tasks = slice_set M.machine.tasks t (record S.task { top = f }) })) frame_is

    module _ (j : ReservedVecValue EntryValue) where
      abbrev pub read : SharedValue
      read = record w { steps = w.steps + (p.fresh + 1); journal = record { items = w.journal.items ++ alone_entry k p ∷ []; room = j.room } }

      abbrev made : MakesSteps w read k p p.fresh
      made = record {
        enters = last_enters w read k p (record { journal = refl; program = refl; settings = refl; halted = refl });
        form = same_form I refl refl (all_kept w.pool);
        units = λ u q ne G. G.measured;
        runs = E;
        own = F.fits;
        makes = refl;
        notes = tt;
        counts = record { tree = λ u. refl; task_out = λ u. refl; outputs = refl; end = refl; used = refl; steps = last_steps w p };
      }

      pub read_world : IsSharedValue read
      read_world = steps_world I F free made

      -- its top frame has changed
      abbrev pub q : Private
      q = record p { frames = record { below = p.frames.below; top = g }; fresh = 0 }

      pub read_goes : GoesAlone w read k p q
      read_goes = goes_alone I F free made q.frames refl refl refl
          (frames_go w.program w.settings v l L t k p.fresh h E F.fits p.frames.top g p.frames.below top M.machine.outputs R.alone goes_to refl is_read)
