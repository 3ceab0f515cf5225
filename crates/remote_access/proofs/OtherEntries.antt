-- Entries of a part's fresh steps and one that works on an object of another task, as the calls make them.
use Rattle.remote_access.proofs.Common.{◌≡◌, ℕ, ℤ, ◌+◌, ◌++◌, Option, Some, ◌∷◌, [], ap, sym, subst, ◌∙◌, same_Some, ReservedVecValue, Line, Name, Task, onward, fetched, EntryValue, Ledger, task_steps, Addr, with_next, with_reference, Splits, FrameIsRead, all_set, goes_on, Private, SharedValue, accounts, IsSharedValue, GoesAlone, alone_entry, AsksAlone, AsksLast, OtherStep, SetsNumber, SetsReference, SaysOther, TellsOther, then_places}
use Rattle.step_commit.specs.below.hh_model.{with_int, with_ref}
use Rattle.step_commit.specs.below.task_frames.{frames_with_int as with_number}
use Rattle.step_commit.proofs.AloneEntries as own
use Rattle.step_commit.proofs.LastStepEntry as last
use Rattle.remote_access.proofs.ReadEntered.{read_goes, read_world}

module _ {w : SharedValue} {k : ℕ} {p : Private} (asks : AsksAlone w k p) where
  abbrev pub asked : AsksLast w k p
  asked = own.asks_last asks

  abbrev pub t : ℕ
  t = p.task

  abbrev pub M : Ledger
  M = task_steps w.program (accounts w) t p.fresh

  abbrev pub S : Splits w.program w.settings (accounts w) (last.L asked) t p.fresh
  S = last.S asked

  -- what is known of the next step in the machine
  pub said : (does : OtherStep) (number : ℕ) → TellsOther w p does number → (S.line.number ≡ number) × SaysOther w.program (then_places w p) p M.machine t S.task S.line does
  said does number T =
      let task : T.task ≡ S.task = same_Some T.task S.task (sym T.is ∙ S.at.task) in
      let line : T.line ≡ S.line = same_Some T.line S.line (sym T.next ∙ (ap (λ (x : Task). fetched_of x) task ∙ S.at.next)) in (
        ap (λ (z : Line). z.number) (sym line) ∙ T.number_is,
        subst (λ (x : Task). SaysOther w.program (then_places w p) p M.machine t x S.line does) task (subst (λ (z : Line). SaysOther w.program (then_places w p) p M.machine t T.task z does) line T.says),
      )
    where
      fetched_of : Task → Option Line
      fetched_of x = fetched w.program x.top

  -- A READ

  -- of a number
  module _ (d : ℕ) (z : ℤ) (line : ℕ) (T : TellsOther w p (SetsNumber d z) line) (j : ReservedVecValue EntryValue) where
    number_read : FrameIsRead (then_places w p) p.frames.top S.task.top → FrameIsRead (then_places w p) (with_next (with_number p.frames d z) (p.frames.top.next + 1)).top (onward (with_int S.task.top d z))
    number_read h = goes_on (then_places w p) (Some (d, z)) p.frames.top S.task.top h

    abbrev number_part : Private
    number_part = record p { frames = with_next (with_number p.frames d z) (p.frames.top.next + 1); fresh = 0 }

    abbrev number_after : SharedValue
    number_after = record w { steps = w.steps + (p.fresh + 1); journal = record { items = w.journal.items ++ alone_entry k p ∷ []; room = j.room } }

    pub number_world : IsSharedValue number_after
    number_world = read_world asked (onward (with_int S.task.top d z)) (said (SetsNumber d z) line T).1 (with_next (with_number p.frames d z) (p.frames.top.next + 1)).top number_read j

    pub number_goes : GoesAlone w number_after k p number_part
    number_goes = read_goes asked (onward (with_int S.task.top d z)) (said (SetsNumber d z) line T).1 (with_next (with_number p.frames d z) (p.frames.top.next + 1)).top number_read j

  -- of a reference
  module _ (d : ℕ) (r : Option Addr) (line : ℕ) (T : TellsOther w p (SetsReference d r) line) (j : ReservedVecValue EntryValue) where
    abbrev name : Option Name
    name = (said (SetsReference d r) line T).1.0

    reference_read : FrameIsRead (then_places w p) p.frames.top S.task.top → FrameIsRead (then_places w p) (with_next (with_reference p.frames d r) (p.frames.top.next + 1)).top (onward (with_ref S.task.top d name))
    reference_read h = record {
      function = h.function;
      next = ap (λ n. n + 1) h.next;
      ints = h.ints;
      refs = all_set (then_places w p) p.frames.top.refs S.task.top.refs d r name h.refs (said (SetsReference d r) line T).1.2;
    }

    abbrev reference_part : Private
    reference_part = record p { frames = with_next (with_reference p.frames d r) (p.frames.top.next + 1); fresh = 0 }

    abbrev reference_after : SharedValue
    reference_after = record w { steps = w.steps + (p.fresh + 1); journal = record { items = w.journal.items ++ alone_entry k p ∷ []; room = j.room } }

    pub reference_world : IsSharedValue reference_after
    reference_world = read_world asked (onward (with_ref S.task.top d name)) (said (SetsReference d r) line T).1.1 (with_next (with_reference p.frames d r) (p.frames.top.next + 1)).top reference_read j

    pub reference_goes : GoesAlone w reference_after k p reference_part
    reference_goes = read_goes asked (onward (with_ref S.task.top d name)) (said (SetsReference d r) line T).1.1 (with_next (with_reference p.frames d r) (p.frames.top.next + 1)).top reference_read j
