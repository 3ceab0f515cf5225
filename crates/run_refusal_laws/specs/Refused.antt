-- The faults for which a log is refused, for that of a run.
use Rattle.std.specs.Prelude.{◌≡◌, ℕ, true, false, None, List}
use Rattle.fork_graph.specs.declared.fault.Extent.{Extent}
use Rattle.fork_graph.specs.declared.fault.Extent.TheVariants.{Whole}
use Rattle.log_form.specs.Faults.{log_fault}
use Rattle.log_tasks.specs.Faults.{IsFirstTaskFault}
use Rattle.log_tasks.specs.declared.fault.TaskFault.{TaskFault}
use Rattle.run_limit_laws.specs.Limits.{IsSmallRun, run_texts}
use Rattle.run_limit_laws.specs.below.hh_lang.{ProgramText}
use Rattle.run_limit_laws.specs.below.log_text_laws.{events_of, is_cut}
use Rattle.run_turn_laws.specs.below.run_ledger.{is_legal}
use Rattle.run_turn_laws.specs.below.run_trace.{EntryValue, SettingsValue}

-- no line has a fault, nor a task, whether the log is read as a cut one or, unless it was cut, as a whole one
pub record HaveNoFault (texts : List (List ℕ)) : Type 0 where
  pub lines : log_fault texts ≡ None
  pub tasks : (extent : Extent) → (extent ≡ Whole → is_cut texts ≡ false) → (fault : TaskFault) → IsFirstTaskFault (events_of texts) extent fault → ⊥

abbrev pub RunsHaveNoFault : Type 0
RunsHaveNoFault = (p : ProgramText) (s : SettingsValue) (journal : List EntryValue) → is_legal p s journal ≡ true → IsSmallRun p journal → HaveNoFault (run_texts p s journal)
