-- Neither a line nor a task of a run's log has a fault.
use Rattle.log_tasks.specs.Faults.{IsFirstTaskFault}
use Rattle.race_report.proofs.Raceless.{machine_ended}
use Rattle.run_fault_laws.proofs.Sound.{run_tasks_are_sound}
use Rattle.run_limit_laws.proofs.Lines.{logs_tell_runs}
use Rattle.run_line_laws.proofs.Texts.{run_lines_have_no_fault}
use Rattle.run_refusal_laws.specs.Refused.{RunsHaveNoFault}
use Rattle.run_turn_laws.specs.below.run_ledger.{Done}
use Rattle.std.proofs.Common.{subst}

pub runs_have_no_fault : RunsHaveNoFault
runs_have_no_fault p s journal legal small =
    let told = logs_tell_runs p s journal legal small in
    record {
      lines = run_lines_have_no_fault p s journal legal small;
      tasks = λ extent uncut fault first.
          let f = subst (λ events. IsFirstTaskFault events extent fault) told.tells first in
          run_tasks_are_sound p s journal legal extent (λ whole. machine_ended p s journal Done (told.cut.0 (uncut whole))) f.numbers f.rows f.numbers_are f.rows_are f.found.strand f.found.cause f.is_first.there f.is_first.has;
    }
