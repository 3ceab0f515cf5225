use Rattle.view_core.proofs.Common.{ℕ, List, sym, subst, RunView, Done, Says, ShowsJournal}
use Rattle.view_core.proofs.runs.show_journal.Goals as goal

pub returns-in_ok-timeline_text-in-Timeline-clause-shown : goal.returns-in_ok-timeline_text-in-Timeline-clause-shown
returns-in_ok-timeline_text-in-Timeline-clause-shown c =
    subst (λ (v : RunView). ShowsJournal v c.args.input.now c.args.program.now c.args.settings c.args.journal.now c.picture.result) (sym c.in-Timeline.is)
    (subst (λ (x : List ℕ). Says Done x c.picture.result) c.in_ok-timeline_text-in-Timeline.ensures.text c.picture.ensures)

pub returns-in_ok-table_text-in-Tasks-clause-shown : goal.returns-in_ok-table_text-in-Tasks-clause-shown
returns-in_ok-table_text-in-Tasks-clause-shown c =
    subst (λ (v : RunView). ShowsJournal v c.args.input.now c.args.program.now c.args.settings c.args.journal.now c.picture-in-Tasks.result) (sym c.in-Tasks.is)
    (subst (λ (x : List ℕ). Says Done x c.picture-in-Tasks.result) c.in_ok-table_text-in-Tasks.ensures.text c.picture-in-Tasks.ensures)

pub returns-in_ok-log_text-in-Log-clause-shown : goal.returns-in_ok-log_text-in-Log-clause-shown
returns-in_ok-log_text-in-Log-clause-shown c =
    subst (λ (v : RunView). ShowsJournal v c.args.input.now c.args.program.now c.args.settings c.args.journal.now c.picture-in-Log.result) (sym c.in-Log.is)
    (subst (λ (x : List ℕ). Says Done x c.picture-in-Log.result) c.in_ok-log_text-in-Log.ensures.text c.picture-in-Log.ensures)
