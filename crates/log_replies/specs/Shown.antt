-- What is written of a log.
use Rattle.std.specs.Prelude.{◌≢◌, ◌⊎◌, ℕ, Bool, true, false, Option, Some, None, List, ◌++◌, codes}
use Rattle.log_tasks.specs.declared.fault.TaskFault.{TaskFault}
use Rattle.log_tasks.specs.declared.tasks.LogTasks.{LogTasks}
use Rattle.log_tasks.specs.Faults.{IsFirstTaskFault}
use Rattle.log_tasks.specs.Log.{IsLog}
use Rattle.log_refusals.specs.Texts.{line_refusal, task_refusal}
use Rattle.log_json.specs.below.log_sites.{site_name}
use Rattle.log_report.specs.declared.told.LogReport.{LogReport}
use Rattle.log_report.specs.Labels.{Names}
use Rattle.log_report.specs.LogReport.{report_text}
use Rattle.log_json.specs.Values.{report_json}
use Rattle.log_request.specs.declared.view.ReportForm.{ReportForm}
use Rattle.log_request.specs.declared.view.ReportForm.TheVariants.{Lines, Json}
use Rattle.log_request.specs.declared.view.LogView.{LogView}
use Rattle.log_findings.specs.declared.error.ReportError.{ReportError}
use Rattle.log_findings.specs.declared.error.ReportError.TheVariants.{TooLong, TooManyStretches, TooMuchWork, TooManyWords, NoMemory}
use Rattle.log_findings.specs.Errors.{LogIsTooLarge}
use Rattle.log_findings.specs.Reported.{IsReportOf}
use Rattle.log_findings.specs.below.fork_graph.{Cut, Extent, Whole}
use Rattle.log_findings.specs.below.log_form.{LocatedFault, events_of, is_cut, log_fault}
use Rattle.whole_call.specs.declared.status.AnswerStatus.TheVariants.{Trace}
use Rattle.whole_call.specs.declared.reply.Reply.{Reply}
use Rattle.whole_call.specs.Output.{Says}
use Rattle.log_replies.specs.Blocks.{of_blocks}
use Rattle.log_replies.specs.Status.{status_of}

-- how much of its run a log has, by whether it was cut off
abbrev pub extent_of : Bool → Extent
extent_of true = Cut
extent_of false = Whole

abbrev pub log_extent : List (List ℕ) → Extent
log_extent texts = extent_of (is_cut texts)

-- LOGS THAT ARE TOO LARGE

abbrev pub size_text : ReportError → List ℕ
size_text TooLong = codes "too many lines or strands"
size_text TooManyStretches = codes "too many locations"
size_text TooMuchWork = codes "too much work"
size_text TooManyWords = codes "too many words"
size_text NoMemory = codes "out of memory"

abbrev pub size_line : ReportError → List ℕ
size_line cause = codes "end: log refused: " ++ size_text cause ++ codes "\n"

-- REPORTS

abbrev pub text_as : ReportForm → LogView → Names → LogReport → List ℕ
text_as Lines view names r = report_text names view.detail r
text_as Json view names r = report_json names view.detail r

-- a report as lines or as a JSON object
abbrev pub view_text : Names → LogView → LogReport → List ℕ
view_text names view r = text_as view.form view names r

-- the report with the findings of some blocks alone, and the status of that
abbrev pub SaysReport : List (List ℕ) → LogView → LogReport → Reply → Type 0
SaysReport texts view r = Says (status_of (of_blocks view.blocks r)) (view_text (site_name texts) view (of_blocks view.blocks r))

-- A LOG, whose files have these names and texts

-- it is refused for its first fault of a task
pub record RefusesTask (names texts : List (List ℕ)) (reply : Reply) : Type 0 where
  pub fault : TaskFault
  pub is_first : IsFirstTaskFault (events_of texts) (log_extent texts) fault
  pub says : Says Trace (task_refusal names texts fault) reply

-- no task is at fault, but it is too large
pub record RefusesSize (texts : List (List ℕ)) (view : LogView) (reply : Reply) : Type 0 where
  pub tasks : LogTasks
  pub are : IsLog (events_of texts) (log_extent texts) tasks
  pub cause : ReportError
  pub no_memory : cause ≢ NoMemory
  pub too_large : LogIsTooLarge view.heaps texts tasks cause
  pub says : Says Trace (size_line cause) reply

-- no task is at fault, and it is reported
pub record ReportsFindings (texts : List (List ℕ)) (view : LogView) (reply : Reply) : Type 0 where
  pub tasks : LogTasks
  pub are : IsLog (events_of texts) (log_extent texts) tasks
  pub report : LogReport
  pub reported : IsReportOf texts tasks (is_cut texts) view.heaps report
  pub says : SaysReport texts view report reply

-- what is written of a log without a faulty line
abbrev pub ShowsTasks : List (List ℕ) → List (List ℕ) → LogView → Reply → Type 0
ShowsTasks names texts view reply = RefusesTask names texts reply ⊎ (RefusesSize texts view reply ⊎ ReportsFindings texts view reply)

abbrev pub ShowsFault : List (List ℕ) → List (List ℕ) → LogView → Option LocatedFault → Reply → Type 0
ShowsFault names texts view None = ShowsTasks names texts view
ShowsFault names texts view (Some found) = Says Trace (line_refusal names found)

abbrev pub ShowsLog : List (List ℕ) → List (List ℕ) → LogView → Reply → Type 0
ShowsLog names texts view = ShowsFault names texts view (log_fault texts)
