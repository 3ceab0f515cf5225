use Rattle.schedule_report.proofs.Verdicts.{agreeing_runs_speak_for_all}
use Rattle.schedule_report.proofs.laws.agreeing_runs_speak_for_all.Goals as goal

pub returns : goal.returns
returns c = agreeing_runs_speak_for_all
