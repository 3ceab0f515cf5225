use Rattle.run_stop_laws.proofs.Stops.{logs_report_stops}
use Rattle.run_stop_laws.proofs.logs_report_stops.Goals as goal

pub returns : goal.returns
returns c = logs_report_stops
