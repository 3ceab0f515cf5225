use Rattle.run_refusal_laws.proofs.Refused.{runs_have_no_fault}
use Rattle.run_refusal_laws.proofs.runs_have_no_fault.Goals as goal

pub returns : goal.returns
returns c = runs_have_no_fault
