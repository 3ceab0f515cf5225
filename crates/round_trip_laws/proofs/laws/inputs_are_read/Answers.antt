use Rattle.round_trip_laws.proofs.Inputs as inputs
use Rattle.round_trip_laws.proofs.laws.inputs_are_read.Goals as goal

pub returns : goal.returns
returns c = inputs.inputs_are_read
