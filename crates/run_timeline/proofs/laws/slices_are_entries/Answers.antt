use Rattle.run_timeline.proofs.Slices.{slices_are_entries}
use Rattle.run_timeline.proofs.laws.slices_are_entries.Goals as goal

pub returns : goal.returns
returns c = slices_are_entries
