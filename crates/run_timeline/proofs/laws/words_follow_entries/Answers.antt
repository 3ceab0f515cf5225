use Rattle.run_timeline.proofs.Held.{words_follow_entries}
use Rattle.run_timeline.proofs.laws.words_follow_entries.Goals as goal

pub returns : goal.returns
returns c = words_follow_entries
