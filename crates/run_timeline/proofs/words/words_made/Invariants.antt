use Rattle.run_timeline.proofs.Common.{◌≡◌, words_made}
use Rattle.run_timeline.proofs.words.words_made.Given as goal

abbrev pub invariant-loop-k : goal.invariant-loop-k
invariant-loop-k l = l.words ≡ words_made l.state l.task l.first l.k
