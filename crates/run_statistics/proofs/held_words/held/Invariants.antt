use Rattle.run_statistics.proofs.Common.{◌≡◌, length, words_sum, saturating_words, accounts, kept_before}
use Rattle.run_statistics.proofs.held_words.held.Given as goal

abbrev pub invariant-loop-t : goal.invariant-loop-t
invariant-loop-t l = record {
  objects : l.objects ≡ saturating_words (length (kept_before (accounts l.shared) l.t));
  words : l.words ≡ saturating_words (words_sum (accounts l.shared).machine (kept_before (accounts l.shared) l.t));
}
