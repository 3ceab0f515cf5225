-- The words for a cause's numbers.
use Rattle.std.specs.Prelude.{ℕ, List, [], ◌∷◌}
use Rattle.std.specs.Fmt.{decimal}
use Rattle.run_report.specs.declared.texts.CauseNumbers.{CauseNumbers}
use Rattle.run_report.specs.declared.texts.CauseNumbers.TheVariants.{None, One, Two}

-- a word for each number
abbrev pub number_words : CauseNumbers → List (List ℕ)
number_words None = []
number_words (One n) = decimal n ∷ []
number_words (Two n k) = decimal n ∷ decimal k ∷ []
