-- The length of made texts.
use Rattle.std.specs.Prelude.{ℕ, ◌≤◌, length}
use Rattle.hh_lang.specs.Limits.{program_limit}
use Rattle.program_make.specs.Text.{made_text, size_limit}

-- every made text is within the limit for program texts, whatever the seed
abbrev pub MadeAreShort : Type 0
MadeAreShort = (seed size : ℕ) → size ≤ size_limit → length (made_text seed size) ≤ program_limit
