-- Made texts are programs.
use Rattle.std.specs.Prelude.{◌≡◌, ℕ, ◌≤◌, Ok}
use Rattle.program_reader.specs.Program.{program_of, reading_of}
use Rattle.program_make.specs.Text.{made_text, size_limit}

-- the reader accepts every made text, whatever the seed: no line has a fault
abbrev pub MadeArePrograms : Type 0
MadeArePrograms = (seed size : ℕ) → 1 ≤ size → size ≤ size_limit → reading_of (made_text seed size) ≡ Ok (program_of (made_text seed size))
