-- The lines that refuse the command-line arguments or the input.
use Rattle.std.specs.Prelude.{ℕ, List, [], ◌∷◌, codes}
use Rattle.std.specs.Fmt.{decimal}
use Rattle.program_reader.specs.declared.cause.TextFault.{TextFault}
use Rattle.program_reader.specs.Cause.{text_of_cause}
use Rattle.trace_input.specs.declared.input.InputFault.{InputFault}
use Rattle.trace_input.specs.declared.input.InputFault.TheVariants.{Source as SourceFault, BadLine}
use Rattle.run_ledger.specs.Text.{end_line, refused_line}
use Rattle.image_check.specs.declared.cause.ImageFault.{ImageFault}
use Rattle.image_check.specs.ImageCause.{image_cause_text as text_of_fault}
use Rattle.refusal_lines.specs.declared.refusal.Refusal.{Refusal}
use Rattle.refusal_lines.specs.declared.refusal.Refusal.TheVariants.{Words, Source, Line, Entry, Image}

-- arguments that are no command
abbrev pub words_line : List ℕ
words_line = end_line (codes "words refused" ∷ [])

-- a text that isn't a program
abbrev pub source_line : TextFault → List ℕ
source_line r = end_line (codes "source refused line" ∷ decimal r.line ∷ text_of_cause r.cause ∷ [])

-- a bad line of a trace
abbrev pub bad_line : ℕ → List ℕ
bad_line n = end_line (codes "trace refused line" ∷ decimal n ∷ [])

-- a text that isn't an image
abbrev pub image_line : ImageFault → List ℕ
image_line f = end_line (codes "image refused line" ∷ decimal f.line ∷ text_of_fault f.cause ∷ [])

abbrev pub refusal_line : Refusal → List ℕ
refusal_line Words = words_line
refusal_line (Source r) = source_line r
refusal_line (Line n) = bad_line n
refusal_line (Entry r) = refused_line r
refusal_line (Image f) = image_line f

-- an input that isn't a program with a trace
abbrev pub refusal_of : InputFault → Refusal
refusal_of (SourceFault r) = Source r
refusal_of (BadLine n) = Line n
