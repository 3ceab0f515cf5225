-- Lines that are made of their parts.
use Rattle.std.proofs.Common.{◌≡◌, ◌++◌, ◌∷◌, ℕ, List, [], codes, append_assoc}
use Rattle.std.specs.Fmt.{decimal}
use Rattle.image_check.specs.declared.cause.ImageFault.{ImageFault}
use Rattle.image_check.specs.ImageCause.{image_cause_text as text_of_fault}
use Rattle.program_reader.specs.declared.cause.TextFault.{TextFault}
use Rattle.program_reader.specs.Cause.{text_of_cause}
use Rattle.refusal_lines.specs.Refusals.{image_line, source_line}

pub source_is : (r : TextFault) (cause : List ℕ) → cause ≡ text_of_cause r.cause
    → codes "end: source refused line " ++ (decimal r.line ++ 32 ∷ (cause ++ 10 ∷ [])) ≡ source_line r
source_is r cause e = rw e (simp append_assoc)

pub image_is : (f : ImageFault) (cause : List ℕ) → cause ≡ text_of_fault f.cause
    → codes "end: image refused line " ++ (decimal f.line ++ 32 ∷ (cause ++ 10 ∷ [])) ≡ image_line f
image_is f cause e = rw e (simp append_assoc)
