-- What a line says: its kind, its first word, the operands that it is to have, and those that it has.
use Rattle.std.specs.Prelude.{ℕ, Option, Some, None, List, [], ◌∷◌, if◌then◌else◌}
use Rattle.program_reader.specs.declared.head.Head.{Head}
use Rattle.program_reader.specs.declared.head.Head.TheVariants.{Blank}
use Rattle.program_reader.specs.Head.{head_of_word}
use Rattle.program_reader.specs.Names.{is_name}
use Rattle.text_faults.specs.Placed.{PlacedWord}
use Rattle.text_faults.specs.Forms.{Form, head_form}

abbrev pub head_of : List PlacedWord → Head
head_of [] = Blank
head_of (p ∷ ps) = head_of_word p.word

abbrev pub form_of : List PlacedWord → Form
form_of ps = head_form (head_of ps)

-- the first word; of an empty line nothing in its first column
abbrev pub first_placed_word : List PlacedWord → PlacedWord
first_placed_word [] = record { column = 1; word = [] }
first_placed_word (p ∷ ps) = p

abbrev pub behind_first : List PlacedWord → List PlacedWord
behind_first [] = []
behind_first (p ∷ ps) = ps

-- the name after `fn` or `lab`, which stands alone
abbrev pub lone_name : List PlacedWord → Option (List ℕ)
lone_name (p ∷ []) = if is_name p.word then Some p.word else None
lone_name _ = None
