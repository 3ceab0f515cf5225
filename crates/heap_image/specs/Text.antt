-- The text of an image.
use Rattle.std.specs.Prelude.{ℕ, ℤ, Bool, true, false, Option, Some, None, List, [], ◌∷◌, ◌++◌, codes, length, map}
use Rattle.std.specs.List.{flat_map}
use Rattle.std.specs.Fmt.{decimal, signed_decimal}
use Rattle.image_check.specs.declared.line.ImageTask.{ImageTask}
use Rattle.image_check.specs.declared.line.ImageChunk.{ImageChunk}
use Rattle.image_check.specs.declared.line.ImageRemembered.{ImageRemembered}
use Rattle.image_check.specs.Line.{state_word}
pub use Rattle.run_trace.specs.Line.{line}
use Rattle.heap_image.specs.declared.picture.Picked.{Picked}
use Rattle.heap_image.specs.declared.picture.ImageData.{ImageData}

-- WORDS

-- a hyphen for none
abbrev pub parent_word : Option ℕ → List ℕ
parent_word None = codes "-"
parent_word (Some p) = decimal p

abbrev pub reference_kind_word : Bool → List ℕ
reference_kind_word true = codes "mut"
reference_kind_word false = codes "imm"

-- THE WORDS OF A LINE

abbrev pub title_words : List (List ℕ)
title_words = codes "image" ∷ codes "1" ∷ []

abbrev pub task_words : ImageTask → List (List ℕ)
task_words t = codes "task" ∷ decimal t.number ∷ parent_word t.parent ∷ state_word t.state ∷ []

abbrev pub chunk_words : ImageChunk → List (List ℕ)
chunk_words c = codes "chunk" ∷ decimal c.number ∷ decimal c.owner ∷ decimal c.words ∷ []

-- an object's words before its fields
abbrev pub head_words : Picked → List (List ℕ)
head_words o =
    codes "object" ∷ decimal o.address ∷ decimal o.birth.task ∷ decimal o.birth.count ∷ reference_kind_word o.mutable
    ∷ decimal (length o.references) ∷ decimal (length o.numbers) ∷ []

abbrev pub object_words : Picked → List (List ℕ)
object_words o = head_words o ++ map decimal o.references ++ map signed_decimal o.numbers

abbrev pub field_words : ImageRemembered → List (List ℕ)
field_words f = codes "remembered" ∷ decimal f.task ∷ decimal f.address ∷ decimal f.place ∷ []

-- the end, with the number of objects
abbrev pub end_words : ℕ → List (List ℕ)
end_words n = codes "end:" ∷ codes "image" ∷ decimal n ∷ []

-- FIELDS

abbrev pub reference_text : ℕ → List ℕ
reference_text v = 32 ∷ decimal v

abbrev pub number_text : ℤ → List ℕ
number_text n = 32 ∷ signed_decimal n

-- LINES

abbrev pub task_line : ImageTask → List ℕ
task_line t = line (task_words t)

abbrev pub chunk_line : ImageChunk → List ℕ
chunk_line c = line (chunk_words c)

abbrev pub object_line : Picked → List ℕ
object_line o = line (object_words o)

abbrev pub field_line : ImageRemembered → List ℕ
field_line f = line (field_words f)

-- the title, the tasks, the chunks, the objects, the remembered fields, and the end
abbrev pub text_of : ImageData → List ℕ
text_of p =
    line title_words
    ++ flat_map task_line p.tasks
    ++ flat_map chunk_line p.chunks
    ++ flat_map object_line p.objects
    ++ flat_map field_line p.fields
    ++ line (end_words (length p.objects))
