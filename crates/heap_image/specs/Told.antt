-- What the text of a picture says, and what the verifier answers to it.
use Rattle.std.specs.Prelude.{◌≡◌, ◌<◌, ◌≤◌, Some, None, List, [], ◌∷◌, ◌++◌, length, map}
use Rattle.text_lines.specs.Lines.{lines_of, most_bytes}
use Rattle.image_check.specs.declared.line.ImageObject.{ImageObject}
use Rattle.image_check.specs.declared.line.ImageLine.{ImageLine}
use Rattle.image_check.specs.declared.line.ImageLine.TheVariants.{Nothing, Title, OfTask, OfChunk, OfObject, OfRemembered, OfEnd}
use Rattle.image_check.specs.Line.{line_meaning}
use Rattle.image_check.specs.ImageFault.{image_fault, image_too_long, objects_in}
use Rattle.heap_image.specs.declared.picture.Picked.{Picked}
use Rattle.heap_image.specs.declared.picture.ImageData.{ImageData}
use Rattle.heap_image.specs.Form.{IsLong, IsInForm}
use Rattle.heap_image.specs.ImageData.{IsSoundPicture}
use Rattle.heap_image.specs.Text.{text_of}

-- an object as its line is read: its references, and the number of its number fields
abbrev pub as_read : Picked → ImageObject
as_read o = record { address = o.address; birth = o.birth; references = o.references; numbers = length o.numbers }

abbrev pub object_said : Picked → ImageLine
object_said o = OfObject (as_read o)

-- all of a picture, line by line
abbrev pub all_said : ImageData → List ImageLine
all_said p =
    (Title ∷ [])
    ++ map OfTask p.tasks
    ++ map OfChunk p.chunks
    ++ map object_said p.objects
    ++ map OfRemembered p.fields
    ++ OfEnd (length p.objects) ∷ []

-- the lines of its text say all of a picture, in order, and nothing else; nothing follows the last line feed
abbrev pub PicturesAreRead : Type 0
PicturesAreRead = (p : ImageData) → IsInForm p → IsLong (length p.objects) → map line_meaning (lines_of (text_of p)) ≡ all_said p ++ Nothing ∷ []

-- the verifier finds no fault in the text of a picture unless it is too long, and counts its objects
pub record IsFaultless (p : ImageData) : Type 0 where
  pub fits : length (text_of p) ≤ most_bytes → image_fault (text_of p) ≡ None
  pub long : most_bytes < length (text_of p) → image_fault (text_of p) ≡ Some image_too_long
  pub counted : objects_in (text_of p) ≡ length p.objects

abbrev pub SoundIsFaultless : Type 0
SoundIsFaultless = (p : ImageData) → IsSoundPicture p → IsFaultless p

-- there is a sound picture with objects and remembered fields
abbrev pub SomePictureIsSound : Type 0
SomePictureIsSound = (p : ImageData) × IsSoundPicture p × (0 < length p.objects) × (0 < length p.fields)
