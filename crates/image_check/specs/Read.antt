-- What the lines of an image have said so far, and what the whole text says.
use Rattle.std.specs.Prelude.{ℕ, ◌+◌, ◌==◌, ◌&&◌, ◌||◌, ◌≤◌, Bool, Option, Some, None, List, [], ◌∷◌, length, nat_lt, if◌then◌else◌}
use Rattle.text_lines.specs.Lines.{lines_of}
use Rattle.image_check.specs.declared.line.ImageObject.{ImageObject}
use Rattle.image_check.specs.declared.line.ImageLine.{ImageLine}
use Rattle.image_check.specs.declared.line.ImageLine.TheVariants.{Nothing, Wrong, Title, OfTask, OfChunk, OfObject, OfRemembered, OfEnd}
use Rattle.image_check.specs.declared.read.ImagePosition.{ImagePosition}
use Rattle.image_check.specs.declared.read.ImageExtent.{ImageExtent}
use Rattle.image_check.specs.declared.read.Read.{Read}
use Rattle.image_check.specs.declared.whole.Whole.{Whole}
use Rattle.image_check.specs.Place.{chunk_number, offset}
use Rattle.image_check.specs.Line.{line_meaning, most_fields}
use Rattle.image_check.specs.ImageTable.{found, with_entry, with_new}
use Rattle.image_check.specs.Sets.{with_item, same_birth, same_field}

-- ORDER

-- the position of a line: its kind, then its numbers
abbrev pub position : ℕ → ℕ → ℕ → ℕ → ImagePosition
position kind first second third = record { kind = kind; first = first; second = second; third = third }

abbrev pub position_of : ImageLine → Option ImagePosition
position_of Nothing = None
position_of Wrong = None
position_of Title = Some (position 0 0 0 0)
position_of (OfTask t) = Some (position 1 t.number 0 0)
position_of (OfChunk c) = Some (position 2 c.number 0 0)
position_of (OfObject o) = Some (position 3 o.address 0 0)
position_of (OfRemembered f) = Some (position 4 f.task f.address f.place)
position_of (OfEnd n) = Some (position 5 0 0 0)

abbrev pub or_next : ℕ → ℕ → Bool → Bool
or_next x y next = nat_lt x y || ((x == y) && next)

-- one position comes before another
abbrev pub rises : ImagePosition → ImagePosition → Bool
rises p q = or_next p.kind q.kind (or_next p.first q.first (or_next p.second q.second (nat_lt p.third q.third)))

-- the title comes first, and each line after the previous one
abbrev pub comes_next : Option ImagePosition → ImagePosition → Bool
comes_next None q = q.kind == 0
comes_next (Some p) q = rises p q

-- PLACES IN CHUNKS

-- where an object ends in its chunk, after a header, a birth, references and numbers
abbrev pub object_end : ImageObject → ℕ
object_end o = offset o.address + 2 + length o.references + o.numbers

abbrev pub extent_of : ImageObject → ImageExtent
extent_of o = record { chunk = chunk_number o.address; past = object_end o }

-- WHAT WAS READ

abbrev pub nothing_read : Read
nothing_read = record { last = None; tasks = []; chunks = []; objects = []; births = []; latest = None }

abbrev pub last_after : Option ImagePosition → Option ImagePosition → Option ImagePosition
last_after last None = last
last_after last (Some p) = Some p

-- what a line adds: tasks and chunks by number, and by address the number of references of an object
abbrev pub after_line : Read → ImageLine → Read
after_line r Nothing = r
after_line r Wrong = r
after_line r Title = record r { last = position_of Title }
after_line r (OfTask t) = record r { last = position_of (OfTask t); tasks = with_new r.tasks t.number t }
after_line r (OfChunk c) = record r { last = position_of (OfChunk c); chunks = with_entry r.chunks c.number c }
after_line r (OfObject o) = record r {
  last = position_of (OfObject o);
  objects = with_entry r.objects o.address (length o.references);
  births = with_item same_birth r.births (o.birth.task, o.birth.count);
  latest = Some (extent_of o);
}
after_line r (OfRemembered f) = record r { last = position_of (OfRemembered f) }
after_line r (OfEnd n) = record r { last = position_of (OfEnd n) }

-- THE WHOLE TEXT

abbrev pub nothing_had : Whole
nothing_had = record { objects = []; fields = [] }

-- the larger of two numbers, the first of which may be missing
abbrev pub most : Option ℕ → ℕ → ℕ
most None n = n
most (Some m) n = if nat_lt m n then n else m

-- the number of references of each object by its address (the most, if an address occurs again), and the remembered
-- fields, wherever they stand
abbrev pub with_line : Whole → ImageLine → Whole
with_line w (OfObject o) = record w { objects = with_entry w.objects o.address (most (found w.objects o.address) (length o.references)) }
with_line w (OfRemembered f) = record w { fields = with_item same_field w.fields (f.task, f.address, f.place) }
with_line w _ = w

abbrev pub with_lines : Whole → List (List ℕ) → Whole
with_lines w [] = w
with_lines w (l ∷ ls) = with_lines (with_line w (line_meaning l)) ls

abbrev pub whole_of : List ℕ → Whole
whole_of text = with_lines nothing_had (lines_of text)

-- an object has at most a million fields
abbrev pub IsSized : ImageLine → Type 0
IsSized (OfObject o) = length o.references + o.numbers ≤ most_fields
IsSized _ = Unit {0}
