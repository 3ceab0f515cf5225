-- The first fault of an image.
use Rattle.std.specs.Prelude.{◌≡◌, ◌<◌, ℕ, ◌+◌, ◌==◌, ◌&&◌, ◌||◌, Bool, true, false, not, Option, Some, None, Result, Ok, Err, List, [], ◌∷◌, length, nat_lt, nat_le, if◌then◌else◌}
use Rattle.std.specs.List.{list_any}
use Rattle.text_lines.specs.Lines.{is_last, lines_of, most_bytes}
use Rattle.image_check.specs.declared.line.ImageChunk.{ImageChunk}
use Rattle.image_check.specs.declared.line.ImageObject.{ImageObject}
use Rattle.image_check.specs.declared.line.ImageRemembered.{ImageRemembered}
use Rattle.image_check.specs.declared.line.ImageLine.{ImageLine}
use Rattle.image_check.specs.declared.line.ImageLine.TheVariants.{Nothing, Wrong, Title, OfTask, OfChunk, OfObject, OfRemembered, OfEnd}
use Rattle.image_check.specs.declared.read.ImagePosition.{ImagePosition}
use Rattle.image_check.specs.declared.read.ImageExtent.{ImageExtent}
use Rattle.image_check.specs.declared.read.Read.{Read}
use Rattle.image_check.specs.declared.whole.Whole.{Whole}
use Rattle.image_check.specs.declared.cause.ImageCause.{ImageCause}
use Rattle.image_check.specs.declared.cause.ImageCause.TheVariants.{TooLong, Line, Twice, NoTask, NoChunk, Place, Running, Ref, Cross, Down, Field, Count}
use Rattle.image_check.specs.declared.cause.ImageFault.{ImageFault}
pub use Rattle.or_no_memory.specs.Refusals.{Reports}
use Rattle.image_check.specs.Line.{line_meaning}
use Rattle.image_check.specs.ImageTable.{found, has}
use Rattle.image_check.specs.Sets.{is_among, same_birth, same_field}
use Rattle.image_check.specs.Place.{chunk_number, offset}
use Rattle.image_check.specs.Read.{position_of, comes_next, object_end, last_after, nothing_read, after_line, whole_of}
use Rattle.image_check.specs.declared.tasks.Relation.{Relation}
use Rattle.image_check.specs.declared.tasks.Relation.TheVariants.{Below, Apart}
use Rattle.image_check.specs.ImageTasks.{ImageTasks, is_ancestor_of, relation_of, HasParent, is_running, chunk_at, owner_at}

-- LINE

abbrev pub has_wrong_place : Option ImagePosition → Option ImagePosition → Bool
has_wrong_place last None = true
has_wrong_place last (Some p) = not (comes_next last p)

-- not a line of an image, or not in order after the last line
abbrev pub is_misplaced : Option ImagePosition → ImageLine → Bool
is_misplaced last Nothing = false
is_misplaced last s = has_wrong_place last (position_of s)

abbrev pub is_end : Option ImagePosition → Bool
is_end None = false
is_end (Some p) = p.kind == 5

abbrev pub breaks_form : Read → Bool → ImageLine → Bool
breaks_form r is_last s = is_misplaced r.last s || (is_last && not (is_end (last_after r.last (position_of s))))

-- NOTASK

abbrev pub lacks_parent : Read → Option ℕ → Bool
lacks_parent r None = false
lacks_parent r (Some p) = not (has r.tasks p)

-- PLACE

abbrev pub overlaps : Option ImageExtent → ImageObject → Bool
overlaps None o = false
overlaps (Some e) o = (e.chunk == chunk_number o.address) && nat_lt (offset o.address) e.past

-- it leaves its chunk, or overlaps the previous object line of that chunk
abbrev pub is_crowded : Read → ImageChunk → ImageObject → Bool
is_crowded r c o = nat_lt c.words (object_end o) || overlaps r.latest o

-- REF, CROSS, DOWN

abbrev pub owner_runs : Read → Option ℕ → Bool
owner_runs r None = false
owner_runs r (Some t) = is_running r.tasks t

-- neither nil, nor the address of an object line, nor in a chunk of a running task
abbrev pub is_astray : Whole → Read → ℕ → Bool
is_astray w r v = not ((v == 0) || (has w.objects v || owner_runs r (owner_at r.chunks v)))

-- how the owner of a reference's target is related to t, if it has one
abbrev pub relation_to : ImageTasks → ℕ → Option ℕ → Option Relation
relation_to tasks t None = None
relation_to tasks t (Some u) = Some (relation_of tasks t u)

abbrev pub is_apart : Option Relation → Bool
is_apart (Some Apart) = true
is_apart _ = false

abbrev pub is_below : Option Relation → Bool
is_below (Some Below) = true
is_below _ = false

-- from t to an owner that is neither an ancestor nor a descendant
abbrev pub crosses : Read → ℕ → ℕ → Bool
crosses r t v = is_apart (relation_to r.tasks t (owner_at r.chunks v))

-- some line says that the owner remembers field k of the object at a
abbrev pub is_noted : Whole → ℕ → ℕ → Option ℕ → Bool
is_noted w a k None = false
is_noted w a k (Some u) = is_among same_field w.fields (u, a, k)

-- from field k of t's object at a to a descendant that doesn't remember the field
abbrev pub is_forgotten : Whole → Read → ℕ → ℕ → ℕ → Option ℕ → Bool
is_forgotten w r t a k u = is_below (relation_to r.tasks t u) && not (is_noted w a k u)

-- one of these fields of t's object at a, from k on, goes to a descendant that doesn't remember it
abbrev pub forgets : Whole → Read → ℕ → ℕ → ℕ → List ℕ → Bool
forgets w r t a k [] = false
forgets w r t a k (v ∷ vs) = is_forgotten w r t a k (owner_at r.chunks v) || forgets w r t a (k + 1) vs

-- FIELD

abbrev pub owner_is_above : Read → ℕ → Option ℕ → Bool
owner_is_above r t None = false
owner_is_above r t (Some u) = is_ancestor_of r.tasks u t

abbrev pub has_field : Option ℕ → ℕ → Bool
has_field None k = false
has_field (Some n) k = nat_lt k n

-- not a reference field of an object line, or not of a proper ancestor's object
abbrev pub is_no_field : Whole → Read → ImageRemembered → Bool
is_no_field w r f = not (has_field (found w.objects f.address) f.place && owner_is_above r f.task (owner_at r.chunks f.address))

-- THE FIRST CAUSE ON A LINE

abbrev pub references_cause : Whole → Read → ℕ → ImageObject → Option ImageCause
references_cause w r t o =
    if list_any (is_astray w r) o.references then Some Ref
    else if list_any (crosses r t) o.references then Some Cross
    else if forgets w r t o.address 0 o.references then Some Down
    else None

abbrev pub object_cause_in : Whole → Read → ImageObject → Option ImageChunk → Option ImageCause
object_cause_in w r o None = Some NoChunk
object_cause_in w r o (Some c) =
    if is_crowded r c o then Some Place
    else if is_running r.tasks c.owner then Some Running
    else references_cause w r c.owner o

abbrev pub object_cause : Whole → Read → ImageObject → Option ImageCause
object_cause w r o =
    if is_among same_birth r.births (o.birth.task, o.birth.count) then Some Twice
    else object_cause_in w r o (chunk_at r.chunks o.address)

abbrev pub remembered_cause : Whole → Read → ImageRemembered → Option ImageCause
remembered_cause w r f =
    if not (has r.tasks f.task) then Some NoTask
    else if is_no_field w r f then Some Field
    else None

abbrev pub cause_by : Whole → Read → ImageLine → Option ImageCause
cause_by w r Nothing = None
cause_by w r Wrong = None
cause_by w r Title = None
cause_by w r (OfTask t) = if lacks_parent r t.parent then Some NoTask else None
cause_by w r (OfChunk c) = if has r.tasks c.owner then None else Some NoTask
cause_by w r (OfObject o) = object_cause w r o
cause_by w r (OfRemembered f) = remembered_cause w r f
cause_by w r (OfEnd n) = if n == length r.objects then None else Some Count

-- the first cause on a line, given what was read before
abbrev pub cause_on : Whole → Read → Bool → ImageLine → Option ImageCause
cause_on w r is_last s = if breaks_form r is_last s then Some Line else cause_by w r s

-- what a line without a fault must have: a known parent, or a nonzero address
abbrev pub HasParentOrAddress : Read → ImageLine → Type 0
HasParentOrAddress r (OfTask t) = HasParent r.tasks t.parent
HasParentOrAddress r (OfObject o) = 0 < o.address
HasParentOrAddress r _ = Unit {0}

-- THE FIRST LINE WITH A FAULT

abbrev pub or_later_line : Option ImageCause → ℕ → Option ImageFault → Option ImageFault
or_later_line (Some cause) number later = Some (record { line = number; cause = cause })
or_later_line None number later = later

-- from line n on
abbrev pub fault_from_line : Whole → Read → ℕ → List (List ℕ) → Option ImageFault
fault_from_line w r n [] = None
fault_from_line w r n (l ∷ ls) = or_later_line (cause_on w r (is_last ls) (line_meaning l)) n (fault_from_line w (after_line r (line_meaning l)) (n + 1) ls)

-- the first fault of the lines of a text
abbrev pub lines_fault : List ℕ → Option ImageFault
lines_fault text = fault_from_line (whole_of text) nothing_read 1 (lines_of text)

-- more bytes than the limit
abbrev pub image_too_long : ImageFault
image_too_long = record { line = 0; cause = TooLong }

-- the first fault of a text
abbrev pub image_fault : List ℕ → Option ImageFault
image_fault text = if nat_le (length text) most_bytes then lines_fault text else Some image_too_long

-- OBJECTS

abbrev pub onto_count : ImageLine → ℕ → ℕ
onto_count (OfObject o) n = n + 1
onto_count _ n = n

abbrev pub object_count : List (List ℕ) → ℕ
object_count [] = 0
object_count (l ∷ ls) = onto_count (line_meaning l) (object_count ls)

-- all that the lines say, added to what was read before
abbrev pub after_lines : Read → List (List ℕ) → Read
after_lines r [] = r
after_lines r (l ∷ ls) = after_lines (after_line r (line_meaning l)) ls

-- the number of objects
abbrev pub objects_in : List ℕ → ℕ
objects_in text = length (after_lines nothing_read (lines_of text)).objects

-- the number of objects, or the first fault
abbrev pub Verifies : Option ImageFault → ℕ → Result ℕ ImageFault → Type 0
Verifies fault objects (Ok count) = (fault ≡ None) × (count ≡ objects)
Verifies fault objects (Err f) = fault ≡ Some f
