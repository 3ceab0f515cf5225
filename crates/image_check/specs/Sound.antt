-- What holds of a text without a fault.
use Rattle.std.specs.Prelude.{◌≡◌, ◌<◌, ◌⊎◌, ℕ, zero, suc, true, false, Some, None, List, [], ◌∷◌}
use Rattle.text_lines.specs.Lines.{lines_of}
use Rattle.image_check.specs.declared.line.ImageObject.{ImageObject}
use Rattle.image_check.specs.declared.line.ImageLine.{ImageLine}
use Rattle.image_check.specs.declared.line.ImageLine.TheVariants.{OfObject, OfRemembered}
use Rattle.image_check.specs.declared.read.Read.{Read}
use Rattle.image_check.specs.Line.{line_meaning}
use Rattle.image_check.specs.declared.whole.Whole.{Whole}
use Rattle.image_check.specs.Read.{nothing_read, after_line}
use Rattle.image_check.specs.ImageTasks.{IsProperAncestor, IsRelated, is_running, owner_at}
use Rattle.image_check.specs.ImageFault.{cause_on, image_fault, after_lines, objects_in, object_count}

-- the line at this place says this
abbrev pub LineSays : List (List ℕ) → ℕ → ImageLine → Type 0
LineSays [] i s = ⊥
LineSays (l ∷ ls) zero s = line_meaning l ≡ s
LineSays (l ∷ ls) (suc i) s = LineSays ls i s

-- the reference at a place
abbrev pub ReferenceIs : List ℕ → ℕ → ℕ → Type 0
ReferenceIs [] k v = ⊥
ReferenceIs (x ∷ xs) zero v = x ≡ v
ReferenceIs (x ∷ xs) (suc k) v = ReferenceIs xs k v

-- some line says an object with this address
abbrev pub IsImageObjectAt : List (List ℕ) → ℕ → Type 0
IsImageObjectAt lines a = (i : ℕ) × (o : ImageObject) × LineSays lines i (OfObject o) × (o.address ≡ a)

-- some line says that task u remembers field k of the object at a
abbrev pub IsRemembered : List (List ℕ) → ℕ → ℕ → ℕ → Type 0
IsRemembered lines u a k = (i : ℕ) × LineSays lines i (OfRemembered (record { task = u; address = a; place = k }))

-- an address in a chunk of a running task
abbrev pub IsInRunning : Read → ℕ → Type 0
IsInRunning r v = (u : ℕ) × (owner_at r.chunks v ≡ Some u) × (is_running r.tasks u ≡ true)

-- nil, an object's address, or in a running task's chunk
abbrev pub LeadsSomewhere : List (List ℕ) → Read → ℕ → Type 0
LeadsSomewhere lines r v = (v ≡ 0) ⊎ (IsImageObjectAt lines v ⊎ IsInRunning r v)

-- a reference from heap t to heap u stays inside, goes up, or is remembered
abbrev pub KeepsToPath : List (List ℕ) → Read → ℕ → ℕ → ℕ → ℕ → Type 0
KeepsToPath lines r a k t u = (u ≡ t) ⊎ (IsProperAncestor r.tasks u t ⊎ (IsProperAncestor r.tasks t u × IsRemembered lines u a k))

-- each object is in a heap, and each of its references is allowed
pub record IsSoundObject (lines : List (List ℕ)) (r : Read) (o : ImageObject) : Type 0 where
  pub owner : ℕ
  pub owned : owner_at r.chunks o.address ≡ Some owner
  pub leads : (k v : ℕ) → ReferenceIs o.references k v → LeadsSomewhere lines r v
  pub keeps : (k v u : ℕ) → ReferenceIs o.references k v → owner_at r.chunks v ≡ Some u → KeepsToPath lines r o.address k owner u

-- all that a text says
abbrev pub all_read : List (List ℕ) → Read
all_read lines = after_lines nothing_read lines

abbrev pub HasSoundObjects : List (List ℕ) → Type 0
HasSoundObjects lines = (i : ℕ) (o : ImageObject) → LineSays lines i (OfObject o) → IsSoundObject lines (all_read lines) o

-- no two objects have the same birth
abbrev pub HasDistinctBirths : List (List ℕ) → Type 0
HasDistinctBirths lines = (i j : ℕ) (o p : ImageObject) → i < j → LineSays lines i (OfObject o) → LineSays lines j (OfObject p) → o.birth ≡ p.birth → ⊥

-- a text without a fault is sound
abbrev pub FaultlessIsSound : Type 0
FaultlessIsSound = (text : List ℕ) → image_fault text ≡ None → HasSoundObjects (lines_of text) × HasDistinctBirths (lines_of text)

-- in a text without a fault the number of objects read is the number of object lines
abbrev pub ObjectsAreCounted : Type 0
ObjectsAreCounted = (text : List ℕ) → image_fault text ≡ None → objects_in text ≡ object_count (lines_of text)

-- none of these lines has a fault, and none is the end line
abbrev pub AreClear : Whole → Read → List (List ℕ) → Type 0
AreClear w r [] = Unit {0}
AreClear w r (l ∷ ls) = (cause_on w r false (line_meaning l) ≡ None) × AreClear w (after_line r (line_meaning l)) ls

-- after lines without a fault the relation that a lookup finds between two tasks is the true one
abbrev pub TasksAreRelated : Type 0
TasksAreRelated = (w : Whole) (ls : List (List ℕ)) → AreClear w nothing_read ls → (t u : ℕ) → IsRelated (all_read ls).tasks t u
