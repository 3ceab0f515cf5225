-- The objects of a picture are those that the heaps at rest hold, as they are in the machine's store.
use Rattle.std.specs.Prelude.{◌≡◌, ◌⊎◌, ℕ, true, false, Option, Some, None, List, [], ◌∷◌, slice_get}
use Rattle.heap_image.specs.below.plain_vec.{In}
use Rattle.heap_reading.specs.below.hh_model.{Name, Object, object_at, is_running, owner_of}
use Rattle.heap_reading.specs.below.run_ledger.{Ledger, heap_of, held_in}
use Rattle.heap_image.specs.declared.picture.Picked.{Picked}
use Rattle.heap_image.specs.declared.picture.ImageData.{ImageData}
use Rattle.heap_image.specs.ImageData.{IsOwnedBy}

-- it bears the name
abbrev pub PickedBears : Picked → Name → Type 0
PickedBears q n = (q.birth.task ≡ n.task) × (q.birth.count ≡ n.count)

-- it lies in a chunk of this task, which runs
abbrev pub LiesInRunning : ImageData → Ledger → ℕ → ℕ → Type 0
LiesInRunning p l v u = (is_running (slice_get l.machine.tasks u) ≡ true) × IsOwnedBy p v u

-- nil for nil; for a name the address of the object that bears it, or, if the name's owner runs, an address in a chunk
-- of that owner (so not nil)
abbrev pub IsImageReference : ImageData → Ledger → ℕ → Option Name → Type 0
IsImageReference p l v None = v ≡ 0
IsImageReference p l v (Some n) = ((q : Picked) × In p.objects q × (q.address ≡ v) × PickedBears q n) ⊎ LiesInRunning p l v (owner_of l.machine.tasks n.task)

abbrev pub AreReferences : ImageData → Ledger → List ℕ → List (Option Name) → Type 0
AreReferences p l [] [] = Unit {0}
AreReferences p l [] (x ∷ xs) = ⊥
AreReferences p l (v ∷ vs) [] = ⊥
AreReferences p l (v ∷ vs) (x ∷ xs) = IsImageReference p l v x × AreReferences p l vs xs

-- the object stands for that of the name
pub record ObjectStandsFor (p : ImageData) (l : Ledger) (q : Picked) (n : Name) : Type 0 where
  pub object : Object
  pub is : object_at l.machine.store n ≡ Some object
  pub bears : PickedBears q n
  pub mutable : q.mutable ≡ object.mutable
  pub references : AreReferences p l q.references object.refs
  pub numbers : q.numbers ≡ object.ints

-- the heap of a task that doesn't run holds the name
abbrev pub IsHeldNotRunning : Ledger → Name → Type 0
IsHeldNotRunning l n = (t : ℕ) × (is_running (slice_get l.machine.tasks t) ≡ false) × In (held_in (heap_of l t)) n

-- each object represents a held name, and each held name has an object
pub record HasJustHeld (p : ImageData) (l : Ledger) : Type 0 where
  pub each : (q : Picked) → In p.objects q → (n : Name) × IsHeldNotRunning l n × ObjectStandsFor p l q n
  pub all : (n : Name) → IsHeldNotRunning l n → (q : Picked) × In p.objects q × ObjectStandsFor p l q n
