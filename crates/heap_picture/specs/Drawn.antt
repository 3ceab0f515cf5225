-- What a picture shows of the shared value.
use Rattle.std.specs.Prelude.{◌≡◌, ℕ, false}
use Rattle.heap_reading.specs.below.heap_tree.{TaskState, Ready, Out, Waiting, Ended, Joined, state_of}
use Rattle.heap_reading.specs.below.object_layout.{Located}
use Rattle.heap_reading.specs.below.refinement.{In, objects}
use Rattle.heap_reading.specs.below.core_invariant.{SharedValue, value_of}
use Rattle.heap_reading.specs.declared.live.InUse.{InUse}
use Rattle.heap_reading.specs.declared.live.LiveTask.{LiveTask}
use Rattle.heap_reading.specs.declared.noted.FieldAt.{FieldAt}
use Rattle.heap_reading.specs.declared.seen.SeenObject.{SeenObject}
use Rattle.heap_reading.specs.HeldNames.{is_state_running}
use Rattle.heap_reading.specs.Image.{AreAll, IsInUse, IsInWords, IsLive, IsNoted, in_words}
use Rattle.image_check.specs.declared.line.ImageState.{ImageState as Drawn}
use Rattle.image_check.specs.declared.line.ImageState.TheVariants.{Running as IsRunning, Waiting as IsWaiting, Ended as HasEnded}
use Rattle.image_check.specs.declared.line.ImageTask.{ImageTask}
use Rattle.image_check.specs.declared.line.ImageChunk.{ImageChunk}
use Rattle.image_check.specs.declared.line.ImageRemembered.{ImageRemembered}
use Rattle.heap_image.specs.declared.picture.Picked.{Picked}
use Rattle.heap_image.specs.declared.picture.ImageData.{ImageData}
use Rattle.heap_image.specs.ImageData.{ChunkBefore, RememberedBefore, ObjectBefore, TaskBefore}

-- ONE BY ONE

-- a task that is ready or held by a worker runs
abbrev pub drawn_state : TaskState → Drawn
drawn_state Ready = IsRunning
drawn_state Out = IsRunning
drawn_state Waiting = IsWaiting
drawn_state Ended = HasEnded
drawn_state Joined = HasEnded

abbrev pub drawn_task : LiveTask → ImageTask
drawn_task x = record { number = x.number; parent = x.parent; state = drawn_state x.state }

abbrev pub drawn_chunk : InUse → ImageChunk
drawn_chunk c = record { number = c.number; owner = c.owner; words = c.words }

abbrev pub drawn_object : SeenObject → Picked
drawn_object o = record { address = o.at; birth = record { task = o.birth.task; count = o.birth.count }; mutable = o.mutable; references = o.refs; numbers = o.ints }

abbrev pub drawn_field : ℕ → FieldAt → ImageRemembered
drawn_field t f = record { task = t; address = f.object; place = f.field }

-- OF A SHARED VALUE

-- it is a task that hasn't joined
abbrev pub IsTaskOf : SharedValue → ImageTask → Type 0
IsTaskOf w t = (x : LiveTask) × IsLive w x × (t ≡ drawn_task x)

-- it is a chunk in use
abbrev pub IsChunkOf : SharedValue → ImageChunk → Type 0
IsChunkOf w c = (x : InUse) × IsInUse w x × (c ≡ drawn_chunk x)

-- the heap of a task that doesn't run is at rest
abbrev pub IsHandedBack : SharedValue → ℕ → Type 0
IsHandedBack w t = is_state_running (state_of w.tree t) ≡ false

-- it is an object of a heap at rest
abbrev pub IsObjectOf : SharedValue → Picked → Type 0
IsObjectOf w q = (t : ℕ) × (o : Located) × IsHandedBack w t × In (objects (value_of w) t) o × (q ≡ drawn_object (in_words o))

-- it is a field that a task that hasn't joined remembers
abbrev pub IsFieldOf : SharedValue → ImageRemembered → Type 0
IsFieldOf w f = (x : LiveTask) × (g : FieldAt) × IsLive w x × IsNoted w x.number g × (f ≡ drawn_field x.number g)

-- the picture has exactly the tasks that haven't joined, the chunks in use, the objects of heaps at rest and the
-- remembered fields, each once and in order
pub record IsPictureOf (w : SharedValue) (p : ImageData) : Type 0 where
  pub tasks : AreAll TaskBefore (IsTaskOf w) p.tasks
  pub chunks : AreAll ChunkBefore (IsChunkOf w) p.chunks
  pub objects : AreAll ObjectBefore (IsObjectOf w) p.objects
  pub fields : AreAll RememberedBefore (IsFieldOf w) p.fields

-- words hold the objects of heaps at rest
abbrev pub AreHeldInWords : SharedValue → Type 0
AreHeldInWords w = (t : ℕ) (o : Located) → IsHandedBack w t → In (objects (value_of w) t) o → IsInWords o
