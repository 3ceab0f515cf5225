-- A picture as it is drawn: chunk by chunk, and task by task.
use Rattle.std.specs.Prelude.{◌≡◌, List}
use Rattle.heap_reading.specs.below.object_layout.{Located}
use Rattle.heap_reading.specs.below.refinement.{In}
use Rattle.heap_reading.specs.below.core_invariant.{SharedValue}
use Rattle.heap_reading.specs.declared.live.InUse.{InUse}
use Rattle.heap_reading.specs.declared.live.LiveTask.{LiveTask}
use Rattle.heap_reading.specs.declared.noted.FieldAt.{FieldAt}
use Rattle.heap_reading.specs.Image.{IsNoted, in_words, objects_of}
use Rattle.image_check.specs.declared.line.ImageRemembered.{ImageRemembered}
use Rattle.heap_image.specs.declared.picture.Picked.{Picked}
use Rattle.heap_picture.specs.Drawn.{drawn_field, drawn_object}

-- it is an object of one of these chunks
abbrev pub AreObjectsOf : SharedValue → List InUse → Picked → Type 0
AreObjectsOf w cs q = (c : InUse) × (o : Located) × In cs c × In (objects_of w c.number) o × (q ≡ drawn_object (in_words o))

-- it is a field that one of these tasks remembers
abbrev pub AreFieldsOf : SharedValue → List LiveTask → ImageRemembered → Type 0
AreFieldsOf w xs f = (x : LiveTask) × (g : FieldAt) × In xs x × IsNoted w x.number g × (f ≡ drawn_field x.number g)
