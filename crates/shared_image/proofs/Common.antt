-- The names of lower crates and of the specifications that these proofs use. Declares nothing.
pub use Rattle.heap_picture.specs.Drawing.{AreFieldsOf, AreObjectsOf}
pub use Rattle.heap_picture.specs.Drawn.{IsPictureOf, drawn_field, drawn_object}
pub use Rattle.heap_picture.specs.below.heap_image.{ImageData, ObjectBefore, RememberedBefore}
pub use Rattle.heap_reading.proofs.FieldsRead.{noted_in_order}
pub use Rattle.heap_reading.proofs.LiveRead.{chunk_once, one_below, skip_below}
pub use Rattle.heap_reading.proofs.ObjectsRead.{none_numbered, resting_objects, some_numbered}
pub use Rattle.heap_reading.proofs.TreeNow.{owner_live, owner_up, told_joined, told_live, tree_of}
pub use Rattle.heap_reading.proofs.below.core_invariant.{parent_is}
pub use Rattle.heap_reading.proofs.below.plain_vec.{got_some}
pub use Rattle.heap_reading.specs.HeldNames.{is_state_running}
pub use Rattle.heap_reading.specs.Image.{objects_of, objects_numbered, objects_owned, AreAll, AreInWords, FieldBefore, IsNoted, field_of, InUseBefore, IsInUse, IsLiveIn, LiveBefore}
pub use Rattle.heap_reading.specs.below.chunk_pool.{Slot, PoolValue, owner_of}
pub use Rattle.heap_reading.specs.below.core_invariant.{chunk_of, chunks_of, SharedValue, rest_at, value_of, IsSharedValue, accounts}
pub use Rattle.heap_reading.specs.below.heap_tree.{TaskNode, state_of, TaskState, Ready, Out, Waiting, Ended, Joined, parent_of}
pub use Rattle.heap_reading.specs.below.hh_model.{joined, parents}
pub use Rattle.heap_reading.specs.below.remembered_set.{StandOnce}
pub use Rattle.heap_reading.specs.below.task_slots.{ParkedTask, sources_of}
pub use Rattle.heap_reading.specs.below.write_barrier.{SetOf}
pub use Rattle.heap_reading.specs.below.refinement.{In}
pub use Rattle.heap_reading.specs.declared.live.InUse.{InUse}
pub use Rattle.heap_reading.specs.declared.live.LiveTask.{LiveTask}
pub use Rattle.shared_tree.specs.below.heap_marking.{is_state_joined}
pub use Rattle.std.proofs.Common.{◌≡◌, Option, Some, None, List, [], IfSome, ap, ◌∙◌, sym, subst, false, option_map, option_copied, true, if◌then◌else◌, ◌<◌, arith, slice_get, length, map, ℕ, ◌+◌, refl, IfOk, ◌++◌, take, take_all, get_or}
pub use Rattle.std.proofs.lemmas.Bool.{false≢true}
pub use Rattle.std.proofs.lemmas.Option.{slice_get-get_or}
pub use Rattle.std.proofs.lemmas.Result.{IfOk-weaker}
