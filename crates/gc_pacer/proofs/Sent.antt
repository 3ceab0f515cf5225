-- The value that workers share, with all its contents, may be sent to another thread.
use denote.Param.Send.{IsSend, IsSync, sendable}
use Rattle.std.proofs.Crossing as std
use Rattle.std.proofs.MapsCrossing as maps
use Rattle.leaf_collections.proofs.below.plain_vec.ListedSendSync as listed
use Rattle.leaf_collections.proofs.below.plain_vec.ReservedVecSendSync as roomy
use Rattle.leaf_collections.proofs.below.boxed.BoxedSlotSendSync as apart
use Rattle.leaf_collections.proofs.below.hh_lang.ProgramSendSync as program
use Rattle.frozen_views.proofs.layer.Layer.TheSendSync as layer
use Rattle.leaf_collections.proofs.below.chunk_pool.PoolSendSync as pool
use Rattle.leaf_collections.proofs.below.leaf_heap.LeafHeapSendSync as heap
use Rattle.leaf_collections.proofs.below.heap_tree.TreeSendSync as tree
use Rattle.leaf_collections.proofs.below.write_barrier.SetOfSendSync as sets
use Rattle.leaf_collections.proofs.below.mark_sweep_gc.MarkingSendSync as marking
use Rattle.leaf_collections.proofs.below.mark_sweep_gc.MarkingRoomSendSync as room
use Rattle.leaf_collections.specs.below.chunk_list.ShelfContracts as Shelf
use Rattle.leaf_collections.specs.below.chunk_list.ViewContracts as View
use Rattle.leaf_collections.specs.below.task_slots.ParkedTaskContracts as ParkedTask
use Rattle.leaf_collections.specs.below.task_slots.TaskSlotContracts as TaskSlot
use Rattle.leaf_collections.specs.below.task_slots.TaskSlotsContracts as TaskSlots
use Rattle.run_statistics.specs.below.shared_tree.SharedContracts as Shared
use Rattle.run_statistics.specs.contracts.counted.Counted as Counted
use Rattle.gc_pacer.specs.contracts.paced.Pacer as Pacer
use Rattle.gc_pacer.specs.contracts.paced.Paced as Paced

pub shelf_send : IsSend Shelf.the_row
shelf_send = search (layer.the_send, layer.the_sync, sendable, std.crosses, maps.crosses) depth 30

pub shelf_sync : IsSync Shelf.the_row
shelf_sync = search (layer.the_send, layer.the_sync, sendable, std.crosses, maps.crosses) depth 30

pub view_send : IsSend View.the_row
view_send = search (shelf_send, shelf_sync, sendable, std.crosses, maps.crosses) depth 30

pub rest_send : IsSend ParkedTask.the_row
rest_send = search (view_send, heap.the_send, sendable, std.crosses, maps.crosses) depth 300 fits 1000000

pub slot_send : IsSend TaskSlot.the_row
slot_send = search (rest_send, sets.the_send, marking.the_send, apart.the_send, sendable, std.crosses, maps.crosses) depth 300 fits 1000000

pub task_slots_send : IsSend TaskSlots.the_row
task_slots_send = search (slot_send, apart.the_send, sendable, std.crosses, maps.crosses) depth 300 fits 1000000

pub shared_send : IsSend Shared.the_row
shared_send = search (task_slots_send, program.the_send, tree.the_send, pool.the_send, room.the_send, listed.the_send, roomy.the_send, sendable, std.crosses, maps.crosses) depth 300 fits 1000000

pub counted_send : IsSend Counted.the_row
counted_send = search (shared_send, listed.the_send, sendable, std.crosses, maps.crosses) depth 300 fits 1000000

pub pacer_send : IsSend Pacer.the_row
pacer_send = search (counted_send, listed.the_send, roomy.the_send, sendable, std.crosses, maps.crosses) depth 300 fits 1000000

pub paced_send : IsSend Paced.the_row
paced_send = search (pacer_send, apart.the_send, sendable, std.crosses, maps.crosses) depth 300 fits 1000000
