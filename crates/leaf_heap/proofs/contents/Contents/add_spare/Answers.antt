use Rattle.leaf_heap.proofs.Common.{◌≡◌, ◌<◌, arith, length, on_ok}
use Rattle.chunk_list.proofs.below.frozen_views.PieceLists as lists
use Rattle.leaf_heap.proofs.ChunkAdded as added
use Rattle.leaf_heap.proofs.contents.Contents.add_spare.Goals as goal

pub invariant_of-self : goal.invariant_of-self
invariant_of-self c =
    let fresh = rw (← c.self.view_is) at c.requires.fresh in
    let spare = rw (← c.self.view_is) at c.requires.spare in
    let len : c.len-place.result ≡ length c.self.inside.chunks.items = omega arith in
    let size : c.args.chunk.size ≡ 1024 = omega arith in
    let writes = rw (c.number-number.ensures, len) at (on_ok c.insert.result (c.insert.ensures.succeeds spare) c.insert.ensures.updates).0 in
    let none = added.none_kept c.self.inside.chunks.items c.self.inside.base c.args.chunk.number _ (c.self.invariant.table c.args.chunk.number) fresh in
    let entries = added.new_entry c.insert.result _ _ _ (c.insert.ensures.succeeds spare) c.insert.ensures.old c.insert.ensures.len (rw c.number-number.ensures none) in
    rw (c.push_reserved.ensures.items, len, entries)
    (added.small_added c.self.inside.chunks.items c.args.chunk c.requires.empty _ _ _ _ _ _ _ _ _ _ c.self.invariant fresh writes _ (lists.added _ _ c.self.inside.chunks.items c.number-number.result c.args.chunk c.number-number.ensures c.note_change.ensures.noted c.self.invariant.shown) size)

pub invariant_of-self-else-is_small : goal.invariant_of-self-else-is_small
invariant_of-self-else-is_small c =
    let fresh = rw (← c.self.view_is) at c.requires.fresh in
    let spare = rw (← c.self.view_is) at c.requires.spare in
    let len : c.len-place.result ≡ length c.self.inside.chunks.items = omega arith in
    let size : 1024 < c.args.chunk.size = omega arith in
    let writes = rw (c.number-number.ensures, len) at (on_ok c.insert.result (c.insert.ensures.succeeds spare) c.insert.ensures.updates).0 in
    let none = added.none_kept c.self.inside.chunks.items c.self.inside.base c.args.chunk.number _ (c.self.invariant.table c.args.chunk.number) fresh in
    let entries = added.new_entry c.insert.result _ _ _ (c.insert.ensures.succeeds spare) c.insert.ensures.old c.insert.ensures.len (rw c.number-number.ensures none) in
    rw (c.push_reserved.ensures.items, len, entries)
    (added.large_added c.self.inside.chunks.items c.args.chunk c.requires.empty _ _ _ _ _ _ _ _ _ _ c.self.invariant fresh writes _ (lists.added _ _ c.self.inside.chunks.items c.number-number.result c.args.chunk c.number-number.ensures c.note_change.ensures.noted c.self.invariant.shown) size)
