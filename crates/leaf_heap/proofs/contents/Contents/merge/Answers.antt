use Rattle.leaf_heap.proofs.Common.{◌≡◌, ◌+◌, ◌++◌, arith, length, refl, nat_eq, get, hash_map_len, chunk_at, one_each, small_part, saturating_words}
use Rattle.chunk_list.proofs.below.frozen_views.PieceLists as lists
use Rattle.leaf_heap.proofs.HeapLemmas as heap
use Rattle.leaf_heap.proofs.ChunkAdded as added
use Rattle.leaf_heap.proofs.contents.Contents.merge.Goals as goal

pub index_chunks-requires-clause-apart : goal.index_chunks-requires-clause-apart
index_chunks-requires-clause-apart c =
    let ls = c.left.inside.chunks.items in
    let rs = c.right.inside.chunks.items in
    let ks = c.self.inside.chunks.items in
    let apart = rw (← c.left.view_is, ← c.right.view_is, ← c.self.view_is) at c.requires.apart in
    rw c.as_slice.ensures (added.apart_front rs ks (added.apart_behind ls (rs ++ ks) apart))

pub index_chunks-requires-clause-new : goal.index_chunks-requires-clause-new
index_chunks-requires-clause-new c = λ i l.
    let ls = c.left.inside.chunks.items in
    let rs = c.right.inside.chunks.items in
    let ks = c.self.inside.chunks.items in
    let apart = rw (← c.left.view_is, ← c.right.view_is, ← c.self.view_is) at c.requires.apart in
    let inside = rw c.as_slice.ensures at l in
    rw c.as_slice.ensures
    (added.none_kept ks c.self.inside.base (chunk_at rs i).number _ (c.self.invariant.table (chunk_at rs i).number) (added.apart_across rs ks (added.apart_behind ls (rs ++ ks) apart) i inside))

pub index_chunks-requires-2-clause-apart : goal.index_chunks-requires-2-clause-apart
index_chunks-requires-2-clause-apart c =
    let ls = c.left.inside.chunks.items in
    let rs = c.right.inside.chunks.items in
    let ks = c.self.inside.chunks.items in
    let apart = rw (← c.left.view_is, ← c.right.view_is, ← c.self.view_is) at c.requires.apart in
    rw c.as_slice-2.ensures (added.apart_front ls (rs ++ ks) apart)

pub index_chunks-requires-2-clause-new : goal.index_chunks-requires-2-clause-new
index_chunks-requires-2-clause-new c = λ i l.
    let ls = c.left.inside.chunks.items in
    let rs = c.right.inside.chunks.items in
    let ks = c.self.inside.chunks.items in
    let apart = rw (← c.left.view_is, ← c.right.view_is, ← c.self.view_is) at c.requires.apart in
    let right : c.len-3.result ≡ length c.right.inside.chunks.items = omega arith in
    let first = rw (c.as_slice.ensures, right) at c.index_chunks.ensures.places in
    let inside = rw c.as_slice-2.ensures at l in
    let half = added.table_front rs ks c.self.inside.base _ (get nat_eq c.index_chunks.new.table) c.self.invariant.table first in
    rw c.as_slice-2.ensures
    (added.none_kept (rs ++ ks) (c.self.inside.base + length rs) (chunk_at ls i).number _ (half (chunk_at ls i).number) (added.apart_across ls (rs ++ ks) apart i inside))

pub invariant_of-self : goal.invariant_of-self
invariant_of-self c =
    let before : c.len.result ≡ length c.left.inside.chunks.items = omega arith in
    let before-2 : c.len-2.result ≡ length c.right.inside.chunks.items = omega arith in
    let right : c.len-3.result ≡ length c.right.inside.chunks.items = omega arith in
    let first = rw (c.as_slice.ensures, right) at c.index_chunks.ensures.places in
    let left : c.len-4.result ≡ length c.left.inside.chunks.items = omega arith in
    let second = rw (c.as_slice-2.ensures, right, left) at c.index_chunks-2.ensures.places in
    let each-1 = rw c.as_slice.ensures at c.index_chunks.ensures.each in
    let each-2 = rw c.as_slice-2.ensures at c.index_chunks-2.ensures.each in
    let each : hash_map_len c.index_chunks-2.new.table ≡ hash_map_len c.self.inside.table + length c.right.inside.chunks.items + length c.left.inside.chunks.items = omega arith in
    let words = rw c.saturating_add-2.ensures at c.saturating_add-self-inside-2.ensures in
    let objects = heap.sum_merged one_each c.left.inside.chunks.items c.right.inside.chunks.items c.self.inside.chunks.items _ _ _ _ c.left.invariant.objects c.right.invariant.objects c.self.invariant.objects (rw c.saturating_add-3.ensures at c.saturating_add-self-inside-3.ensures) in
    let small = heap.sum_merged small_part c.left.inside.chunks.items c.right.inside.chunks.items c.self.inside.chunks.items _ _ _ _ c.left.invariant.small c.right.invariant.small c.self.invariant.small (rw c.saturating_add-4.ensures at c.saturating_add-self-inside-4.ensures) in
    let rights = rw c.as_slice-3.ensures at c.note_changes.ensures in
    let lefts = rw c.as_slice-4.ensures at c.note_changes-2.ensures in
    let shown = lists.three c.self.inside.pieces _ _ c.left.inside.chunks.items c.right.inside.chunks.items c.self.inside.chunks.items rights lefts c.self.invariant.shown in
    rw (c.put_before-2.ensures.items, c.take-2.ensures.taken, c.put_before.ensures.items, c.take.ensures.taken, c.behind-self-inside.ensures, c.behind-self-inside-2.ensures, before, before-2, right, left)
    (added.merged_kept c.left.inside.chunks.items c.right.inside.chunks.items c.self.inside.chunks.items _ _ _ _ _ _ _ _ c.self.inside.base _ _ c.self.invariant
    c.left.invariant.words c.right.invariant.words c.left.invariant.within c.right.invariant.within (get nat_eq c.index_chunks.new.table) (get nat_eq c.index_chunks-2.new.table) _ _ _ refl first second each words _ _ objects small _ shown)

pub returns : goal.returns
returns c =
    let left : c.len.result ≡ length c.left.inside.chunks.items = omega arith in
    let right : c.len-2.result ≡ length c.right.inside.chunks.items = omega arith in
    let both = c.saturating_add.ensures in
    let all = c.saturating_add-self-inside.ensures in
    let since : c.saturating_add-self-inside.result ≡ saturating_words (c.self.inside.since + (c.left.inside.since + c.right.inside.since)) = omega arith in
    rw (← c.left.view_is, ← c.right.view_is, ← c.self.view_is, c.put_before-2.ensures.items, c.take-2.ensures.taken, c.put_before.ensures.items, c.take.ensures.taken, c.behind-self-inside.ensures, c.behind-self-inside-2.ensures, left, right, since)
    (record { merged = refl })
