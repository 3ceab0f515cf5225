use Rattle.chunk_pool.proofs.Common.{◌+◌, ◌-◌, ◌≤◌, ◌^◌, length, vec_len, vec_capacity, All, HasRoomFor, AreChunks, IsBlank, NumbersBehind}
use Rattle.chunk_pool.proofs.numbers.number_all.Given as goal

abbrev pub invariant-loop-chunk : goal.invariant-loop-chunk
invariant-loop-chunk l = record {
  room : HasRoomFor l.slots (length l.blank.items);
  small : l.slots.capacity ≤ 2 ^ 32;
  places : vec_len l.list + length l.blank.items ≤ vec_capacity l.list;
  blank : All IsBlank l.blank.items;
  fewer : length l.blank.items ≤ length l.fn.blank.items;
  chunks : AreChunks l.fn.slots.slots → AreChunks l.slots.slots;
  numbered : NumbersBehind l.fn.slots.slots l.slots.slots l.owner (length l.fn.blank.items - length l.blank.items) l.fn.list.items l.list.items;
}

abbrev pub decreases-loop-chunk : goal.decreases-loop-chunk
decreases-loop-chunk l = vec_len l.blank
