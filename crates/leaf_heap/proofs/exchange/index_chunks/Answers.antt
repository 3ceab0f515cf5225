use Rattle.leaf_heap.proofs.Common.{◌≡◌, None, nat_eq, ◌<◌, ◌∙◌, arith, length, take, refl, get_or_read, length-take-le, take_more, get, spare, chunk_at, no_chunk, on_ok}
use Rattle.leaf_heap.proofs.ChunkAdded as added
use Rattle.leaf_heap.proofs.exchange.index_chunks.Goals as goal

pub loop-i-preserved : goal.loop-i-preserved
loop-i-preserved c =
    let inside : c.loop-i.i < length c.args.chunks.now = c.loop-i-test.true in
    let room : 0 < spare c.loop-i.table = let r = c.loop-i.invariant.room in let q = c.requires.room in omega arith in
    let ok = c.insert.ensures.succeeds room in
    let before = added.apart_before c.args.chunks.now c.requires.apart c.loop-i.i c.index-chunks-i.result inside in
    let fresh = rw (← c.index-chunks-i.is) at before in
    let same : c.index-chunks-i.result ≡ chunk_at c.args.chunks.now c.loop-i.i = get_or_read c.args.chunks.now c.loop-i.i c.index-chunks-i.result inside c.index-chunks-i.is no_chunk in
    let len : length (take c.loop-i.i c.args.chunks.now) ≡ c.loop-i.i = length-take-le c.loop-i.i c.args.chunks.now (omega arith) in
    let more = take_more c.args.chunks.now c.loop-i.i c.index-chunks-i.result inside in
    let updates = (on_ok c.insert.result ok c.insert.ensures.updates).0 in
    let unknown = rw (← same) at (c.requires.new c.loop-i.i inside) in
    let none : get nat_eq c.loop-i.table c.index-chunks-i.result.number ≡ None = c.loop-i.invariant.places c.index-chunks-i.result.number ∙ rw (fresh, unknown) refl in
    let entry = added.new_entry c.insert.result _ _ _ ok c.insert.ensures.old c.insert.ensures.len (rw c.number.ensures none) in
    let each = c.loop-i.invariant.each in
    let taken = c.insert.ensures.spare in
    let was = c.loop-i.invariant.room in
    record {
      places = λ q.
          rw (more, ← c.index-chunks-i.is)
          (added.entry_more (take c.loop-i.i c.args.chunks.now) c.index-chunks-i.result fresh c.args.base c.loop-i.i len q _ _ _ (rw c.number.ensures at (updates q)) (c.loop-i.invariant.places q));
      each = omega arith;
      room = omega arith;
    }
