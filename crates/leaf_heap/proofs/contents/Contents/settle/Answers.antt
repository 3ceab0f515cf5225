use Rattle.std.proofs.Common.{refl}
use Rattle.chunk_list.proofs.ViewLemmas as view
use Rattle.leaf_heap.proofs.contents.Contents.settle.Goals as goal

pub invariant_of-self : goal.invariant_of-self
invariant_of-self c =
    let kept = c.self.invariant in
    let needs = rw c.as_slice.ensures at c.in_ok-layer.ensures in
    record {
      current = kept.current;
      reserved = kept.reserved;
      within = kept.within;
      words = kept.words;
      objects = kept.objects;
      small = kept.small;
      least = kept.least;
      moved = kept.moved;
      table = kept.table;
      each = kept.each;
      shown = view.put_shows c.put.result c.self.inside.pieces c.self.inside.pieces c.put.new.self c.in_ok-layer.layer c.self.inside.chunks.items refl c.put.ensures.layers c.put.ensures.err needs kept.shown;
    }
