use Rattle.copying_gc.proofs.Common.{◌≡◌, List, length, map, reverse, sym, ap, ◌∙◌, with_items, ChunkValue, CollectorValue, followed_ref, led_chunk}
use Rattle.copying_gc.proofs.Evacuated as evacuated
use Rattle.copying_gc.proofs.collector.Collector.lead_chunks.Goals as goal

pub returns : goal.returns
returns c =
    let laid : List ChunkValue = c.self.inside.laid.items in
    let now : List ChunkValue = c.follow_chunks.new.chunks in
    let put : (with_items c.self.inside.laid now).items ≡ now =
    evacuated.put_back c.self.inside.laid.len now laid (c.follow_chunks.auto.chunks ∙ c.deref_mut.ensures.len) (sym (ap (λ (ks : List ChunkValue). length ks) c.deref_mut.ensures.value) ∙ c.deref_mut.ensures.len) in
    let led : (with_items c.self.inside.laid now).items ≡ map (led_chunk (followed_ref c.self.inside.heap.chunks)) laid =
    put ∙ (c.follow_chunks.ensures ∙ ap (map (led_chunk (followed_ref c.self.inside.heap.chunks))) c.deref_mut.ensures.value) in
    rw (← c.self.view_is)
    (ap (λ (ks : List ChunkValue). let w : CollectorValue = record { heap = c.self.inside.heap; found = c.self.inside.found.items; laying = record { laid = ks; spare = reverse c.self.inside.spare.items }; moved = c.self.inside.moved.items } in w) led)
