use Rattle.copying_gc.proofs.Common.{◌≡◌, List, ◌∷◌, [], ◌++◌, length, reverse, arith, sym, ap, ◌∙◌, with_items, Cell, Moved, with_mark, cell_of, put_object, ChunkValue, Addr, length-put, with_chunks, next_place, placed_behind, survivor_cell}
use Rattle.object_layout.proofs.ChunkLaws as laws
use Rattle.copying_gc.proofs.Evacuated as evacuated
use Rattle.copying_gc.proofs.Places as places
use Rattle.copying_gc.proofs.collector.Collector.copy_last.Goals as goal

pub returns : goal.returns
returns c =
    let h : List ChunkValue = c.self.inside.heap.chunks in
    let was : List ChunkValue = c.self.inside.laid.items in
    let now : List ChunkValue = c.move_last-address.new.laid in
    let old : Addr = c.args.survivor.old in
    let put : (with_items c.self.inside.laid now).items ≡ now =
    evacuated.put_back c.self.inside.laid.len now was (c.move_last-address.auto.laid ∙ c.deref_mut.ensures.len) (sym (ap (λ (ks : List ChunkValue). length ks) c.deref_mut.ensures.value) ∙ c.deref_mut.ensures.len) in
    let address : c.move_last-address.result ≡ next_place was = c.move_last-address.ensures.address ∙ ap next_place c.deref_mut.ensures.value in
    rw (← c.self.view_is)
    (places.same_collection c.self.inside.found.items (reverse c.self.inside.spare.items) c.move_last-address.new.heap (with_chunks c.self.inside.heap (put_object h old (with_mark (cell_of h old) (Moved (next_place was)))))
    (with_items c.self.inside.laid now).items (placed_behind was (survivor_cell h c.args.survivor)) c.push_reserved.new.self.items (c.self.inside.moved.items ++ (old, next_place was) ∷ [])
    (c.move_last-address.ensures.left ∙ ap (λ (a : Addr). with_chunks c.self.inside.heap (put_object h old (with_mark (cell_of h old) (Moved a)))) address)
    (put ∙ (c.move_last-address.ensures.laid ∙ ap (λ (ks : List ChunkValue). placed_behind ks (survivor_cell h c.args.survivor)) c.deref_mut.ensures.value))
    (c.push_reserved.ensures.items ∙ ap (λ (a : Addr). c.self.inside.moved.items ++ (old, a) ∷ []) address))

pub invariant_of-self : goal.invariant_of-self
invariant_of-self c =
    let h : List ChunkValue = c.self.inside.heap.chunks in
    let old : Addr = c.args.survivor.old in
    let objects = places.fewer_moved h old c.move_last-address.result in
    let gone : Cell = with_mark (cell_of h old) (Moved c.move_last-address.result) in
    let chunks = length-put h old gone in
    let places_are = c.self.invariant.0 in
    let room = c.push_reserved.ensures.capacity in
    rw c.move_last-address.ensures.left (
      record { found = omega arith; moved = omega arith; laid = omega arith },
      (laws.place_in-put h old gone c.self.inside.object.number ∙ c.self.invariant.1.0, laws.place_in-put h old gone c.self.inside.target.number ∙ c.self.invariant.1.1),
    )
