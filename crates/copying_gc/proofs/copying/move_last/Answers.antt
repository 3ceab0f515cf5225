use Rattle.copying_gc.proofs.Common.{◌≡◌, ◌-◌, ◌<◌, length, set, arith, sym, ap, ◌∙◌, subst, cell_of, ChunkValue, Addr, next_place, survivor_cell}
use Rattle.copying_gc.proofs.LastChunk as last
use Rattle.copying_gc.proofs.copying.move_last.Goals as goal

pub copy_out-address-requires-clause-room : goal.copy_out-address-requires-clause-room
copy_out-address-requires-clause-room c =
    let some = last.some_room c.args.laid.now (cell_of c.args.heap.now.chunks c.args.survivor.old) c.requires.room in
    let room = last.read_room c.args.laid.now c.index-laid-last.result some c.index-laid-last.is in
    let fits = c.requires.room in
    rw (← c.index-laid-last.is) (omega arith)

pub forward_in-requires-clause-to : goal.forward_in-requires-clause-to
forward_in-requires-clause-to c =
    let some = last.some_room c.args.laid.now (cell_of c.args.heap.now.chunks c.args.survivor.old) c.requires.room in
    let is : c.copy_out-address.result ≡ next_place c.args.laid.now =
    (rw (← c.index-laid-last.is) at c.copy_out-address.ensures.address) ∙ sym (last.read_place c.args.laid.now c.index-laid-last.result some c.index-laid-last.is) in
    subst (λ (a : Addr). a.offset < 1024) (sym is) c.requires.begins

pub returns-clause-address : goal.returns-clause-address
returns-clause-address c =
    let some = last.some_room c.args.laid.now (cell_of c.args.heap.now.chunks c.args.survivor.old) c.requires.room in
    (rw (← c.index-laid-last.is) at c.copy_out-address.ensures.address) ∙ sym (last.read_place c.args.laid.now c.index-laid-last.result some c.index-laid-last.is)

pub returns-clause-laid : goal.returns-clause-laid
returns-clause-laid c =
    let some = last.some_room c.args.laid.now (cell_of c.args.heap.now.chunks c.args.survivor.old) c.requires.room in
    let k : ChunkValue = c.index-laid-last.result in
    ap (λ (x : ChunkValue). set c.args.laid.now (length c.args.laid.now - 1) x) (rw (← c.index-laid-last.is) at c.copy_out-address.ensures.copied)
    ∙ sym (last.read_placed c.args.laid.now k some c.index-laid-last.is (survivor_cell c.args.heap.now.chunks c.args.survivor))
