use Rattle.copying_gc.proofs.Common.{[], ◌∷◌, ◌++◌, arith, sym, ap, ◌∙◌, subst, Born, Cell, IsObject, size_of, with_mark, ChunkValue, cell_of, object_at, place_within}
use Rattle.object_layout.proofs.FillLemmas as fill
use Rattle.copying_gc.proofs.OwnObjects.{object_told}
use Rattle.copying_gc.proofs.copying.copy_out.Goals as goal

pub chunk_in-from-requires : goal.chunk_in-from-requires
chunk_in-from-requires c = place_within c.args.heap.now.chunks c.args.survivor.old.chunk c.args.place c.requires.place

pub copy_behind-offset-requires-clause-object : goal.copy_behind-offset-requires-clause-object
copy_behind-offset-requires-clause-object c = subst (λ (x : Cell). IsObject x.mark) (sym (c.chunk_in-from.ensures c.args.survivor.old c.requires.place)) c.requires.object

pub copy_behind-offset-requires-clause-room : goal.copy_behind-offset-requires-clause-room
copy_behind-offset-requires-clause-room c =
    let d : Cell = cell_of c.args.heap.now.chunks c.args.survivor.old in
    let same = ap size_of (object_told c.chunk_in-from.result.now.cells c.args.survivor.old.offset d (c.chunk_in-from.ensures c.args.survivor.old c.requires.place) c.requires.object) in
    let room = c.requires.room in
    omega arith

pub set_birth-requires : goal.set_birth-requires
set_birth-requires c =
    let d : Cell = cell_of c.args.heap.now.chunks c.args.survivor.old in
    let told = object_told c.chunk_in-from.result.now.cells c.args.survivor.old.offset d (c.chunk_in-from.ensures c.args.survivor.old c.requires.place) c.requires.object in
    let read = fill.last_read c.args.to.now c.copy_behind-offset.result c.copy_behind-offset.ensures.place c.copy_behind-offset.new.to
    (object_at c.chunk_in-from.result.now.cells c.args.survivor.old.offset) c.copy_behind-offset.ensures.copied in
    subst (λ (x : Cell). IsObject x.mark) (sym (read ∙ told)) c.requires.object

pub returns-clause-copied : goal.returns-clause-copied
returns-clause-copied c =
    let d : Cell = cell_of c.args.heap.now.chunks c.args.survivor.old in
    let to : ChunkValue = c.args.to.now in
    let told = object_told c.chunk_in-from.result.now.cells c.args.survivor.old.offset d (c.chunk_in-from.ensures c.args.survivor.old c.requires.place) c.requires.object in
    fill.last_filled to c.copy_behind-offset.result c.copy_behind-offset.ensures.place c.copy_behind-offset.new.to c.set_birth.new.chunk
    (object_at c.chunk_in-from.result.now.cells c.args.survivor.old.offset) (λ (x : Cell). with_mark x (Born c.args.survivor.birth)) c.copy_behind-offset.ensures.copied c.set_birth.ensures
    ∙ ap (λ (x : Cell). let r : ChunkValue = record to { cells = to.cells ++ with_mark x (Born c.args.survivor.birth) ∷ [] } in r) told
