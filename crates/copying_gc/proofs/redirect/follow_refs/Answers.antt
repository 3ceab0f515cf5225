use Rattle.copying_gc.proofs.Common.{◌<◌, length, ap, arith, all_at, Header, Cell, ChunkValue, cell_at, followed_ref, IsTarget}
use Rattle.object_layout.proofs.PlaceLemmas as place
use Rattle.copying_gc.proofs.FollowLemmas as follows
use Rattle.copying_gc.proofs.redirect.follow_refs.Goals as goal

pub loop-field-init : goal.loop-field-init
loop-field-init c = record { led = rw (follows.none_yet (followed_ref c.args.heap.now.chunks) c.args.chunk.now.cells c.args.at c.requires.object); known = c.requires.known }

pub ref_at-requires : goal.ref_at-requires
ref_at-requires c =
    let same = ap (λ (d : Cell). length d.refs) (place.object_is c.args.chunk.now.cells c.args.at c.requires.object) in
    let kind = ap (λ (h : Header). h.nrefs) c.header_at-field-end.ensures.kind in
    let l : c.loop-field.field < length (cell_at c.args.chunk.now.cells c.args.at).refs = omega arith in
    let cells = ap (λ (k : ChunkValue). k.cells) c.loop-field.invariant.led in
    rw cells (follows.field (followed_ref c.args.heap.now.chunks) c.args.chunk.now.cells c.args.at c.requires.object c.loop-field.field l)

pub set_ref-requires-clause-field : goal.set_ref-requires-clause-field
set_ref-requires-clause-field c =
    let same = ap (λ (d : Cell). length d.refs) (place.object_is c.args.chunk.now.cells c.args.at c.requires.object) in
    let kind = ap (λ (h : Header). h.nrefs) c.header_at-field-end.ensures.kind in
    let l : c.loop-field.field < length (cell_at c.args.chunk.now.cells c.args.at).refs = omega arith in
    let cells = ap (λ (k : ChunkValue). k.cells) c.loop-field.invariant.led in
    rw cells (follows.field (followed_ref c.args.heap.now.chunks) c.args.chunk.now.cells c.args.at c.requires.object c.loop-field.field l)

pub follow_near-now-requires-clause-target : goal.follow_near-now-requires-clause-target
follow_near-now-requires-clause-target c =
    let same = ap (λ (d : Cell). length d.refs) (place.object_is c.args.chunk.now.cells c.args.at c.requires.object) in
    let kind = ap (λ (h : Header). h.nrefs) c.header_at-field-end.ensures.kind in
    let l : c.loop-field.field < length (cell_at c.args.chunk.now.cells c.args.at).refs = omega arith in
    let cells = ap (λ (k : ChunkValue). k.cells) c.loop-field.invariant.led in
    let was = follows.was (followed_ref c.args.heap.now.chunks) c.args.chunk.now.cells c.args.at c.requires.object c.loop-field.field l c.ref_at.result (rw cells at c.ref_at.ensures.value) in
    all_at (IsTarget c.args.heap.now.chunks) (cell_at c.args.chunk.now.cells c.args.at).refs c.loop-field.field c.ref_at.result c.requires.targets was

pub loop-field-preserved : goal.loop-field-preserved
loop-field-preserved c =
    let same = ap (λ (d : Cell). length d.refs) (place.object_is c.args.chunk.now.cells c.args.at c.requires.object) in
    let kind = ap (λ (h : Header). h.nrefs) c.header_at-field-end.ensures.kind in
    let l : c.loop-field.field < length (cell_at c.args.chunk.now.cells c.args.at).refs = omega arith in
    let cells = ap (λ (k : ChunkValue). k.cells) c.loop-field.invariant.led in
    record {
      led = rw (c.set_ref.ensures, c.follow_near-now.ensures.value, c.loop-field.invariant.led, follows.more (followed_ref c.args.heap.now.chunks) c.args.chunk.now.cells c.args.at c.requires.object c.loop-field.field l c.ref_at.result (rw cells at c.ref_at.ensures.value));
      known = c.follow_near-now.ensures.known;
    }
