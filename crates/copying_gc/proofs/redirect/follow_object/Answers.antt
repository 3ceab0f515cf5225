use Rattle.copying_gc.proofs.Common.{◌≡◌, ◌<◌, length, ap, ◌∙◌, subst, sym, arith, slice_get, Some, Option, List, Addr, Cell, with_ref, ChunkValue, cell_of, place_in, put_object, LeafHeapValue, with_chunks, followed_ref, IsTarget}
use Rattle.object_layout.proofs.ChunkLaws as laws
use Rattle.leaf_heap.proofs.HeapLemmas as heaps
use Rattle.copying_gc.proofs.FollowLemmas as follows
use Rattle.copying_gc.proofs.redirect.follow_object.Goals as goal

pub own_place-place-requires : goal.own_place-place-requires
own_place-place-requires c = laws.chunk_of_object c.args.heap.now.chunks c.args.object c.requires.0

pub refs_in-field-end-requires-clause-place : goal.refs_in-field-end-requires-clause-place
refs_in-field-end-requires-clause-place c =
    heaps.place_there c.args.heap.now.chunks c.args.object.chunk (laws.chunk_of_object c.args.heap.now.chunks c.args.object c.requires.0) ∙ ap Some (sym c.own_place-place.ensures)

pub loop-field-init : goal.loop-field-init
loop-field-init c = record {
  led = ap (with_chunks c.args.heap.now) (sym (follows.heap_none c.args.heap.now.chunks c.args.object c.requires.0));
  place = heaps.place_there c.args.heap.now.chunks c.args.object.chunk (laws.chunk_of_object c.args.heap.now.chunks c.args.object c.requires.0) ∙ ap Some (sym c.own_place-place.ensures);
  known = c.of-near.ensures;
}

pub ref_in-requires-clause-object : goal.ref_in-requires-clause-object
ref_in-requires-clause-object c =
    let count = c.refs_in-field-end.ensures in
    let l : c.loop-field.field < length (cell_of c.args.heap.now.chunks c.args.object).refs = omega arith in
    let chunks = ap (λ (h : LeafHeapValue). h.chunks) c.loop-field.invariant.led in
    rw chunks (follows.heap_object c.args.heap.now.chunks c.args.object c.requires.0 c.loop-field.field l)

pub ref_in-requires-clause-field : goal.ref_in-requires-clause-field
ref_in-requires-clause-field c =
    let count = c.refs_in-field-end.ensures in
    let l : c.loop-field.field < length (cell_of c.args.heap.now.chunks c.args.object).refs = omega arith in
    let chunks = ap (λ (h : LeafHeapValue). h.chunks) c.loop-field.invariant.led in
    rw chunks (follows.heap_cell c.args.heap.now.chunks c.args.object c.requires.0 c.loop-field.field l)

pub set_ref_in-requires-clause-field : goal.set_ref_in-requires-clause-field
set_ref_in-requires-clause-field c =
    let count = c.refs_in-field-end.ensures in
    let l : c.loop-field.field < length (cell_of c.args.heap.now.chunks c.args.object).refs = omega arith in
    let chunks = ap (λ (h : LeafHeapValue). h.chunks) c.loop-field.invariant.led in
    rw chunks (follows.heap_field c.args.heap.now.chunks c.args.object c.requires.0 c.loop-field.field l)

pub follow_near-now-requires-clause-target : goal.follow_near-now-requires-clause-target
follow_near-now-requires-clause-target c =
    let h : List ChunkValue = c.args.heap.now.chunks in
    let count = c.refs_in-field-end.ensures in
    let l : c.loop-field.field < length (cell_of h c.args.object).refs = omega arith in
    let chunks = ap (λ (z : LeafHeapValue). z.chunks) c.loop-field.invariant.led in
    subst (λ (ks : List ChunkValue). IsTarget ks c.ref_in.result) (sym chunks)
    (follows.heap_target h c.args.object c.requires.0 c.loop-field.field l c.ref_in.result
    (follows.heap_read h c.args.object c.requires.0 c.loop-field.field l c.ref_in.result
    (subst (λ (ks : List ChunkValue). slice_get (cell_of ks c.args.object).refs c.loop-field.field ≡ Some c.ref_in.result) chunks c.ref_in.ensures.value)) c.requires.1)

pub loop-field-preserved : goal.loop-field-preserved
loop-field-preserved c =
    let h : List ChunkValue = c.args.heap.now.chunks in
    let s : LeafHeapValue = c.loop-field.heap in
    let count = c.refs_in-field-end.ensures in
    let l : c.loop-field.field < length (cell_of h c.args.object).refs = omega arith in
    let chunks = ap (λ (z : LeafHeapValue). z.chunks) c.loop-field.invariant.led in
    let written : Cell = with_ref (cell_of s.chunks c.args.object) c.loop-field.field c.follow_near-now.result in
    let now : c.set_ref_in.new.self.chunks ≡ put_object s.chunks c.args.object written = ap (λ (z : LeafHeapValue). z.chunks) c.set_ref_in.ensures in
    let step : LeafHeapValue → Option Addr → LeafHeapValue = λ z v. with_chunks z (put_object z.chunks c.args.object (with_ref (cell_of z.chunks c.args.object) c.loop-field.field v)) in
    record {
      led = c.set_ref_in.ensures
          ∙ (ap (step s) c.follow_near-now.ensures.value
          ∙ (ap (λ (z : LeafHeapValue). step z (followed_ref z.chunks c.ref_in.result)) c.loop-field.invariant.led
          ∙ ap (with_chunks c.args.heap.now) (follows.heap_more h c.args.object c.requires.0 c.loop-field.field l c.ref_in.result
          (follows.heap_read h c.args.object c.requires.0 c.loop-field.field l c.ref_in.result
          (subst (λ (ks : List ChunkValue). slice_get (cell_of ks c.args.object).refs c.loop-field.field ≡ Some c.ref_in.result) chunks c.ref_in.ensures.value)))));
      place = ap (λ (ks : List ChunkValue). place_in ks c.args.object.chunk) now ∙ (laws.place_in-put s.chunks c.args.object written c.args.object.chunk ∙ c.loop-field.invariant.place);
      known = ap (λ (ks : List ChunkValue). place_in ks c.follow_near-now.new.near.number) now ∙ (laws.place_in-put s.chunks c.args.object written c.follow_near-now.new.near.number ∙ c.follow_near-now.ensures.known);
    }
