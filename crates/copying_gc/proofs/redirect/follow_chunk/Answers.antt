use Rattle.copying_gc.proofs.Common.{◌≡◌, ◌+◌, List, arith, refl, sym, ap, ◌∙◌, subst, All, Cell, IsObject, size_of, ChunkValue, IsCellAt, cell_at, words_in, IsTarget, followed_ref, HasTargets}
use Rattle.object_layout.proofs.PlaceLemmas as place
use Rattle.copying_gc.proofs.FollowLemmas as follows
use Rattle.copying_gc.proofs.FollowLemmas.{led_before}
use Rattle.copying_gc.proofs.redirect.follow_chunk.Goals as goal

pub follow_refs-requires-clause-object : goal.follow_refs-requires-clause-object
follow_refs-requires-clause-object c =
    let f = followed_ref c.args.heap.now.chunks in
    let o : IsCellAt c.args.chunk.now.cells c.loop-at.at = c.loop-at.invariant.begins c.loop-at-test.true in
    let t : HasTargets c.args.heap.now.chunks (cell_at c.args.chunk.now.cells c.loop-at.at) = place.All-cell_at (HasTargets c.args.heap.now.chunks) c.args.chunk.now.cells c.loop-at.at o c.requires in
    subst (λ (d : Cell). IsObject d.mark) (sym (follows.cell_before f c.args.chunk.now c.loop-at.chunk _ c.loop-at.at o c.loop-at.invariant.chunk refl)) t.0

pub follow_refs-requires-clause-targets : goal.follow_refs-requires-clause-targets
follow_refs-requires-clause-targets c =
    let f = followed_ref c.args.heap.now.chunks in
    let o : IsCellAt c.args.chunk.now.cells c.loop-at.at = c.loop-at.invariant.begins c.loop-at-test.true in
    let t : HasTargets c.args.heap.now.chunks (cell_at c.args.chunk.now.cells c.loop-at.at) = place.All-cell_at (HasTargets c.args.heap.now.chunks) c.args.chunk.now.cells c.loop-at.at o c.requires in
    subst (λ (d : Cell). All (IsTarget c.args.heap.now.chunks) d.refs) (sym (follows.cell_before f c.args.chunk.now c.loop-at.chunk _ c.loop-at.at o c.loop-at.invariant.chunk refl)) t.1

pub next_at-next-requires : goal.next_at-next-requires
next_at-next-requires c =
    let f = followed_ref c.args.heap.now.chunks in
    let o : IsCellAt c.args.chunk.now.cells c.loop-at.at = c.loop-at.invariant.begins c.loop-at-test.true in
    follows.begins_there f c.args.chunk.now c.loop-at.chunk _ c.loop-at.at o c.loop-at.invariant.chunk refl

pub loop-at-preserved : goal.loop-at-preserved
loop-at-preserved c =
    let f = followed_ref c.args.heap.now.chunks in
    let o : IsCellAt c.args.chunk.now.cells c.loop-at.at = c.loop-at.invariant.begins c.loop-at-test.true in
    let there = follows.cell_before f c.args.chunk.now c.loop-at.chunk c.follow_refs.new.chunk c.loop-at.at o c.loop-at.invariant.chunk c.follow_refs.ensures.led in
    let next : c.next_at-next.result ≡ c.loop-at.at + size_of (cell_at c.args.chunk.now.cells c.loop-at.at) = c.next_at-next.ensures.next ∙ ap (λ (d : Cell). c.loop-at.at + size_of d) there in
    let ends = place.cell_ends c.args.chunk.now.cells c.loop-at.at o in
    record {
      chunk = follows.after_is f c.args.chunk.now c.loop-at.chunk c.follow_refs.new.chunk c.loop-at.at o c.loop-at.invariant.chunk c.follow_refs.ensures.led c.next_at-next.result next;
      within = omega arith;
      begins = λ l. rw next (place.next_cell c.args.chunk.now.cells c.loop-at.at o (omega arith));
      known = c.follow_refs.ensures.known;
    }

pub returns : goal.returns
returns c =
    let f = followed_ref c.args.heap.now.chunks in
    let w = c.loop-at.invariant.within in
    let at : c.loop-at.at ≡ words_in c.args.chunk.now.cells = omega arith in
    c.loop-at.invariant.chunk ∙ ap (λ (xs : List Cell). let r : ChunkValue = record c.args.chunk.now { cells = xs } in r) (ap (led_before f c.args.chunk.now.cells) at ∙ follows.before_all f c.args.chunk.now.cells)
