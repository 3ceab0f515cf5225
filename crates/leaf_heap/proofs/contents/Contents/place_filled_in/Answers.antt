use Rattle.leaf_heap.proofs.Common.{◌≡◌, ◌+◌, ◌∙◌, ap, arith, refl, small_part, ChunkValue, filled_cell, size_of, saturating_words, the_view}
use Rattle.chunk_list.proofs.below.frozen_views.PieceLists as lists
use Rattle.leaf_heap.proofs.HeapLemmas as heap
use Rattle.leaf_heap.proofs.Settled as settled
use Rattle.leaf_heap.proofs.contents.Contents.place_filled_in.Goals as goal
use Rattle.leaf_heap.proofs.contents.Contents.place_filled_in.Goals.{then-words-gt-SMALL, else-words-gt-SMALL}

pub invariant_of-self : goal.invariant_of-self
invariant_of-self c =
    let fits = rw (← c.self.view_is) at c.requires.fits in
    let size : size_of (filled_cell c.args.new.header c.args.new.birth c.args.refs.now c.args.ints.now) ≡ 2 + (c.args.new.header.nrefs + c.args.new.header.nints) = rw (← c.requires.refs, ← c.requires.ints) refl in
    let same : 2 + c.args.new.header.nrefs + c.args.new.header.nints ≡ size_of (filled_cell c.args.new.header c.args.new.birth c.args.refs.now c.args.ints.now) = omega arith in
    let part : c.small_part.result ≡ small_part (size_of (filled_cell c.args.new.header c.args.new.birth c.args.refs.now c.args.ints.now)) = c.small_part.ensures ∙ ap small_part same in
    elim c.if-words-gt-SMALL.branch [
      | then-words-gt-SMALL w ↦
          let more = w.if-words-gt-SMALL.true in
          let sum = rw w.self-inside-is at c.saturating_add-self-inside-2.ensures in
          rw (w.self-inside-is, c.write_filled.ensures)
          (heap.placed_kept (the_view c.self.inside) _ _ _ _ _ _ _ c.self.invariant c.args.i c.at_mut-chunk.result.now c.at_mut-chunk.ensures.value (filled_cell c.args.new.header c.args.new.birth c.args.refs.now c.args.ints.now) (λ n. refl) fits
          _ (λ l. absurd (omega arith)) (λ l. refl) _ _ _ (rw size (sum ∙ omega arith)) (rw w.self-inside-is at c.saturating_add-self-inside-3.ensures) (rw w.self-inside-is at c.saturating_add-self-inside-4.ensures ∙ ap (λ n. saturating_words (c.self.inside.small + n)) part)
          _ (lists.changed _ _ c.self.inside.chunks.items c.args.i c.number-number.result _ c.at_mut-chunk.result.now (ap (λ (x : ChunkValue). x.number) c.at_mut-chunk.ensures.value) c.number-number.ensures c.note_change.ensures.noted c.self.invariant.shown))
      | else-words-gt-SMALL w ↦
          let less = w.if-words-gt-SMALL.false in
          let sum = rw w.self-inside-is at c.saturating_add-self-inside-2.ensures in
          rw (w.self-inside-is, c.write_filled.ensures)
          (heap.placed_kept (the_view c.self.inside) _ _ _ _ _ _ _ c.self.invariant c.args.i c.at_mut-chunk.result.now c.at_mut-chunk.ensures.value (filled_cell c.args.new.header c.args.new.birth c.args.refs.now c.args.ints.now) (λ n. refl) fits
          _ (λ l. refl) (λ l. absurd (omega arith)) _ _ _ (rw size (sum ∙ omega arith)) (rw w.self-inside-is at c.saturating_add-self-inside-3.ensures) (rw w.self-inside-is at c.saturating_add-self-inside-4.ensures ∙ ap (λ n. saturating_words (c.self.inside.small + n)) part)
          _ (lists.changed _ _ c.self.inside.chunks.items c.args.i c.number-number.result _ c.at_mut-chunk.result.now (ap (λ (x : ChunkValue). x.number) c.at_mut-chunk.ensures.value) c.number-number.ensures c.note_change.ensures.noted c.self.invariant.shown))
    ]

pub returns-clause-settled : goal.returns-clause-settled
returns-clause-settled c = λ s.
    let fits = rw (← c.self.view_is) at c.requires.fits in
    let was = rw (← c.self.view_is) at s in
    elim c.if-words-gt-SMALL.branch [
      | then-words-gt-SMALL w ↦
          rw (w.self-inside-is, c.write_filled.ensures)
          (settled.settled_placed (the_view c.self.inside) _ _ _ _ _ _ _ c.self.invariant c.args.i (filled_cell c.args.new.header c.args.new.birth c.args.refs.now c.args.ints.now) fits refl c.at_mut-chunk.result.now c.at_mut-chunk.ensures.value was)
      | else-words-gt-SMALL w ↦
          rw (w.self-inside-is, c.write_filled.ensures)
          (settled.settled_placed (the_view c.self.inside) _ _ _ _ _ _ _ c.self.invariant c.args.i (filled_cell c.args.new.header c.args.new.birth c.args.refs.now c.args.ints.now) fits refl c.at_mut-chunk.result.now c.at_mut-chunk.ensures.value was)
    ]

pub returns-clause-near : goal.returns-clause-near
returns-clause-near c =
    let fits = rw (← c.self.view_is) at c.requires.fits in
    let near =
    settled.placed_near (the_view c.self.inside) _ _ _ _ _ _ _ c.self.invariant c.args.i (filled_cell c.args.new.header c.args.new.birth c.args.refs.now c.args.ints.now) fits refl c.at_mut-chunk.result.now c.at_mut-chunk.ensures.value in
    rw c.used-offset.ensures.words near
