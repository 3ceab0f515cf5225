use Rattle.log_heaps.proofs.Common.{ℕ, subst, arith, events_of_pieces, no_more, count_more, place_there, count_all, AreTallied}
use Rattle.log_heaps.proofs.Going.{tallied_on}
use Rattle.log_heaps.proofs.tally.Tally.take_pieces.Goals as goal

pub take_text-requires-clause-room : goal.take_text-requires-clause-room
take_text-requires-clause-room c =
    let most = no_more c.args.texts.now c.args.pieces.now c.loop-at.at _ c.piece_text-text.result.now (omega (arith, c.loop-at-test.true)) c.piece_text-text.ensures in
    omega (arith, most, c.loop-at.invariant.number, c.requires.few)

pub take_text-requires-clause-place : goal.take_text-requires-clause-place
take_text-requires-clause-place c = place_there c.args.places.now c.loop-at.at _ _ (omega (arith, c.loop-at-test.true, c.requires.places)) c.requires.there

pub loop-at-preserved : goal.loop-at-preserved
loop-at-preserved c = record {
  number = count_more c.args.texts.now c.args.pieces.now c.loop-at.at _ c.piece_text-text.result.now c.loop-at.line c.in_ok-line.line (omega (arith, c.loop-at-test.true)) c.piece_text-text.ensures c.loop-at.invariant.number c.in_ok-line.ensures.line;
  few = c.in_ok-line.ensures.few;
  tallied =
      tallied_on c.args.texts.now c.args.pieces.now c.args.places.now c.loop-at.at _ _ c.piece_text-text.result.now c.loop-at.line c.in_ok-line.line (omega (arith, c.loop-at-test.true)) c.requires.places c.piece_text-text.ensures c.loop-at.invariant.number
      c.args.walk.now c.args.lines.now c.args.self.now c.loop-at.self c.take_text.new.self c.in_ok-line.ensures.tallied c.loop-at.invariant.tallied;
}

pub returns : goal.returns
returns c = λ tasks scene are none.
    subst (λ (n : ℕ). AreTallied (events_of_pieces c.args.texts.now c.args.pieces.now) tasks n c.loop-at.self)
    (count_all c.args.texts.now c.args.pieces.now c.loop-at.at c.loop-at.line (omega (arith, c.loop-at-test.false, c.loop-at.auto.at-end)) c.loop-at.invariant.number)
    (c.loop-at.invariant.tallied tasks scene are none)
