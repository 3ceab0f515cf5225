use Rattle.log_births.proofs.Common.{ℕ, subst, arith, events_of_pieces, no_more, KnowAll}
use Rattle.log_births.proofs.Parts.{count_more}
use Rattle.log_births.proofs.Going.{known_on, count_all}
use Rattle.log_births.proofs.lines.lifetimes_of.Goals as goal

pub take_text-requires : goal.take_text-requires
take_text-requires c =
    let most = no_more c.args.texts.now c.args.pieces.now c.loop-at.at _ c.piece_text.result.now (omega (arith, c.loop-at-test.true)) c.piece_text.ensures in
    omega (arith, most, c.loop-at.invariant.number, c.requires.few)

pub loop-at-preserved : goal.loop-at-preserved
loop-at-preserved c = record {
  number = count_more c.args.texts.now c.args.pieces.now c.loop-at.at _ c.piece_text.result.now c.loop-at.line c.in_ok-line.line (omega (arith, c.loop-at-test.true)) c.piece_text.ensures c.loop-at.invariant.number c.in_ok-line.ensures.line;
  known =
      known_on c.args.texts.now c.args.pieces.now c.args.places.now c.loop-at.at _ _ c.piece_text.result.now c.loop-at.line c.in_ok-line.line (omega (arith, c.loop-at-test.true)) c.requires.places c.piece_text.ensures c.loop-at.invariant.number
      c.loop-at.lines c.take_text.new.self c.in_ok-line.ensures.lines c.loop-at.invariant.known;
}

pub returns : goal.returns
returns c = λ tasks order are.
    subst (λ (n : ℕ). KnowAll tasks order (events_of_pieces c.args.texts.now c.args.pieces.now) n c.loop-at.lines)
    (count_all c.args.texts.now c.args.pieces.now c.loop-at.at c.loop-at.line (omega (arith, c.loop-at-test.false, c.loop-at.auto.at-end)) c.loop-at.invariant.number)
    (c.loop-at.invariant.known tasks order are)
