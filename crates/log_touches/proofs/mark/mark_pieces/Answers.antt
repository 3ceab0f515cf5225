use Rattle.log_touches.proofs.Common.{◌≡◌, ◌+◌, ◌++◌, ◌∙◌, Err, IfErr, List, length, take, drop, get_or, ap, sym, subst, arith, err_from_is_err_and, acts_in, acts_of_piece, events_of_pieces, Region, AreMarked, regions_of_acts, regions_of_events, firsts_from, AreTooMany}
use Rattle.log_touches.proofs.Chains.{count_more, few_up_to}
use Rattle.log_touches.proofs.Parts.{no_piece, split_here, regions_more, firsts_more, still_too_many}
use Rattle.log_touches.proofs.mark.mark_pieces.Goals as goal

pub returns-in_err-number-clause-refused : goal.returns-in_err-number-clause-refused
returns-in_err-number-clause-refused c =
    let texts = c.args.texts.now in
    let pieces = c.args.pieces.now in
    let i = c.loop-piece.piece-index in
    let p = get_or pieces i no_piece in
    let acts = ap length c.piece_lines.ensures in
    let count = count_more texts pieces i p (drop (i + 1) pieces) (split_here pieces i c.loop-piece-test.true) in
    let few = few_up_to texts pieces (i + 1) in
    let given = err_from_is_err_and c.from_residual-in_err-number.result c.from_residual-in_err-number.ensures.1 in
    subst (λ r. IfErr r (AreTooMany (length (events_of_pieces texts pieces)))) (sym (given.1 ∙ ap Err given.2))
    (still_too_many (c.loop-piece.number + length (acts_in c.piece_lines.result.now)) (length (events_of_pieces texts pieces)) c.in_err-number.field-0.0
    (omega (arith, acts, count, few, c.loop-piece.invariant.number)) c.in_err-number.ensures.refused)

pub loop-piece-preserved : goal.loop-piece-preserved
loop-piece-preserved c =
    let texts = c.args.texts.now in
    let pieces = c.args.pieces.now in
    let i = c.loop-piece.piece-index in
    let p = get_or pieces i no_piece in
    let split = split_here pieces i c.loop-piece-test.true in
    let acts : acts_in c.piece_lines.result.now ≡ acts_of_piece texts p = c.piece_lines.ensures in
    let number : c.in_ok-number.number ≡ c.loop-piece.number + length (acts_of_piece texts p) = c.in_ok-number.ensures.number ∙ ap (λ l. c.loop-piece.number + length l) acts in
    record {
      few = c.in_ok-number.ensures.few;
      number = number ∙ (ap (λ n. n + length (acts_of_piece texts p)) c.loop-piece.invariant.number ∙ sym (count_more texts pieces i p (drop (i + 1) pieces) split));
      firsts = ap (λ l. l ++ firsts_from texts c.in_ok-number.number (drop (i + 1) pieces)) c.in_ok-push.ensures.ok
          ∙ firsts_more texts pieces i c.loop-piece.number c.in_ok-number.number c.loop-piece.firsts c.loop-piece-test.true number c.loop-piece.invariant.firsts;
      marked = subst (λ (rs : List Region). AreMarked rs c.mark_text.new.places)
          (ap (λ l. regions_of_events (events_of_pieces texts (take i pieces)) ++ regions_of_acts l) acts ∙ sym (regions_more texts pieces i p (drop (i + 1) pieces) split))
          (c.in_ok-number.ensures.marked (regions_of_events (events_of_pieces texts (take i pieces))) c.loop-piece.invariant.marked);
    }
