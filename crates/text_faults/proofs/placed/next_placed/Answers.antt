use Rattle.text_faults.proofs.Common.{◌≡◌, ◌<◌, List, [], ◌∷◌, length, arith, ap, sym, subst, ◌∙◌, MatchOption, position_or_len, is_blank, PlacedWord, placed_of, placed_from}
use Rattle.text_faults.proofs.Pieces.{blank_passed, nothing_behind, rest_fits}
use Rattle.text_faults.proofs.placed.next_placed.Goals as goal

pub placed_at-requires-clause-ends : goal.placed_at-requires-clause-ends
placed_at-requires-clause-ends c = c.run_end-end.ensures.end ∙ ap (position_or_len is_blank) c.rest_from.ensures

pub placed_at-requires-clause-within : goal.placed_at-requires-clause-within
placed_at-requires-clause-within c = rest_fits c.args.line.now c.rest_from.result.now c.loop-at.start c.run_end-end.result c.rest_from.ensures c.loop-at.invariant.within c.run_end-end.ensures.within

pub returns-then-end-gt0-clause-words : goal.returns-then-end-gt0-clause-words
returns-then-end-gt0-clause-words c =
    subst (λ (ws : List PlacedWord). MatchOption c.placed_at.result (ws ≡ []) (λ r. ws ≡ placed_of r.0 ∷ placed_from c.args.line.now r.1)) c.loop-at.invariant.value c.placed_at.ensures.words

pub returns-then-start-line-clause-words : goal.returns-then-start-line-clause-words
returns-then-start-line-clause-words c = sym c.loop-at.invariant.value ∙ nothing_behind c.args.line.now c.loop-at.start c.if-start-line.true

pub loop-at-preserved : goal.loop-at-preserved
loop-at-preserved c =
    let lt : c.loop-at.start < length c.args.line.now = omega (arith, c.loop-at.invariant.within, c.if-start-line.false) in
    record {
      value = sym (blank_passed c.args.line.now c.loop-at.start c.run_end-end.result (c.run_end-end.ensures.end ∙ ap (position_or_len is_blank) c.rest_from.ensures) c.if-end-gt0.false lt) ∙ c.loop-at.invariant.value;
      within = omega (arith, lt);
    }
