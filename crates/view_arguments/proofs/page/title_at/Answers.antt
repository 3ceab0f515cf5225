use Rattle.view_arguments.proofs.Common.{◌≡◌, ◌+◌, ap, sym, ◌∙◌, true, false, string_bytes, Global, codes, Some, bytes_eq}
use Rattle.view_arguments.proofs.FirstTitle.{next}
use Rattle.view_arguments.proofs.page.title_at.Goals as goal

pub returns-then-eq-clause-place : goal.returns-then-eq-clause-place
returns-then-eq-clause-place c =
    let is = ap (λ s. bytes_eq s (codes "--title")) (sym c.as_str.ensures.value) ∙ sym c.eq.ensures ∙ c.if-eq.true in
    ap Some c.loop-word.invariant.index
    ∙ sym (c.loop-word.invariant.place ∙ next (string_bytes {Z = Global}) c.args.words.now c.loop-word.word-index c.word-item.result c.loop-word-test.true c.word-item.is true is)

pub loop-word-preserved : goal.loop-word-preserved
loop-word-preserved c =
    let is = ap (λ s. bytes_eq s (codes "--title")) (sym c.as_str.ensures.value) ∙ sym c.eq.ensures ∙ c.if-eq.false in
    record {
      index = ap (λ k. k + 1) c.loop-word.invariant.index;
      place = c.loop-word.invariant.place ∙ next (string_bytes {Z = Global}) c.args.words.now c.loop-word.word-index c.word-item.result c.loop-word-test.true c.word-item.is false is;
    }
