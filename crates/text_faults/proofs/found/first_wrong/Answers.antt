use Rattle.text_faults.proofs.Common.{ap, sym, ◌∙◌, placed_from, first_wrong}
use Rattle.text_faults.proofs.OnLines.{no_form}
use Rattle.text_faults.proofs.found.first_wrong.Goals as goal

pub returns : goal.returns
returns c =
    c.extra.ensures c.loop-form.behind
    ∙ ap (λ f. first_wrong c.loop-form.behind f (placed_from c.args.parsed.now.line.now c.loop-form.at)) (sym (no_form c.loop-form.form.now c.in_default.len_below))
    ∙ c.loop-form.invariant.value
