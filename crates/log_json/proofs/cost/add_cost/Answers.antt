use Rattle.log_json.proofs.Common.{◌∙◌, ap, on_ok_weaker, quoted}
use Rattle.log_json.proofs.Parts.{four}
use Rattle.log_json.proofs.cost.add_cost.Goals as goal

pub returns : goal.returns
returns c =
    on_ok_weaker c.add_word.result
    (λ e. four c.args.text.now.items _ _ _ _ _ _ _ _ _ c.in_ok-add_number.ensures c.in_ok-add_number-2.ensures c.in_ok-add.ensures e (ap quoted (c.as_bytes.ensures.value ∙ c.in_ok-quotient.ensures)))
    c.add_word.ensures
