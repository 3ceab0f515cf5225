use Rattle.log_json.proofs.Common.{refl, on_ok_weaker}
use Rattle.log_json.proofs.Parts.{five}
use Rattle.log_json.proofs.uses.add_use.Goals as goal

pub returns : goal.returns
returns c =
    on_ok_weaker c.add.result
    (λ e. five c.args.text.now.items _ _ _ _ _ _ _ _ _ _ _ refl c.in_ok-add_block.ensures c.in_ok-add_line.ensures c.in_ok-add_since.ensures c.in_ok-add_number.ensures e)
    c.add.ensures
