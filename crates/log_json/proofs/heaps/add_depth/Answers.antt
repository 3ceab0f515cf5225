use Rattle.log_json.proofs.Common.{refl, on_ok_weaker}
use Rattle.log_json.proofs.Parts.{five}
use Rattle.log_json.proofs.heaps.add_depth.Goals as goal

pub returns : goal.returns
returns c =
    on_ok_weaker c.add.result
    (λ e. five c.args.text.now.items _ _ _ _ _ _ _ _ _ _ _ refl c.in_ok-add_number.ensures c.in_ok-add_number-2.ensures c.in_ok-add_number-3.ensures c.in_ok-add_number-4.ensures e)
    c.add.ensures
