use Rattle.log_json.proofs.Common.{refl, on_ok_weaker}
use Rattle.log_json.proofs.Parts.{five}
use Rattle.log_json.proofs.cost.add_ends.Goals as goal

pub returns : goal.returns
returns c =
    on_ok_weaker c.add-2.result
    (λ e. five c.args.text.now.items _ _ _ _ _ _ _ _ _ _ _ refl c.in_ok-add_cost.ensures c.in_ok-add_heaps.ensures c.in_ok-add.ensures c.in_ok-add_counts.ensures e)
    c.add-2.ensures
