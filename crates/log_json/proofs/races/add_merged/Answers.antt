use Rattle.log_json.proofs.Common.{refl, on_ok_weaker}
use Rattle.log_json.proofs.Parts.{five}
use Rattle.log_json.proofs.races.add_merged.Goals as goal

pub returns : goal.returns
returns c =
    on_ok_weaker c.add.result
    (λ e. five c.args.text.now.items _ _ _ _ _ _ _ _ _ _ _ refl c.in_ok-add_place.ensures c.in_ok-add_number.ensures c.in_ok-add_pair.ensures c.in_ok-add_number-2.ensures e)
    c.add.ensures
