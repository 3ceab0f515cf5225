use Rattle.std.proofs.Common.{subst}
use Rattle.log_walk.specs.Value.{WalkValue}
use Rattle.run_order.specs.Order.{run_order}
use Rattle.race_scan.specs.Scan.{HasScanned}
use Rattle.log_verdict.proofs.Verdicts.{verdicts_of}
use Rattle.log_verdict.proofs.verdict.find_races.Goals as goal

pub returns-clause-races : goal.returns-clause-races
returns-clause-races c =
    verdicts_of c.args.walk.now c.new-order.ensures.walked c.in_ok-numbers.numbers c.args.touches.now c.in_ok-scan.scan c.requires.serial
    (subst (λ (w : WalkValue). HasScanned (run_order w) c.in_ok-numbers.numbers c.args.touches.now c.in_ok-scan.scan) c.new-order.ensures.value c.in_ok-scan.ensures)
