use Rattle.race_scan.proofs.Common.{List, take, sym, subst, take_more, PlainRead, Touch, HasScanned}
use Rattle.race_scan.proofs.all.scan_all.Goals as goal

pub loop-touch-preserved : goal.loop-touch-preserved
loop-touch-preserved g c =
    subst (λ (l : List Touch). HasScanned (g.S.Strands.order c.args.order.now) c.args.numbers.now l c.touch.new.self)
    (sym (take_more c.args.touches.now c.loop-touch.touch-index
    (record { region = record { block = 0; offset = 0; length = 0; runs = 0; apart = 0 }; access = record { strand = 0; kind = PlainRead; line = 0 } }) c.loop-touch-test.true))
    (c.in_ok-touch.ensures.ok (take c.loop-touch.touch-index c.args.touches.now) c.loop-touch.invariant)
