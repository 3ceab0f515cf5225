use Rattle.log_races.proofs.Common.{◌++◌, Option, sym, subst, on_ok_weaker, GraphStrand, events_of_pieces, HasScanned, touches_told}
use Rattle.log_races.proofs.strands.scan_strand.Goals as goal

pub returns-in-Some-clause-ok : goal.returns-in-Some-clause-ok
returns-in-Some-clause-ok g c =
    on_ok_weaker c.touch_strand.result
    (λ scanned past seen. subst
    (λ (o : Option GraphStrand). HasScanned (g.S.Strands.order c.args.order.now) c.args.numbers.now
    (past ++ touches_told (events_of_pieces c.args.pieces.now.texts c.args.pieces.now.pieces) o c.args.serial) c.touch_strand.new.scan)
    (sym c.in-Some.is) (scanned past seen))
    c.touch_strand.ensures.ok
