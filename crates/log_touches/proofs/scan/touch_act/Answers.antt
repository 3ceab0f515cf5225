use Rattle.log_touches.proofs.Common.{◌++◌, List, sym, subst, on_ok_weaker, Act, Touch, HasScanned, touches_of_act}
use Rattle.log_touches.proofs.Texts.{touches_without}
use Rattle.log_touches.proofs.scan.touch_act.Goals as goal

pub returns-in-Release-clause-ok : goal.returns-in-Release-clause-ok
returns-in-Release-clause-ok g c =
    on_ok_weaker c.release.result
    (λ scanned regions past are seen. subst (λ (a : Act). HasScanned (g.S.Strands.order c.args.order.now) c.args.numbers.now (past ++ touches_of_act regions c.args.at.0 c.args.at.1 a) c.release.new.self)
    (sym c.in-Release.is) (scanned regions past are seen))
    c.release.ensures.ok

pub returns-in_default-clause-ok : goal.returns-in_default-clause-ok
returns-in_default-clause-ok g c =
    on_ok_weaker c.touch_access.result
    (λ scanned regions past are seen. subst (λ (ts : List Touch). HasScanned (g.S.Strands.order c.args.order.now) c.args.numbers.now (past ++ ts) c.touch_access.new.scan)
    (sym (touches_without regions c.args.at.0 c.args.at.1 c.args.act c.in_default.not-Release)) (scanned past seen))
    c.touch_access.ensures.ok
