use Rattle.log_touches.proofs.Common.{◌++◌, List, sym, subst, on_ok_weaker, Region, AreMarked}
use Rattle.log_touches.proofs.Texts.{region_of_access}
use Rattle.log_touches.proofs.mark.mark_act.Goals as goal

pub returns-in-Some : goal.returns-in-Some
returns-in-Some c =
    let e = region_of_access c.access_of.result c.in-Some.access c.args.act c.access_of.ensures.value c.in-Some.is in
    on_ok_weaker c.mark.result (λ marked past are. subst (λ (rs : List Region). AreMarked (past ++ rs) c.mark.new.self) (sym e) (marked past are)) c.mark.ensures.marked
