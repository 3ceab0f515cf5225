use Rattle.log_touches.proofs.Common.{◌++◌, ◌∙◌, List, All, ap, sym, subst, option_to_list, line_of, act_said, Region, IsRegionCut, Touch, HasScanned}
use Rattle.log_touches.proofs.Texts.{one_act_regions, one_act_touches, said_within}
use Rattle.log_touches.proofs.scan.touch_line.Goals as goal

pub touch_act-requires-clause-cut : goal.touch_act-requires-clause-cut
touch_act-requires-clause-cut g c =
    let said = sym (ap option_to_list c.in-Some.is) ∙ c.act_in.ensures in
    subst (λ (rs : List Region). All (IsRegionCut c.args.numbers.now) rs) (sym (one_act_regions c.in-Some.act (act_said (line_of c.args.line.now)) said)) c.requires.cut

pub returns-in_ok-touch_act-in-Some-clause-ok : goal.returns-in_ok-touch_act-in-Some-clause-ok
returns-in_ok-touch_act-in-Some-clause-ok g c = λ regions past are seen.
    let said = sym (ap option_to_list c.in-Some.is) ∙ c.act_in.ensures in
    subst (λ (ts : List Touch). HasScanned (g.S.Strands.order c.args.order.now) c.args.numbers.now (past ++ ts) c.touch_act.new.scan)
    (one_act_touches regions c.args.at.0 c.args.at.1 c.in-Some.act (act_said (line_of c.args.line.now)) said) (c.in_ok-touch_act-in-Some.ensures.ok regions past are seen)

pub touch_act-requires-clause-act : goal.touch_act-requires-clause-act
touch_act-requires-clause-act g c = said_within c.args.line.now c.in-Some.act (sym (ap option_to_list c.in-Some.is) ∙ c.act_in.ensures)
