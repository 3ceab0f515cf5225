use Rattle.log_touches.proofs.Common.{◌++◌, ◌∙◌, List, ap, sym, subst, option_to_list, line_of, act_said, Region, AreMarked}
use Rattle.log_touches.proofs.Texts.{one_act_regions, said_within}
use Rattle.log_touches.proofs.mark.mark_line.Goals as goal

pub returns-clause-marked : goal.returns-clause-marked
returns-clause-marked c = λ past are.
    let said = sym (ap option_to_list c.in-Some.is) ∙ c.act_in.ensures in
    subst (λ (rs : List Region). AreMarked (past ++ rs) c.mark_act.new.places) (one_act_regions c.in-Some.act (act_said (line_of c.args.line.now)) said) (c.in_ok-mark_act.ensures past are)

pub mark_act-requires : goal.mark_act-requires
mark_act-requires c = said_within c.args.line.now c.in-Some.act (sym (ap option_to_list c.in-Some.is) ∙ c.act_in.ensures)
