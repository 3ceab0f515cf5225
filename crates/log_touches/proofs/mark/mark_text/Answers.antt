use Rattle.log_touches.proofs.Common.{◌+◌, ◌++◌, ◌∙◌, ℕ, List, Bor, length, ap, sym, subst, append_assoc, line_of, act_said, acts_in, Region, AreMarked, at_some, at_none, line_more, line_last, regions_of_acts}
use Rattle.log_touches.proofs.Texts.{count_next, regions_next}
use Rattle.log_touches.proofs.mark.mark_text.Goals as goal

pub returns-in-None-clause-marked : goal.returns-in-None-clause-marked
returns-in-None-clause-marked c = λ past are.
    let said = act_said (line_of c.next_line.result.0.now) in
    let d = c.lines.invariant.done in
    let e = line_last c.lines.left.now c.next_line.result.0.now (at_none (λ (r : Bor (List ℕ)). r.now) c.next_line.result.1 c.lines.left.now c.next_line.result.0.now c.in-None.is c.next_line.ensures.lines) in
    subst (λ (rs : List Region). AreMarked rs c.mark_line.new.places) (append_assoc past d.0 (regions_of_acts said) ∙ ap (λ (rs : List Region). past ++ rs) (ap (λ l. d.0 ++ regions_of_acts l) (sym e) ∙ d.1))
    (c.in_ok-number.ensures.marked (past ++ d.0) (d.2 past are))

pub lines-preserved : goal.lines-preserved
lines-preserved c =
    let said = act_said (line_of c.next_line.result.0.now) in
    let rest = acts_in c.in-Some.rest.now in
    let d = c.lines.invariant.done in
    let e = line_more c.lines.left.now c.next_line.result.0.now c.in-Some.rest.now
    (at_some (λ (r : Bor (List ℕ)). r.now) c.next_line.result.1 c.lines.left.now c.next_line.result.0.now c.in-Some.rest c.in-Some.is c.next_line.ensures.lines) in
    record {
      few = c.in_ok-number.ensures.few;
      count = count_next c.lines.number c.in_ok-number.number (c.args.first + length (acts_in c.args.text.now)) (acts_in c.lines.left.now) said rest e c.in_ok-number.ensures.number c.lines.invariant.count;
      done = (
        d.0 ++ regions_of_acts said,
        regions_next (regions_of_acts (acts_in c.args.text.now)) d.0 (acts_in c.lines.left.now) said rest e d.1,
        λ past are.
            subst (λ (rs : List Region). AreMarked rs c.mark_line.new.places) (append_assoc past d.0 (regions_of_acts said)) (c.in_ok-number.ensures.marked (past ++ d.0) (d.2 past are)),
      );
    }
