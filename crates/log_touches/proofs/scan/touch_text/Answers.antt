use Rattle.log_touches.proofs.Common.{◌+◌, ◌++◌, ◌∙◌, ℕ, List, [], All, Bor, append-nil, length, ap, refl, sym, subst, arith, append_assoc, length-append, line_of, act_said, acts_in, Region, IsRegionCut, Touch, HasScanned, at_some, at_none, said_first, line_more, line_last, regions_of_acts, touches_from}
use Rattle.log_touches.proofs.Texts.{count_next, regions_append, touches_next, all_left, all_right}
use Rattle.log_touches.proofs.scan.touch_text.Goals as goal

pub touch_line-requires-clause-cut : goal.touch_line-requires-clause-cut
touch_line-requires-clause-cut g c =
    let f = said_first (λ (r : Bor (List ℕ)). r.now) c.next_line.result.1 c.lines.left.now c.next_line.result.0.now c.next_line.ensures.lines in
    all_left (IsRegionCut c.args.numbers.now) (regions_of_acts (act_said (line_of c.next_line.result.0.now))) (regions_of_acts f.0)
    (subst (λ (rs : List Region). All (IsRegionCut c.args.numbers.now) rs) (ap regions_of_acts f.1 ∙ regions_append (act_said (line_of c.next_line.result.0.now)) f.0) c.lines.invariant.cut)

pub touch_line-requires-clause-few : goal.touch_line-requires-clause-few
touch_line-requires-clause-few g c =
    let f = said_first (λ (r : Bor (List ℕ)). r.now) c.next_line.result.1 c.lines.left.now c.next_line.result.0.now c.next_line.ensures.lines in
    let l = ap length f.1 ∙ length-append (act_said (line_of c.next_line.result.0.now)) f.0 in
    omega (arith, l, c.lines.invariant.count, c.requires.few)

pub returns-in-None-clause-ok : goal.returns-in-None-clause-ok
returns-in-None-clause-ok g c = λ regions past are seen.
    let said = act_said (line_of c.next_line.result.0.now) in
    let d = c.lines.invariant.done regions are in
    let e = line_last c.lines.left.now c.next_line.result.0.now (at_none (λ (r : Bor (List ℕ)). r.now) c.next_line.result.1 c.lines.left.now c.next_line.result.0.now c.in-None.is c.next_line.ensures.lines) in
    subst (λ (ts : List Touch). HasScanned (g.S.Strands.order c.args.order.now) c.args.numbers.now ts c.touch_line.new.scan)
    (append_assoc past d.0 (touches_from regions c.args.at.0 c.lines.number said) ∙ ap (λ (ts : List Touch). past ++ ts) (ap (λ l. d.0 ++ touches_from regions c.args.at.0 c.lines.number l) (sym e) ∙ d.1))
    (c.in_ok-number.ensures.ok regions (past ++ d.0) are (d.2 past seen))

pub lines-preserved : goal.lines-preserved
lines-preserved g c =
    let said = act_said (line_of c.next_line.result.0.now) in
    let rest = acts_in c.in-Some.rest.now in
    let e = line_more c.lines.left.now c.next_line.result.0.now c.in-Some.rest.now
    (at_some (λ (r : Bor (List ℕ)). r.now) c.next_line.result.1 c.lines.left.now c.next_line.result.0.now c.in-Some.rest c.in-Some.is c.next_line.ensures.lines) in
    record {
      size = c.in_ok-number.ensures.size ∙ c.lines.invariant.size;
      cut = all_right (IsRegionCut c.args.numbers.now) (regions_of_acts said) (regions_of_acts rest)
          (subst (λ (rs : List Region). All (IsRegionCut c.args.numbers.now) rs) (ap regions_of_acts e ∙ regions_append said rest) c.lines.invariant.cut);
      count = count_next c.lines.number c.in_ok-number.number (c.args.at.1 + length (acts_in c.args.text.now)) (acts_in c.lines.left.now) said rest e c.in_ok-number.ensures.number c.lines.invariant.count;
      done = λ regions are.
          let d = c.lines.invariant.done regions are in (
            d.0 ++ touches_from regions c.args.at.0 c.lines.number said,
            touches_next regions c.args.at.0 c.lines.number c.in_ok-number.number (touches_from regions c.args.at.0 c.args.at.1 (acts_in c.args.text.now)) d.0 (acts_in c.lines.left.now) said rest e c.in_ok-number.ensures.number d.1,
            λ past seen. subst (λ (ts : List Touch). HasScanned (g.S.Strands.order c.args.order.now) c.args.numbers.now ts c.touch_line.new.scan)
                (append_assoc past d.0 (touches_from regions c.args.at.0 c.lines.number said)) (c.in_ok-number.ensures.ok regions (past ++ d.0) are (d.2 past seen)),
          );
    }

pub lines-init : goal.lines-init
lines-init g c = record {
  size = refl;
  cut = c.requires.cut;
  count = refl;
  done = λ regions are. ([], refl, λ past seen. subst (λ (ts : List Touch). HasScanned (g.S.Strands.order c.args.order.now) c.args.numbers.now ts c.args.scan.now) (sym (append-nil past)) seen);
}
