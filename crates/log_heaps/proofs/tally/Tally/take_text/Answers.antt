use Rattle.log_heaps.proofs.Common.{List, length, ap, subst, arith, Act, acts_in, IsPart, part_first, part_rest}
use Rattle.log_heaps.proofs.Taking.{tallied_more}
use Rattle.log_heaps.proofs.tally.Tally.take_text.Goals as goal

pub loop-act-preserved : goal.loop-act-preserved
loop-act-preserved c = record {
  number = let count = ap (λ (acts : List Act). length acts) c.in-Some.ensures.acts in omega (arith, count, c.loop-act.invariant.number);
  few = c.in_ok-take_act.ensures.few;
  part = λ events s whole.
      part_rest events c.loop-act.line s c.in-Some.act (acts_in c.in-Some.rest.now) (subst (λ (acts : List Act). IsPart events c.loop-act.line s acts) c.in-Some.ensures.acts (c.loop-act.invariant.part events s whole));
  tallied = λ tasks events s scene place whole old.
      let part = subst (λ (acts : List Act). IsPart events c.loop-act.line s acts) c.in-Some.ensures.acts (c.loop-act.invariant.part events s whole) in
      tallied_more tasks events c.args.walk.now c.args.lines.now scene c.loop-act.line s c.in-Some.act (part_first events c.loop-act.line s c.in-Some.act (acts_in c.in-Some.rest.now) part) c.args.place place
      c.loop-act.self c.take_act.new.self c.in_ok-take_act.ensures.taken (c.loop-act.invariant.tallied tasks events s scene place whole old);
}
