use Rattle.std.proofs.Common.{◌+◌, arith}
use Rattle.run_accounts.proofs.Standings.{all_stand, all_went, counted_is, counted_ran, last_at, new_last, new_more, new_not, new_went, not_at, on_is, on_ran, rest_at, steady_after_at, steady_at, used_after_at, used_at}
use Rattle.run_accounts.proofs.accounts.Accounts.ran.Goals as goal

pub stand-requires-clause-before : goal.stand-requires-clause-before
stand-requires-clause-before c =
    let i = c.loop-done.invariant in
    steady_at c.args.self.now c.loop-done.self c.args.t c.args.steps c.loop-done.done i.is i.ran c.loop-done-test.true c.requires.steady

pub stand-requires-clause-after : goal.stand-requires-clause-after
stand-requires-clause-after c =
    let i = c.loop-done.invariant in
    steady_after_at c.args.self.now c.loop-done.self c.args.t c.args.steps c.loop-done.done i.is i.ran c.loop-done-test.true c.requires.steady

pub returns-in-Not-clause-standing : goal.returns-in-Not-clause-standing
returns-in-Not-clause-standing c =
    let i = c.loop-done.invariant in
    not_at c.args.self.now c.loop-done.self c.args.t c.args.steps c.loop-done.done i.is i.ran c.loop-done-test.true c.in_ok-stand.field-0 c.in_ok-stand.ensures.stood c.in-Not.is

pub returns-in-Not-clause-after : goal.returns-in-Not-clause-after
returns-in-Not-clause-after c =
    let i = c.loop-done.invariant in
    new_not c.args.self.now c.loop-done.self c.args.t c.args.steps c.loop-done.done i.is i.ran c.loop-done-test.true c.in_ok-stand.field-0 c.in_ok-stand.ensures.stood
    c.stand.new.self c.in_ok-stand.ensures.after c.in-Not.is

pub returns-in-Last-clause-standing : goal.returns-in-Last-clause-standing
returns-in-Last-clause-standing c =
    let i = c.loop-done.invariant in
    last_at c.args.self.now c.loop-done.self c.args.t c.args.steps c.loop-done.done i.is i.ran c.loop-done-test.true c.in_ok-stand.field-0 c.in_ok-stand.ensures.stood c.in-Last.is

pub returns-in-Last-clause-after : goal.returns-in-Last-clause-after
returns-in-Last-clause-after c =
    let i = c.loop-done.invariant in
    new_last c.args.self.now c.loop-done.self c.args.t c.args.steps c.loop-done.done i.is i.ran c.loop-done-test.true c.in_ok-stand.field-0 c.in_ok-stand.ensures.stood
    c.stand.new.self c.in_ok-stand.ensures.after c.in-Last.is

pub loop-done-init : goal.loop-done-init
loop-done-init c = record {
  ran = counted_ran c.args.self.now c.calculate-done.new.self c.args.t c.args.steps c.calculate-done.result c.calculate-done.ensures.standing c.calculate-done.ensures.after;
  is = counted_is c.args.self.now c.calculate-done.new.self c.args.t c.args.steps c.calculate-done.result c.calculate-done.ensures.standing c.calculate-done.ensures.after;
  most = c.calculate-done.ensures.most;
}

pub calculate-done-requires-in-loop-done-clause-steady : goal.calculate-done-requires-in-loop-done-clause-steady
calculate-done-requires-in-loop-done-clause-steady c =
    let i = c.loop-done.invariant in
    let lt = c.loop-done-test.true in
    rest_at c.args.self.now c.stand.new.self c.args.t c.args.steps (c.loop-done.done + 1)
    (new_went c.args.self.now c.loop-done.self c.args.t c.args.steps c.loop-done.done i.is i.ran lt c.in_ok-stand.field-0 c.in_ok-stand.ensures.stood c.stand.new.self c.in_ok-stand.ensures.after c.in-More.is)
    (new_more c.args.self.now c.loop-done.self c.args.t c.args.steps c.loop-done.done i.is i.ran lt c.in_ok-stand.field-0 c.in_ok-stand.ensures.stood c.stand.new.self c.in_ok-stand.ensures.after c.in-More.is)
    (omega (arith, lt)) c.requires.steady

pub loop-done-preserved : goal.loop-done-preserved
loop-done-preserved c =
    let i = c.loop-done.invariant in
    let lt = c.loop-done-test.true in
    let went = new_went c.args.self.now c.loop-done.self c.args.t c.args.steps c.loop-done.done i.is i.ran lt c.in_ok-stand.field-0 c.in_ok-stand.ensures.stood c.stand.new.self c.in_ok-stand.ensures.after c.in-More.is in
    let ran = new_more c.args.self.now c.loop-done.self c.args.t c.args.steps c.loop-done.done i.is i.ran lt c.in_ok-stand.field-0 c.in_ok-stand.ensures.stood c.stand.new.self c.in_ok-stand.ensures.after c.in-More.is in
    let call = c.calculate-done-in-loop-done in
    record {
      ran = on_ran c.args.self.now c.stand.new.self c.args.t c.args.steps (c.loop-done.done + 1) went ran (omega (arith, lt)) call.new.self call.result call.ensures.standing call.ensures.after;
      is = on_is c.args.self.now c.stand.new.self c.args.t c.args.steps (c.loop-done.done + 1) went ran (omega (arith, lt)) call.new.self call.result call.ensures.standing call.ensures.after;
      most = let few = call.ensures.most in omega (arith, lt, few);
    }

pub returns-clause-standing : goal.returns-clause-standing
returns-clause-standing c =
    let i = c.loop-done.invariant in
    all_stand c.args.self.now c.loop-done.self c.args.t c.args.steps c.loop-done.done i.is i.ran i.most (let past = c.loop-done-test.false in let most = i.most in omega (arith, past, most))

pub returns-clause-after : goal.returns-clause-after
returns-clause-after c =
    let i = c.loop-done.invariant in
    all_went c.args.self.now c.loop-done.self c.args.t c.args.steps c.loop-done.done i.is i.ran i.most (let past = c.loop-done-test.false in let most = i.most in omega (arith, past, most))

pub stand-requires-clause-used : goal.stand-requires-clause-used
stand-requires-clause-used c =
    let i = c.loop-done.invariant in
    used_at c.args.self.now c.loop-done.self c.args.t c.args.steps c.loop-done.done i.is i.ran c.loop-done-test.true

pub stand-requires-clause-next : goal.stand-requires-clause-next
stand-requires-clause-next c =
    let i = c.loop-done.invariant in
    used_after_at c.args.self.now c.loop-done.self c.args.t c.args.steps c.loop-done.done i.is i.ran c.loop-done-test.true c.requires.steady
