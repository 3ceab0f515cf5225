use Rattle.fork_join_commit.proofs.Common.{◌==◌, ◌%◌, ap, sym, Decides-eqb, false_from_ne_true, left_child_of, right_of}
use Rattle.fork_join_commit.proofs.join.in_order.Goals as goal

pub returns-then-own-eq1-clause-left : goal.returns-then-own-eq1-clause-left
returns-then-own-eq1-clause-left c = sym (ap (λ b. left_child_of b c.args.own c.args.other) ((Decides-eqb (c.args.own.side.task % 2) 1).1 c.if-own-eq1.true))

pub returns-then-own-eq1-clause-right : goal.returns-then-own-eq1-clause-right
returns-then-own-eq1-clause-right c = sym (ap (λ b. right_of b c.args.own c.args.other) ((Decides-eqb (c.args.own.side.task % 2) 1).1 c.if-own-eq1.true))

pub returns-else-own-eq1-clause-left : goal.returns-else-own-eq1-clause-left
returns-else-own-eq1-clause-left c = sym (ap (λ b. left_child_of b c.args.own c.args.other) (false_from_ne_true (c.args.own.side.task % 2 == 1) (λ h. c.if-own-eq1.false ((Decides-eqb (c.args.own.side.task % 2) 1).0 h))))

pub returns-else-own-eq1-clause-right : goal.returns-else-own-eq1-clause-right
returns-else-own-eq1-clause-right c = sym (ap (λ b. right_of b c.args.own c.args.other) (false_from_ne_true (c.args.own.side.task % 2 == 1) (λ h. c.if-own-eq1.false ((Decides-eqb (c.args.own.side.task % 2) 1).0 h))))
