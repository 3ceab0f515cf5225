use Rattle.std.proofs.Common.{◌∙◌, sym, arith}
use Rattle.log_weights.proofs.Weighing.{weights_more, one_too_much}
use Rattle.log_weights.proofs.weights.weights_by.Goals as goal

pub returns-in-None-clause-too_much : goal.returns-in-None-clause-too_much
returns-in-None-clause-too_much c = λ events knows.
    one_too_much events c.args.tasks.now c.args.order.now c.loop-strand.strand-index _ (omega (arith, c.loop-strand-test.true)) (sym (c.weight.ensures events knows) ∙ c.in-None.is)

pub loop-strand-preserved : goal.loop-strand-preserved
loop-strand-preserved c = λ events knows.
    weights_more events c.args.tasks.now c.args.order.now c.loop-strand.strand-index _ (omega (arith, c.loop-strand-test.true)) c.loop-strand.weights c.push.new.self c.in-Some.weight
    c.in_ok-push-in-Some.ensures.ok (c.loop-strand.invariant events knows) (sym c.in-Some.is ∙ c.weight.ensures events knows)
