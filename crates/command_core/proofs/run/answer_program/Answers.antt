use denote.Param.Send.{sendable}
use Rattle.command_core.proofs.Common.{subst, IfOk, IfSome, Option, IfErr-weaker, IfOk-weaker, SharedValue, IsRunOf, Extras, extras_of, paced_send, AnswersLeft}
use Rattle.command_core.proofs.Runs.{left_wanted, workers_run}
use Rattle.command_core.proofs.run.answer_program.Goals as goal

pub returns-clause-answer : goal.returns-clause-answer
returns-clause-answer g c =
    let p = c.args.program.now in
    let s = c.args.options.settings in
    IfOk-weaker c.answer_left.result _ _
    (λ a h. workers_run p s (extras_of c.args.options) h.0 a (subst (λ (x : Option SharedValue). IfSome x (IsRunOf p s)) h.1 c.run_on_workers-left.ensures.run) h.2)
    (subst (λ (x : Extras). IfOk c.answer_left.result (AnswersLeft c.run_on_workers-left.result x)) c.extras_of.ensures c.answer_left.ensures.answer)

pub returns-clause-wanted : goal.returns-clause-wanted
returns-clause-wanted g c =
    IfErr-weaker c.answer_left.result _ _ (λ found e. left_wanted c.args.program.now c.args.options.settings c.run_on_workers-left.result found c.run_on_workers-left.ensures.run e) c.answer_left.ensures.wanted

pub run_on_workers-left-requires-send-P : goal.run_on_workers-left-requires-send-P
run_on_workers-left-requires-send-P g c κs within = search (paced_send, sendable) depth 30
