use Rattle.turn_entries.proofs.Common.{refl, ap, sym, ◌∙◌, is_some, Some, Took, refusal_of_result, is_over}
use Rattle.turn_entries.proofs.Going.{may}
use Rattle.turn_entries.proofs.Paying.{pays_nothing}
use Rattle.turn_entries.proofs.Turning.{not_over, one, unchanged}
use Rattle.turn_entries.proofs.run.Run.take_task.Goals as goal

pub returns-in-Ok-took : goal.returns-in-Ok-took
returns-in-Ok-took g c = λ ready.
    c.entered.ensures (g.P.EntryCalls.value c.args.self.now.paced) c.args.worker ready (Took c.args.task) (one (g.P.EntryCalls.value c.args.self.now.paced) (g.P.EntryCalls.value c.took.new.self) c.args.worker (Took c.args.task) c.in-Ok-took.ensures.enters c.in-Ok-took.ensures.others) c.requires.enter.on
    (λ on. (on, may (g.P.EntryCalls.value c.took.new.self) c.args.worker c.in-Ok-took.part c.in-Ok-took.ensures.fits c.in-Ok-took.ensures.fresh c.in-Ok-took.ensures.idle))

pub returns-in-Err : goal.returns-in-Err
returns-in-Err g c = λ ready. (
  unchanged (g.P.EntryCalls.value c.args.self.now.paced) (g.P.EntryCalls.value c.took.new.self) c.in-Err.ensures.same,
  (
    ap is_over c.in-Err.ensures.same ∙ not_over (g.P.EntryCalls.value c.args.self.now.paced) c.requires.enter.on c.requires.enter.goes,
    c.args.task,
    refl,
    ap is_some (sym c.took.ensures.refused ∙ ap refusal_of_result c.in-Err.is),
  ),
)

pub took-requires-clause-room : goal.took-requires-clause-room
took-requires-clause-room g c = c.requires.enter.room

pub took-requires-clause-pays : goal.took-requires-clause-pays
took-requires-clause-pays g c = pays_nothing (g.P.EntryCalls.value c.args.self.now.paced) c.args.worker (Took c.args.task) c.requires.enter.owed

pub returns-in_default : goal.returns-in_default
returns-in_default g c = λ ready. c.halted.ensures (g.P.EntryCalls.value c.args.self.now.paced) c.args.worker ready (Some (Took c.args.task)) (unchanged (g.P.EntryCalls.value c.args.self.now.paced) (g.P.EntryCalls.value c.args.self.now.paced) refl) (not_over (g.P.EntryCalls.value c.args.self.now.paced) c.requires.enter.on c.requires.enter.goes)
