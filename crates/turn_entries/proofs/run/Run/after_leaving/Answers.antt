use Rattle.turn_entries.proofs.Common.{◌+◌, ◌∙◌, Option, Some, ap, subst, sym, refl, is_some, Kind, Ran, RunEnd, Shared, SharedValue, FinishesAlone, HaltsAlone, EndsChild, ForksOn, HoldsNone, ComesNext, Ok, Ended, Done}
use Rattle.entry_calls.specs.declared.answers.Ran.TheVariants.{Forked, Over}
use Rattle.turn_entries.specs.declared.between_turns.Ready.TheVariants.{Paused as HasPaused}
use Rattle.turn_entries.proofs.Turning.{follows_end, left_none, left_to, not_over, one}
use Rattle.turn_entries.proofs.run.Run.after_leaving.Goals as goal

pub returns-in-Forked : goal.returns-in-Forked
returns-in-Forked g c = λ w k part E on goes.
    let v : SharedValue = (g.P.EntryCalls.value c.args.self.now.paced) in
    let a : ForksOn w v k part c.in-Forked.left c.in-Forked.right × HoldsNone v k = left_to w v k part c.args.left E (Forked c.in-Forked.left c.in-Forked.right) (c.in-Ok.is ∙ ap Ok c.in-Forked.is) in
    let kind : Kind = Ran part.task (part.fresh + 1) in
    c.entered.ensures w k (HasPaused part Shared) kind (one w v k kind a.0.enters a.0.others) on
    (λ still. (still, record { part = part; brought = refl; none = a.1 }, a.0.left_is, a.0.right_is ∙ ap (λ n. n + 1) (sym a.0.left_is)))

pub returns-in-Ended : goal.returns-in-Ended
returns-in-Ended g c = λ w k part E on goes.
    let v : SharedValue = (g.P.EntryCalls.value c.args.self.now.paced) in
    let a : EndsChild w v k part c.in-Ended.resumed × HoldsNone v k = left_to w v k part c.args.left E (Ended c.in-Ended.resumed) (c.in-Ok.is ∙ ap Ok c.in-Ended.is) in
    let kind : Kind = Ran part.task (part.fresh + 1) in
    c.entered-in-Ended.ensures w k (HasPaused part Shared) kind (one w v k kind a.0.enters a.0.others) on
    (λ still. subst (ComesNext w v k (HasPaused part Shared)) (sym c.after_end.ensures) (follows_end w v k part c.in-Ended.resumed still a.1 a.0.resumed))

pub returns-in-Over : goal.returns-in-Over
returns-in-Over g c = λ w k part E on goes.
    let v : SharedValue = (g.P.EntryCalls.value c.args.self.now.paced) in
    let a : HaltsAlone w v k part c.in-Over.part = left_to w v k part c.args.left E (Over c.in-Over.part) (c.in-Ok.is ∙ ap Ok c.in-Over.is) in
    let kind : Kind = Ran part.task (part.fresh + 1) in
    c.entered-in-Over.ensures w k (HasPaused part Shared) kind (one w v k kind a.enters a.others) on (λ still. ap (λ (o : Option RunEnd). is_some o) a.halts.1)

pub returns-in-Done : goal.returns-in-Done
returns-in-Done g c = λ w k part E on goes.
    let v : SharedValue = (g.P.EntryCalls.value c.args.self.now.paced) in
    let a : FinishesAlone w v k part = left_to w v k part c.args.left E (Done) (c.in-Ok.is ∙ ap Ok c.in-Done.is) in
    let kind : Kind = Ran part.task (part.fresh + 1) in
    c.entered-in-Done.ensures w k (HasPaused part Shared) kind (one w v k kind a.enters a.others) on (λ still. ap (λ (o : Option RunEnd). is_some o) a.done)

pub returns-in-Err : goal.returns-in-Err
returns-in-Err g c = λ w k part E on goes.
    c.out_of_memory.ensures w k (HasPaused part Shared) (Some (Ran part.task (part.fresh + 1))) (left_none w (g.P.EntryCalls.value c.args.self.now.paced) k part c.args.left E c.in-Err.failed c.in-Err.is) (not_over w on goes)
