use Rattle.turn_entries.proofs.Common.{ℕ, Some, subst, ap, sym, ◌∙◌, Kind, Sweep, not_refused, refusal_of_result, ActsFor}
use Rattle.turn_entries.proofs.Free.{sweep_free}
use Rattle.turn_entries.proofs.Paying.{pays_sweep, sweep_is_owed}
use Rattle.turn_entries.proofs.Turning.{one_of_all}
use Rattle.turn_entries.proofs.run.Run.pay_sweep.Goals as goal

pub would_give-given-requires-clause-goes : goal.would_give-given-requires-clause-goes
would_give-given-requires-clause-goes g c = c.requires.enter.goes

pub would_give-given-requires-clause-marked : goal.would_give-given-requires-clause-marked
would_give-given-requires-clause-marked g c = (sweep_is_owed (g.P.EntryCalls.value c.args.self.now.paced) c.args.worker c.args.task c.stands.ensures.stands c.requires.enter.goes c.requires.enter.owed).0

pub would_give-given-requires-clause-none_left : goal.would_give-given-requires-clause-none_left
would_give-given-requires-clause-none_left g c = (sweep_is_owed (g.P.EntryCalls.value c.args.self.now.paced) c.args.worker c.args.task c.stands.ensures.stands c.requires.enter.goes c.requires.enter.owed).1

pub unreachable-requires : goal.unreachable-requires
unreachable-requires g c =
    not_refused _ c.in-Err.field-0 (sweep_free (g.P.EntryCalls.value c.args.self.now.paced) c.args.worker c.args.task c.stands.ensures.stands c.requires.enter.free c.would_give-given.result c.requires.enter.owed c.would_give-given.ensures) (sym c.sweep.ensures.refused ∙ ap refusal_of_result c.in-Err.is)

pub returns : goal.returns
returns g c =
    let kind : Kind = Sweep c.args.task c.would_give-given.result in
    subst (λ (n : ℕ). ActsFor (g.P.EntryCalls.value c.args.self.now.paced) (g.P.EntryCalls.value c.sweep.new.self) c.args.worker c.args.ready (Some (Sweep c.args.task n)) c.paid.result) c.would_give-given.ensures
    (c.paid.ensures (g.P.EntryCalls.value c.args.self.now.paced) c.args.worker kind c.stands.ensures.stands c.requires.enter.goes c.requires.met c.requires.brings
    (one_of_all (g.P.EntryCalls.value c.args.self.now.paced) (g.P.EntryCalls.value c.sweep.new.self) c.args.worker kind c.in-Ok.ensures.enters c.in-Ok.ensures.fits) c.in-Ok.ensures.fits c.requires.enter.on)

pub sweep-requires-clause-room : goal.sweep-requires-clause-room
sweep-requires-clause-room g c = c.requires.enter.room

pub sweep-requires-clause-pays : goal.sweep-requires-clause-pays
sweep-requires-clause-pays g c = pays_sweep (g.P.EntryCalls.value c.args.self.now.paced) c.args.worker c.args.task c.would_give-given.result c.requires.enter.owed
