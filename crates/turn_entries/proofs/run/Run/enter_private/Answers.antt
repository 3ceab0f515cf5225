use Rattle.turn_entries.proofs.Common.{◌≡◌, ◌<◌, ap, sym, subst, ◌∙◌, Kind, Ran, not_refused, Private, Enters, refused, WorkerPartFits}
use Rattle.turn_entries.proofs.Free.{private_free}
use Rattle.turn_entries.proofs.Going.{may_cleared}
use Rattle.turn_entries.proofs.Paying.{pays_nothing}
use Rattle.turn_entries.proofs.Turning.{one}
use Rattle.turn_entries.proofs.run.Run.enter_private.Goals as goal

pub ran_private-requires-clause-room : goal.ran_private-requires-clause-room
ran_private-requires-clause-room g c = c.requires.enter.room

pub ran_private-requires-clause-fits : goal.ran_private-requires-clause-fits
ran_private-requires-clause-fits g c = subst (WorkerPartFits (g.P.EntryCalls.value c.args.self.now.paced) c.args.worker) (sym c.get_mut.ensures.value) c.requires.may.fits

pub ran_private-requires-clause-fresh : goal.ran_private-requires-clause-fresh
ran_private-requires-clause-fresh g c = subst (λ (q : Private). 0 < q.fresh) (sym c.get_mut.ensures.value) c.requires.fresh

pub ran_private-requires-clause-pays : goal.ran_private-requires-clause-pays
ran_private-requires-clause-pays g c = pays_nothing (g.P.EntryCalls.value c.args.self.now.paced) c.args.worker (Ran c.get_mut.result.now.task c.get_mut.result.now.fresh) c.requires.enter.owed

pub unreachable-requires : goal.unreachable-requires
unreachable-requires g c =
    not_refused _ c.in-Err.field-0 (private_free (g.P.EntryCalls.value c.args.self.now.paced) c.args.worker c.args.part c.stands.ensures.stands c.requires.enter.free c.requires.may.fits c.requires.fresh)
    (ap (λ (q : Private). refused (g.P.EntryCalls.value c.args.self.now.paced) (record { worker = c.args.worker; kind = Ran q.task q.fresh })) (sym c.get_mut.ensures.value) ∙ sym c.in-Err.ensures.refused)

pub returns : goal.returns
returns g c = λ ready.
    let kind : Kind = Ran c.args.part.task c.args.part.fresh in
    c.entered.ensures (g.P.EntryCalls.value c.args.self.now.paced) c.args.worker ready kind
    (one (g.P.EntryCalls.value c.args.self.now.paced) (g.P.EntryCalls.value c.ran_private.new.self) c.args.worker kind
    (subst (λ (q : Private). Enters (g.P.EntryCalls.value c.args.self.now.paced) (g.P.EntryCalls.value c.ran_private.new.self) (record { worker = c.args.worker; kind = Ran q.task q.fresh })) c.get_mut.ensures.value c.in-Ok.ensures.enters) c.in-Ok.ensures.others)
    c.requires.enter.on
    (λ on. (
      on,
      may_cleared (g.P.EntryCalls.value c.ran_private.new.self) c.args.worker c.args.part c.ran_private.new.part c.ran_private.ensures.fits c.requires.may.idle
          (subst (λ (q : Private). c.ran_private.new.part ≡ record q { fresh = 0 }) c.get_mut.ensures.value c.in-Ok.ensures.goes),
    ))
