use Rattle.turn_entries.proofs.Common.{◌≡◌, ap, sym, subst, ◌∙◌, PutOff, not_refused, Private, refusal_of_result, Enters, refused, WorkerPartFits}
use Rattle.turn_entries.proofs.Free.{put_off_free}
use Rattle.turn_entries.proofs.Going.{may_heap}
use Rattle.turn_entries.proofs.Paying.{pays_nothing}
use Rattle.turn_entries.proofs.Turning.{one}
use Rattle.turn_entries.proofs.run.Run.put_off_leaf.Goals as goal

pub put_off-requires-clause-fits : goal.put_off-requires-clause-fits
put_off-requires-clause-fits g c = subst (WorkerPartFits (g.P.EntryCalls.value c.args.self.now.paced) c.args.worker) (sym c.get_mut.ensures.value) c.requires.paused.may.fits

pub unreachable-requires : goal.unreachable-requires
unreachable-requires g c =
    not_refused _ c.in-Err.field-0 (put_off_free (g.P.EntryCalls.value c.args.self.now.paced) c.args.worker c.args.part c.stands.ensures.stands c.requires.enter.free c.requires.paused.may.fits c.requires.paused.may.idle c.requires.fresh c.requires.enter.goes c.requires.paused c.requires.short)
    (ap (λ (q : Private). refused (g.P.EntryCalls.value c.args.self.now.paced) (record { worker = c.args.worker; kind = PutOff q.task })) (sym c.get_mut.ensures.value) ∙ (sym c.put_off.ensures.refused ∙ ap refusal_of_result c.in-Err.is))

pub returns : goal.returns
returns g c = λ ready.
    c.entered.ensures (g.P.EntryCalls.value c.args.self.now.paced) c.args.worker ready (PutOff c.args.part.task)
    (one (g.P.EntryCalls.value c.args.self.now.paced) (g.P.EntryCalls.value c.put_off.new.self) c.args.worker (PutOff c.args.part.task)
    (subst (λ (q : Private). Enters (g.P.EntryCalls.value c.args.self.now.paced) (g.P.EntryCalls.value c.put_off.new.self) (record { worker = c.args.worker; kind = PutOff q.task })) c.get_mut.ensures.value c.in-Ok.ensures.enters) c.in-Ok.ensures.others)
    c.requires.enter.on
    (λ on. (
      on,
      may_heap (g.P.EntryCalls.value c.put_off.new.self) c.args.worker c.args.part c.put_off.new.part (record c.args.part.heap { since = 0 }) c.put_off.ensures.fits c.requires.paused.may.idle c.requires.fresh
          (subst (λ (q : Private). c.put_off.new.part ≡ record q { heap = record q.heap { since = 0 } }) c.get_mut.ensures.value c.in-Ok.ensures.part),
    ))

pub put_off-requires-clause-room : goal.put_off-requires-clause-room
put_off-requires-clause-room g c = c.requires.enter.room

pub put_off-requires-clause-pays : goal.put_off-requires-clause-pays
put_off-requires-clause-pays g c = pays_nothing (g.P.EntryCalls.value c.args.self.now.paced) c.args.worker (PutOff c.get_mut.result.now.task) c.requires.enter.owed
