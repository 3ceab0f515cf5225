use Rattle.turn_entries.proofs.Common.{ap, sym, subst, ◌∙◌, Some, Begin, Private, Enters, IsCaused, refused, WorkerPartFits, MayCopy}
use Rattle.turn_entries.proofs.Free.{begin_free, only_memory}
use Rattle.turn_entries.proofs.Paying.{pays_nothing}
use Rattle.turn_entries.proofs.Turning.{not_over, one, unchanged}
use Rattle.turn_entries.proofs.run.Run.begin_in.Goals as goal

pub leaf_begin-requires-clause-fits : goal.leaf_begin-requires-clause-fits
leaf_begin-requires-clause-fits g c = subst (WorkerPartFits (g.P.EntryCalls.value c.args.self.now.paced) c.args.worker) (sym c.get_mut.ensures.value) c.requires.paused.may.fits

pub out_of_memory-requires : goal.out_of_memory-requires
out_of_memory-requires g c = record {
  cause =
      only_memory c.in-Err.cause _ (begin_free (g.P.EntryCalls.value c.args.self.now.paced) c.args.worker c.args.part c.stands.ensures.stands c.requires.enter.free c.requires.paused.may.fits c.requires.paused.may.idle c.requires.fresh c.requires.enter.goes c.requires.paused c.requires.enough)
      (subst (λ (q : Private). IsCaused c.in-Err.cause (refused (g.P.EntryCalls.value c.args.self.now.paced) (record { worker = c.args.worker; kind = Begin q.task }))) c.get_mut.ensures.value c.in-Err.ensures.refused);
}

pub returns-in-Ok : goal.returns-in-Ok
returns-in-Ok g c = λ ready.
    c.entered.ensures (g.P.EntryCalls.value c.args.self.now.paced) c.args.worker ready (Begin c.args.part.task)
    (one (g.P.EntryCalls.value c.args.self.now.paced) (g.P.EntryCalls.value c.leaf_begin.new.self) c.args.worker (Begin c.args.part.task)
    (subst (λ (q : Private). Enters (g.P.EntryCalls.value c.args.self.now.paced) (g.P.EntryCalls.value c.leaf_begin.new.self) (record { worker = c.args.worker; kind = Begin q.task })) c.get_mut.ensures.value c.in-Ok.ensures.enters) c.in-Ok.ensures.others)
    c.requires.enter.on
    (λ on. (
      on,
      subst (MayCopy (g.P.EntryCalls.value c.leaf_begin.new.self) c.args.worker) (sym c.filled.ensures) (record {
        fits = c.leaf_begin.ensures.fits;
        fresh = ap (λ (p : Private). p.fresh) c.in-Ok.ensures.begun.part ∙ (ap (λ (p : Private). p.fresh) c.get_mut.ensures.value ∙ c.requires.fresh);
        before = c.get_mut.result.now;
        begun = c.in-Ok.ensures.begun;
      }),
    ))

pub returns-in-Err : goal.returns-in-Err
returns-in-Err g c = λ ready. c.out_of_memory.ensures (g.P.EntryCalls.value c.args.self.now.paced) c.args.worker ready (Some (Begin c.args.part.task)) (unchanged (g.P.EntryCalls.value c.args.self.now.paced) (g.P.EntryCalls.value c.leaf_begin.new.self) c.in-Err.ensures.same) (not_over (g.P.EntryCalls.value c.args.self.now.paced) c.requires.enter.on c.requires.enter.goes)

pub leaf_begin-requires-clause-room : goal.leaf_begin-requires-clause-room
leaf_begin-requires-clause-room g c = c.requires.enter.room

pub leaf_begin-requires-clause-pays : goal.leaf_begin-requires-clause-pays
leaf_begin-requires-clause-pays g c = pays_nothing (g.P.EntryCalls.value c.args.self.now.paced) c.args.worker (Begin c.get_mut.result.now.task) c.requires.enter.owed
