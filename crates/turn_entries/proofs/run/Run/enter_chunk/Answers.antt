use Rattle.turn_entries.proofs.Common.{◌≡◌, Some, sym, subst, Chunk, Private, Enters, IsCaused, refused, WorkerPartFits}
use Rattle.turn_entries.proofs.Free.{chunk_free, only_memory}
use Rattle.turn_entries.proofs.Going.{may_heap}
use Rattle.turn_entries.proofs.Paying.{pays_nothing}
use Rattle.turn_entries.proofs.Turning.{not_over, one, unchanged}
use Rattle.turn_entries.proofs.run.Run.enter_chunk.Goals as goal

pub chunk-requires-clause-fits : goal.chunk-requires-clause-fits
chunk-requires-clause-fits g c = subst (WorkerPartFits (g.P.EntryCalls.value c.args.self.now.paced) c.args.worker) (sym c.get_mut.ensures.value) c.requires.paused.may.fits

pub out_of_memory-requires : goal.out_of_memory-requires
out_of_memory-requires g c = record {
  cause =
      only_memory c.in-Err.cause _ (chunk_free (g.P.EntryCalls.value c.args.self.now.paced) c.args.worker c.args.part c.stands.ensures.stands c.requires.enter.free c.requires.paused.may.fits c.requires.paused.may.idle c.requires.fresh c.requires.enter.goes c.requires.paused)
      (subst (λ (q : Private). IsCaused c.in-Err.cause (refused (g.P.EntryCalls.value c.args.self.now.paced) (record { worker = c.args.worker; kind = Chunk q.task }))) c.get_mut.ensures.value c.in-Err.ensures.refused);
}

pub returns-in-Ok : goal.returns-in-Ok
returns-in-Ok g c = λ ready.
    c.entered.ensures (g.P.EntryCalls.value c.args.self.now.paced) c.args.worker ready (Chunk c.args.part.task)
    (one (g.P.EntryCalls.value c.args.self.now.paced) (g.P.EntryCalls.value c.chunk.new.self) c.args.worker (Chunk c.args.part.task)
    (subst (λ (q : Private). Enters (g.P.EntryCalls.value c.args.self.now.paced) (g.P.EntryCalls.value c.chunk.new.self) (record { worker = c.args.worker; kind = Chunk q.task })) c.get_mut.ensures.value c.in-Ok.ensures.enters) c.in-Ok.ensures.others)
    c.requires.enter.on
    (λ on. (
      on,
      may_heap (g.P.EntryCalls.value c.chunk.new.self) c.args.worker c.args.part c.chunk.new.part c.chunk.new.part.heap c.chunk.ensures.fits c.requires.paused.may.idle c.requires.fresh
          (subst (λ (q : Private). c.chunk.new.part ≡ record q { heap = c.chunk.new.part.heap }) c.get_mut.ensures.value c.chunk.ensures.rest),
    ))

pub returns-in-Err : goal.returns-in-Err
returns-in-Err g c = λ ready. c.out_of_memory.ensures (g.P.EntryCalls.value c.args.self.now.paced) c.args.worker ready (Some (Chunk c.args.part.task)) (unchanged (g.P.EntryCalls.value c.args.self.now.paced) (g.P.EntryCalls.value c.chunk.new.self) c.in-Err.ensures.same) (not_over (g.P.EntryCalls.value c.args.self.now.paced) c.requires.enter.on c.requires.enter.goes)

pub chunk-requires-clause-room : goal.chunk-requires-clause-room
chunk-requires-clause-room g c = c.requires.enter.room

pub chunk-requires-clause-pays : goal.chunk-requires-clause-pays
chunk-requires-clause-pays g c = pays_nothing (g.P.EntryCalls.value c.args.self.now.paced) c.args.worker (Chunk c.get_mut.result.now.task) c.requires.enter.owed
