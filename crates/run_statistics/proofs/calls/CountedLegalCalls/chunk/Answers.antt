use Rattle.run_statistics.proofs.Common.{Ok, sym, subst, Chunk, SharedValue, WorkerPartFits, GetsChunk, handed_on, CountsJournal}
use Rattle.run_statistics.proofs.EntryCounted.{is_made}
use Rattle.run_statistics.proofs.calls.CountedLegalCalls.chunk.Goals as goal

pub chunk-requires-clause-fits : goal.chunk-requires-clause-fits
chunk-requires-clause-fits c = subst (λ (z : SharedValue). WorkerPartFits z c.args.worker c.args.part.now) (sym c.self.view_is) c.requires.fits

pub returns : goal.returns
returns c = subst (λ (z : SharedValue). GetsChunk z c.chunk.new.self c.args.worker c.args.part.now c.chunk.new.part (Ok tt)) c.self.view_is c.in_ok-chunk.ensures

pub returns-in_err-chunk : goal.returns-in_err-chunk
returns-in_err-chunk c =
    handed_on (λ (z : SharedValue). GetsChunk z c.chunk.new.self c.args.worker c.args.part.now c.chunk.new.part) c.self.inside.shared c.args.self.now c.self.view_is c.from_residual.result c.in_err-chunk.field-0.0 c.from_residual.ensures.1 c.in_err-chunk.ensures

pub count-requires : goal.count-requires
count-requires c = is_made c.self.inside.shared c.chunk.new.self c.self.inside.counts (record { worker = c.args.worker; kind = Chunk c.args.part.now.task }) 0 c.stands.ensures c.in_ok-chunk.ensures.enters c.in_ok-chunk.ensures.refused c.self.invariant tt

pub invariant_of-self : goal.invariant_of-self
invariant_of-self c = subst (λ (z : SharedValue). CountsJournal z c.self.inside.counts) (sym c.in_err-chunk.ensures.same) c.self.invariant
