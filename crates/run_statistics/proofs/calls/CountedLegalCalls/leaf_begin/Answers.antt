use Rattle.run_statistics.proofs.Common.{◌≡◌, Ok, sym, subst, Begin, SharedValue, accounts, WorkerPartFits, heap_of, words_in, Private, BeginsLeaf, handed_on, CountsJournal}
use Rattle.run_statistics.proofs.EntryCounted.{begin_had, is_made}
use Rattle.run_statistics.proofs.calls.CountedLegalCalls.leaf_begin.Goals as goal

pub leaf_begin-requires-clause-fits : goal.leaf_begin-requires-clause-fits
leaf_begin-requires-clause-fits c = subst (λ (z : SharedValue). WorkerPartFits z c.args.worker c.args.part.now) (sym c.self.view_is) c.requires.fits

pub returns : goal.returns
returns c = subst (λ (z : SharedValue). BeginsLeaf z c.leaf_begin.new.self c.args.worker c.args.part.now c.leaf_begin.new.part (Ok c.in_ok-begun.begun)) c.self.view_is c.in_ok-begun.ensures

pub returns-in_err-begun : goal.returns-in_err-begun
returns-in_err-begun c =
    handed_on (λ (z : SharedValue). BeginsLeaf z c.leaf_begin.new.self c.args.worker c.args.part.now c.leaf_begin.new.part) c.self.inside.shared c.args.self.now c.self.view_is c.from_residual.result c.in_err-begun.field-0.0 c.from_residual.ensures.1 c.in_err-begun.ensures

pub count-requires : goal.count-requires
count-requires c =
    let w : SharedValue = c.self.inside.shared in
    let p : Private = c.args.part.now in
    let fits : WorkerPartFits w c.args.worker p = subst (λ (z : SharedValue). WorkerPartFits z c.args.worker p) (sym c.self.view_is) c.requires.fits in
    let F : WorkerPartFits w c.args.worker (record p { fresh = 0 }) = subst (λ n. WorkerPartFits w c.args.worker (record p { fresh = n })) c.requires.fresh fits in
    let had : c.words-words.result ≡ words_in (accounts w).machine (heap_of (accounts w) p.task) = begin_had w c.stands.ensures c.args.worker p F c.words-words.result c.words-words.ensures in
    is_made w c.leaf_begin.new.self c.self.inside.counts (record { worker = c.args.worker; kind = Begin c.args.part.now.task }) c.words-words.result c.stands.ensures c.in_ok-begun.ensures.enters c.in_ok-begun.ensures.refused c.self.invariant had

pub invariant_of-self : goal.invariant_of-self
invariant_of-self c = subst (λ (z : SharedValue). CountsJournal z c.self.inside.counts) (sym c.in_err-begun.ensures.same) c.self.invariant
