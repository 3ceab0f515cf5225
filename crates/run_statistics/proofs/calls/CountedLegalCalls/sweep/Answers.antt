use Rattle.run_statistics.proofs.Common.{◌≡◌, None, Ok, refl, sym, subst, EntryValue, Sweep, SharedValue, accounts, refused, heap_of, words_in, SweepsHeap, handed_on, CountsJournal}
use Rattle.run_statistics.proofs.EntryCounted.{sweep_had, is_made}
use Rattle.run_statistics.proofs.calls.CountedLegalCalls.sweep.Goals as goal

pub returns : goal.returns
returns c = subst (λ (z : SharedValue). SweepsHeap z c.sweep.new.self c.args.worker c.args.t c.args.given (Ok tt)) c.self.view_is c.in_ok-sweep.ensures

pub returns-in_err-sweep : goal.returns-in_err-sweep
returns-in_err-sweep c =
    handed_on (λ (z : SharedValue). SweepsHeap z c.sweep.new.self c.args.worker c.args.t c.args.given) c.self.inside.shared c.args.self.now c.self.view_is c.from_residual.result c.in_err-sweep.field-0.0 c.from_residual.ensures.1 c.in_err-sweep.ensures

pub count-requires : goal.count-requires
count-requires c =
    let w : SharedValue = c.self.inside.shared in
    let e : EntryValue = record { worker = c.args.worker; kind = Sweep c.args.t c.args.given } in
    let free : refused w e ≡ None = sym c.in_ok-sweep.ensures.refused in
    let had : c.words_held-words.result ≡ words_in (accounts w).machine (heap_of (accounts w) c.args.t) = sweep_had w c.stands.ensures e c.args.t c.args.given refl free c.words_held-words.result c.words_held-words.ensures in
    is_made w c.sweep.new.self c.self.inside.counts e c.words_held-words.result c.stands.ensures c.in_ok-sweep.ensures.enters free c.self.invariant had

pub invariant_of-self : goal.invariant_of-self
invariant_of-self c = subst (λ (z : SharedValue). CountsJournal z c.self.inside.counts) (sym c.in_err-sweep.ensures.same) c.self.invariant
