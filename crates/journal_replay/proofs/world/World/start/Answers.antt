use Rattle.journal_replay.proofs.Common.{◌≡◌, ℕ, zero, suc, false, Some, List, [], replicate, length, slice_get, refl, ap, subst, sym, ◌∙◌, same_Some, EntryValue, SettingsValue, heap_of, ledger_of, handed, SharedValue, HoldsNone, first_worker, OutPart, Nothing, AllHold, WorkerHolds}
use Rattle.journal_replay.proofs.world.World.start.Goals as goal

holds_none : (w : SharedValue) (k : ℕ) → w.journal.items ≡ [] → HoldsNone w k
holds_none w k none t h = first_worker w.program w.settings t k (ap (λ (j : List EntryValue). (heap_of (handed (ledger_of w.program w.settings j)) t).worker) (sym none) ∙ h)

-- holdings of nothing
each_nothing : (n k : ℕ) (h : OutPart) → slice_get (replicate n Nothing) k ≡ Some h → Nothing ≡ h
each_nothing zero k h e = absurd cc
each_nothing (suc n) zero h e = same_Some Nothing h e
each_nothing (suc n) (suc k) h e = each_nothing n k h e

as_many : (n : ℕ) → length (replicate n Nothing) ≡ n
as_many zero = refl
as_many (suc n) = ap suc (as_many n)

first_hold : (w : SharedValue) (n : ℕ) → w.journal.items ≡ [] → AllHold w false (replicate n Nothing)
first_hold w n none k h at = subst (λ (x : OutPart). WorkerHolds w false k x) (each_nothing n k h at) (holds_none w k none)

pub invariant_of-result : goal.invariant_of-result
invariant_of-result g c = record {
  count = ap length c.in_ok-holdings.ensures ∙ (as_many c.workers.result ∙ (c.workers.ensures.value ∙ ap (λ (s : SettingsValue). s.workers) (sym c.in_ok-shared.ensures.settings)));
  holdings = subst (λ (hs : List OutPart). AllHold (g.S.LegalCalls.value c.in_ok-shared.shared) false hs) (sym c.in_ok-holdings.ensures) (first_hold (g.S.LegalCalls.value c.in_ok-shared.shared) c.workers.result c.in_ok-shared.ensures.journal);
}
