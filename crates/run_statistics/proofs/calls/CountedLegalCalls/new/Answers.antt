use Rattle.run_statistics.proofs.Common.{ap, sym, ◌∙◌, SettingsValue}
use Rattle.run_statistics.proofs.EntryCounted.{first_kept}
use Rattle.run_statistics.proofs.calls.CountedLegalCalls.new.Goals as goal

pub invariant_of-result : goal.invariant_of-result
invariant_of-result c =
    first_kept c.in_ok-shared.shared c.in_ok-counts.counts c.in_ok-shared.ensures.journal c.in_ok-counts.ensures.totals
    (c.in_ok-counts.ensures.workers ∙ (c.workers.ensures.value ∙ ap (λ (s : SettingsValue). s.workers) (sym c.in_ok-shared.ensures.settings)))
