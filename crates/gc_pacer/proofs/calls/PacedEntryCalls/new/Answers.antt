use Rattle.gc_pacer.proofs.Common.{ap, sym, subst, ◌∙◌, SettingsValue, AreIdle}
use Rattle.gc_pacer.proofs.Idle.{lent_kept, opening_kept}
use Rattle.gc_pacer.proofs.calls.PacedEntryCalls.new.Goals as goal

pub invariant_of-result : goal.invariant_of-result
invariant_of-result c =
    lent_kept c.in_ok-pacer.pacer (record { counted = c.in_ok-counted.counted; paces = c.in_ok-paces.paces }) c.in_ok-pacer.ensures (opening_kept c.in_ok-counted.counted c.in_ok-paces.paces c.in_ok-counted.ensures.journal
    (subst (AreIdle c.in_ok-paces.paces) (c.workers.ensures.value ∙ ap (λ (s : SettingsValue). s.workers) (sym c.in_ok-counted.ensures.settings)) c.in_ok-paces.ensures))
