use Rattle.journal_replay.proofs.Common.{ap, ap₂, subst, sym, ◌∙◌, EntryValue, AnswersApart, is_own}
use Rattle.journal_replay.proofs.Applying.{apart_all}
use Rattle.journal_replay.proofs.apply.make.Goals as goal

pub returns-else-is_own-clause-made : goal.returns-else-is_own-clause-made
returns-else-is_own-clause-made g c =
    apart_all (g.S.LegalCalls.value c.args.shared.now) (g.S.LegalCalls.value c.apply_apart.new.shared) c.args.entry c.args.holdings.now c.apply_apart.result c.stands.ensures (ap is_own (sym c.kind-kind.ensures.value) ∙ (sym c.is_own.ensures ∙ c.if-is_own.false)) c.requires.hold
    (subst (λ e. AnswersApart (g.S.LegalCalls.value c.args.shared.now) (g.S.LegalCalls.value c.apply_apart.new.shared) e c.apply_apart.result) (ap₂ (λ k kind. let e : EntryValue = record { worker = k; kind = kind } in e) c.worker-worker.ensures.value c.kind-kind.ensures.value) c.apply_apart.ensures)
