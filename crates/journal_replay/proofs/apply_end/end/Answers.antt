use Rattle.journal_replay.proofs.Common.{ap, sym, ◌∙◌, not_refused, end_cause, end_free}
use Rattle.journal_replay.proofs.HoldingCauses.{copy_fits}
use Rattle.journal_replay.proofs.apply_end.end.Goals as goal

pub leaf_end-requires-clause-fits : goal.leaf_end-requires-clause-fits
leaf_end-requires-clause-fits g c = copy_fits (g.S.LegalCalls.value c.args.shared.now) c.args.worker c.args.part c.args.moved c.stands.ensures c.requires.holds

pub unreachable-requires : goal.unreachable-requires
unreachable-requires g c =
    not_refused _ c.in-Err.field-0.cause (end_free (g.S.LegalCalls.value c.args.shared.now) c.args.worker c.args.part c.args.moved c.stands.ensures c.requires.first (copy_fits (g.S.LegalCalls.value c.args.shared.now) c.args.worker c.args.part c.args.moved c.stands.ensures c.requires.holds))
    (sym c.leaf_end.ensures.refused ∙ ap end_cause c.in-Err.is)
