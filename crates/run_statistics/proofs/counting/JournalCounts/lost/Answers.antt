use Rattle.std.proofs.Common.{◌≡◌, Some, slice_get, ap, sym, ◌∙◌}
use Rattle.run_statistics.proofs.EntryCounted.{end_lost, sweep_lost}
use Rattle.run_statistics.proofs.counting.JournalCounts.lost.Goals as goal

pub returns-in-End : goal.returns-in-End
returns-in-End c = λ w M.
    let got : slice_get c.args.self.now.begun c.args.entry.worker ≡ Some c.at-before.result.now = ap (slice_get c.args.self.now.begun) (sym c.worker.ensures.value) ∙ c.at-before.ensures in
    c.saturating_sub.ensures
    ∙ end_lost w c.args.shared.now c.args.self.now c.args.entry c.args.words M c.in-End.field-0 c.in-End.field-1 c.in-End.field-2 c.in-End.left c.at-before.result.now (sym c.kind.ensures.value ∙ c.in-End.is) got

pub returns-in-Sweep : goal.returns-in-Sweep
returns-in-Sweep c = λ w M.
    c.saturating_sub-in-Sweep.ensures
    ∙ sweep_lost w c.args.shared.now c.args.self.now c.args.entry c.args.words M c.stands.ensures c.in-Sweep.task c.in-Sweep.field-1 c.words_held.result (sym c.kind.ensures.value ∙ c.in-Sweep.is) c.words_held.ensures
