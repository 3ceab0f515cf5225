use Rattle.std.proofs.Common.{◌≡◌, ◌∙◌, ℕ, ◌++◌, true, List, Result, Ok, Err, OnOk, is_ok, if◌then◌else◌, ap, rules}
use Rattle.run_report.proofs.Writing.{report_shown}
use Rattle.run_report.proofs.whole.add_report.Goals as goal

added : {A E : Type 0} (r : Result A E) (was is more same : List ℕ) → is ≡ (if is_ok r then was ++ more else was) → more ≡ same → OnOk r (is ≡ was ++ same)
added (Ok x) was is more same e s = e ∙ ap (λ ls. was ++ ls) s
added (Err x) was is more same e s = tt

pub returns : goal.returns
returns c =
    let shown : c.args.asked ≡ true = search rules in
    let part = report_shown c.args.asked c.args.counted.now.book.ledger c.args.turns c.args.counted.now.totals c.report.result shown c.report.ensures in
    added c.extend_from_slice.result _ _ _ _ c.extend_from_slice.ensures.items (c.as_bytes.ensures.value ∙ c.in_ok-lines.ensures ∙ part)
