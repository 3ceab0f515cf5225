use Rattle.log_report.proofs.Common.{◌∙◌, ap, length, IfOk-weaker, racing_locations, counts_text, left_text}
use Rattle.log_report.proofs.Parts.{end_is}
use Rattle.log_report.proofs.end.end_line.Goals as goal

pub returns : goal.returns
returns c =
    let r = c.args.report.now in
    let races = c.racing_locations.ensures ∙ ap racing_locations c.as_slice.ensures in
    let reads = c.len.ensures in
    let uses = c.len-2.ensures in
    let stale = c.len-3.ensures in
    let counts = c.in_ok-counts.ensures ∙ (λ i. counts_text (races i) (reads i) (uses i) (stale i)) in
    IfOk-weaker c.format.result _ _
    (λ s e. e ∙ end_is _ _ (counts_text (racing_locations r.races) (length r.entangled_reads) (length r.entangled_uses) (length r.stale_uses)) (left_text r.left_out) counts c.in_ok-left.ensures)
    c.format.ensures.ok
