use Rattle.std.proofs.Common.{◌∙◌, ap}
use Rattle.log_json.specs.below.log_sites.{site_name}
use Rattle.log_replies.specs.Blocks.{of_blocks}
use Rattle.log_replies.specs.Shown.{view_text}
use Rattle.log_replies.specs.Status.{status_of}
use Rattle.log_replies.proofs.report.show_report.Goals as goal

pub returns : goal.returns
returns c =
    let shown = c.of_blocks-report.ensures ∙ ap (λ bs. of_blocks bs c.args.report) c.as_slice.ensures in
    let text = c.in_ok-text.ensures ∙ c.in_ok-names.ensures ∙ ap (view_text (site_name c.args.texts.now) c.args.view.now) shown in
    record {
      status_is = c.of_bytes.ensures.status_is ∙ c.status_of.ensures ∙ ap status_of shown;
      bytes_are = c.of_bytes.ensures.bytes_are ∙ text;
    }
