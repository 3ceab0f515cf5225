use Rattle.view_arguments.proofs.Common.{◌∙◌, ap, sym, List, map, string_bytes, Global, IfOk-weaker, Text, named_line}
use Rattle.view_arguments.proofs.read.named_line.Goals as goal

pub returns-in-heaps : goal.returns-in-heaps
returns-in-heaps c =
    let words : List Text = map (string_bytes {Z = Global}) c.args.words.now in
    IfOk-weaker c.heaps_line.result _ _ (λ v e. e ∙ ap (λ (n : Text). named_line n words) (sym c.in-heaps.is)) c.heaps_line.ensures

pub returns-in-page : goal.returns-in-page
returns-in-page c =
    let words : List Text = map (string_bytes {Z = Global}) c.args.words.now in
    IfOk-weaker c.page_line.result _ _ (λ v e. e ∙ ap (λ (n : Text). named_line n words) (sym c.in-page.is)) c.page_line.ensures

pub returns-in-faults : goal.returns-in-faults
returns-in-faults c =
    let words : List Text = map (string_bytes {Z = Global}) c.args.words.now in
    IfOk-weaker c.faults_line.result _ _ (λ v e. e ∙ ap (λ (n : Text). named_line n words) (sym c.in-faults.is)) c.faults_line.ensures
