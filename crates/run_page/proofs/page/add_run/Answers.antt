use Rattle.run_page.proofs.Common.{◌++◌, ap, ◌∙◌, append_assoc, on_ok_weaker, opening, BookValue, settings_and_start, entries_from}
use Rattle.run_page.proofs.page.add_run.Goals as goal

pub returns : goal.returns
returns c =
    let p = c.args.program.now in
    let s = c.args.settings in
    let journal = c.args.journal.now in
    on_ok_weaker c.add_entries.result
    (λ added. added
    ∙ (ap (λ (b : BookValue). c.add_settings_and_start.new.text.items ++ entries_from p b.settings b.ledger journal) c.in_ok-book.ensures
    ∙ (ap (λ t. t ++ entries_from p s (opening p s) journal) c.in_ok-add_settings_and_start.ensures
    ∙ append_assoc c.args.text.now.items (settings_and_start p s) (entries_from p s (opening p s) journal))))
    c.add_entries.ensures
