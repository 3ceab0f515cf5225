use Rattle.view_core.proofs.Common.{ℕ, List, sym, subst, Option, RefusedAt, page, Done, Says, ShowsWhole}
use Rattle.view_core.proofs.page.show_journal_page.Goals as goal

pub returns-in-Ok : goal.returns-in-Ok
returns-in-Ok c =
    subst (λ (o : Option RefusedAt). ShowsWhole (Says Done (page c.args.title.now c.args.input.now c.args.program.now c.args.settings c.args.journal.now)) o c.of_bytes.result) (sym c.in-Ok.ensures.whole)
    (subst (λ (x : List ℕ). Says Done x c.of_bytes.result) c.in-Ok.ensures.text c.of_bytes.ensures)
