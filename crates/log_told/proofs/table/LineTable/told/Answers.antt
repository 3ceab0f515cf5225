use Rattle.log_told.proofs.Common.{◌∙◌, ℕ, List, ap, subst, Result, Ok, Err, nat_cmp, IsBinarySearchResult, act_line, told_line}
use Rattle.log_told.proofs.Tables.{line_found, line_there}
use Rattle.log_told.proofs.table.LineTable.told.Goals as goal

pub returns-in-Ok : goal.returns-in-Ok
returns-in-Ok c = λ texts wanted is want.
    let at = subst (λ (ns : List ℕ). IsBinarySearchResult (λ y. nat_cmp y c.args.number) ns (Ok c.in-Ok.place)) c.as_slice.ensures c.in-Ok.ensures.position in
    c.told_line.ensures ∙ ap told_line (c.line.ensures (act_line texts c.args.number) (line_found texts wanted c.args.self.now is c.args.number c.in-Ok.place at))

pub returns-in-Err : goal.returns-in-Err
returns-in-Err c = λ texts wanted is want.
    let at = subst (λ (ns : List ℕ). IsBinarySearchResult (λ y. nat_cmp y c.args.number) ns (Err c.in-Err.field-0)) c.as_slice.ensures c.in-Err.ensures.position in
    absurd (line_there texts wanted c.args.self.now is c.args.number c.in-Err.field-0 at want)
