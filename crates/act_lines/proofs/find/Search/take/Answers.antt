use Rattle.act_lines.proofs.Common.{◌∙◌, ◌++◌, ◌∷◌, [], length, slice_get, ap, sym, subst, on_ok_weaker, Search, HasFound}
use Rattle.act_lines.proofs.Searching.{past_end, none_left, found_one, passed_one}
use Rattle.act_lines.proofs.find.Search.take.Goals as goal

pub returns-in_default : goal.returns-in_default
returns-in_default c = λ seen h.
    none_left c.args.numbers.now seen c.args.line c.args.self.now h
    (past_end c.args.numbers.now (length c.args.self.now.found) (ap (slice_get c.args.numbers.now) (sym c.len.ensures) ∙ (sym c.number_at.ensures ∙ c.in_default.is)))

pub returns-then-from-self : goal.returns-then-from-self
returns-then-from-self c = λ seen h.
    let next = ap (slice_get c.args.numbers.now) (sym c.len.ensures) ∙ (sym c.number_at.ensures ∙ c.in-Some.is) in
    subst (λ (s : Search). HasFound c.args.numbers.now (seen ++ c.args.line ∷ []) s) (sym c.pass.ensures)
    (passed_one c.args.numbers.now seen c.args.line c.args.self.now h c.requires.ascending c.in-Some.number next (λ e. c.if-from-self.true (c.from.ensures ∙ e)))

pub returns : goal.returns
returns c =
    let next = ap (slice_get c.args.numbers.now) (sym c.len.ensures) ∙ (sym c.number_at.ensures ∙ c.in-Some.is) in
    on_ok_weaker c.find.result
    (λ is seen h. subst (λ (s : Search). HasFound c.args.numbers.now (seen ++ c.args.line ∷ []) s) (sym is)
    (found_one c.args.numbers.now seen c.args.line c.args.self.now h c.requires.ascending c.in-Some.number next (sym c.from.ensures ∙ c.if-from-self.false)))
    c.find.ensures
