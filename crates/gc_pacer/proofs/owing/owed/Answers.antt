use Rattle.gc_pacer.proofs.Common.{cond, ap, sym, subst, ◌∙◌, owed_to_marks, accounts, Forked, KeepsPrevious, owed_is}
use Rattle.run_statistics.specs.below.run_ledger.{Mark as OwesMark}
use Rattle.run_statistics.specs.below.heap_marking.{Ran}
use Rattle.gc_pacer.proofs.owing.owed.Goals as goal

pub returns-in-Ran : goal.returns-in-Ran
returns-in-Ran c = λ x K.
    let l = accounts c.args.shared.now in
    c.owed_to_marks.ensures x.marks K.marks ∙ owed_is c.args.shared.now.settings l x.marks Ran x.previous (subst (λ a. KeepsPrevious l a x.previous) c.in-Ran.is K.previous)

pub returns-then-is_to_begin : goal.returns-then-is_to_begin
returns-then-is_to_begin c = λ x K.
    let l = accounts c.args.shared.now in
    sym (ap (λ b. cond b (OwesMark c.in-Forked.fork.task) (owed_to_marks l x.marks)) (sym c.is_to_begin.ensures ∙ c.if-is_to_begin.true))
    ∙ owed_is c.args.shared.now.settings l x.marks (Forked c.in-Forked.fork) x.previous (subst (λ a. KeepsPrevious l a x.previous) c.in-Forked.is K.previous)

pub returns-else-is_to_begin : goal.returns-else-is_to_begin
returns-else-is_to_begin c = λ x K.
    let l = accounts c.args.shared.now in
    c.owed_to_marks-else-is_to_begin.ensures x.marks K.marks
    ∙ (sym (ap (λ b. cond b (OwesMark c.in-Forked.fork.task) (owed_to_marks l x.marks)) (sym c.is_to_begin.ensures ∙ c.if-is_to_begin.false))
    ∙ owed_is c.args.shared.now.settings l x.marks (Forked c.in-Forked.fork) x.previous (subst (λ a. KeepsPrevious l a x.previous) c.in-Forked.is K.previous))
