use Rattle.std.proofs.Common.{sym, ◌∙◌}
use Rattle.run_accounts.proofs.Went.{went_mark}
use Rattle.run_accounts.proofs.accounts.Accounts.enter_mark.Goals as goal

pub returns-clause-ok : goal.returns-clause-ok
returns-clause-ok c = λ w. went_mark c.args.self.now c.mark.new.self w c.args.task c.requires.agrees (c.mark.ensures w)

pub returns-in-Some-clause-err : goal.returns-in-Some-clause-err
returns-in-Some-clause-err c = λ w. sym (c.mark_cause.ensures w) ∙ c.in-Some.is

pub returns-clause-none : goal.returns-clause-none
returns-clause-none c = λ w. sym (c.mark_cause.ensures w) ∙ c.in_default.is
