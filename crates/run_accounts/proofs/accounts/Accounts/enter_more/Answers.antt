use Rattle.std.proofs.Common.{sym, ◌∙◌}
use Rattle.run_accounts.proofs.Went.{went_more}
use Rattle.run_accounts.proofs.accounts.Accounts.enter_more.Goals as goal

pub returns-clause-ok : goal.returns-clause-ok
returns-clause-ok c = λ w. went_more c.args.self.now c.more.new.self w c.args.task c.requires.agrees c.args.count (c.more.ensures w)

pub returns-in-Some-clause-err : goal.returns-in-Some-clause-err
returns-in-Some-clause-err c = λ w. sym (c.more_cause.ensures w c.args.count) ∙ c.in-Some.is

pub returns-clause-none : goal.returns-clause-none
returns-clause-none c = λ w. sym (c.more_cause.ensures w c.args.count) ∙ c.in_default.is
