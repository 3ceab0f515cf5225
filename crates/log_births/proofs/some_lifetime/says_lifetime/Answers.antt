use Rattle.log_births.proofs.Common.{ℕ, List, Act, Bor, ◌∙◌, acts_in, acts_by, codes}
use Rattle.log_births.proofs.Unborn.{some_lifetime}
use Rattle.log_births.proofs.some_lifetime.says_lifetime.Goals as goal

pub returns : goal.returns
returns c = c.is_some.ensures ∙ some_lifetime (λ (r : Act × Bor (List ℕ)). r.0) (λ (r : Act × Bor (List ℕ)). acts_by (codes "af") r.1.now) c.next_act_by.result (acts_in c.args.text.now) c.next_act_by.ensures.acts
