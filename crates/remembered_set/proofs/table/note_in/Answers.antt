use Rattle.remembered_set.proofs.Common.{◌≡◌, rules, subst, sym, arith, common_steps, with_noted_source, StandOnce}
use Rattle.remembered_set.proofs.Noting.{once_noted}
use Rattle.remembered_set.proofs.table.note_in.Goals as goal

pub returns-in-Ok-true-clause-once : goal.returns-in-Ok-true-clause-once
returns-in-Ok-true-clause-once c =
    let is : c.push_reserved.new.self.items ≡ with_noted_source c.args.sources.now.items c.args.source = first_of (search rules, grind (arith, common_steps)) in
    subst StandOnce (sym is) (once_noted c.args.sources.now.items c.args.source c.requires.kept.once)
