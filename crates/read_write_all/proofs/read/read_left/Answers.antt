use Rattle.std.proofs.Common.{arith, rules, ◌∙◌}
use Rattle.read_write_all.proofs.Inputs.{grown, ended, filled}
use Rattle.read_write_all.proofs.read.read_left.Goals as goal

pub loop-source-preserved : goal.loop-source-preserved
loop-source-preserved g c = (
  λ left e. let i = c.loop-source.invariant.0 left e in grown left (g.S.Source.left c.loop-source.source) (g.S.Source.left c.take_more.new.source) c.loop-source.input.items c.take_more.new.input.items c.in_ok-take_more.field-0 i.0 i.1 c.in_ok-take_more.ensures.grows,
  c.in_ok-take_more.ensures.within,
  omega (arith, c.loop-source.invariant.2, c.take_more.ensures.never_falls),
  λ n. c.take_more.ensures.names n ∙ c.loop-source.invariant.3 n,
)

pub returns-then-branch-eq0-clause-input : goal.returns-then-branch-eq0-clause-input
returns-then-branch-eq0-clause-input g c = λ left e. let i = c.loop-source.invariant.0 left e in let r = ended c.args.limit left (g.S.Source.left c.loop-source.source) (g.S.Source.left c.take_more.new.source) c.loop-source.input.items c.take_more.new.input.items c.in_ok-take_more.field-0 i.0 i.1 c.loop-source.invariant.1 c.in_ok-take_more.ensures.grows c.if-branch-eq0.true in r.0

pub returns-then-branch-eq0-clause-taken : goal.returns-then-branch-eq0-clause-taken
returns-then-branch-eq0-clause-taken g c = λ left e. let i = c.loop-source.invariant.0 left e in let r = ended c.args.limit left (g.S.Source.left c.loop-source.source) (g.S.Source.left c.take_more.new.source) c.loop-source.input.items c.take_more.new.input.items c.in_ok-take_more.field-0 i.0 i.1 c.loop-source.invariant.1 c.in_ok-take_more.ensures.grows c.if-branch-eq0.true in r.1

pub returns-clause-input : goal.returns-clause-input
returns-clause-input g c = λ left e. let i = c.loop-source.invariant.0 left e in let r = filled c.args.limit left (g.S.Source.left c.loop-source.source) c.loop-source.input.items i.0 i.1 c.loop-source.invariant.1 (search rules) in r.0

pub returns-clause-taken : goal.returns-clause-taken
returns-clause-taken g c = λ left e. let i = c.loop-source.invariant.0 left e in let r = filled c.args.limit left (g.S.Source.left c.loop-source.source) c.loop-source.input.items i.0 i.1 c.loop-source.invariant.1 (search rules) in r.1
