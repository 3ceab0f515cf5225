use Rattle.shared_tree.proofs.Common.{ap₂, sym, subst, ◌∙◌, line_at, Private, SharedValue, AsksAlone, asks_alone, runs_on, some_line, HasNextLine, the_view, none_some}
use Rattle.shared_tree.proofs.shared.Shared.next_line.Goals as goal

pub unreachable-requires : goal.unreachable-requires
unreachable-requires c =
    let w : SharedValue = the_view c.self.inside in
    let p : Private = c.args.part.now in
    let asks : AsksAlone w c.requires.out.worker p = asks_alone c.self.view_is c.self.invariant c.requires.out.fits c.requires.shared c.requires.out.free in
    let line = some_line w c.requires.out.worker p asks.I asks.F asks.shared (runs_on asks) in
    none_some (sym c.in-None.is ∙ (c.line.ensures ∙ (ap₂ (line_at w.program) c.fun.ensures c.next.ensures ∙ line.1)))

pub returns : goal.returns
returns c =
    let w : SharedValue = the_view c.self.inside in
    let p : Private = c.args.part.now in
    subst (λ (z : SharedValue). HasNextLine z p c.in-Some.line.instr c.in-Some.line.number) c.self.view_is
    (ap₂ (line_at w.program) (sym c.fun.ensures) (sym c.next.ensures) ∙ (sym c.line.ensures ∙ c.in-Some.is))
