use Rattle.turn_entries.proofs.Common.{rules, ◌≡◌, ◌∙◌, sym, false, SharedValue, is_out_of_memory, is_over, Nothing}
use Rattle.entry_calls.specs.below.run_ledger.{Mark as OwesMark, More as OwesMore, Sweep as OwesSweep}
use Rattle.turn_entries.proofs.Coming.{comes_owing}
use Rattle.turn_entries.proofs.run.Run.comes_first.Goals as goal

pub returns-in-Nothing-clause-first : goal.returns-in-Nothing-clause-first
returns-in-Nothing-clause-first g c =
    let w : SharedValue = (g.P.EntryCalls.value c.args.self.now.paced) in
    let on : is_over w ≡ false = search rules in
    let met : is_out_of_memory c.args.ready.now ≡ false = search rules in
    comes_owing w (g.P.EntryCalls.value c.reserve.new.self) c.args.worker c.args.ready.now on met c.reserve.ensures.same c.stands.ensures.stands c.requires.worker c.in-Ok.ensures.room c.refused_first.result c.refused_first.ensures (sym c.is_some.ensures ∙ c.if-is_some.false) Nothing (sym c.owed.ensures ∙ c.in-Nothing.is)

pub returns-in-Mark-clause-first : goal.returns-in-Mark-clause-first
returns-in-Mark-clause-first g c =
    let w : SharedValue = (g.P.EntryCalls.value c.args.self.now.paced) in
    let on : is_over w ≡ false = search rules in
    let met : is_out_of_memory c.args.ready.now ≡ false = search rules in
    comes_owing w (g.P.EntryCalls.value c.reserve.new.self) c.args.worker c.args.ready.now on met c.reserve.ensures.same c.stands.ensures.stands c.requires.worker c.in-Ok.ensures.room c.refused_first.result c.refused_first.ensures (sym c.is_some.ensures ∙ c.if-is_some.false) (OwesMark c.in-Mark.task) (sym c.owed.ensures ∙ c.in-Mark.is)

pub returns-in-More-clause-first : goal.returns-in-More-clause-first
returns-in-More-clause-first g c =
    let w : SharedValue = (g.P.EntryCalls.value c.args.self.now.paced) in
    let on : is_over w ≡ false = search rules in
    let met : is_out_of_memory c.args.ready.now ≡ false = search rules in
    comes_owing w (g.P.EntryCalls.value c.reserve.new.self) c.args.worker c.args.ready.now on met c.reserve.ensures.same c.stands.ensures.stands c.requires.worker c.in-Ok.ensures.room c.refused_first.result c.refused_first.ensures (sym c.is_some.ensures ∙ c.if-is_some.false) (OwesMore c.in-More.task) (sym c.owed.ensures ∙ c.in-More.is)

pub returns-in-Sweep-clause-first : goal.returns-in-Sweep-clause-first
returns-in-Sweep-clause-first g c =
    let w : SharedValue = (g.P.EntryCalls.value c.args.self.now.paced) in
    let on : is_over w ≡ false = search rules in
    let met : is_out_of_memory c.args.ready.now ≡ false = search rules in
    comes_owing w (g.P.EntryCalls.value c.reserve.new.self) c.args.worker c.args.ready.now on met c.reserve.ensures.same c.stands.ensures.stands c.requires.worker c.in-Ok.ensures.room c.refused_first.result c.refused_first.ensures (sym c.is_some.ensures ∙ c.if-is_some.false) (OwesSweep c.in-Sweep.task) (sym c.owed.ensures ∙ c.in-Sweep.is)
