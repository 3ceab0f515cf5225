use Rattle.turn_entries.proofs.Common.{◌∙◌, arith, ap, refl, Option, Some, subst, SharedValue, Due, NeedChunk, Spent, Shared, Copied as IsCopied, Found, ComesFirst, First}
use Rattle.turn_entries.specs.declared.between_turns.Ready.TheVariants.{Paused as HasPaused}
use Rattle.turn_entries.proofs.Coming.{acts_came, copied_now, paused_now}
use Rattle.turn_entries.proofs.Turning.{brings_then}
use Rattle.turn_entries.proofs.run.Run.act.Goals as goal

pub act_first-requires-clause-brings : goal.act_first-requires-clause-brings
act_first-requires-clause-brings g c = brings_then (g.P.EntryCalls.value c.args.self.now.paced) (g.P.EntryCalls.value c.comes_first.new.self.paced) c.comes_first.ensures.none c.args.worker c.args.ready c.requires.brings

pub returns-in-Some : goal.returns-in-Some
returns-in-Some g c =
    let w : SharedValue = (g.P.EntryCalls.value c.args.self.now.paced) in
    c.act_first.ensures w c.comes_first.ensures.none (subst (λ (o : Option First). ComesFirst w (g.P.EntryCalls.value c.comes_first.new.self.paced) c.args.worker c.args.ready o) c.in-Some.is c.comes_first.ensures.first)

pub enter_shared-requires-clause-paused : goal.enter_shared-requires-clause-paused
enter_shared-requires-clause-paused g c = paused_now (g.P.EntryCalls.value c.args.self.now.paced) (g.P.EntryCalls.value c.comes_first.new.self.paced) c.args.worker c.args.ready c.comes_first.ensures.none c.comes_first.result c.comes_first.ensures.first c.in_default.is c.stands.ensures.stands c.requires.brings c.in-Paused.part Shared (c.in-Paused.is ∙ ap (HasPaused c.in-Paused.part) c.in-Shared.is)

pub enter_due-requires-clause-paused : goal.enter_due-requires-clause-paused
enter_due-requires-clause-paused g c = paused_now (g.P.EntryCalls.value c.args.self.now.paced) (g.P.EntryCalls.value c.comes_first.new.self.paced) c.args.worker c.args.ready c.comes_first.ensures.none c.comes_first.result c.comes_first.ensures.first c.in_default.is c.stands.ensures.stands c.requires.brings c.in-Paused.part Due (c.in-Paused.is ∙ ap (HasPaused c.in-Paused.part) c.in-Due.is)

pub enter_need-requires-clause-paused : goal.enter_need-requires-clause-paused
enter_need-requires-clause-paused g c = paused_now (g.P.EntryCalls.value c.args.self.now.paced) (g.P.EntryCalls.value c.comes_first.new.self.paced) c.args.worker c.args.ready c.comes_first.ensures.none c.comes_first.result c.comes_first.ensures.first c.in_default.is c.stands.ensures.stands c.requires.brings c.in-Paused.part NeedChunk (c.in-Paused.is ∙ ap (HasPaused c.in-Paused.part) c.in-NeedChunk.is)

pub enter_private-requires-clause-may : goal.enter_private-requires-clause-may
enter_private-requires-clause-may g c = (paused_now (g.P.EntryCalls.value c.args.self.now.paced) (g.P.EntryCalls.value c.comes_first.new.self.paced) c.args.worker c.args.ready c.comes_first.ensures.none c.comes_first.result c.comes_first.ensures.first c.in_default.is c.stands.ensures.stands c.requires.brings c.in-Paused.part Spent (c.in-Paused.is ∙ ap (HasPaused c.in-Paused.part) c.in-Spent.is)).may

pub enter_private-requires-clause-fresh : goal.enter_private-requires-clause-fresh
enter_private-requires-clause-fresh g c =
    let all = (paused_now (g.P.EntryCalls.value c.args.self.now.paced) (g.P.EntryCalls.value c.comes_first.new.self.paced) c.args.worker c.args.ready c.comes_first.ensures.none c.comes_first.result c.comes_first.ensures.first c.in_default.is c.stands.ensures.stands c.requires.brings c.in-Paused.part Spent (c.in-Paused.is ∙ ap (HasPaused c.in-Paused.part) c.in-Spent.is)).spent refl in
    omega (arith, all)

pub end_leaf-requires-clause-fits : goal.end_leaf-requires-clause-fits
end_leaf-requires-clause-fits g c = copied_now (g.P.EntryCalls.value c.args.self.now.paced) (g.P.EntryCalls.value c.comes_first.new.self.paced) c.args.worker c.args.ready c.comes_first.ensures.none c.comes_first.result c.comes_first.ensures.first c.in_default.is c.stands.ensures.stands c.requires.brings c.in-Copied.copied c.in-Copied.is

pub returns-in-Shared : goal.returns-in-Shared
returns-in-Shared g c = acts_came (g.P.EntryCalls.value c.args.self.now.paced) (g.P.EntryCalls.value c.comes_first.new.self.paced) c.args.worker c.args.ready c.comes_first.ensures.none c.comes_first.result c.comes_first.ensures.first c.in_default.is (HasPaused c.in-Paused.part Shared) (c.in-Paused.is ∙ ap (HasPaused c.in-Paused.part) c.in-Shared.is) (g.P.EntryCalls.value c.enter_shared.new.self.paced) c.enter_shared.result c.enter_shared.ensures

pub returns-in-Spent : goal.returns-in-Spent
returns-in-Spent g c = acts_came (g.P.EntryCalls.value c.args.self.now.paced) (g.P.EntryCalls.value c.comes_first.new.self.paced) c.args.worker c.args.ready c.comes_first.ensures.none c.comes_first.result c.comes_first.ensures.first c.in_default.is (HasPaused c.in-Paused.part Spent) (c.in-Paused.is ∙ ap (HasPaused c.in-Paused.part) c.in-Spent.is) (g.P.EntryCalls.value c.enter_private.new.self.paced) c.enter_private.result (c.enter_private.ensures (HasPaused c.in-Paused.part Spent))

pub returns-in-Due : goal.returns-in-Due
returns-in-Due g c = acts_came (g.P.EntryCalls.value c.args.self.now.paced) (g.P.EntryCalls.value c.comes_first.new.self.paced) c.args.worker c.args.ready c.comes_first.ensures.none c.comes_first.result c.comes_first.ensures.first c.in_default.is (HasPaused c.in-Paused.part Due) (c.in-Paused.is ∙ ap (HasPaused c.in-Paused.part) c.in-Due.is) (g.P.EntryCalls.value c.enter_due.new.self.paced) c.enter_due.result (c.enter_due.ensures (HasPaused c.in-Paused.part Due))

pub returns-in-NeedChunk : goal.returns-in-NeedChunk
returns-in-NeedChunk g c = acts_came (g.P.EntryCalls.value c.args.self.now.paced) (g.P.EntryCalls.value c.comes_first.new.self.paced) c.args.worker c.args.ready c.comes_first.ensures.none c.comes_first.result c.comes_first.ensures.first c.in_default.is (HasPaused c.in-Paused.part NeedChunk) (c.in-Paused.is ∙ ap (HasPaused c.in-Paused.part) c.in-NeedChunk.is) (g.P.EntryCalls.value c.enter_need.new.self.paced) c.enter_need.result (c.enter_need.ensures (HasPaused c.in-Paused.part NeedChunk))

pub returns-in-Copied : goal.returns-in-Copied
returns-in-Copied g c = acts_came (g.P.EntryCalls.value c.args.self.now.paced) (g.P.EntryCalls.value c.comes_first.new.self.paced) c.args.worker c.args.ready c.comes_first.ensures.none c.comes_first.result c.comes_first.ensures.first c.in_default.is (IsCopied c.in-Copied.copied) c.in-Copied.is (g.P.EntryCalls.value c.end_leaf.new.self.paced) c.end_leaf.result (c.end_leaf.ensures (IsCopied c.in-Copied.copied))

pub returns-in-Some-found : goal.returns-in-Some-found
returns-in-Some-found g c = acts_came (g.P.EntryCalls.value c.args.self.now.paced) (g.P.EntryCalls.value c.comes_first.new.self.paced) c.args.worker c.args.ready c.comes_first.ensures.none c.comes_first.result c.comes_first.ensures.first c.in_default.is (Found (Some c.in-Some-found.task)) (c.in-Found.is ∙ ap Found c.in-Some-found.is) (g.P.EntryCalls.value c.take_task.new.self.paced) c.take_task.result (c.take_task.ensures (Found (Some c.in-Some-found.task)))
