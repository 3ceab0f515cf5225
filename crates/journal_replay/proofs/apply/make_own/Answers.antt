use Rattle.journal_replay.proofs.Common.{subst, sym, ◌∙◌, EntryValue, AnswersAll}
use Rattle.journal_replay.proofs.Applying.{made_all, stopped_before}
use Rattle.journal_replay.proofs.apply.make_own.Goals as goal

pub returns-in-Some-clause-made : goal.returns-in-Some-clause-made
returns-in-Some-clause-made g c =
    stopped_before (g.S.LegalCalls.value c.args.shared.now) c.args.worker c.args.kind c.in-Some.cause c.args.holdings.now c.stands.ensures c.requires.own
    (sym c.refused_first.ensures ∙ c.in-Some.is) c.requires.hold

pub returns-clause-made : goal.returns-clause-made
returns-clause-made g c =
    let e : EntryValue = record { worker = c.args.worker; kind = c.args.kind } in
    subst (λ hs. AnswersAll (g.S.LegalCalls.value c.args.shared.now) (g.S.LegalCalls.value c.make_for-holding.new.shared) e hs c.make_for-holding.result.answer) (sym c.set.ensures)
    (made_all (g.S.LegalCalls.value c.args.shared.now) (g.S.LegalCalls.value c.make_for-holding.new.shared) e c.stands.ensures c.args.holdings.now c.at_mut.result.now c.at_mut.ensures.value c.requires.hold c.replace-holding.new.dest c.make_for-holding.result.holding c.make_for-holding.result.answer c.make_for-holding.ensures)
