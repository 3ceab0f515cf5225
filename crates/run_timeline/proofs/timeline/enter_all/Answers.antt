use Rattle.run_timeline.proofs.Common.{rules, refl, ap, sym, ◌∙◌, accounts_on, refused_on, BookValue, words_held}
use Rattle.run_timeline.proofs.Steps.{text_on}
use Rattle.run_timeline.proofs.timeline.enter_all.Goals as goal

pub loop-entry-init : goal.loop-entry-init
loop-entry-init c = record {
  program = refl;
  settings = refl;
  stopped = c.requires.open;
  index = refl;
  held = sym (ap words_held c.requires.first);
  accounts = search rules;
  refused = search rules;
  text = search rules;
}

pub loop-entry-preserved : goal.loop-entry-preserved
loop-entry-preserved c =
    let l = c.loop-entry in
    let k = c.in-Ok in
    let i = l.invariant in
    record {
      program = search rules;
      settings = search rules;
      stopped = search rules;
      index = search rules;
      held = k.ensures.held ∙ sym (ap (λ (b : BookValue). words_held b.ledger) k.ensures.entered);
      accounts = accounts_on c.args.journal.now l.book c.enter.new.book l.entry-index c.entry-item.result c.loop-entry-test.true c.entry-item.is k.ensures.entered i.accounts;
      refused = refused_on c.args.journal.now l.book c.enter.new.book l.entry-index c.entry-item.result c.loop-entry-test.true c.entry-item.is k.ensures.entered l.index k.ensures.legal i.refused;
      text =
          text_on c.args.journal.now l.book c.enter.new.book l.entry-index c.entry-item.result c.loop-entry-test.true c.entry-item.is k.ensures.entered l.index
          c.args.program.now l.writer.text.items c.enter.new.writer.text.items _ (i.program ∙ c.requires.program) i.text k.ensures.events;
    }
