use Rattle.run_page.proofs.Common.{◌+◌, ◌++◌, drop, ap, ◌∙◌, ProgramText, SettingsValue, after, BookValue, entries_from}
use Rattle.run_page.proofs.Entries.{one_more}
use Rattle.run_page.proofs.page.add_entries.Goals as goal

pub loop-of-preserved : goal.loop-of-preserved
loop-of-preserved c =
    let p = c.args.program.now in
    let b = c.loop-of.book in
    let next = c.add_next.new.book in
    let e = c.of-item.result in
    let i = c.loop-of.invariant in
    let entered = c.in_ok-add_next.ensures.book in
    record {
      program = c.add_next.ensures.program ∙ i.program;
      state = c.in_ok-add_next.ensures.state;
      same = ap (λ (n : BookValue). n.program) entered ∙ i.same;
      settings = ap (λ (n : BookValue). n.settings) entered ∙ i.settings;
      text =
          ap (λ (z : SettingsValue). c.add_next.new.text.items ++ entries_from p z next.ledger (drop (c.loop-of.of-index + 1) c.args.journal.now)) (ap (λ (n : BookValue). n.settings) entered)
          ∙ one_more p b.settings c.args.journal.now c.loop-of.of-index e c.loop-of-test.true c.of-item.is
          _ c.loop-of.text.items c.add_next.new.text.items b.ledger next.ledger
          (ap (λ (n : BookValue). n.ledger) entered ∙ ap (λ (q : ProgramText). after q b.settings b.ledger e) i.same)
          c.in_ok-add_next.ensures.text i.text;
    }
