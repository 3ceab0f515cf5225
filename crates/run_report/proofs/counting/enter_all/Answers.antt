use Rattle.run_report.proofs.Common.{rules, subst, sym, arith, AreSettings}
use Rattle.run_report.proofs.Sums.{at_first, at_next, at_end, few_next, accounts_on, refused_on}
use Rattle.run_report.proofs.counting.enter_all.Goals as goal

pub loop-entry-init : goal.loop-entry-init
loop-entry-init c = record {
  program = search rules;
  settings = search rules;
  stopped = search rules;
  index = search rules;
  accounts = search rules;
  refused = search rules;
  at = at_first c.args.journal.now c.args.book.now c.none-totals.result c.none-totals.ensures c.requires.first;
}

pub enter-requires-clause-few : goal.enter-requires-clause-few
enter-requires-clause-few c none =
    let l = c.loop-entry in
    let e = l.invariant.index in
    let f = l.auto.index-fits in
    few_next c.args.journal.now l.book l.entry-index c.entry-item.result c.loop-entry-test.true c.entry-item.is none l.totals l.invariant.at
    (subst AreSettings (sym l.invariant.settings) c.requires.settings) (omega (arith, e, f))

pub loop-entry-preserved : goal.loop-entry-preserved
loop-entry-preserved c =
    let l = c.loop-entry in
    let k = c.in-Ok in
    let i = l.invariant in
    record {
      program = search rules;
      settings = search rules;
      stopped = search rules;
      index = search rules;
      accounts = accounts_on c.args.journal.now l.book c.enter.new.book l.entry-index c.entry-item.result c.loop-entry-test.true c.entry-item.is k.ensures.entered i.accounts;
      refused = refused_on c.args.journal.now l.book c.enter.new.book l.entry-index c.entry-item.result c.loop-entry-test.true c.entry-item.is k.ensures.entered l.index k.ensures.legal i.refused;
      at =
          at_next c.args.journal.now l.book l.entry-index c.entry-item.result c.loop-entry-test.true c.entry-item.is k.ensures.legal l.totals i.at c.enter.new.book k.sums k.ensures.entered
          k.ensures.counts;
    }

pub returns-clause-totals : goal.returns-clause-totals
returns-clause-totals c =
    let i = c.loop-entry.invariant in
    at_end c.args.journal.now c.loop-entry.book c.loop-entry.entry-index c.loop-entry.totals c.args.book.now.program c.args.book.now.settings c.loop-entry-test.false i.program i.settings i.at
