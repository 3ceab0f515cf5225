use Rattle.task_table.proofs.Common.{rules, refl, ◌∙◌, accounts_on, refused_on}
use Rattle.task_table.proofs.Steps.{rows_on}
use Rattle.task_table.proofs.table.enter_all.Goals as goal

pub loop-entry-init : goal.loop-entry-init
loop-entry-init c = record {
  program = refl;
  settings = refl;
  stopped = c.requires.open;
  index = refl;
  accounts = search rules;
  refused = search rules;
  rows = search rules;
}

pub loop-entry-preserved : goal.loop-entry-preserved
loop-entry-preserved c =
    let l = c.loop-entry in
    let k = c.in-Ok in
    let i = l.invariant in
    record {
      program = search rules;
      settings = search rules;
      stopped = search rules;
      index = search rules;
      accounts = accounts_on c.args.journal.now l.book c.enter.new.book l.entry-index c.entry-item.result c.loop-entry-test.true c.entry-item.is k.ensures.entered i.accounts;
      refused = refused_on c.args.journal.now l.book c.enter.new.book l.entry-index c.entry-item.result c.loop-entry-test.true c.entry-item.is k.ensures.entered l.index k.ensures.legal i.refused;
      rows =
          rows_on c.args.journal.now l.book c.enter.new.book l.entry-index c.entry-item.result c.loop-entry-test.true c.entry-item.is k.ensures.entered
          c.args.program.now l.rows c.enter.new.rows _ (i.program ∙ c.requires.program) i.rows k.ensures.rows;
    }
