use Rattle.run_log.proofs.Common.{◌++◌, ap, ◌∙◌, Kind, machine_after, all_written, entry_lines}
use Rattle.run_log.proofs.Entries.{one_more}
use Rattle.run_log.proofs.lines.take_entries.Goals as goal

pub loop-entry-preserved : goal.loop-entry-preserved
loop-entry-preserved c =
    let p = c.args.program.now in
    let m = c.loop-entry.machine.state in
    let text = c.loop-entry.text.items in
    let i = c.loop-entry.invariant in
    let kind = c.kind.ensures.value in
    record {
      program = c.take_entry.ensures.program ∙ i.program;
      text =
          one_more p c.args.journal.now c.loop-entry.entry-index c.entry-item.result c.loop-entry-test.true c.entry-item.is
          _ text c.take_entry.new.text.items m c.take_entry.new.machine.state
          (c.in_ok-take_entry.ensures.state ∙ ap (λ (k : Kind). machine_after p m k) kind)
          (c.in_ok-take_entry.ensures.text ∙ ap (λ (k : Kind). text ++ all_written (entry_lines p m k)) kind)
          i.text;
    }
