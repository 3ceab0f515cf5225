use Rattle.run_timeline.proofs.Common.{codes, on_ok_weaker}
use Rattle.run_timeline.proofs.Made.{two_made}
use Rattle.run_timeline.proofs.tasks.add_fork.Goals as goal

pub returns : goal.returns
returns c =
    on_ok_weaker c.end_arguments.result
    (two_made (codes "parent") (codes "line") c.args.parent c.args.line c.args.writer.now.text.items c.begin_arguments.new.self.text.items c.first_number.new.text.items c.more_number.new.text.items
    c.end_arguments.new.self.text.items c.in_ok-begin_arguments.ensures c.in_ok-first_number.ensures c.in_ok-more_number.ensures)
    c.end_arguments.ensures
