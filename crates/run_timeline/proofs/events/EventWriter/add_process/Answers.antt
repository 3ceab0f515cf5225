use Rattle.run_timeline.proofs.Common.{codes, on_ok_weaker, Word, Member, NoMember, arguments}
use Rattle.run_timeline.proofs.Made.{word_made, first_made}
use Rattle.run_timeline.proofs.events.EventWriter.add_process.Goals as goal

pub returns : goal.returns
returns c =
    on_ok_weaker c.end_arguments.result
    (λ e. first_made (codes "process_name") (codes "__metadata") (codes "M") 0 0 (arguments (Member (codes "name") (Word (codes "hheap: a millisecond is one entry")) NoMember))
    c.args.self.now.text.items c.begin_event.new.self.text.items c.end_arguments.new.self.text.items c.in_ok-begin_event.ensures
    (word_made (codes "name") (codes "hheap: a millisecond is one entry") c.begin_event.new.self.text.items c.begin_arguments.new.self.text.items c.first_word.new.text.items c.end_arguments.new.self.text.items
    c.in_ok-begin_arguments.ensures c.in_ok-first_word.ensures e))
    c.end_arguments.ensures
