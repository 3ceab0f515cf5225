use Rattle.run_timeline.proofs.Common.{◌++◌, ap, ◌∙◌, codes, decimal, on_ok_weaker, Word, Member, NoMember, first_member, arguments}
use Rattle.run_timeline.proofs.Made.{word_made, event_made}
use Rattle.run_timeline.proofs.events.EventWriter.add_lane.Goals as goal

pub returns : goal.returns
returns c =
    on_ok_weaker c.end_arguments.result
    (λ e. event_made (codes "thread_name") (codes "__metadata") (codes "M") 0 c.args.worker (arguments (Member (codes "name") (Word (codes "worker " ++ decimal c.args.worker)) NoMember))
    c.args.self.now.text.items c.add_comma.new.self.text.items c.begin_event.new.self.text.items c.end_arguments.new.self.text.items c.in_ok-add_comma.ensures c.in_ok-begin_event.ensures
    (word_made (codes "name") (codes "worker " ++ decimal c.args.worker) c.begin_event.new.self.text.items c.begin_arguments.new.self.text.items c.first_word.new.text.items c.end_arguments.new.self.text.items
    c.in_ok-begin_arguments.ensures
    (c.in_ok-first_word.ensures ∙ ap (λ w. c.begin_arguments.new.self.text.items ++ first_member (codes "name") (Word w)) (c.as_bytes.ensures.value ∙ c.in_ok-name.ensures.ok)) e))
    c.end_arguments.ensures
