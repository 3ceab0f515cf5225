use Rattle.page_data.proofs.Common.{[], ◌∷◌, codes, flat_map, on_ok_weaker, more, task_now}
use Rattle.page_data.proofs.Pieces.{listed}
use Rattle.page_data.proofs.delta.add_listed_tasks.Goals as goal

pub returns : goal.returns
returns c =
    on_ok_weaker c.end_list.result
    (listed c.args.text.now.items (codes ",\"task\":[") (task_now c.args.first.now) (flat_map (λ x. more (task_now x)) c.args.rest.now) (93 ∷ [])
    c.add_bytes.new.text.items c.add_task.new.text.items c.more_tasks.new.text.items c.end_list.new.text.items
    c.in_ok-add_bytes.ensures c.in_ok-add_task.ensures c.in_ok-more_tasks.ensures)
    c.end_list.ensures
