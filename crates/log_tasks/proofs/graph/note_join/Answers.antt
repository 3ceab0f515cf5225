use Rattle.log_tasks.proofs.Common.{◌∙◌, ◌∷◌, [], ap, sym, nat_eq, ◌||◌, contains, GraphTurn, joins, or-false}
use Rattle.log_tasks.proofs.Puts.{join_put}
use Rattle.log_tasks.proofs.graph.note_join.Goals as goal

pub returns-in-Spawn : goal.returns-in-Spawn
returns-in-Spawn c = λ n. sym (or-false (contains nat_eq c.args.joined.now n)) ∙ ap (λ (t : GraphTurn). contains nat_eq c.args.joined.now n || joins (t ∷ []) n) (sym c.in-Spawn.is)

pub returns-in_ok-insert-in-Join : goal.returns-in_ok-insert-in-Join
returns-in_ok-insert-in-Join c = λ n.
    c.in_ok-insert-in-Join.ensures.updates.0 n
    ∙ join_put c.in-Join.child n (contains nat_eq c.args.joined.now n)
    ∙ ap (λ (t : GraphTurn). contains nat_eq c.args.joined.now n || joins (t ∷ []) n) (sym c.in-Join.is)
