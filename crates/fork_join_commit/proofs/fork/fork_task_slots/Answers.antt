use Rattle.fork_join_commit.proofs.Common.{◌≡◌, true, ◌++◌, ◌∷◌, [], List, false, length, option_map, slice_get, ap, sym, subst, ◌∙◌, SetOf, bare_noted, content_at, TaskSlotsValue, keeping, SetsFork}
use Rattle.fork_join_commit.proofs.ForkEntries.{sets_fork}
use Rattle.fork_join_commit.proofs.fork.fork_task_slots.Goals as goal

pub returns-clause-sets : goal.returns-clause-sets
returns-clause-sets c =
    let sets : List SetOf = c.args.task_slots.now.sets in
    let put : List SetOf = c.set_keeps.new.self.sets in
    let was : c.put_rest.new.self.sets ≡ sets = ap (λ (z : TaskSlotsValue). z.sets) c.put_rest.ensures in
    let is : c.push-2.new.self.sets ≡ (put ++ bare_noted false ∷ []) ++ bare_noted false ∷ [] =
    c.push-2.ensures.sets ∙ ap (λ (xs : List SetOf). xs ++ bare_noted false ∷ []) (c.push.ensures.sets ∙ ap (λ (z : TaskSlotsValue). z.sets ++ bare_noted false ∷ []) c.take_marking-marked.ensures.task_slots) in
    subst (λ (xs : List SetOf). SetsFork sets xs c.args.part.task) (sym is)
    (sets_fork sets put c.args.part.task c.requires.noted
    (c.set_keeps.ensures.many ∙ ap (λ (xs : List SetOf). length xs) was)
    (c.set_keeps.ensures.at ∙ ap (λ (xs : List SetOf). option_map (keeping true) (content_at xs c.args.part.task)) was)
    (λ u ne. c.set_keeps.ensures.others u ne ∙ ap (λ (xs : List SetOf). slice_get xs u) was))
