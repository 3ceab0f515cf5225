use Rattle.shared_tree.proofs.Common.{false, true, ◌≡◌, ℕ, Option, Some, None, slice_set, ap, sym, ◌∙◌, ◌<◌, arith, refl, subst, parent_of, state_of, TaskState, sibling, Private, SharedValue, refused, alone_entry, IsAtEnd, own_made, parent_low, tree_parent, few_tasks, places_ends, places_same}
use Rattle.entry_calls.proofs.below.fork_join_commit.{places_fit}
use Rattle.shared_tree.proofs.Joints.{holds_none}
use Rattle.shared_tree.proofs.shared.Shared.ran_ending.Goals as goal

none_some : {q : ℕ} → ◌≡◌ {A = Option ℕ} None (Some q) → ⊥
none_some e = cc

pub unreachable-requires : goal.unreachable-requires
unreachable-requires c =
    let w : SharedValue = c.args.self.now in
    let p : Private = c.args.part in
    none_some (sym c.in_default.is ∙ ((c.parent.ensures ∙ ap (parent_of c.self.inside.tree) c.task-task.ensures) ∙ (ap (λ (z : SharedValue). parent_of z.tree p.task) c.self.view_is ∙ tree_parent (record { I = c.stands.ensures; F = c.requires.fits; at_end = c.requires.ends; free = c.requires.free }))))

pub enter_join-requires-clause-fits : goal.enter_join-requires-clause-fits
enter_join-requires-clause-fits c =
    let w : SharedValue = c.args.self.now in
    let p : Private = c.args.part in
    let k : ℕ = c.args.worker in
    places_fit w c.make_join_places.new.self c.make_join_places.ensures.same k p c.requires.fits

pub enter_join-requires-clause-ends : goal.enter_join-requires-clause-ends
enter_join-requires-clause-ends c =
    let w : SharedValue = c.args.self.now in
    let p : Private = c.args.part in
    places_same w c.make_join_places.new.self c.make_join_places.ensures.same (λ z. IsAtEnd z p) (λ hs ss g. record { ends = g.ends; few = g.few }) c.requires.ends

pub enter_join-requires-clause-free : goal.enter_join-requires-clause-free
enter_join-requires-clause-free c =
    let w : SharedValue = c.args.self.now in
    let p : Private = c.args.part in
    places_same w c.make_join_places.new.self c.make_join_places.ensures.same (λ z. refused z (alone_entry c.args.worker p) ≡ None) (λ hs ss g. g) c.requires.free

pub returns-in-Ok : goal.returns-in-Ok
returns-in-Ok c =
    let w : SharedValue = c.args.self.now in
    let p : Private = c.args.part in
    let k : ℕ = c.args.worker in
    let v : SharedValue = c.make_join_places.new.self in
    let out : c.enter_join.new.self.tasks_out ≡ slice_set w.tasks_out k None = c.enter_join.ensures.task_out ∙ ap (λ (z : SharedValue). slice_set z.tasks_out k None) c.make_join_places.ensures.same.rest in
    record {
      refused = refl;
      same = tt;
      still = tt;
      back = tt;
      answered = (places_ends w v c.make_join_places.ensures.same c.enter_join.new.self k p _ c.enter_join.ensures.joined, holds_none w c.enter_join.new.self k p c.stands.ensures c.stands-in-Ok.ensures c.requires.free out);
    }

pub returns-in-Err : goal.returns-in-Err
returns-in-Err c =
    let w : SharedValue = c.args.self.now in
    record { refused = refl; same = c.make_join_places.ensures.same; still = λ u r G. places_fit w c.make_join_places.new.self c.make_join_places.ensures.same u r G; back = refl; answered = tt }

not_yes : false ≡ true → ⊥
not_yes e = cc

-- the state of the sibling, as it was read
state_is : {f g : ℕ → Option TaskState} {o : Option TaskState} {t u : ℕ} → o ≡ f t → f ≡ g → t ≡ u → o ≡ g u
state_is {f = f} {u = u} e same at = e ∙ (ap f at ∙ ap (λ (h : ℕ → Option TaskState). h u) same)

pub ran_first-requires-clause-alone : goal.ran_first-requires-clause-alone
ran_first-requires-clause-alone c = λ e. not_yes (c.if-not-is_ended.ensures.1 (state_is c.state.ensures (ap (λ (z : SharedValue). state_of z.tree) c.self.view_is) (c.sibling_of.ensures ∙ ap sibling c.task-task.ensures) ∙ e))

pub make_join_places-requires-clause-out : goal.make_join_places-requires-clause-out
make_join_places-requires-clause-out c = record { worker = c.args.worker; fits = c.requires.fits; free = c.requires.free }

pub make_join_places-requires-clause-ended : goal.make_join_places-requires-clause-ended
make_join_places-requires-clause-ended c = sym (state_is c.state.ensures (ap (λ (z : SharedValue). state_of z.tree) c.self.view_is) (c.sibling_of.ensures ∙ ap sibling c.task-task.ensures)) ∙ c.if-not-is_ended.ensures.0 refl

pub make_join_places-requires-clause-parent : goal.make_join_places-requires-clause-parent
make_join_places-requires-clause-parent c = ap (λ (z : SharedValue). parent_of z.tree c.args.part.task) (sym c.self.view_is) ∙ (sym (c.parent.ensures ∙ ap (parent_of c.self.inside.tree) c.task-task.ensures) ∙ c.in-Some.is)

pub enter_join-requires-clause-ended : goal.enter_join-requires-clause-ended
enter_join-requires-clause-ended c = ap (λ (z : SharedValue). state_of z.tree (sibling c.args.part.task)) c.make_join_places.ensures.same.rest ∙ (sym (state_is c.state.ensures (ap (λ (z : SharedValue). state_of z.tree) c.self.view_is) (c.sibling_of.ensures ∙ ap sibling c.task-task.ensures)) ∙ c.if-not-is_ended.ensures.0 refl)

pub enter_join-requires-clause-parent : goal.enter_join-requires-clause-parent
enter_join-requires-clause-parent c = ap (λ (z : SharedValue). parent_of z.tree c.args.part.task) c.make_join_places.ensures.same.rest ∙ (ap (λ (z : SharedValue). parent_of z.tree c.args.part.task) (sym c.self.view_is) ∙ (sym (c.parent.ensures ∙ ap (parent_of c.self.inside.tree) c.task-task.ensures) ∙ c.in-Some.is))

pub enter_join-requires-clause-places : goal.enter_join-requires-clause-places
enter_join-requires-clause-places c = c.in-Ok.ensures.places

pub enter_join-requires-clause-room : goal.enter_join-requires-clause-room
enter_join-requires-clause-room c = subst (λ (z : SharedValue). 0 < z.journal.room) (sym c.make_join_places.ensures.same.rest) c.requires.room

pub sibling_of-requires-clause-child : goal.sibling_of-requires-clause-child
sibling_of-requires-clause-child c =
    let w : SharedValue = c.args.self.now in
    let p : Private = c.args.part in
    let low = parent_low (record { I = c.stands.ensures; F = c.requires.fits; at_end = c.requires.ends; free = c.requires.free }) in
    let is = c.task-task.ensures in
    omega (arith, low, is)

pub sibling_of-requires-clause-few : goal.sibling_of-requires-clause-few
sibling_of-requires-clause-few c =
    let w : SharedValue = c.args.self.now in
    let p : Private = c.args.part in
    let few = few_tasks w c.stands.ensures in
    let made = own_made (record { I = c.stands.ensures; F = c.requires.fits; at_end = c.requires.ends; free = c.requires.free }) in
    let is = c.task-task.ensures in
    omega (arith, few, made, is)
