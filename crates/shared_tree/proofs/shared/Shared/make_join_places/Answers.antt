use Rattle.shared_tree.proofs.Common.{◌≡◌, ℕ, arith, Option, Some, None, List, refl, ap, sym, subst, ◌∙◌, Result, Ok, Err, OnOk, Ended, parent_of, state_of, sibling, MarkingValue, Private, TaskSlotsValue, SharedValue, IsSharedValue, WorkerPartFits, refused, alone_entry, IsAtEnd, HasPlaces, SameButPlaces, own_made, parent_low, few_tasks, parent_slot, parent_is, parent_other, placed_has, placed_same, places_world, MayBeEntered, the_view}
use Rattle.shared_tree.proofs.shared.Shared.make_join_places.Goals as goal

pub make_places-requires-clause-child : goal.make_places-requires-clause-child
make_places-requires-clause-child c =
    let w : SharedValue = the_view c.self.inside in
    let p : Private = c.args.part.now in
    let held : MayBeEntered w p = subst (λ (z : SharedValue). MayBeEntered z p) (sym c.self.view_is) c.requires.out in
    let at : IsAtEnd w p = subst (λ (z : SharedValue). IsAtEnd z p) (sym c.self.view_is) c.requires.ends in
    let low = parent_low (record { I = c.self.invariant; F = held.fits; at_end = at; free = held.free }) in
    omega (arith, low)

pub make_places-requires-clause-few : goal.make_places-requires-clause-few
make_places-requires-clause-few c =
    let w : SharedValue = the_view c.self.inside in
    let p : Private = c.args.part.now in
    let held : MayBeEntered w p = subst (λ (z : SharedValue). MayBeEntered z p) (sym c.self.view_is) c.requires.out in
    let at : IsAtEnd w p = subst (λ (z : SharedValue). IsAtEnd z p) (sym c.self.view_is) c.requires.ends in
    let few = few_tasks w c.self.invariant in
    let own = own_made (record { I = c.self.invariant; F = held.fits; at_end = at; free = held.free }) in
    omega (arith, few, own)

pub make_places-requires-clause-there : goal.make_places-requires-clause-there
make_places-requires-clause-there c =
    let w : SharedValue = the_view c.self.inside in
    let p : Private = c.args.part.now in
    let held : MayBeEntered w p = subst (λ (z : SharedValue). MayBeEntered z p) (sym c.self.view_is) c.requires.out in
    let at : IsAtEnd w p = subst (λ (z : SharedValue). IsAtEnd z p) (sym c.self.view_is) c.requires.ends in
    let ended : state_of w.tree (sibling p.task) ≡ Some Ended = subst (λ (z : SharedValue). state_of z.tree (sibling p.task) ≡ Some Ended) (sym c.self.view_is) c.requires.ended in
    let par : parent_of w.tree p.task ≡ Some c.args.parent = subst (λ (z : SharedValue). parent_of z.tree p.task ≡ Some c.args.parent) (sym c.self.view_is) c.requires.parent in
    parent_slot (record { I = c.self.invariant; F = held.fits; at_end = at; free = held.free }) ended c.args.parent par

-- only the parked states of the tasks and their sets
placed : (w : SharedValue) (h n : TaskSlotsValue) → h.marks ≡ w.marks → n ≡ record h { rests = n.rests; sets = n.sets } → record w { rests = n.rests; sets = n.sets } ≡ record w { rests = n.rests; sets = n.sets; marks = n.marks }
placed w h n em e = ap (λ (ms : List (Option MarkingValue)). record w { rests = n.rests; sets = n.sets; marks = ms }) (sym (ap (λ (z : TaskSlotsValue). z.marks) e ∙ em))

pub invariant_of-self : goal.invariant_of-self
invariant_of-self c =
    let w : SharedValue = the_view c.self.inside in
    let n : TaskSlotsValue = c.make_places.new.task_slots in
    subst IsSharedValue (placed w c.self.inside.heaps.task_slots n refl c.make_places.ensures.same.task_slots)
    (places_world w (record w { rests = n.rests; sets = n.sets }) (placed_same w c.self.inside.heaps.task_slots n c.args.parent c.make_places.ensures.same) c.self.invariant)

pub returns-clause-same : goal.returns-clause-same
returns-clause-same c =
    let w : SharedValue = the_view c.self.inside in
    let n : TaskSlotsValue = c.make_places.new.task_slots in
    let S : SameButPlaces w (record w { rests = n.rests; sets = n.sets }) = placed_same w c.self.inside.heaps.task_slots n c.args.parent c.make_places.ensures.same in
    subst (λ (z : SharedValue). SameButPlaces z (record w { rests = n.rests; sets = n.sets; marks = n.marks })) c.self.view_is
    (subst (SameButPlaces w) (placed w c.self.inside.heaps.task_slots n refl c.make_places.ensures.same.task_slots) S)

-- what follows from the success of a call holds if it succeeds
on_success : {A E : Type 0} (P Q : Type 0) (r : Result A E) → (P → Q) → OnOk r P → OnOk r Q
on_success P Q (Ok x) f p = f p
on_success P Q (Err e) f p = tt

pub returns-clause-places : goal.returns-clause-places
returns-clause-places c =
    let w : SharedValue = the_view c.self.inside in
    let p : Private = c.args.part.now in
    let held : MayBeEntered w p = subst (λ (z : SharedValue). MayBeEntered z p) (sym c.self.view_is) c.requires.out in
    let k : ℕ = held.worker in
    let I : IsSharedValue w = c.self.invariant in
    let F : WorkerPartFits w k p = held.fits in
    let at : IsAtEnd w p = subst (λ (z : SharedValue). IsAtEnd z p) (sym c.self.view_is) c.requires.ends in
    let free : refused w (alone_entry k p) ≡ None = held.free in
    let ended : state_of w.tree (sibling p.task) ≡ Some Ended = subst (λ (z : SharedValue). state_of z.tree (sibling p.task) ≡ Some Ended) (sym c.self.view_is) c.requires.ended in
    let par : parent_of w.tree p.task ≡ Some c.args.parent = subst (λ (z : SharedValue). parent_of z.tree p.task ≡ Some c.args.parent) (sym c.self.view_is) c.requires.parent in
    let e = parent_is (record { I = I; F = F; at_end = at; free = free }) ended c.args.parent par in
    let n : TaskSlotsValue = c.make_places.new.task_slots in
    let same = placed w c.self.inside.heaps.task_slots n refl c.make_places.ensures.same.task_slots in
    on_success _ _ c.make_places.result
    (λ G. subst (λ (z : SharedValue). HasPlaces z p c.args.parent) same
    (placed_has w c.self.inside.heaps.task_slots n c.args.parent c.make_places.ensures.same p
    (λ f. parent_other (record { I = I; F = F; at_end = at; free = free }) ended (e ∙ f)) G))
    c.make_places.ensures.places
