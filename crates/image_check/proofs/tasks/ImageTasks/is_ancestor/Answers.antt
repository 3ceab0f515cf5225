use Rattle.image_check.proofs.Common.{◌≡◌, ◌<◌, ◌≤◌, ◌-◌, ℕ, false, nat_eq, sym, subst, arith, None, depth_at, IsUp, found, ImageTasks, is_ancestor_of, TaskStandsAt}
use Rattle.image_check.proofs.Linked.{stands_within, no_ancestor, not_deeper, climbed}
use Rattle.image_check.proofs.tasks.ImageTasks.is_ancestor.Goals as goal

pub returns-in_default : goal.returns-in_default
returns-in_default c =
    subst (λ (es : ImageTasks). false ≡ is_ancestor_of es c.args.above c.args.below) c.self.view_is
    (no_ancestor c.self.inside.table.entries c.self.inside.links.items c.self.invariant c.args.above c.args.below
    (subst (λ (es : ImageTasks). found es c.args.above ≡ None) (sym c.self.view_is) c.in_default.ensures))

pub link-depth-requires : goal.link-depth-requires
link-depth-requires c =
    stands_within c.self.inside.table.entries c.self.inside.links.items c.self.invariant c.in-Some.top c.args.above
    (subst (λ (es : ImageTasks). TaskStandsAt es c.in-Some.top c.args.above) (sym c.self.view_is) c.in-Some.ensures)

pub returns-then-link-depth : goal.returns-then-link-depth
returns-then-link-depth c =
    let es = c.self.inside.table.entries in
    let ks = c.self.inside.links.items in
    let z = subst (λ (xs : ImageTasks). TaskStandsAt xs c.in-Some.top c.args.above) (sym c.self.view_is) c.in-Some.ensures in
    let s = subst (λ (xs : ImageTasks). TaskStandsAt xs c.in-Some-place.place c.args.below) (sym c.self.view_is) c.in-Some-place.ensures in
    let top : c.link-depth.result.depth ≡ depth_at ks c.in-Some.top = c.link-depth.ensures.depth in
    let here : c.link.result.depth ≡ depth_at ks c.in-Some-place.place = c.link.ensures.depth in
    let le : c.link.result.depth ≤ c.link-depth.result.depth = c.if-link-depth.true in
    subst (λ (xs : ImageTasks). false ≡ is_ancestor_of xs c.args.above c.args.below) c.self.view_is
    (not_deeper es ks c.self.invariant c.args.above c.args.below c.in-Some.top c.in-Some-place.place z s (omega (arith, top, here, le)))

pub climb_to-requires-clause-there : goal.climb_to-requires-clause-there
climb_to-requires-clause-there c =
    stands_within c.self.inside.table.entries c.self.inside.links.items c.self.invariant c.in-Some-place.place c.args.below
    (subst (λ (es : ImageTasks). TaskStandsAt es c.in-Some-place.place c.args.below) (sym c.self.view_is) c.in-Some-place.ensures)

pub returns : goal.returns
returns c =
    let es = c.self.inside.table.entries in
    let ks = c.self.inside.links.items in
    let z = subst (λ (xs : ImageTasks). TaskStandsAt xs c.in-Some.top c.args.above) (sym c.self.view_is) c.in-Some.ensures in
    let s = subst (λ (xs : ImageTasks). TaskStandsAt xs c.in-Some-place.place c.args.below) (sym c.self.view_is) c.in-Some-place.ensures in
    let top : c.link-depth.result.depth ≡ depth_at ks c.in-Some.top = c.link-depth.ensures.depth in
    let here : c.link.result.depth ≡ depth_at ks c.in-Some-place.place = c.link.ensures.depth in
    let lt : c.link-depth.result.depth < c.link.result.depth = c.if-link-depth.false in
    let way = subst (λ (d : ℕ). IsUp ks (depth_at ks c.in-Some-place.place - d) c.in-Some-place.place c.climb_to.result) top c.climb_to.ensures.up in
    subst (λ (xs : ImageTasks). nat_eq c.climb_to.result c.in-Some.top ≡ is_ancestor_of xs c.args.above c.args.below) c.self.view_is
    (climbed es ks c.self.invariant c.args.above c.args.below c.in-Some.top c.in-Some-place.place z s c.climb_to.result (omega (arith, top, here, lt)) way)
