use Rattle.jump_pointers.proofs.Common.{◌≡◌, ◌<◌, ◌≤◌, ◌^◌, length, sym, subst, rules, IfSome, up_from, depth_at, far_at}
use Rattle.jump_pointers.proofs.Walks.{shallow}
use Rattle.jump_pointers.proofs.list.link_below.Goals as goal

pub overflow_add-result : goal.overflow_add-result
overflow_add-result c =
    let ks = c.args.links.now.items in
    let there : c.in-Some.above < length ks = subst (λ m. IfSome m (λ p. p < length ks)) c.in-Some.is c.requires.there in
    let low : c.link.result.depth ≤ c.in-Some.above = subst (λ d. d ≤ c.in-Some.above) (sym c.link.ensures.depth) (shallow (length ks) (up_from ks) (depth_at ks) (far_at ks) c.requires.linked c.in-Some.above there) in
    let next : c.args.place ≡ length ks = c.requires.next in
    let fits : c.args.place < 2 ^ 64 = search (rules, c.ranges.place.fits) in
    search (rules, low, there, next, fits)
