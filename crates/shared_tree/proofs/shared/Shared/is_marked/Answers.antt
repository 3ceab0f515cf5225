use Rattle.shared_tree.proofs.Common.{◌≡◌, ◌==◌, ◌↔◌, ◌≤◌, All, IsTrue, List, Some, ap, length, option_copied, slice_get, sym, subst, ◌∙◌, heap_of, left_in, Addr, ChunkValue, HasObjectAt, IsAllMarked, IsMarking, IsOf, Fork, IsSince, kept, SharedValue, accounts, marks_at, value_of, Further, kept_noted, further, never_unmarked, the_view, AsksMarked, asks_marked, rest, waits}
use Rattle.entry_calls.proofs.below.heap_marking.{left_by}
use Rattle.shared_tree.proofs.shared.Shared.is_marked.Goals as goal
use Rattle.shared_tree.proofs.shared.Shared.is_marked.Goals.{In-Some}

pub unreachable-requires : goal.unreachable-requires
unreachable-requires c =
    never_unmarked (asks_marked c.args.t c.self.view_is c.self.invariant c.requires.goes c.requires.marking) (sym c.marking.ensures ∙ ap option_copied c.in-None.is)

-- What is known of the heap and its marking.
module _ (c : In-Some) where
  abbrev w : SharedValue
  w = the_view c.self.inside

  asks : AsksMarked w c.args.t
  asks = asks_marked c.args.t c.self.view_is c.self.invariant c.requires.goes c.requires.marking

  at : marks_at w.marks c.args.t ≡ Some c.in-Some.marking.now
  at = sym c.marking.ensures ∙ ap option_copied c.in-Some.is

  same : c.kept-kept.result.now ≡ kept (value_of w) c.args.t
  same = c.kept-kept.ensures ∙ kept_noted (slice_get w.sets c.args.t)

  F : Further w c.args.t (rest (waits asks)).0 c.in-Some.marking.now
  F = further asks (rest (waits asks)).0 c.in-Some.marking.now (rest (waits asks)).1 at

pub ready-requires : goal.ready-requires
ready-requires c = subst (λ (xs : List Addr). c.in-Some.marking.now.followed ≤ length xs) (sym (same c)) (F c).own.followed

pub returns : goal.returns
returns c =
    let b = (goal.at.returns c).In-Some in
    let slot = rest (waits (asks b)) in
    left_by (asks b) slot.0 c.in-Some.marking.now slot.1 (at b) c.ready.result
    (λ f. subst (λ (xs : List Addr). (g : Fork) (h : List ChunkValue) → All (HasObjectAt h) xs → IsOf h xs c.in-Some.marking.now → IsSince g xs h → IsMarking g xs c.in-Some.marking.now → IsTrue c.ready.result ↔ IsAllMarked g xs c.in-Some.marking.now) (same b) c.ready.ensures.ready
    f slot.0.heap.chunks (F b).kept (F b).own)
    ∙ ap (λ (z : SharedValue). left_in (heap_of (accounts z) c.args.t) == 0) c.self.view_is
