use Rattle.shared_tree.proofs.Common.{◌≡◌, ℕ, IfOk, Result, Ok, Err, None, slice_get, is_some, ap, subst, IfSome, Mark, heap_of, MarkingValue, CanGoOnMarking, ParkedTask, heaps_of, sources_of, SharedValue, accounts, rest_at, value_of, MarkingHasBegun, starts_in, mark_begun, mark_fields, mark_starts, rest, the_view, AsksWaiting, mark_asks, IsSharedValue, refused}
use Rattle.shared_tree.proofs.Asked.{free_inside}
use Rattle.shared_tree.proofs.shared.Shared.marking_of.Goals as goal

-- what is asked: the task waits
asked : {w old : SharedValue} (t : ℕ) → w ≡ old → IsSharedValue w → (k : ℕ) × (refused old (record { worker = k; kind = Mark t }) ≡ None) → AsksWaiting w t
asked t same I free = mark_asks _ I free.0 t (free_inside (record { worker = free.0; kind = Mark t }) same free.1)

pub begin_marking-requires : goal.begin_marking-requires
begin_marking-requires c = let asks = asked c.args.t c.self.view_is c.self.invariant c.requires.free in record { there = ap is_some (rest asks).1; fields = mark_fields asks; held = mark_starts asks }

-- what follows from the result of a call
done : {A E : Type 0} (P S : A → Type 0) (r : Result A E) → ((a : A) → P a → S a) → IfOk r P → IfOk r S
done P S (Ok a) f p = f a p
done P S (Err e) f p = p

pub returns-clause-none : goal.returns-clause-none
returns-clause-none c =
    let w : SharedValue = the_view c.self.inside in
    let asks = asked c.args.t c.self.view_is c.self.invariant c.requires.free in
    done (λ (m : MarkingValue). IfSome (rest_at w.rests c.args.t) (λ (r : ParkedTask). MarkingHasBegun r.heap.chunks (starts_in (heaps_of w) (sources_of (slice_get w.sets c.args.t)) r) m)) (λ m. m.marked ≡ 0) c.begin_marking.result
    (λ m B. (mark_begun asks m B).0)
    c.begin_marking.ensures

pub returns-clause-goes : goal.returns-clause-goes
returns-clause-goes c =
    let w : SharedValue = the_view c.self.inside in
    let t : ℕ = c.args.t in
    let asks = asked t c.self.view_is c.self.invariant c.requires.free in
    subst (λ (z : SharedValue). IfOk c.begin_marking.result (λ m. CanGoOnMarking (value_of z) t (heap_of (accounts z) t).snapshot m)) c.self.view_is
    (done (λ (m : MarkingValue). IfSome (rest_at w.rests t) (λ (r : ParkedTask). MarkingHasBegun r.heap.chunks (starts_in (heaps_of w) (sources_of (slice_get w.sets t)) r) m)) (λ m. CanGoOnMarking (value_of w) t (heap_of (accounts w) t).snapshot m) c.begin_marking.result
    (λ m B. (mark_begun asks m B).1)
    c.begin_marking.ensures)
