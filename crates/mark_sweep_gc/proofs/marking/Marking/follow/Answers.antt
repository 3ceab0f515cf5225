use Rattle.mark_sweep_gc.proofs.Common.{◌≡◌, ◌+◌, ◌++◌, ◌-◌, ◌≤◌, ℕ, List, All, Contains, drop, length, take, arith, refl, sym, ap, ◌∙◌, subst, length-append, Addr, HasObjectAt, contains_from_in, all_from, in_take, HasCapacityForAll, MarkingValue}
use Rattle.mark_sweep_gc.proofs.Finding as finding
use Rattle.mark_sweep_gc.proofs.Marked.{in_drop}
use Rattle.mark_sweep_gc.proofs.marking.Marking.follow.Goals as goal

pub returns-clause-finds : goal.returns-clause-finds
returns-clause-finds c =
    let finds = c.visit_all-2.ensures.finds in
    let rest = finding.rest_is c.args.kept.now c.visit_all.inside.followed c.args.self.now.followed (ap (λ (m : MarkingValue). m.followed) c.visit_all.view_is) in
    let v = c.self.view_is in
    finding.finds_counted _ (Contains (drop c.args.self.now.followed c.args.kept.now)) c.args.self.now c.visit_all-2.new.self _ _
    (λ a i. subst (λ (xs : List Addr). Contains xs a) rest i) (λ a i. subst (λ (xs : List Addr). Contains xs a) (sym rest) i)
    finds refl (ap (λ (m : MarkingValue). m.found) v) (ap (λ (m : MarkingValue). m.marked) v ∙ finds.marked) refl

held_rest : (P : Addr → Type 0) (xs : List Addr) (n m : ℕ) → All P xs → All P (take n (drop m xs))
held_rest P xs n m all = all_from P (take n (drop m xs)) (λ x i. finding.held_in P xs x all (contains_from_in xs x (in_drop m xs x (in_take n (drop m xs) x i))))

pub returns-clause-own : goal.returns-clause-own
returns-clause-own c = λ h all own.
    let finds = c.visit_all-2.ensures.finds in
    let old : MarkingValue = c.args.self.now in
    let new : MarkingValue = c.visit_all-2.new.self in
    let rest : List Addr = finds.grown.0 in
    let from : ℕ = c.visit_all.inside.followed in
    let v = c.self.view_is in
    let R : HasCapacityForAll h _ = subst (HasCapacityForAll h) (sym v) (c.visit_all-2.ensures.room h (held_rest (HasObjectAt h) c.args.kept.now (length c.args.kept.now - from) from all) own.room) in
    let is_marked : c.self.inside.marked ≡ new.marked = ap (λ (m : MarkingValue). m.marked) v in
    let is_found : length c.self.inside.found.items ≡ length new.found = ap (λ (m : MarkingValue). length m.found) v in
    let same : new.marked ≡ old.marked = finds.marked in
    let grown : length new.found ≡ length (old.found ++ rest) = ap (λ (xs : List Addr). length xs) finds.grown.1 in
    let sum : length (old.found ++ rest) ≡ length old.found + length rest = length-append old.found rest in
    let within : old.marked ≤ length old.found = own.marked in
    record {
      room = record { each = R.each; once = R.once; slots = R.slots; spare = R.spare; places = R.places };
      marked = omega arith;
      followed = omega arith;
    }
