-- The test of membership for names.
use Rattle.std.proofs.Common.{eqb-true}
use Rattle.run_ledger.proofs.Common.{◌≡◌, true, List, refl, sym, subst, eqb, eq-eqb, and_parts, and_from, Name, In, any_from_in, in_from_any, is_name, holds_name}

pub same_from_is_name : (m n : Name) → is_name m n ≡ true → m ≡ n
same_from_is_name m n h =
    let both = and_parts (eqb m.task n.task) (eqb m.count n.count) h in
    let a : m.task ≡ n.task = eqb-true m.task n.task both.0 in
    let b : m.count ≡ n.count = eqb-true m.count n.count both.1 in
    λ i. record { task = a i; count = b i }

pub is_name_itself : (n : Name) → is_name n n ≡ true
is_name_itself n = and_from (eqb n.task n.task) (eqb n.count n.count) (eq-eqb n.task n.task refl) (eq-eqb n.count n.count refl)

pub in_from_holds : (ns : List Name) (n : Name) → holds_name ns n ≡ true → In ns n
in_from_holds ns n h = let r = in_from_any (is_name n) ns h in subst (λ m. In ns m) (sym (same_from_is_name n r.0 r.2)) r.1

pub holds_from_in : (ns : List Name) (n : Name) → In ns n → holds_name ns n ≡ true
holds_from_in ns n h = any_from_in (is_name n) ns n h (is_name_itself n)
