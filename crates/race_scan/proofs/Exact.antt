-- What was found is what is to be told.
use Rattle.race_scan.proofs.Common.{ℕ, suc, ◌<◌, ◌≤◌, List, [], ◌∷◌, All, AllPairs, map, filter, sym, subst, arith, AllPairs-cons, AllPairs-filter, in_from_kept, all_from, read_in, map_in, CellAccess, StrandOrder, AreStrandsInOrder, IsExact, scan_is_exact, Touch, accesses_at, covers, AreSerial, ScansAreExact}

module _ {A : Type 0} (R : A → A → Type 0) where
  first_with : (x : A) (xs : List A) → AllPairs R (x ∷ xs) → All (R x) xs
  first_with x xs all = λ k d lt. all 0 (suc k) d (omega arith) (omega arith)

  rest_with : (x : A) (xs : List A) → AllPairs R (x ∷ xs) → AllPairs R xs
  rest_with x xs all = λ i j d less lt. all (suc i) (suc j) d (omega arith) (omega arith)

pairs_map : {A B : Type 0} (f : A → B) (R : B → B → Type 0) (xs : List A) → AllPairs (λ x y. R (f x) (f y)) xs → AllPairs R (map f xs)
pairs_map f R [] all = λ i j d less lt. absurd (omega arith)
pairs_map f R (x ∷ xs) all =
    AllPairs-cons R (f x) (map f xs)
    (all_from (R (f x)) (map f xs) (λ y i.
    let m = map_in f xs y i in
    subst (R (f x)) m.2 (read_in (λ u. R (f x) (f u)) xs m.0 m.1 (first_with (λ u v. R (f u) (f v)) x xs all))))
    (pairs_map f R xs (rest_with (λ u v. R (f u) (f v)) x xs all))

in_order : (o : StrandOrder) (touches : List Touch) → AreSerial o touches → (block x : ℕ) → AreStrandsInOrder o (accesses_at touches block x)
in_order o touches serial block x =
    let kept = filter (λ (t : Touch). covers t.region block x) touches in
    record {
      known = all_from (λ (a : CellAccess). a.strand < o.strands) (accesses_at touches block x) (λ a i.
          let m = map_in (λ (t : Touch). t.access) kept a i in
          let among = in_from_kept (λ (t : Touch). covers t.region block x) touches m.0 m.1 in
          subst (λ (b : CellAccess). b.strand < o.strands) m.2 (read_in (λ (t : Touch). t.access.strand < o.strands) touches m.0 among.0 serial.known));
      serial = pairs_map (λ (t : Touch). t.access) (λ (a b : CellAccess). a.strand ≤ b.strand) kept
          (AllPairs-filter (λ (t u : Touch). t.access.strand ≤ u.access.strand) (λ (t : Touch). covers t.region block x) touches serial.serial);
    }

pub scans_are_exact : ScansAreExact
scans_are_exact o serial tree v touches order scan seen = record {
  exact = λ block x slot is.
      subst (IsExact o (accesses_at touches block x)) (sym (seen.race block x slot is)) (scan_is_exact o serial tree (accesses_at touches block x) (in_order o touches order block x));
  there = seen.there;
  once = seen.once;
  known = seen.known;
}
