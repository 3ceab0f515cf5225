-- Compare and swaps contend if and only if they race when counted like other accesses.
use Rattle.schedule_report.proofs.Common.{◌≡◌, ℕ, zero, suc, ◌<◌, Bool, true, false, Some, List, [], ◌∷◌, slice_get, inl, refl, ap, sym, subst, ◌∙◌, arith, same_Some, Edge, FieldAccess, with_some, IsRace, plain, swap_if, swaps_of, HasNoRace, SwapsContend}

-- THEIR PLACES

abbrev At : List FieldAccess → FieldAccess → Type 0
At all u = (k : ℕ) × (slice_get (swaps_of all) k ≡ Some (plain u))

first_is : (a u : FieldAccess) (rest : List FieldAccess) → slice_get (a ∷ rest) 0 ≡ Some u → u.swaps ≡ true → (a ≡ u) × (a.swaps ≡ true)
first_is a u rest e s = let same : a ≡ u = same_Some a u e in (same, ap (λ (x : FieldAccess). x.swaps) same ∙ s)

swap_at : (all : List FieldAccess) (i : ℕ) (u : FieldAccess) → slice_get all i ≡ Some u → u.swaps ≡ true → At all u
swap_at [] i u e s = absurd cc
swap_at (a ∷ rest) zero u e s =
    let is = first_is a u rest e s in (
      0,
      ap (λ b. slice_get (with_some (swap_if b a) (swaps_of rest)) 0) is.1 ∙ ap (λ (x : FieldAccess). Some (plain x)) is.0,
    )
swap_at (a ∷ rest) (suc i) u e s = swap_at_by_cases a.swaps (swap_at rest i u e s)
  where
    swap_at_by_cases : (b : Bool) → At rest u → (k : ℕ) × (slice_get (with_some (swap_if b a) (swaps_of rest)) k ≡ Some (plain u))
    swap_at_by_cases true k = (suc k.0, k.1)
    swap_at_by_cases false k = k

abbrev Two : List FieldAccess → FieldAccess → FieldAccess → Type 0
Two all u v = (k : ℕ) × (l : ℕ) × (k < l) × (slice_get all k ≡ Some u) × (slice_get all l ≡ Some v)

swaps_at : (all : List FieldAccess) (i j : ℕ) (u v : FieldAccess) → i < j → slice_get all i ≡ Some u → slice_get all j ≡ Some v → u.swaps ≡ true → v.swaps ≡ true → Two (swaps_of all) (plain u) (plain v)
swaps_at [] i j u v lt eu ev su sv = absurd cc
swaps_at (a ∷ rest) i zero u v lt eu ev su sv = absurd (omega arith)
swaps_at (a ∷ rest) zero (suc j) u v lt eu ev su sv =
    let is = first_is a u rest eu su in
    let k = swap_at rest j v ev sv in (
      0,
      suc k.0,
      omega arith,
      ap (λ b. slice_get (with_some (swap_if b a) (swaps_of rest)) 0) is.1 ∙ ap (λ (x : FieldAccess). Some (plain x)) is.0,
      ap (λ b. slice_get (with_some (swap_if b a) (swaps_of rest)) (suc k.0)) is.1 ∙ k.1,
    )
swaps_at (a ∷ rest) (suc i) (suc j) u v lt eu ev su sv = swaps_at_by_cases a.swaps (swaps_at rest i j u v (omega arith) eu ev su sv)
  where
    swaps_at_by_cases : (b : Bool) → Two (swaps_of rest) (plain u) (plain v) → Two (with_some (swap_if b a) (swaps_of rest)) (plain u) (plain v)
    swaps_at_by_cases true k = (suc k.0, suc k.1, (let lt' : k.0 < k.1 = k.2 in omega arith), k.3, k.4)
    swaps_at_by_cases false k = k

-- AND BACK

pub record From (all : List FieldAccess) (w : FieldAccess) : Type 0 where
  pub i : ℕ
  pub u : FieldAccess
  pub is : slice_get all i ≡ Some u
  pub swaps : u.swaps ≡ true
  pub same : plain u ≡ w

from_later : (a : FieldAccess) (rest : List FieldAccess) (w : FieldAccess) → From rest w → From (a ∷ rest) w
from_later a rest w F = record { i = suc F.i; u = F.u; is = F.is; swaps = F.swaps; same = F.same }

swap_from : (all : List FieldAccess) (k : ℕ) (w : FieldAccess) → slice_get (swaps_of all) k ≡ Some w → From all w
swap_from [] k w e = absurd cc
swap_from (a ∷ rest) k w e = swap_from_by_cases a.swaps refl (λ l h. swap_from rest l w h) k e
  where
    swap_from_by_cases : (b : Bool) → a.swaps ≡ b → ((l : ℕ) → slice_get (swaps_of rest) l ≡ Some w → From rest w) → (l : ℕ) → slice_get (with_some (swap_if b a) (swaps_of rest)) l ≡ Some w → From (a ∷ rest) w
    swap_from_by_cases true s more zero h = record { i = 0; u = a; is = refl; swaps = s; same = same_Some (plain a) w h }
    swap_from_by_cases true s more (suc l) h = from_later a rest w (more l h)
    swap_from_by_cases false s more l h = from_later a rest w (more l h)

pub record FromTwo (all : List FieldAccess) (w z : FieldAccess) : Type 0 where
  pub i : ℕ
  pub j : ℕ
  pub u : FieldAccess
  pub v : FieldAccess
  pub order : i < j
  pub first : slice_get all i ≡ Some u
  pub second : slice_get all j ≡ Some v
  pub first_swaps : u.swaps ≡ true
  pub second_swaps : v.swaps ≡ true
  pub first_same : plain u ≡ w
  pub second_same : plain v ≡ z

two_later : (a : FieldAccess) (rest : List FieldAccess) (w z : FieldAccess) → FromTwo rest w z → FromTwo (a ∷ rest) w z
two_later a rest w z F = record {
  i = suc F.i;
  j = suc F.j;
  u = F.u;
  v = F.v;
  order = let lt : F.i < F.j = F.order in omega arith;
  first = F.first;
  second = F.second;
  first_swaps = F.first_swaps;
  second_swaps = F.second_swaps;
  first_same = F.first_same;
  second_same = F.second_same;
}

swaps_from : (all : List FieldAccess) (k l : ℕ) (w z : FieldAccess) → k < l → slice_get (swaps_of all) k ≡ Some w → slice_get (swaps_of all) l ≡ Some z → FromTwo all w z
swaps_from [] k l w z lt e e' = absurd cc
swaps_from (a ∷ rest) k l w z lt e e' = swaps_from_by_cases a.swaps refl (λ x y lt' h h'. swaps_from rest x y w z lt' h h') (λ y h'. swap_from rest y z h') k l lt e e'
  where
    swaps_from_by_cases : (b : Bool) → a.swaps ≡ b → ((x y : ℕ) → x < y → slice_get (swaps_of rest) x ≡ Some w → slice_get (swaps_of rest) y ≡ Some z → FromTwo rest w z)
        → ((y : ℕ) → slice_get (swaps_of rest) y ≡ Some z → From rest z)
        → (x y : ℕ) → x < y → slice_get (with_some (swap_if b a) (swaps_of rest)) x ≡ Some w → slice_get (with_some (swap_if b a) (swaps_of rest)) y ≡ Some z → FromTwo (a ∷ rest) w z
    swaps_from_by_cases true s more one x zero lt' h h' = absurd (omega arith)
    swaps_from_by_cases true s more one zero (suc y) lt' h h' =
        let F = one y h' in record {
          i = 0;
          j = suc F.i;
          u = a;
          v = F.u;
          order = omega arith;
          first = refl;
          second = F.is;
          first_swaps = s;
          second_swaps = F.swaps;
          first_same = same_Some (plain a) w h;
          second_same = F.same;
        }
    swaps_from_by_cases true s more one (suc x) (suc y) lt' h h' = two_later a rest w z (more x y (omega arith) h h')
    swaps_from_by_cases false s more one x y lt' h h' = two_later a rest w z (more x y lt' h h')

-- BOTH WAYS

pub no_contention : (es : List Edge) (all : List FieldAccess) → HasNoRace es (swaps_of all) → SwapsContend es all → ⊥
no_contention es all none S =
    let k = swaps_at all S.0 S.1 S.2 S.3 S.4 S.5 S.6 S.8 S.9 in
    none S.3.field k.0 k.1 (plain S.2) (plain S.3) (record {
      order = k.2;
      first = k.3;
      second = k.4;
      of_field = refl;
      race = record { field = S.7.field; writes = S.7.writes; plain = inl refl; apart = S.10 };
    })

pub none_contends : (es : List Edge) (all : List FieldAccess) → (SwapsContend es all → ⊥) → HasNoRace es (swaps_of all)
none_contends es all calm field k l w z R =
    let F = swaps_from all k l w z R.order R.first R.second in
    let race : IsRace es (plain F.u) (plain F.v) =
    subst (λ x. IsRace es x (plain F.v)) (sym F.first_same) (subst (λ x. IsRace es w x) (sym F.second_same) R.race) in
    calm (F.i, F.j, F.u, F.v, F.order, F.first, F.second, record { field = race.field; writes = race.writes }, F.first_swaps, F.second_swaps, race.apart)
