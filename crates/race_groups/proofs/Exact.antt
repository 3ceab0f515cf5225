-- Each race is counted in exactly one group.
use Rattle.race_groups.proofs.Common.{◌≡◌, ℕ, zero, suc, ◌+◌, ◌<◌, Bool, true, false, cond, List, [], ◌∷◌, filter, inl, inr, arith, refl, ap, sym, subst, ◌∙◌, true≢false, Option, Some, not, count_by, slice_get, Contains, sum_by-cons, In, in_from_contains, contains_from_in, in_kept, in_from_kept, got_in, Race, RaceGroup, lines_of_race, same_pair, same_lines, groups_of, IsRaceGrouping, RaceGroupsAreExact}
use Rattle.race_groups.proofs.Gathering.{pair_is, pair_itself, same_left, elsewhere}

unless : (b : Bool) → not b ≡ true → b ≡ false
unless true e = absurd (true≢false (sym e))
unless false e = refl

other_way : (x y : Race) → same_lines x y ≡ false → same_lines y x ≡ false
other_way x y e = other_way_by_cases (same_lines y x) refl
  where
    other_way_by_cases : (b : Bool) → same_lines y x ≡ b → same_lines y x ≡ false
    other_way_by_cases false f = f
    other_way_by_cases true f = absurd (true≢false (sym (ap (λ l. same_pair (lines_of_race x) l) (pair_is (lines_of_race y) (lines_of_race x) f) ∙ pair_itself (lines_of_race x)) ∙ e))

-- EACH RACE HAS A GROUP

every_in : (rs : List Race) (r : Race) → In rs r → (g : RaceGroup) × In (groups_of rs) g × (same_lines g.example r ≡ true)
every_in [] r i = absurd i
every_in (x ∷ rs) r (inl e) = (record { example = x; fields = count_by (same_lines x) rs + 1 }, inl refl, ap (λ y. same_lines x y) (sym e) ∙ pair_itself (lines_of_race x))
every_in (x ∷ rs) r (inr i) =
    let h = every_in rs r i in
    every_in_by_cases h.0 h.1 h.2 (same_lines x h.0.example) refl
  where
    every_in_by_cases : (g : RaceGroup) → In (groups_of rs) g → same_lines g.example r ≡ true → (b : Bool) → same_lines x g.example ≡ b → (h : RaceGroup) × In (groups_of (x ∷ rs)) h × (same_lines h.example r ≡ true)
    every_in_by_cases g j same true e = (record { example = x; fields = count_by (same_lines x) rs + 1 }, inl refl, same_left x g.example r e ∙ same)
    every_in_by_cases g j same false e = (g, inr (in_kept (elsewhere x) (groups_of rs) g j (ap not e)), same)

-- EACH GROUP COUNTS ITS RACES

counts_more : (p : Race → Bool) (x : Race) (rs : List Race) (b : Bool) → p x ≡ b → cond b 1 0 + count_by p rs ≡ count_by p (x ∷ rs)
counts_more p x rs b e = ap (λ c. cond c 1 0 + count_by p rs) (sym e) ∙ sym (sum_by-cons (λ y. cond (p y) 1 0) x rs)

abbrev Counts : List Race → RaceGroup → Type 0
Counts rs g = In rs g.example × (g.fields ≡ count_by (same_lines g.example) rs)

each_in : (rs : List Race) (g : RaceGroup) → In (groups_of rs) g → Counts rs g
each_in [] g i = absurd i
each_in (x ∷ rs) g (inl e) =
    let more = counts_more (same_lines x) x rs true (pair_itself (lines_of_race x)) in
    let n : count_by (same_lines x) rs + 1 ≡ count_by (same_lines x) (x ∷ rs) = omega (arith, more) in
    subst (λ (h : RaceGroup). Counts (x ∷ rs) h) e (inl refl, n)
each_in (x ∷ rs) g (inr i) =
    let kept = in_from_kept (elsewhere x) (groups_of rs) g i in
    let h = each_in rs g kept.0 in
    let more = counts_more (same_lines g.example) x rs false (other_way x g.example (unless (same_lines x g.example) kept.1)) in
    (inr h.0, omega (arith, more, h.1))

-- NO TWO ARE ON THE SAME LINES

abbrev Apart : List RaceGroup → Type 0
Apart [] = Unit {0}
Apart (g ∷ gs) = ((h : RaceGroup) → In gs h → same_lines g.example h.example ≡ false) × Apart gs

kept_apart : (p : RaceGroup → Bool) (gs : List RaceGroup) → Apart gs → Apart (filter p gs)
kept_apart p [] a = tt
kept_apart p (g ∷ gs) a = kept_apart_by_cases (p g) (kept_apart p gs a.1)
  where
    kept_apart_by_cases : (b : Bool) → Apart (filter p gs) → Apart (cond b (g ∷ filter p gs) (filter p gs))
    kept_apart_by_cases true more = (λ h i. a.0 h (in_from_kept p gs h i).0, more)
    kept_apart_by_cases false more = more

all_apart : (rs : List Race) → Apart (groups_of rs)
all_apart [] = tt
all_apart (x ∷ rs) = (λ h i. unless (same_lines x h.example) (in_from_kept (elsewhere x) (groups_of rs) h i).1, kept_apart (elsewhere x) (groups_of rs) (all_apart rs))

apart_at : (gs : List RaceGroup) (j k : ℕ) (g h : RaceGroup) → Apart gs → j < k → slice_get gs j ≡ Some g → slice_get gs k ≡ Some h → same_lines g.example h.example ≡ false
apart_at [] j k g h a lt e f = absurd cc
apart_at (x ∷ gs) j zero g h a lt e f = absurd (omega (arith, lt))
apart_at (x ∷ gs) zero (suc k) g h a lt e f =
    let d : x ≡ g = cc in
    ap (λ (y : RaceGroup). same_lines y.example h.example) (sym d) ∙ a.0 h (got_in gs k h f)
apart_at (x ∷ gs) (suc j) (suc k) g h a lt e f = apart_at gs j k g h a.1 (omega (arith, lt)) e f

pub exact : RaceGroupsAreExact
exact rs = record {
  every = λ r c. let h = every_in rs r (in_from_contains rs r c) in (h.0, contains_from_in (groups_of rs) h.0 h.1, h.2);
  each = λ g c. let h = each_in rs g (in_from_contains (groups_of rs) g c) in (contains_from_in rs g.example h.0, h.1);
  apart = λ j k g h lt e f. apart_at (groups_of rs) j k g h (all_apart rs) lt e f;
}
