-- The stretches of a small log: one for each access at most.
use Rattle.log_size_laws.proofs.Common.{◌≡◌, ◌+◌, ◌*◌, ◌<◌, ◌≤◌, ℕ, List, [], ◌∷◌, length, map, refl, subst, arith, inl, inr, length-append, length-map, In, flat_in, got_in, in_map, AreOver, Covers, Region, Event, Act, Access, Yield, Store, Birth, Release, Work, Spawn, Join, Finish, regions_of_act, regions_of_events, AreSmallActs, IsSmallAct}
use Rattle.log_size_laws.proofs.Counting.{few_within}

-- the region has one location
abbrev IsLocation : Region → Type 0
IsLocation r = (r.length ≡ 1) × (r.runs ≡ 1)

-- AN ACT HAS ONE REGION AT MOST, and if it is small a location

one_region : (act : Act) → length (regions_of_act act) ≤ 1
one_region (Access a) = omega arith
one_region (Yield r) = omega arith
one_region (Store r) = omega arith
one_region (Birth block length) = omega arith
one_region (Release block) = omega arith
one_region (Work units) = omega arith
one_region (Spawn c) = omega arith
one_region (Join c) = omega arith
one_region Finish = omega arith

one_location : (act : Act) (r : Region) → IsSmallAct act → In (regions_of_act act) r → IsLocation r
one_location (Access a) r small (inl same) = subst IsLocation same small
one_location (Access a) r small (inr none) = absurd none
one_location (Yield y) r small (inl same) = subst IsLocation same (refl, refl)
one_location (Yield y) r small (inr none) = absurd none
one_location (Store y) r small (inl same) = subst IsLocation same (refl, refl)
one_location (Store y) r small (inr none) = absurd none
one_location (Birth block length) r small i = absurd i
one_location (Release block) r small i = absurd i
one_location (Work units) r small i = absurd i
one_location (Spawn c) r small i = absurd i
one_location (Join c) r small i = absurd i
one_location Finish r small i = absurd i

few_regions : (events : List Event) → length (regions_of_events events) ≤ length events
few_regions [] = omega arith
few_regions (e ∷ events) =
    let rest = few_regions events in
    let one = one_region e.act in
    let both = length-append (regions_of_act e.act) (regions_of_events events) in
    omega (arith, rest, one, both)

locations : (events : List Event) → AreSmallActs events → (r : Region) → In (regions_of_events events) r → IsLocation r
locations events small r i =
    let at = flat_in (λ (e : Event). regions_of_act e.act) events r i in
    one_location at.1.act r (small at.1 (got_in events at.0 at.1 at.2)) at.3

-- STRETCHES

abbrev place_of : Region → ℕ × ℕ
place_of r = (r.block, r.offset)

covered : (r : Region) (block x : ℕ) → IsLocation r → Covers r block x → place_of r ≡ (block, x)
covered r block x one c =
    let there = c.there in
    let from = c.from in
    let below = c.below in
    let length_is = one.0 in
    let runs_is = one.1 in
    let first : c.run ≡ 0 = omega (arith, there, runs_is) in
    let at : r.offset ≡ x = omega (arith, subst (λ k. r.offset + k * r.apart ≤ x) first from, subst (λ k. x < r.offset + k * r.apart + r.length) first below, length_is) in
    λ k. (c.of_block k, at k)

pub few_stretches : (events : List Event) (limit : ℕ) → AreSmallActs events → length events ≤ limit → AreOver (regions_of_events events) limit → ⊥
few_stretches events limit small le (count, have, over) =
    let regions = regions_of_events events in
    let within : (q : ℕ × ℕ) → In have.starts q → In (map place_of regions) q = λ q i.
    let begins = (have.are q.0 q.1).0 i in
    let a = begins.accessed in
    subst (In (map place_of regions)) (covered a.0 q.0 q.1 (locations events small a.0 a.1) a.2) (in_map place_of regions a.0 a.1) in
    let few = few_within have.starts (map place_of regions) have.different within in
    let same = length-map regions place_of in
    let number = have.number in
    let all = few_regions events in
    absurd (omega (arith, few, same, number, all, over, le))
