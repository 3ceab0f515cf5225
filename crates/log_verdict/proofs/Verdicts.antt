-- What was found of each stretch, said of the graph.
use Rattle.std.proofs.Common.{◌≡◌, ◌==◌, ℕ, ◌+◌, ◌<◌, ◌≤◌, Bool, true, false, Option, Some, None, List, [], ◌∷◌, ◌++◌, All, filter, map, length, inl, inr, refl, ap, sym, subst, ◌∙◌, arith, eq-eqb, if◌then◌else◌}
use Rattle.std.proofs.lemmas.Bool.{ne_eqb, eqb-true, false≢true}
use Rattle.std.proofs.lemmas.Option.{same_Some}
use Rattle.plain_vec.proofs.Members.{In, in_kept, in_from_kept, in_append_left, in_append_right}
use Rattle.plain_vec.proofs.Options.{none_some}
use Rattle.plain_vec.proofs.Places.{in_map, map_in, read_in}
use Rattle.fork_graph.specs.Graph.{tasks_in, StrandPrecedes}
use Rattle.log_walk.specs.Tables.{strand_at}
use Rattle.log_walk.specs.Value.{WalkValue, IsWalked}
use Rattle.log_places.specs.declared.numbers.LocationSlot.{LocationSlot}
use Rattle.log_places.specs.declared.region.Region.{Region}
use Rattle.log_places.specs.Places.{Covers, PlacesValue}
use Rattle.log_places.specs.Numbers.{IsSlot}
use Rattle.log_places.proofs.Numbering.{slots_are_one}
use Rattle.race_cells.specs.declared.access.CellAccess.{CellAccess}
use Rattle.race_cells.specs.declared.access.CellRace.{CellRace}
use Rattle.race_cells.specs.Laws.{IsExact, IsFirstRace, Races, RaceFree}
use Rattle.run_order.specs.Order.{run_order}
use Rattle.run_order.proofs.Orders.{walks_have_an_order}
use Rattle.race_scan.specs.declared.touch.Touch.{Touch}
use Rattle.race_scan.specs.declared.cells.FoundRace.{FoundRace}
use Rattle.race_scan.specs.Touches.{accesses_at, covers}
use Rattle.race_scan.specs.Value.{ScanValue, race_of}
use Rattle.race_scan.specs.Scan.{AreOnce, HasScanned}
use Rattle.race_scan.specs.Laws.{AreRacesOf, HasLocation}
use Rattle.race_scan.proofs.Covering.{run_covers, run_of}
use Rattle.race_scan.proofs.Exact.{scans_are_exact}
use Rattle.log_verdict.specs.Verdict.{AreInSerialOrder, LogRaceAt, IsFoundRace, AreVerdicts}

-- RACES BY THEIR STRETCHES

race_in : (fs : List FoundRace) (f : FoundRace) → AreOnce fs → In fs f → race_of fs f.slot.number ≡ Some f.race
race_in [] f once none = absurd none
race_in (g ∷ gs) f once (inl is) =
    ap (λ b. if b then Some g.race else race_of gs f.slot.number) (eq-eqb g.slot.number f.slot.number (ap (λ (x : FoundRace). x.slot.number) is))
    ∙ ap (λ (x : FoundRace). Some x.race) is
race_in (g ∷ gs) f once (inr i) =
    ap (λ b. if b then Some g.race else race_of gs f.slot.number) (ne_eqb g.slot.number f.slot.number (once.0 f i)) ∙ race_in gs f once.1 i

in_race_by : (g : FoundRace) (gs : List FoundRace) (n : ℕ) (r : CellRace) → (race_of gs n ≡ Some r → (f : FoundRace) × In gs f × (f.slot.number ≡ n) × (f.race ≡ r))
    → (b : Bool) → (g.slot.number == n) ≡ b → (if b then Some g.race else race_of gs n) ≡ Some r → (f : FoundRace) × In (g ∷ gs) f × (f.slot.number ≡ n) × (f.race ≡ r)
in_race_by g gs n r more true e h = (g, inl refl, eqb-true g.slot.number n e, same_Some g.race r h)
in_race_by g gs n r more false e h = let m = more h in (m.0, inr m.1, m.2, m.3)

in_race : (fs : List FoundRace) (n : ℕ) (r : CellRace) → race_of fs n ≡ Some r → (f : FoundRace) × In fs f × (f.slot.number ≡ n) × (f.race ≡ r)
in_race [] n r h = none_some h
in_race (g ∷ gs) n r h = in_race_by g gs n r (in_race gs n r) (g.slot.number == n) refl h

one_found : (fs : List FoundRace) (f g : FoundRace) → AreOnce fs → In fs f → In fs g → f.slot.number ≡ g.slot.number → f ≡ g
one_found [] f g once none j same = absurd none
one_found (h ∷ hs) f g once (inl a) (inl b) same = sym a ∙ b
one_found (h ∷ hs) f g once (inl a) (inr j) same = absurd (once.0 g j (ap (λ (x : FoundRace). x.slot.number) a ∙ same))
one_found (h ∷ hs) f g once (inr i) (inl b) same = absurd (once.0 f i (ap (λ (x : FoundRace). x.slot.number) b ∙ sym same))
one_found (h ∷ hs) f g once (inr i) (inr j) same = one_found hs f g once.1 i j same

-- THE ACCESSES OF A LOCATION

covers_from : (r : Region) (block x : ℕ) → Covers r block x → covers r block x ≡ true
covers_from r block x c = subst (λ b. covers r b x ≡ true) c.of_block (run_covers r c.run x c.there c.from c.below)

from_covers : (r : Region) (block x : ℕ) → covers r block x ≡ true → Covers r block x
from_covers r block x h =
    let m = run_of r block x h in
    record { of_block = m.0; run = m.1.run; there = m.1.there; from = m.1.from; below = m.1.below }

-- an access of a location is one of all
pub record IsAmong (touches : List Touch) (block x : ℕ) (a : CellAccess) : Type 0 where
  pub touch : Touch
  pub among : In touches touch
  pub covering : covers touch.region block x ≡ true
  pub is : touch.access ≡ a

among_from : (touches : List Touch) (block x : ℕ) (a : CellAccess) → In (accesses_at touches block x) a → IsAmong touches block x a
among_from touches block x a i =
    let m = map_in (λ (t : Touch). t.access) (filter (λ (t : Touch). covers t.region block x) touches) a i in
    let k = in_from_kept (λ (t : Touch). covers t.region block x) touches m.0 m.1 in
    record { touch = m.0; among = k.0; covering = k.1; is = m.2 }

from_among : (touches : List Touch) (block x : ℕ) (t : Touch) → In touches t → covers t.region block x ≡ true → In (accesses_at touches block x) t.access
from_among touches block x t i h =
    in_map (λ (u : Touch). u.access) (filter (λ (u : Touch). covers u.region block x) touches) t (in_kept (λ (u : Touch). covers u.region block x) touches t i h)

same_upto : (n : ℕ) → n ≤ n
same_upto n = omega arith

not_false : (b : Bool) → (b ≡ true → ⊥) → b ≡ false
not_false true none = absurd (none refl)
not_false false none = refl

module _ (walk : WalkValue) (w : IsWalked walk) (v : PlacesValue) (touches : List Touch) (races : List FoundRace) (order : AreInSerialOrder walk touches)
    (are : AreRacesOf (run_order walk) v touches races) where
  known : (t : Touch) → In touches t → t.access.strand < length walk.order
  known t i = read_in (λ (u : Touch). u.access.strand < length walk.order) touches t i order.known

  abbrev Before : Touch → Touch → Type 0
  Before t u = StrandPrecedes (tasks_in walk.tasks) (strand_at walk.order t.access.strand) (strand_at walk.order u.access.strand)

  not_before : (t u : Touch) → In touches t → In touches u → (run_order walk).before t.access.strand u.access.strand ≡ false → Before t u → ⊥
  not_before t u i j e p = false≢true (sym e ∙ ((walks_have_an_order walk w).0.before t.access.strand u.access.strand (known t i) (known u j)).1 p)

  is_false : (t u : Touch) → In touches t → In touches u → (Before t u → ⊥) → (run_order walk).before t.access.strand u.access.strand ≡ false
  is_false t u i j none =
      not_false ((run_order walk).before t.access.strand u.access.strand)
      (λ e. none (((walks_have_an_order walk w).0.before t.access.strand u.access.strand (known t i) (known u j)).0 e))

  -- WHAT IS FOUND RACES

  sound_by : (f : FoundRace) (x : ℕ) (t u : Touch) → In touches t → In touches u → covers t.region f.block x ≡ true → covers u.region f.block x ≡ true
      → t.access ≡ f.race.first → u.access ≡ f.race.second → Races (run_order walk) t.access u.access → IsFoundRace walk touches f x
  sound_by f x t u i j c d et eu r = record {
    first = t;
    second = u;
    first_is = et;
    second_is = eu;
    race = record {
      first = i;
      second = j;
      covers_first = from_covers t.region f.block x c;
      covers_second = from_covers u.region f.block x d;
      clashing = r.clashing;
      not_before = not_before t u i j r.not_before;
      not_after = not_before u t j i r.not_after;
    };
  }

  sound : (f : FoundRace) (x : ℕ) → In races f → f.slot.start ≤ x → x < f.slot.end → IsFoundRace walk touches f x
  sound f x i low high =
      let is = (are.there f i).each x low high in
      let first : IsFirstRace (run_order walk) (accesses_at touches f.block x) f.race =
      subst (λ r. IsExact (run_order walk) (accesses_at touches f.block x) r) (race_in races f are.once i) (are.exact f.block x f.slot is) in
      let a = among_from touches f.block x f.race.first
      (subst (λ l. In l f.race.first) (sym first.apart) (in_append_left first.earlier (f.race.second ∷ first.later) f.race.first first.among)) in
      let b = among_from touches f.block x f.race.second
      (subst (λ l. In l f.race.second) (sym first.apart) (in_append_right first.earlier (f.race.second ∷ first.later) f.race.second (inl refl))) in
      sound_by f x a.touch b.touch a.among b.among a.covering b.covering a.is b.is
      (subst (λ y. Races (run_order walk) y b.touch.access) (sym a.is) (subst (λ z. Races (run_order walk) f.race.first z) (sym b.is) first.races))

  -- WHAT RACES IS FOUND

  found : (block x : ℕ) (slot : LocationSlot) → IsSlot v block x slot → (r : Option CellRace) → race_of races slot.number ≡ r → IsExact (run_order walk) (accesses_at touches block x) r
      → (t u : Touch) → LogRaceAt walk touches block x t u → (f : FoundRace) × In races f × HasLocation f block x
  found block x slot is None e free t u race =
      absurd (free t.access u.access
      (from_among touches block x t race.first (covers_from t.region block x race.covers_first))
      (from_among touches block x u race.second (covers_from u.region block x race.covers_second))
      (record {
        clashing = race.clashing;
        not_before = is_false t u race.first race.second race.not_before;
        not_after = is_false u t race.second race.first race.not_after;
      }))
  found block x slot is (Some r) e first t u race =
      let m = in_race races slot.number r e in
      let f = m.0 in
      let s = are.there f m.1 in
      let one = slots_are_one.same v f.block block f.slot.start x f.slot slot (s.each f.slot.start (same_upto f.slot.start) s.some) is m.2 in
      let around = slots_are_one.within v block x slot is in
      (f, m.1, (one.0, subst (λ (y : LocationSlot). y.start ≤ x) (sym one.1) around.0, subst (λ (y : LocationSlot). x < y.end) (sym one.1) around.1))

  complete : (block x : ℕ) → (t u : Touch) → LogRaceAt walk touches block x t u → (f : FoundRace) × In races f × HasLocation f block x
  complete block x t u race =
      let c = covers_from t.region block x race.covers_first in
      let b : t.region.block ≡ block = race.covers_first.of_block in
      let s = are.known t x race.first (subst (λ y. covers t.region y x ≡ true) (sym b) c) in
      let is = subst (λ y. IsSlot v y x s.0) b s.1 in
      found block x s.0 is (race_of races s.0.number) refl (are.exact block x s.0 is) t u race

  once : (f g : FoundRace) (block x : ℕ) → In races f → In races g → HasLocation f block x → HasLocation g block x → f ≡ g
  once f g block x i j a b =
      let sf = subst (λ y. IsSlot v y x f.slot) a.0 ((are.there f i).each x a.1 a.2) in
      let sg = subst (λ y. IsSlot v y x g.slot) b.0 ((are.there g j).each x b.1 b.2) in
      one_found races f g are.once i j (ap (λ (s : LocationSlot). s.number) (slots_are_one.one v block x f.slot g.slot sf sg))

  pub are_verdicts : AreVerdicts walk touches races
  are_verdicts = record {
    sound = sound;
    complete = λ block x r. complete block x r.0 r.1 r.2;
    once = once;
    some = λ f i. (are.there f i).some;
  }

-- a scan of the accesses gives the verdicts
pub verdicts_of : (walk : WalkValue) → IsWalked walk → (v : PlacesValue) (touches : List Touch) (scan : ScanValue) → AreInSerialOrder walk touches
    → HasScanned (run_order walk) v touches scan → AreVerdicts walk touches scan.races
verdicts_of walk w v touches scan order seen =
    let o = walks_have_an_order walk w in
    are_verdicts walk w v touches scan.races order
    (scans_are_exact (run_order walk) o.1 o.2 v touches
    (record { known = subst (λ n. All (λ (t : Touch). t.access.strand < n) touches) (sym o.0.strands) order.known; serial = order.serial })
    scan seen)

-- in the order of a walk each of its strands is known
pub own_before : (walk : WalkValue) → IsWalked walk → (u : ℕ) → u < length walk.order → (run_order walk).before u u ≡ true
own_before walk w u lt =
    let o = walks_have_an_order walk w in
    o.1.same u (subst (λ n. u < n) (sym o.0.strands) lt)
