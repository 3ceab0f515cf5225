-- The scan goes on access by access.
use Rattle.race_scan.proofs.Common.{◌≡◌, ℕ, ◌+◌, ◌-◌, ◌*◌, min, ◌<◌, ◌≤◌, Bool, true, false, Option, Some, None, List, [], ◌∷◌, ◌++◌, length, get_or, replicate, slice_get, map, filter, is_none, is_some, fold, inl, inr, refl, ap, sym, subst, ◌∙◌, arith, append-nil, eq-eqb, ◌==◌, if◌then◌else◌, option_or, cases_lt, eqb-true, false≢true, map-append, length-replicate, get_or-replicate, filter-append, same_Some, slice_get-get_or, In, in_append_cases, in_read, LocationSlot, page_key, run_start, IsRegionCut, KeepsCuts, PlacesValue, Region, stretch_count, IsSlot, slots_are_one, CellAccess, Stacks, StrandOrder, after, no_stacks, race_at, reported, scanned, scans_go_on, Touch, FoundRace, accesses_at, covers, AreSlots, ScanValue, visited, race_of, HasScanned, IsStretch}
use Rattle.race_scan.proofs.Covering.{run_of}
use Rattle.race_scan.proofs.Visiting.{size_kept, untouched, touched, found_among, still_once, IsFresh}

-- THE ACCESSES OF A LOCATION

pub accesses_more : (past ts : List Touch) (block x : ℕ) → accesses_at (past ++ ts) block x ≡ accesses_at past block x ++ accesses_at ts block x
accesses_more past ts block x =
    ap (map (λ (u : Touch). u.access)) (filter-append (λ (u : Touch). covers u.region block x) past ts)
    ∙ map-append (λ (u : Touch). u.access) (filter (λ (u : Touch). covers u.region block x) past) (filter (λ (u : Touch). covers u.region block x) ts)

accesses_without : (past ts : List Touch) (block x : ℕ) → accesses_at ts block x ≡ [] → accesses_at (past ++ ts) block x ≡ accesses_at past block x
accesses_without past ts block x h = accesses_more past ts block x ∙ (ap (λ l. accesses_at past block x ++ l) h ∙ append-nil (accesses_at past block x))

-- the accesses of a location do to its cell what one access does
abbrev pub DoesOnce : StrandOrder → CellAccess → List CellAccess → Type 0
DoesOnce o a vs =
    (past : List CellAccess) → (scanned o (past ++ vs) ≡ after o (scanned o past) a) × (reported o (past ++ vs) ≡ option_or (reported o past) (race_at o (scanned o past) a))

-- they are one access of those locations of a block that pass a test
pub record AreOneAccess (o : StrandOrder) (ts : List Touch) (block : ℕ) (a : CellAccess) (has : ℕ → Bool) : Type 0 where
  pub here : (x : ℕ) → has x ≡ true → DoesOnce o a (accesses_at ts block x)
  pub none : (x : ℕ) → has x ≡ false → accesses_at ts block x ≡ []
  pub elsewhere : (other x : ℕ) → (other ≡ block → ⊥) → accesses_at ts other x ≡ []
  pub known : (t : Touch) (x : ℕ) → In ts t → covers t.region t.region.block x ≡ true → (t.region.block ≡ block) × (has x ≡ true)

-- ONE ACCESS MORE

pub same_upto : (n : ℕ) → n ≤ n
same_upto n = omega arith

none_is_some : {A : Type 0} (o : Option A) → is_some o ≡ false → o ≡ None
none_is_some None h = refl
none_is_some (Some x) h = absurd (false≢true (sym h))

not_true : (b : Bool) → (b ≡ true → ⊥) → b ≡ false
not_true true never = absurd (never refl)
not_true false never = refl

-- a cell that makes a race isn't done
makes_no_done : (o : StrandOrder) (cell : Option Stacks) (a : CellAccess) → is_some (race_at o cell a) ≡ true → is_none cell ≡ false
makes_no_done o None a h = absurd (false≢true h)
makes_no_done o (Some s) a h = refl

module _ (o : StrandOrder) (v : PlacesValue) (past ts : List Touch) (block : ℕ) (a : CellAccess) (has : ℕ → Bool) (scan : ScanValue) (slots : List LocationSlot) (seen : HasScanned o v past scan)
    (are : AreSlots v block has slots) (one : AreOneAccess o ts block a has) where
  abbrev next : ScanValue
  next = fold (visited o block a) scan slots

  -- a location that passes the test is of one of the slots
  slot_among : (x : ℕ) (slot : LocationSlot) → IsSlot v block x slot → has x ≡ true → In slots slot
  slot_among x slot is h =
      let s = are.all x h in
      subst (In slots) (slots_are_one.one v block x s.0 slot (are.are s.0 x s.1 s.2 s.3).0 is) s.1

  -- and any other one is of none
  slot_apart : (other x : ℕ) (slot : LocationSlot) → IsSlot v other x slot → (other ≡ block → has x ≡ false) → (s : LocationSlot) → In slots s → slot.number ≡ s.number → ⊥
  slot_apart other x slot is h s i same =
      let some = are.some s i in
      let first = (are.are s s.start i (same_upto s.start) some).0 in
      let same_slot = slots_are_one.same v other block x s.start slot s is first same in
      let w = slots_are_one.within v other x slot is in
      let c = (are.are s x i (subst (λ (y : LocationSlot). y.start ≤ x) same_slot.1 w.0) (subst (λ (y : LocationSlot). x < y.end) same_slot.1 w.1)).1 in
      false≢true (sym (h same_slot.0) ∙ c)

  abbrev IsCell : ℕ → ℕ → LocationSlot → Type 0
  IsCell other x slot = (slice_get next.cells slot.number ≡ Some (scanned o (accesses_at (past ++ ts) other x))) × (race_of next.races slot.number ≡ reported o (accesses_at (past ++ ts) other x))

  cell_kept : (other x : ℕ) (slot : LocationSlot) → IsSlot v other x slot → (other ≡ block → has x ≡ false) → accesses_at ts other x ≡ [] → IsCell other x slot
  cell_kept other x slot is h none =
      let m = untouched o block a slots scan slot.number (slot_apart other x slot is h) in
      let without = accesses_without past ts other x none in
      (m.0 ∙ (seen.cell other x slot is ∙ ap (λ l. Some (scanned o l)) (sym without)), m.1 ∙ (seen.race other x slot is ∙ ap (reported o) (sym without)))

  cell_here : (x : ℕ) (slot : LocationSlot) → IsSlot v block x slot → (b : Bool) → has x ≡ b → IsCell block x slot
  cell_here x slot is true h =
      let m = touched o block a slots scan slot (scanned o (accesses_at past block x)) are.apart (slot_among x slot is h) (seen.cell block x slot is) in
      let g = one.here x h (accesses_at past block x) in
      let with = accesses_more past ts block x in (
        m.0 ∙ (ap Some (sym g.0) ∙ ap (λ l. Some (scanned o l)) (sym with)),
        m.1 ∙ (ap (λ r. option_or r (race_at o (scanned o (accesses_at past block x)) a)) (seen.race block x slot is) ∙ (sym g.1 ∙ ap (reported o) (sym with))),
      )
  cell_here x slot is false h = cell_kept block x slot is (λ e. h) (one.none x h)

  cell_by : (other x : ℕ) (slot : LocationSlot) → IsSlot v other x slot → (b : Bool) → (other == block) ≡ b → IsCell other x slot
  cell_by other x slot is true e =
      let same = eqb-true other block e in
      subst (λ (y : ℕ). IsCell y x slot) (sym same) (cell_here x slot (subst (λ (y : ℕ). IsSlot v y x slot) same is) (has x) refl)
  cell_by other x slot is false e =
      let never : other ≡ block → ⊥ = λ same. false≢true (sym e ∙ eq-eqb other block same) in
      cell_kept other x slot is (λ same. absurd (never same)) (one.elsewhere other x never)

  cell_with : (other x : ℕ) (slot : LocationSlot) → IsSlot v other x slot → IsCell other x slot
  cell_with other x slot is = cell_by other x slot is (other == block) refl

  stretch_of : (s : LocationSlot) → In slots s → IsStretch v block s
  stretch_of s i = record { some = are.some s i; each = λ x low high. (are.are s x i low high).0 }

  still_there : (f : FoundRace) → In next.races f → IsStretch v f.block f.slot
  still_there f i =
      elim (found_among o block a slots scan f i) [
        | inl old ↦ seen.there f old
        | inr (b, j) ↦ subst (λ y. IsStretch v y f.slot) (sym b) (stretch_of f.slot j)
      ]

  fresh : (s : LocationSlot) → In slots s → IsFresh o block a scan s
  fresh s i cell h made =
      let is = (stretch_of s i).each s.start (same_upto s.start) (are.some s i) in
      let known = seen.cell block s.start s is in
      let cell_is : cell ≡ scanned o (accesses_at past block s.start) = same_Some cell (scanned o (accesses_at past block s.start)) (sym h ∙ known) in
      let g = scans_go_on o (accesses_at past block s.start) a in
      let none : is_some (reported o (accesses_at past block s.start)) ≡ false = sym g.done ∙ (ap is_none (sym cell_is) ∙ makes_no_done o cell a made) in
      seen.race block s.start s is ∙ none_is_some (reported o (accesses_at past block s.start)) none

  still_known : (u : Touch) (x : ℕ) → In (past ++ ts) u → covers u.region u.region.block x ≡ true → (slot : LocationSlot) × IsSlot v u.region.block x slot
  still_known u x i h =
      elim (in_append_cases past ts u i) [
        | inl old ↦ seen.known u x old h
        | inr last ↦
            let k = one.known u x last h in
            let s = are.all x k.1 in
            (s.0, subst (λ (y : ℕ). IsSlot v y x s.0) (sym k.0) (are.are s.0 x s.1 s.2 s.3).0)
      ]

  pub scanned_more : HasScanned o v (past ++ ts) next
  scanned_more = record {
    size = size_kept o block a slots scan ∙ seen.size;
    cell = λ other x slot is. (cell_with other x slot is).0;
    race = λ other x slot is. (cell_with other x slot is).1;
    there = still_there;
    once = still_once o block a slots scan are.apart fresh seen.once;
    known = still_known;
  }

-- ONE TOUCH

module _ (o : StrandOrder) (t : Touch) where
  one_covered : (block x : ℕ) (b : Bool) → covers t.region block x ≡ b → accesses_at (t ∷ []) block x ≡ map (λ (u : Touch). u.access) (if b then t ∷ [] else [])
  one_covered block x b h = ap (λ (c : Bool). map (λ (u : Touch). u.access) (if c then t ∷ [] else [])) h

  does_once : DoesOnce o t.access (t.access ∷ [])
  does_once past = let g = scans_go_on o past t.access in (g.cell, g.race)

  pub one_touch : AreOneAccess o (t ∷ []) t.region.block t.access (λ x. covers t.region t.region.block x)
  one_touch = record {
    here = λ x h. subst (λ (l : List CellAccess). DoesOnce o t.access l) (sym (one_covered t.region.block x true h)) does_once;
    none = λ x h. one_covered t.region.block x false h;
    elsewhere = λ other x never. one_covered other x false (not_true (covers t.region other x) (λ h. never (sym (run_of t.region other x h).0)));
    known = λ u x i h. elim i [
      | inl same ↦ (ap (λ (y : Touch). y.region.block) (sym same), subst (λ (y : Touch). covers y.region y.region.block x ≡ true) (sym same) h)
      | inr none ↦ absurd none
    ];
  }

-- the numbers of slots are those of cells
pub slots_counted : (v : PlacesValue) (r : Region) (slots : List LocationSlot) → AreSlots v r.block (covers r r.block) slots → (k : ℕ) (d : LocationSlot) → k < length slots → (get_or slots k d).number < stretch_count v
slots_counted v r slots are k d lt =
    let s = get_or slots k d in
    let i = in_read slots k d lt in
    slots_are_one.counted v r.block s.start s (are.are s s.start i (same_upto s.start) (are.some s i)).0

-- as the code goes on
pub seen_more : (o : StrandOrder) (v : PlacesValue) (past : List Touch) (t : Touch) (old inner new : ScanValue) (slots items : List LocationSlot) → inner ≡ old → items ≡ slots
    → AreSlots v t.region.block (covers t.region t.region.block) slots → new ≡ fold (visited o t.region.block t.access) inner items → HasScanned o v past old → HasScanned o v (past ++ t ∷ []) new
seen_more o v past t old inner new slots items same is are grown seen =
    subst (HasScanned o v (past ++ t ∷ []))
    (sym (grown ∙ (ap (λ s. fold (visited o t.region.block t.access) s items) same ∙ ap (fold (visited o t.region.block t.access) old) is)))
    (scanned_more o v past (t ∷ []) t.region.block t.access (covers t.region t.region.block) old slots seen are (one_touch o t))

-- nothing was seen yet
pub none_seen : (o : StrandOrder) (v : PlacesValue) (n : ℕ) → n ≡ stretch_count v → HasScanned o v [] (record { cells = replicate n (Some no_stacks); races = [] })
none_seen o v n is = record {
  size = length-replicate n (Some no_stacks) ∙ is;
  cell = λ block x slot s.
      let few : slot.number < stretch_count v = slots_are_one.counted v block x slot s in
      let size : length (replicate n (Some no_stacks)) ≡ n = length-replicate n (Some no_stacks) in
      slice_get-get_or (replicate n (Some no_stacks)) slot.number None (omega arith) ∙ ap Some (get_or-replicate n slot.number (Some no_stacks) None (omega arith));
  race = λ block x slot s. refl;
  there = λ f none. absurd none;
  once = tt;
  known = λ t x none h. absurd none;
}

-- what was marked stays marked, with a region more
pub cut_more : (old new : PlacesValue) (touches : List Touch) (n : ℕ) (d : Touch) → n < length touches → KeepsCuts old new
    → ((k : ℕ) (e : Touch) → k < n → IsRegionCut old (get_or touches k e).region) → IsRegionCut new (get_or touches n d).region
    → (k : ℕ) (e : Touch) → k < n + 1 → IsRegionCut new (get_or touches k e).region
cut_more old new touches n d lt keeps before last k e less =
    elim (cases_lt k n) [
      | inl earlier ↦ λ i there page. keeps (page_key (get_or touches k e).region.block page) (run_start (get_or touches k e).region i - page * 4096)
          (min 4096 (run_start (get_or touches k e).region i + (get_or touches k e).region.length - page * 4096)) (before k e earlier i there page)
      | inr ge ↦
          let same : n ≡ k = omega arith in
          let is : get_or touches n d ≡ get_or touches n e = same_Some (get_or touches n d) (get_or touches n e) (sym (slice_get-get_or touches n d lt) ∙ slice_get-get_or touches n e lt) in
          subst (λ (j : ℕ). IsRegionCut new (get_or touches j e).region) same (subst (λ (t : Touch). IsRegionCut new t.region) is last)
    ]
