-- What accesses of stretches do to the cells, and which races they find.
use Rattle.race_scan.proofs.Common.{◌≡◌, ◌==◌, ℕ, Bool, true, false, Option, Some, None, List, [], ◌∷◌, ◌++◌, length, slice_get, is_some, fold, ◌⊎◌, inl, inr, refl, ap, sym, subst, ◌∙◌, eq-eqb, if◌then◌else◌, option_or, ne_eqb, length-set, In, got_same, got_other, in_append_cases, none_some, LocationSlot, CellAccess, CellRace, Stacks, StrandOrder, after, race_at, SlotsDiffer, FoundRace, AreOnce, ScanValue, found_race, with_race, visit_cell, visited, race_of}

pub or_none : {A : Type 0} (o : Option A) → option_or o None ≡ o
or_none None = refl
or_none (Some x) = refl

race_of_push_by : (b : Bool) (x : CellRace) (r s : Option CellRace) → r ≡ s → (if b then Some x else r) ≡ (if b then Some x else s)
race_of_push_by b x r s e = ap (λ o. if b then Some x else o) e

or_under : (b : Bool) (x : CellRace) (o p : Option CellRace) → (if b then Some x else option_or o p) ≡ option_or (if b then Some x else o) p
or_under true x o p = refl
or_under false x o p = refl

race_of_push : (fs : List FoundRace) (f : FoundRace) (n : ℕ) → race_of (fs ++ f ∷ []) n ≡ option_or (race_of fs n) (if f.slot.number == n then Some f.race else None)
race_of_push [] f n = refl
race_of_push (g ∷ gs) f n =
    ap (λ o. if g.slot.number == n then Some g.race else o) (race_of_push gs f n)
    ∙ or_under (g.slot.number == n) g.race (race_of gs n) (if f.slot.number == n then Some f.race else None)

-- what was found of no stretch is in no race
absent_by : (b : Bool) (x : CellRace) (o : Option CellRace) → (if b then Some x else o) ≡ None → (b ≡ false) × (o ≡ None)
absent_by true x o e = none_some (sym e)
absent_by false x o e = (refl, e)

absent : (fs : List FoundRace) (n : ℕ) → race_of fs n ≡ None → (f : FoundRace) → In fs f → f.slot.number ≡ n → ⊥
absent [] n e f none same = absurd none
absent (g ∷ gs) n e f (inl is) same =
    let p = absent_by (g.slot.number == n) g.race (race_of gs n) e in
    absurd (let t : (g.slot.number == n) ≡ true = eq-eqb g.slot.number n (ap (λ (x : FoundRace). x.slot.number) is ∙ same) in cc)
absent (g ∷ gs) n e f (inr i) same = absent gs n (absent_by (g.slot.number == n) g.race (race_of gs n) e).1 f i same

once_push : (fs : List FoundRace) (f : FoundRace) → AreOnce fs → ((g : FoundRace) → In fs g → g.slot.number ≡ f.slot.number → ⊥) → AreOnce (fs ++ f ∷ [])
once_push [] f once new = (λ g none. absurd none, tt)
once_push (h ∷ hs) f once new = (
  λ g i same. elim (in_append_cases hs (f ∷ []) g i) [
    | inl old ↦ once.0 g old same
    | inr last ↦ elim last [
      | inl is ↦ new h (inl refl) (same ∙ sym (ap (λ (x : FoundRace). x.slot.number) is))
      | inr none ↦ absurd none
    ]
  ],
  once_push hs f once.1 (λ g i. new g (inr i)),
)

module _ (o : StrandOrder) (block : ℕ) (a : CellAccess) where
  -- ONE STRETCH

  other_found : (races : List FoundRace) (s : LocationSlot) (n : ℕ) → (n ≡ s.number → ⊥) → (r : Option CellRace) → race_of (with_race races block s r) n ≡ race_of races n
  other_found races s n apart None = refl
  other_found races s n apart (Some r) =
      race_of_push races (found_race block s r) n
      ∙ (ap (λ b. option_or (race_of races n) (if b then Some r else None)) (ne_eqb s.number n (λ e. apart (sym e))) ∙ or_none (race_of races n))

  here_found : (races : List FoundRace) (s : LocationSlot) (r : Option CellRace) → race_of (with_race races block s r) s.number ≡ option_or (race_of races s.number) r
  here_found races s None = sym (or_none (race_of races s.number))
  here_found races s (Some r) =
      race_of_push races (found_race block s r) s.number
      ∙ ap (λ b. option_or (race_of races s.number) (if b then Some r else None)) (eq-eqb s.number s.number refl)

  -- what is known of a stretch is as it was
  abbrev IsKept : ScanValue → ScanValue → ℕ → Type 0
  IsKept old new n = (slice_get new.cells n ≡ slice_get old.cells n) × (race_of new.races n ≡ race_of old.races n)

  other_by : (scan : ScanValue) (s : LocationSlot) (n : ℕ) → (n ≡ s.number → ⊥) → (c : Option (Option Stacks)) → IsKept scan (visit_cell o block a scan s c) n
  other_by scan s n apart None = (refl, refl)
  other_by scan s n apart (Some cell) = (got_other scan.cells s.number n (after o cell a) apart, other_found scan.races s n apart (race_at o cell a))

  other : (scan : ScanValue) (s : LocationSlot) (n : ℕ) → (n ≡ s.number → ⊥) → IsKept scan (visited o block a scan s) n
  other scan s n apart = other_by scan s n apart (slice_get scan.cells s.number)

  -- the stretch was accessed
  abbrev IsVisited : ScanValue → ScanValue → ℕ → Option Stacks → Type 0
  IsVisited old new n cell = (slice_get new.cells n ≡ Some (after o cell a)) × (race_of new.races n ≡ option_or (race_of old.races n) (race_at o cell a))

  visited_cell : (scan : ScanValue) (s : LocationSlot) (cell : Option Stacks) → slice_get scan.cells s.number ≡ Some cell → IsVisited scan (visited o block a scan s) s.number cell
  visited_cell scan s cell h = (
    ap (λ c. slice_get (visit_cell o block a scan s c).cells s.number) h ∙ got_same scan.cells s.number cell (after o cell a) h,
    ap (λ c. race_of (visit_cell o block a scan s c).races s.number) h ∙ here_found scan.races s (race_at o cell a),
  )

  size_by : (scan : ScanValue) (s : LocationSlot) (c : Option (Option Stacks)) → length (visit_cell o block a scan s c).cells ≡ length scan.cells
  size_by scan s None = refl
  size_by scan s (Some cell) = length-set scan.cells s.number (after o cell a)

  pub visit_size : (scan : ScanValue) (s : LocationSlot) → length (visited o block a scan s).cells ≡ length scan.cells
  visit_size scan s = size_by scan s (slice_get scan.cells s.number)

  -- SEVERAL STRETCHES

  pub size_kept : (slots : List LocationSlot) (scan : ScanValue) → length (fold (visited o block a) scan slots).cells ≡ length scan.cells
  size_kept [] scan = refl
  size_kept (s ∷ ss) scan = size_kept ss (visited o block a scan s) ∙ visit_size scan s

  pub untouched : (slots : List LocationSlot) (scan : ScanValue) (n : ℕ) → ((s : LocationSlot) → In slots s → n ≡ s.number → ⊥) → IsKept scan (fold (visited o block a) scan slots) n
  untouched [] scan n apart = (refl, refl)
  untouched (s ∷ ss) scan n apart =
      let more = untouched ss (visited o block a scan s) n (λ t i. apart t (inr i)) in
      let one = other scan s n (apart s (inl refl)) in
      (more.0 ∙ one.0, more.1 ∙ one.1)

  pub touched : (slots : List LocationSlot) (scan : ScanValue) (s : LocationSlot) (cell : Option Stacks) → SlotsDiffer slots → In slots s → slice_get scan.cells s.number ≡ Some cell
      → IsVisited scan (fold (visited o block a) scan slots) s.number cell
  touched [] scan s cell apart none h = absurd none
  touched (t ∷ ts) scan s cell apart (inl is) h =
      let h' : slice_get scan.cells t.number ≡ Some cell = ap (λ (x : LocationSlot). slice_get scan.cells x.number) is ∙ h in
      let one = visited_cell scan t cell h' in
      let more = untouched ts (visited o block a scan t) t.number apart.0 in
      subst (λ (x : LocationSlot). IsVisited scan (fold (visited o block a) scan (t ∷ ts)) x.number cell) is (more.0 ∙ one.0, more.1 ∙ one.1)
  touched (t ∷ ts) scan s cell apart (inr i) h =
      let one = other scan t s.number (λ e. apart.0 s i (sym e)) in
      let more = touched ts (visited o block a scan t) s cell apart.1 i (one.0 ∙ h) in
      (more.0, more.1 ∙ ap (λ r. option_or r (race_at o cell a)) one.1)

  -- WHAT IS FOUND

  found_by : (scan : ScanValue) (s : LocationSlot) (f : FoundRace) (r : Option CellRace) → In (with_race scan.races block s r) f → In scan.races f ⊎ ((f.block ≡ block) × (f.slot ≡ s))
  found_by scan s f None i = inl i
  found_by scan s f (Some r) i =
      elim (in_append_cases scan.races (found_race block s r ∷ []) f i) [
        | inl old ↦ inl old
        | inr last ↦ elim last [
          | inl is ↦ inr (sym (ap (λ (x : FoundRace). x.block) is), sym (ap (λ (x : FoundRace). x.slot) is))
          | inr none ↦ absurd none
        ]
      ]

  found_one : (scan : ScanValue) (s : LocationSlot) (f : FoundRace) (c : Option (Option Stacks)) → In (visit_cell o block a scan s c).races f → In scan.races f ⊎ ((f.block ≡ block) × (f.slot ≡ s))
  found_one scan s f None i = inl i
  found_one scan s f (Some cell) i = found_by scan s f (race_at o cell a) i

  pub found_among : (slots : List LocationSlot) (scan : ScanValue) (f : FoundRace) → In (fold (visited o block a) scan slots).races f → In scan.races f ⊎ ((f.block ≡ block) × In slots f.slot)
  found_among [] scan f i = inl i
  found_among (s ∷ ss) scan f i =
      elim (found_among ss (visited o block a scan s) f i) [
        | inr (b, j) ↦ inr (b, inr j)
        | inl old ↦ elim (found_one scan s f (slice_get scan.cells s.number) old) [
          | inl older ↦ inl older
          | inr (b, is) ↦ inr (b, inl (sym is))
        ]
      ]

  -- a stretch whose cell makes a race has none yet
  abbrev pub IsFresh : ScanValue → LocationSlot → Type 0
  IsFresh scan s = (cell : Option Stacks) → slice_get scan.cells s.number ≡ Some cell → is_some (race_at o cell a) ≡ true → race_of scan.races s.number ≡ None

  once_by : (scan : ScanValue) (s : LocationSlot) → AreOnce scan.races → (r : Option CellRace) → (is_some r ≡ true → race_of scan.races s.number ≡ None) → AreOnce (with_race scan.races block s r)
  once_by scan s once None fresh = once
  once_by scan s once (Some r) fresh = once_push scan.races (found_race block s r) once (absent scan.races s.number (fresh refl))

  once_one : (scan : ScanValue) (s : LocationSlot) → AreOnce scan.races → (c : Option (Option Stacks)) → slice_get scan.cells s.number ≡ c → IsFresh scan s → AreOnce (visit_cell o block a scan s c).races
  once_one scan s once None h fresh = once
  once_one scan s once (Some cell) h fresh = once_by scan s once (race_at o cell a) (fresh cell h)

  pub still_once : (slots : List LocationSlot) (scan : ScanValue) → SlotsDiffer slots → ((s : LocationSlot) → In slots s → IsFresh scan s) → AreOnce scan.races
      → AreOnce (fold (visited o block a) scan slots).races
  still_once [] scan apart fresh once = once
  still_once (s ∷ ss) scan apart fresh once =
      still_once ss (visited o block a scan s) apart.1
      (λ t i cell h made.
      let kept = other scan s t.number (λ e. apart.0 t i (sym e)) in
      kept.1 ∙ fresh t (inr i) cell (sym kept.0 ∙ h) made)
      (once_one scan s once (slice_get scan.cells s.number) refl (fresh s (inl refl)))
