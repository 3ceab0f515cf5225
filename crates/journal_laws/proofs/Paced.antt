-- The test of paced journals decides the rules.
use Rattle.journal_laws.proofs.Common.{◌≡◌, ◌||◌, true, List, [], ◌∷◌, ◌++◌, ◌⊎◌, inl, inr, refl, ap, subst, and_parts, and_from, or_cases, or_left, or_right, EntryValue, SettingsValue, ProgramText, Ledger, WorkerPace, after, is_fuel, opening, after_all, ledger_of, gives, owed, pace_of, pace_after, pace_after_all, pace_at_end, pace_opening, is_paced_from, PacedIsMeant, PaceGoesOn}

module _ (p : ProgramText) (s : SettingsValue) where
  abbrev Each : Ledger → List WorkerPace → List EntryValue → Type 0
  Each l pace journal =
      (before : List EntryValue) (e : EntryValue) (rest : List EntryValue) → journal ≡ before ++ e ∷ rest
      → (is_fuel e.kind ≡ true) ⊎ (gives (owed s (after_all p s l before) (pace_of (pace_after_all p s l pace before) e.worker)) e.kind ≡ true)

  -- a journal is paced if both parts of a cut are
  pub cut_paced : (first rest : List EntryValue) (l : Ledger) (pace : List WorkerPace) → is_paced_from p s l pace (first ++ rest) ≡ true
      → (is_paced_from p s l pace first ≡ true) × (is_paced_from p s (after_all p s l first) (pace_after_all p s l pace first) rest ≡ true)
  cut_paced [] rest l pace h = (refl, h)
  cut_paced (e ∷ first) rest l pace h =
      let now = is_fuel e.kind || gives (owed s l (pace_of pace e.worker)) e.kind in
      let both = and_parts now (is_paced_from p s (after p s l e) (pace_after (after p s l e) pace e) (first ++ rest)) h in
      let more = cut_paced first rest (after p s l e) (pace_after (after p s l e) pace e) both.1 in
      (and_from now (is_paced_from p s (after p s l e) (pace_after (after p s l e) pace e) first) both.0 more.0, more.1)

  joined_paced : (first rest : List EntryValue) (l : Ledger) (pace : List WorkerPace) → is_paced_from p s l pace first ≡ true
      → is_paced_from p s (after_all p s l first) (pace_after_all p s l pace first) rest ≡ true → is_paced_from p s l pace (first ++ rest) ≡ true
  joined_paced [] rest l pace h g = g
  joined_paced (e ∷ first) rest l pace h g =
      let now = is_fuel e.kind || gives (owed s l (pace_of pace e.worker)) e.kind in
      let both = and_parts now (is_paced_from p s (after p s l e) (pace_after (after p s l e) pace e) first) h in
      and_from now (is_paced_from p s (after p s l e) (pace_after (after p s l e) pace e) (first ++ rest)) both.0 (joined_paced first rest (after p s l e) (pace_after (after p s l e) pace e) both.1 g)

  each_paced : (journal : List EntryValue) (l : Ledger) (pace : List WorkerPace) → is_paced_from p s l pace journal ≡ true → Each l pace journal
  each_paced journal l pace h before e rest is =
      let c = (cut_paced before (e ∷ rest) l pace (subst (λ j. is_paced_from p s l pace j ≡ true) is h)).1 in
      let l' = after_all p s l before in
      let pace' = pace_after_all p s l pace before in
      let now = (and_parts (is_fuel e.kind || gives (owed s l' (pace_of pace' e.worker)) e.kind) (is_paced_from p s (after p s l' e) (pace_after (after p s l' e) pace' e) rest) c).0 in
      or_cases (is_fuel e.kind) (gives (owed s l' (pace_of pace' e.worker)) e.kind) now

  paced_each : (journal : List EntryValue) (l : Ledger) (pace : List WorkerPace) → Each l pace journal → is_paced_from p s l pace journal ≡ true
  paced_each [] l pace h = refl
  paced_each (e ∷ es) l pace h =
      let rest = is_paced_from p s (after p s l e) (pace_after (after p s l e) pace e) es in
      let more = paced_each es (after p s l e) (pace_after (after p s l e) pace e) (λ before f after is. h (e ∷ before) f after (ap (λ j. e ∷ j) is)) in
      let given = gives (owed s l (pace_of pace e.worker)) e.kind in
      and_from (is_fuel e.kind || given) rest (elim (h [] e es refl) [ inl fuel ↦ or_left (is_fuel e.kind) given fuel | inr g ↦ or_right (is_fuel e.kind) given g ]) more

pub paced_is_meant : PacedIsMeant
paced_is_meant p s journal = (each_paced p s journal (opening p s) (pace_opening s), paced_each p s journal (opening p s) (pace_opening s))

pub pace_goes_on : PaceGoesOn
pace_goes_on p s journal e h given =
    let l = ledger_of p s journal in
    let gave = gives (owed s l (pace_of (pace_at_end p s journal) e.worker)) e.kind in
    let now : (is_fuel e.kind || gave) ≡ true = elim given [ inl fuel ↦ or_left (is_fuel e.kind) gave fuel | inr g ↦ or_right (is_fuel e.kind) gave g ] in
    joined_paced p s journal (e ∷ []) (opening p s) (pace_opening s) h (and_from (is_fuel e.kind || gave) true now refl)
