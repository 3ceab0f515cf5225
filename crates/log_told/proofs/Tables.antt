-- Lines by their numbers.
use Rattle.log_told.proofs.Common.{◌≡◌, ◌∙◌, ◌<◌, ◌≤◌, ◌+◌, ◌⊎◌, inl, inr, ℕ, List, [], ◌∷◌, ◌++◌, length, map, take, get_or, refl, ap, sym, subst, arith, Option, Some, None, Result, Ok, Err, nat_cmp, option_map, Contains, All, slice_get, flat_map, IsStrictlyIncreasing, IsBinarySearchResult, searched, slice_get-get_or, slice_get-map, cases_lt, take_more, map-append, In, in_from_contains, contains_from_in, in_append_left, in_append_right, in_flat, got_in, in_at, found_place, not_found, ActLine, act_line, FoundRace, Finding, Findings, LineTable, lines_of_race, lines_of_finding, all_lines, IsTable, IsToldRace, IsToldUse}

-- A NUMBER'S LINE

module _ (texts : List (List ℕ)) (wanted : List ℕ) (table : LineTable) (is : IsTable texts wanted table) where
  -- the line at the place of a number
  pub line_found : (number place : ℕ) → IsBinarySearchResult (λ y. nat_cmp y number) table.numbers (Ok place) → slice_get table.lines place ≡ Some (act_line texts number)
  line_found number place h =
      let at = found_place table.numbers is.ascending number place h in
      ap (λ (ls : List (Option ActLine)). slice_get ls place) is.lines
      ∙ slice_get-map (act_line texts) table.numbers place
      ∙ ap (option_map (act_line texts)) (slice_get-get_or table.numbers place 0 at.0)
      ∙ ap (λ (n : ℕ). Some (act_line texts n)) at.1

  -- a number that is wanted is found
  pub line_there : (number place : ℕ) → IsBinarySearchResult (λ y. nat_cmp y number) table.numbers (Err place) → Contains wanted number → ⊥
  line_there number place h c =
      let at = in_at table.numbers number (in_from_contains table.numbers number (is.has number c)) in
      not_found table.numbers is.ascending number place h at.0 at.1 at.2

-- ALL THAT WAS FOUND

module _ (races : List FoundRace) (findings : Findings) where
  in_races : (n : ℕ) → In (flat_map lines_of_race races) n → Contains (all_lines races findings) n
  in_races n h = contains_from_in (all_lines races findings) n (in_append_left _ (flat_map lines_of_finding findings.stale) n (in_append_left _ (flat_map lines_of_finding findings.uses) n (in_append_left _ (flat_map lines_of_finding findings.reads) n h)))

  in_reads : (n : ℕ) → In (flat_map lines_of_finding findings.reads) n → Contains (all_lines races findings) n
  in_reads n h = contains_from_in (all_lines races findings) n (in_append_left _ (flat_map lines_of_finding findings.stale) n (in_append_left _ (flat_map lines_of_finding findings.uses) n (in_append_right (flat_map lines_of_race races) _ n h)))

  in_uses : (n : ℕ) → In (flat_map lines_of_finding findings.uses) n → Contains (all_lines races findings) n
  in_uses n h = contains_from_in (all_lines races findings) n (in_append_left _ (flat_map lines_of_finding findings.stale) n (in_append_right (flat_map lines_of_race races ++ flat_map lines_of_finding findings.reads) _ n h))

  in_stale : (n : ℕ) → In (flat_map lines_of_finding findings.stale) n → Contains (all_lines races findings) n
  in_stale n h = contains_from_in (all_lines races findings) n (in_append_right (flat_map lines_of_race races ++ flat_map lines_of_finding findings.reads ++ flat_map lines_of_finding findings.uses) _ n h)

  item_in : {A : Type 0} (xs : List A) (i : ℕ) (d : A) → i < length xs → In xs (get_or xs i d)
  item_in xs i d lt = got_in xs i (get_or xs i d) (slice_get-get_or xs i d lt)

  pub races_told : All (IsToldRace (all_lines races findings)) races
  races_told i d lt =
      let f = get_or races i d in
      let h = item_in races i d lt in
      (in_races f.race.first.line (in_flat lines_of_race races f f.race.first.line h (inl refl)), in_races f.race.second.line (in_flat lines_of_race races f f.race.second.line h (inr (inl refl))))

  module _ (found : List Finding) (has : (n : ℕ) → In (flat_map lines_of_finding found) n → Contains (all_lines races findings) n) where
    told_of : All (IsToldUse (all_lines races findings)) found
    told_of i d lt =
        let f = get_or found i d in
        let h = item_in found i d lt in
        (has f.line (in_flat lines_of_finding found f f.line h (inl refl)), has f.other (in_flat lines_of_finding found f f.other h (inr (inl refl))))

  pub reads_told : All (IsToldUse (all_lines races findings)) findings.reads
  reads_told = told_of findings.reads in_reads

  pub uses_told : All (IsToldUse (all_lines races findings)) findings.uses
  uses_told = told_of findings.uses in_uses

  pub stale_told : All (IsToldUse (all_lines races findings)) findings.stale
  stale_told = told_of findings.stale in_stale

-- ONE BY ONE

pub more_told : {A B : Type 0} (f : A → B) (xs : List A) (i : ℕ) (d : A) (told more : List B) (y : B) → i < length xs → told ≡ map f (take i xs) → y ≡ f (get_or xs i d) → more ≡ told ++ y ∷ [] → more ≡ map f (take (i + 1) xs)
more_told f xs i d told more y lt so is e =
    e
    ∙ (λ j. so j ++ is j ∷ [])
    ∙ sym (map-append f (take i xs) (get_or xs i d ∷ []))
    ∙ ap (map f) (sym (take_more xs i d lt))
