-- Along lists of races, uses and locations.
use Rattle.log_report.proofs.Common.{◌≡◌, ◌∙◌, ◌<◌, ◌≤◌, ◌+◌, ◌-◌, ℕ, suc, Bool, true, false, cond, List, [], ◌∷◌, ◌++◌, length, drop, drop-cons, add-one, get_or, refl, ap, sym, arith, append_assoc, append-nil, drop_all, Item, ToldRace, ToldUse, Names, follows, run_end, race_item, race_items, location_line, lines_from, use_item, use_items}

-- A RUN

module _ (races : List ToldRace) (at : ℕ) (last race : ToldRace) (lt : at < length races) (is : race ≡ get_or races at race) where
  next : (b : Bool) → follows last race ≡ b → run_end last (drop at races) ≡ cond b (run_end race (drop (at + 1) races)) last.end
  next b e =
      ap (run_end last) (drop-cons races at race lt ∙ ap (λ (r : ToldRace). r ∷ drop (suc at) races) (sym is))
      ∙ ap (λ t. cond t (run_end race (drop (suc at) races)) last.end) e
      ∙ rw add-one refl

  pub run_stops : follows last race ≡ false → last.end ≡ run_end last (drop at races)
  run_stops e = sym (next false e)

  pub run_goes_on : follows last race ≡ true → run_end race (drop (at + 1) races) ≡ run_end last (drop at races)
  run_goes_on e = sym (next true e)

pub run_at_end : (races : List ToldRace) (at : ℕ) (last : ToldRace) → length races ≤ at → last.end ≡ run_end last (drop at races)
run_at_end races at last le = ap (run_end last) (sym (drop_all at races le))

-- ITEMS

pub items_next : (races : List ToldRace) (at : ℕ) (race : ToldRace) (items more : List Item) → at < length races → race ≡ get_or races at race → more ≡ items ++ race_item race at ∷ []
    → more ++ race_items (at + 1) (drop (at + 1) races) ≡ items ++ race_items at (drop at races)
items_next races at race items more lt is e =
    ap (λ (xs : List Item). xs ++ race_items (at + 1) (drop (at + 1) races)) e
    ∙ append_assoc items (race_item race at ∷ []) (race_items (at + 1) (drop (at + 1) races))
    ∙ ap (λ (xs : List Item). items ++ xs) (sym (ap (race_items at) (drop-cons races at race lt ∙ ap (λ (r : ToldRace). r ∷ drop (suc at) races) (sym is)) ∙ rw add-one refl))

pub items_last : (races : List ToldRace) (at : ℕ) (items : List Item) → length races ≤ at → items ≡ items ++ race_items at (drop at races)
items_last races at items le = sym (append-nil items) ∙ ap (λ (rs : List ToldRace). items ++ race_items at rs) (sym (drop_all at races le))

pub uses_next : (uses : List ToldUse) (at : ℕ) (told : ToldUse) (items more : List Item) → at < length uses → told ≡ get_or uses at told → more ≡ items ++ use_item told at ∷ []
    → more ++ use_items (at + 1) (drop (at + 1) uses) ≡ items ++ use_items at (drop at uses)
uses_next uses at told items more lt is e =
    ap (λ (xs : List Item). xs ++ use_items (at + 1) (drop (at + 1) uses)) e
    ∙ append_assoc items (use_item told at ∷ []) (use_items (at + 1) (drop (at + 1) uses))
    ∙ ap (λ (xs : List Item). items ++ xs) (sym (ap (use_items at) (drop-cons uses at told lt ∙ ap (λ (u : ToldUse). u ∷ drop (suc at) uses) (sym is)) ∙ rw add-one refl))

pub uses_last : (uses : List ToldUse) (at : ℕ) (items : List Item) → length uses ≤ at → items ≡ items ++ use_items at (drop at uses)
uses_last uses at items le = sym (append-nil items) ∙ ap (λ (us : List ToldUse). items ++ use_items at us) (sym (drop_all at uses le))

-- LOCATIONS

module _ (names : Names) (r : ToldRace) where
  pub locations_next : (x end : ℕ) (text more : List ℕ) → x < end → more ≡ text ++ location_line names r x → more ++ lines_from names r (x + 1) (end - (x + 1)) ≡ text ++ lines_from names r x (end - x)
  locations_next x end text more lt e =
      let n : suc (end - (x + 1)) ≡ end - x = omega arith in
      ap (λ (t : List ℕ). t ++ lines_from names r (x + 1) (end - (x + 1))) e
      ∙ append_assoc text (location_line names r x) (lines_from names r (x + 1) (end - (x + 1)))
      ∙ ap (λ (k : ℕ). text ++ lines_from names r x k) n

  pub locations_last : (x end : ℕ) (text : List ℕ) → end ≤ x → text ≡ text ++ lines_from names r x (end - x)
  locations_last x end text le =
      let n : 0 ≡ end - x = omega arith in
      sym (append-nil text) ∙ ap (λ (k : ℕ). text ++ lines_from names r x k) n
