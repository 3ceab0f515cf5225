-- The stretches of a page among those of all.
use Rattle.log_places.proofs.Common.{◌≡◌, ℕ, zero, suc, ◌+◌, ◌<◌, ◌==◌, ◌||◌, not, Bool, true, false, cond, List, [], ◌∷◌, ◌++◌, length, set, get_or, Result, Ok, Err, OnOk, OnErr, refl, ap, sym, subst, ◌∙◌, arith, list_any, position_or_len, prefix_len, eqb-true, eq-eqb, and_parts, and_from, false≢true, insert_key, Stretch, PageKey, marked, Ascending, at, found, same_page, IsFirstPage, PlacesValue}
use Rattle.log_places.proofs.Marking.{marked_ascends}

pub is_not : (b : Bool) → (b ≡ true → ⊥) → b ≡ false
is_not true never = absurd (never refl)
is_not false never = refl

pub same_keys : (k x : PageKey) → same_page k x ≡ true → k ≡ x
same_keys k x e =
    let both = and_parts (k.block == x.block) (k.page == x.page) e in
    ap (λ b. record { block = b; page = k.page }) (eqb-true k.block x.block both.0) ∙ ap (λ p. record { block = x.block; page = p }) (eqb-true k.page x.page both.1)

-- ---- the first of the keys

abbrev pub place : PageKey → List PageKey → ℕ
place k xs = prefix_len (λ x. not (same_page k x)) xs

pub behind_first : (k x : PageKey) (xs : List PageKey) (i : ℕ) → same_page k x ≡ false → IsFirstPage xs k i → IsFirstPage (x ∷ xs) k (1 + i)
behind_first k x xs i is f = let n : suc i ≡ 1 + i = omega arith in subst (λ (j : ℕ). IsFirstPage (x ∷ xs) k j) n (is, f)

present_step : (k x : PageKey) (xs : List PageKey) (b : Bool) → same_page k x ≡ b → (list_any (same_page k) xs ≡ true → IsFirstPage xs k (place k xs))
    → (b || list_any (same_page k) xs) ≡ true → IsFirstPage (x ∷ xs) k (cond (not b) (1 + place k xs) 0)
present_step k x xs true is more any = is
present_step k x xs false is more any = behind_first k x xs (place k xs) is (more any)

present : (k : PageKey) (xs : List PageKey) → list_any (same_page k) xs ≡ true → IsFirstPage xs k (place k xs)
present k [] any = absurd (false≢true any)
present k (x ∷ xs) any = present_step k x xs (same_page k x) refl (present k xs) any

absent_step : (k x : PageKey) (xs : List PageKey) (b : Bool) → same_page k x ≡ b → (list_any (same_page k) xs ≡ false → IsFirstPage (xs ++ k ∷ []) k (place k xs))
    → (b || list_any (same_page k) xs) ≡ false → IsFirstPage (x ∷ (xs ++ k ∷ [])) k (cond (not b) (1 + place k xs) 0)
absent_step k x xs true is more none = absurd (false≢true (sym none))
absent_step k x xs false is more none = behind_first k x (xs ++ k ∷ []) (place k xs) is (more none)

pub same_itself : (k : PageKey) → same_page k k ≡ true
same_itself k = and_from (k.block == k.block) (k.page == k.page) (eq-eqb k.block k.block refl) (eq-eqb k.page k.page refl)

absent : (k : PageKey) (xs : List PageKey) → list_any (same_page k) xs ≡ false → IsFirstPage (xs ++ k ∷ []) k (place k xs)
absent k [] none = same_itself k
absent k (x ∷ xs) none = absent_step k x xs (same_page k x) refl (absent k xs) none

insert_step : (k : PageKey) (xs : List PageKey) (b : Bool) → list_any (same_page k) xs ≡ b → IsFirstPage (cond b xs (xs ++ k ∷ [])) k (place k xs)
insert_step k xs true is = present k xs is
insert_step k xs false is = absent k xs is

-- where a page is noted
pub first_inserted : (k : PageKey) (xs ys : List PageKey) (i : ℕ) → ys ≡ insert_key same_page xs k → i ≡ position_or_len (same_page k) xs → IsFirstPage ys k i
first_inserted k xs ys i is at =
    subst (λ (l : List PageKey). IsFirstPage l k i) (sym is) (subst (λ (j : ℕ). IsFirstPage (insert_key same_page xs k) k j) (sym at) (insert_step k xs (list_any (same_page k) xs) refl))

pub is_there : (xs : List PageKey) (k : PageKey) (i : ℕ) → IsFirstPage xs k i → i < length xs
is_there [] k i f = absurd f
is_there (x ∷ xs) k zero f = omega arith
is_there (x ∷ xs) k (suc i) f = let h = is_there xs k i f.1 in omega arith

-- ---- its stretches

abbrev nothing : List Stretch
nothing = []

cond_nothing : (b : Bool) → cond b nothing nothing ≡ nothing
cond_nothing true = refl
cond_nothing false = refl

-- a page without stretches more
pub found_push : (xs : List PageKey) (ps : List (List Stretch)) (k q : PageKey) → length xs ≡ length ps → found (xs ++ k ∷ []) (ps ++ [] ∷ []) q ≡ found xs ps q
found_push [] [] k q e = cond_nothing (same_page q k)
found_push [] (p ∷ ps) k q e = absurd (omega arith)
found_push (x ∷ xs) [] k q e = absurd (omega arith)
found_push (x ∷ xs) (p ∷ ps) k q e = ap (λ l. cond (same_page q x) p l) (found_push xs ps k q (omega arith))

pub found_at : (xs : List PageKey) (ps : List (List Stretch)) (k : PageKey) (i : ℕ) (d : List Stretch) → IsFirstPage xs k i → i < length ps → found xs ps k ≡ get_or ps i d
found_at [] ps k i d f lt = absurd f
found_at (x ∷ xs) [] k i d f lt = absurd (omega arith)
found_at (x ∷ xs) (p ∷ ps) k zero d f lt = ap (λ b. cond b p (found xs ps k)) f
found_at (x ∷ xs) (p ∷ ps) k (suc i) d f lt = ap (λ b. cond b p (found xs ps k)) f.0 ∙ found_at xs ps k i d f.1 (omega arith)

pub found_set : (xs : List PageKey) (ps : List (List Stretch)) (k : PageKey) (i : ℕ) (p : List Stretch) → IsFirstPage xs k i → i < length ps → found xs (set ps i p) k ≡ p
found_set [] ps k i p f lt = absurd f
found_set (x ∷ xs) [] k i p f lt = absurd (omega arith)
found_set (x ∷ xs) (r ∷ ps) k zero p f lt = ap (λ b. cond b p (found xs ps k)) f
found_set (x ∷ xs) (r ∷ ps) k (suc i) p f lt = ap (λ b. cond b r (found xs (set ps i p) k)) f.0 ∙ found_set xs ps k i p f.1 (omega arith)

pub found_other : (xs : List PageKey) (ps : List (List Stretch)) (k q : PageKey) (i : ℕ) (p : List Stretch) → IsFirstPage xs k i → same_page q k ≡ false → found xs (set ps i p) q ≡ found xs ps q
found_other [] ps k q i p f differ = refl
found_other (x ∷ xs) [] k q zero p f differ = refl
found_other (x ∷ xs) [] k q (suc i) p f differ = refl
found_other (x ∷ xs) (r ∷ ps) k q zero p f differ =
    let no : same_page q x ≡ false = ap (same_page q) (sym (same_keys k x f)) ∙ differ in
    ap (λ b. cond b p (found xs ps q)) no ∙ sym (ap (λ b. cond b r (found xs ps q)) no)
found_other (x ∷ xs) (r ∷ ps) k q (suc i) p f differ = ap (λ l. cond (same_page q x) r l) (found_other xs ps k q i p f.1 differ)

-- ---- order

pub still_ordered : {V E : Type 0} (r : Result V E) (old new : List Stretch) (a b : ℕ) → a < b → Ascending 0 old → OnOk r (new ≡ marked a b old) → OnErr r (new ≡ old) → Ascending 0 new
still_ordered (Ok v) old new a b lt up is same = subst (λ (l : List Stretch). Ascending 0 l) (sym is) (marked_ascends old a b 0 (omega arith) (λ h. omega arith) up)
still_ordered (Err e) old new a b lt up is same = subst (λ (l : List Stretch). Ascending 0 l) (sym same) up

-- ---- as the code tells it

abbrev pub places : List PageKey → List (List Stretch) → PlacesValue
places xs ps = record { keys = xs; pages = ps }

inserted_new : (k : PageKey) (xs ys : List PageKey) (b : Bool) → list_any (same_page k) xs ≡ b → true ≡ not b → ys ≡ cond b xs (xs ++ k ∷ []) → ys ≡ xs ++ k ∷ []
inserted_new k xs ys true any is e = absurd (false≢true (sym is))
inserted_new k xs ys false any is e = e

-- a page is made
pub page_made : (xs ys : List PageKey) (ps qs mid : List (List Stretch)) (page : List Stretch) (k q : PageKey) (is_new : Bool) (v : PlacesValue) → is_new ≡ true
    → is_new ≡ not (list_any (same_page k) xs) → ys ≡ insert_key same_page xs k → qs ≡ mid ++ page ∷ [] → mid ≡ ps → page ≡ [] → length xs ≡ length ps
    → places xs ps ≡ v → found ys qs q ≡ at v q
page_made xs ys ps qs mid page k q is_new v new is inserted pushed kept none long view =
    let e : ys ≡ xs ++ k ∷ [] = inserted_new k xs ys (list_any (same_page k) xs) refl (sym new ∙ is) inserted in
    let f : qs ≡ ps ++ [] ∷ [] = pushed ∙ (ap (λ l. l ++ page ∷ []) kept ∙ ap (λ p. ps ++ p ∷ []) none) in
    ap (λ l. found l qs q) e ∙ (ap (λ l. found (xs ++ k ∷ []) l q) f ∙ (found_push xs ps k q long ∙ ap (λ w. at w q) view))

module _ (v v' : PlacesValue) (xs : List PageKey) (ps : List (List Stretch)) (k : PageKey) (i : ℕ) (view : places xs ps ≡ v') (first : IsFirstPage v'.keys k i)
    (long : length xs ≡ length ps) where
  first_here : IsFirstPage xs k i
  first_here = subst (λ (w : PlacesValue). IsFirstPage w.keys k i) (sym view) first

  pub page_there : i < length ps
  page_there = let h : i < length xs = is_there xs k i first_here in omega arith

  module _ (kept : (q : PageKey) → at v' q ≡ at v q) where
    pub page_was : (item : List Stretch) → item ≡ get_or ps i item → item ≡ at v k
    page_was item is = is ∙ (sym (found_at xs ps k i item first_here page_there) ∙ (ap (λ w. at w k) view ∙ kept k))

    pub page_is : (p : List Stretch) → found xs (set ps i p) k ≡ p
    page_is p = found_set xs ps k i p first_here page_there

    pub others_are : (p : List Stretch) (q : PageKey) → same_page q k ≡ false → found xs (set ps i p) q ≡ at v q
    others_are p q differ = found_other xs ps k q i p first_here differ ∙ (ap (λ w. at w q) view ∙ kept q)

pub on_ok_too : {V E : Type 0} (r : Result V E) (P : Type 0) → P → OnOk r P
on_ok_too (Ok v) P h = h
on_ok_too (Err e) P h = tt
