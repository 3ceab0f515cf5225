-- Numbers of stretches.
use Rattle.log_places.proofs.Common.{◌≡◌, ℕ, zero, suc, ◌+◌, ◌-◌, ◌*◌, ◌/◌, ◌%◌, min, ◌<◌, ◌≤◌, Bool, true, false, cond, not, nat_lt, Option, Some, None, IfSome, IfNone, List, [], ◌∷◌, length, get_or, slice_get, refl, ap, sym, subst, ◌∙◌, arith, position, sum_by, ltb-true, ltb-false, false≢true, sum_by-cons, slice_get_within, same_Some, slice_get-get_or, In, got_in, Stretch, PageKey, LocationSlot, Ascending, Has, at, found, page_key, same_page, IsFirstPage, IsIn, IsRunCut, PlacesValue, firsts_from, stretch_count, stretches_before, IsStretchNumber, IsSlot, IsSlotAt, NumbersAreDistinct, SlotsAreOne}
use Rattle.log_places.proofs.Finding.{behind_first, place, places, same_keys}

-- ---- the place of a page

found_step : (k x : PageKey) (xs : List PageKey) (b : Bool) → same_page k x ≡ b → (place k xs < length xs → IsFirstPage xs k (place k xs))
    → cond (not b) (1 + place k xs) 0 < length (x ∷ xs) → IsFirstPage (x ∷ xs) k (cond (not b) (1 + place k xs) 0)
found_step k x xs true is more lt = is
found_step k x xs false is more lt = behind_first k x xs (place k xs) is (more (omega arith))

place_first : (k : PageKey) (xs : List PageKey) → place k xs < length xs → IsFirstPage xs k (place k xs)
place_first k [] lt = absurd (omega arith)
place_first k (x ∷ xs) lt = found_step k x xs (same_page k x) refl (place_first k xs) lt

absent_step : (k x : PageKey) (xs : List PageKey) (p : List Stretch) (ps : List (List Stretch)) (b : Bool) → (length xs ≤ place k xs → found xs ps k ≡ [])
    → length (x ∷ xs) ≤ cond (not b) (1 + place k xs) 0 → cond b p (found xs ps k) ≡ []
absent_step k x xs p ps true more le = absurd (omega arith)
absent_step k x xs p ps false more le = more (omega arith)

place_none : (k : PageKey) (xs : List PageKey) (ps : List (List Stretch)) → length xs ≤ place k xs → found xs ps k ≡ []
place_none k [] ps le = refl
place_none k (x ∷ xs) [] le = refl
place_none k (x ∷ xs) (p ∷ ps) le = absent_step k x xs p ps (same_page k x) (place_none k xs ps) le

some_step : (k : PageKey) (xs : List PageKey) (b : Bool) → nat_lt (place k xs) (length xs) ≡ b → IfSome (cond b (Some (place k xs)) None) (λ i. IsFirstPage xs k i)
some_step k xs true lt = place_first k xs (ltb-true (place k xs) (length xs) lt)
some_step k xs false ge = tt

none_step : (k : PageKey) (xs : List PageKey) (ps : List (List Stretch)) (b : Bool) → nat_lt (place k xs) (length xs) ≡ b → IfNone (cond b (Some (place k xs)) None) (found xs ps k ≡ [])
none_step k xs ps true lt = tt
none_step k xs ps false ge = place_none k xs ps (ltb-false (place k xs) (length xs) ge)

pub page_found : (v : PlacesValue) (xs : List PageKey) (ps : List (List Stretch)) (k : PageKey) (r : Option ℕ) → places xs ps ≡ v → r ≡ position (same_page k) xs → IfSome r (λ i. IsFirstPage v.keys k i)
page_found v xs ps k r view is =
    subst (λ (w : PlacesValue). IfSome r (λ i. IsFirstPage w.keys k i)) view
    (subst (λ (o : Option ℕ). IfSome o (λ i. IsFirstPage xs k i)) (sym is) (some_step k xs (nat_lt (place k xs) (length xs)) refl))

pub page_absent : (v : PlacesValue) (xs : List PageKey) (ps : List (List Stretch)) (k : PageKey) (r : Option ℕ) → places xs ps ≡ v → r ≡ position (same_page k) xs → IfNone r (at v k ≡ [])
page_absent v xs ps k r view is =
    subst (λ (w : PlacesValue). IfNone r (at w k ≡ [])) view
    (subst (λ (o : Option ℕ). IfNone o (found xs ps k ≡ [])) (sym is) (none_step k xs ps (nat_lt (place k xs) (length xs)) refl))

-- ---- numbers

length_firsts : (n : ℕ) (ps : List (List Stretch)) → length (firsts_from n ps) ≡ length ps
length_firsts n [] = refl
length_firsts n (p ∷ ps) = ap suc (length_firsts (n + length p) ps)

pub first_there : (v : PlacesValue) (xs : List PageKey) (ps : List (List Stretch)) (fs : List ℕ) (i : ℕ) → places xs ps ≡ v → fs ≡ firsts_from 0 ps → i < length v.pages → i < length fs
first_there v xs ps fs i view is lt =
    let a : length fs ≡ length ps = ap length is ∙ length_firsts 0 ps in
    let b : length ps ≡ length v.pages = ap (λ w. length w.pages) view in
    omega arith

first_is : (n : ℕ) (ps : List (List Stretch)) (i d : ℕ) → i < length ps → get_or (firsts_from n ps) i d ≡ n + stretches_before ps i
first_is n [] i d lt = absurd (omega arith)
first_is n (p ∷ ps) zero d lt = omega arith
first_is n (p ∷ ps) (suc i) d lt =
    let h : get_or (firsts_from (n + length p) ps) i d ≡ n + length p + stretches_before ps i = first_is (n + length p) ps i d (omega arith) in
    omega arith

pub below_all : (ps : List (List Stretch)) (i : ℕ) (p : List Stretch) → slice_get ps i ≡ Some p → stretches_before ps i + length p ≤ sum_by length ps
below_all [] i p got = absurd cc
below_all (q ∷ ps) zero p got =
    let e : length q ≡ length p = ap length (same_Some q p got) in
    let w : sum_by (length {A = Stretch}) (q ∷ ps) ≡ length q + sum_by (length {A = Stretch}) ps = sum_by-cons length q ps in
    omega arith
below_all (q ∷ ps) (suc i) p got =
    let h : stretches_before ps i + length p ≤ sum_by (length {A = Stretch}) ps = below_all ps i p got in
    let w : sum_by (length {A = Stretch}) (q ∷ ps) ≡ length q + sum_by (length {A = Stretch}) ps = sum_by-cons length q ps in
    omega arith

got_page : (ps : List (List Stretch)) (i : ℕ) (p : List Stretch) → i < length ps → p ≡ get_or ps i p → slice_get ps i ≡ Some p
got_page ps i p lt is = slice_get-get_or ps i p lt ∙ ap Some (sym is)

module _ (v : PlacesValue) (xs : List PageKey) (ps : List (List Stretch)) (fs : List ℕ) (i first : ℕ) (ss item : List Stretch) (view : places xs ps ≡ v) (are : fs ≡ firsts_from 0 ps)
    (lt : i < length v.pages) (is_first : first ≡ get_or fs i first) (is_item : item ≡ get_or ps i item) (is : ss ≡ item) where
  in_pages : i < length ps
  in_pages = let b : length ps ≡ length v.pages = ap (λ w. length w.pages) view in omega arith

  pub number_is : first ≡ stretches_before ps i
  number_is = is_first ∙ (ap (λ l. get_or l i first) are ∙ first_is 0 ps i first in_pages) ∙ (let h : 0 + stretches_before ps i ≡ stretches_before ps i = omega arith in h)

  pub item_got : slice_get ps i ≡ Some ss
  item_got = got_page ps i item in_pages is_item ∙ ap Some (sym is)

  pub number_below : (place' : ℕ) (s : Stretch) → slice_get ss place' ≡ Some s → first + place' < sum_by length ps
  number_below place' s got =
      let a : place' < length ss = slice_get_within ss place' s got in
      let b : stretches_before ps i + length ss ≤ sum_by length ps = below_all ps i ss item_got in
      let c : first ≡ stretches_before ps i = number_is in
      omega arith

  pub slot_is : Ascending 0 item → (base location start end place' : ℕ) (s : Stretch) → slice_get ss place' ≡ Some s → Has s location → start ≡ base + s.start → end ≡ base + s.end
      → IsSlotAt v.pages i base location (record { number = first + place'; start = start; end = end })
  slot_is up base location start end place' s got has is_start is_end =
      subst (λ (w : PlacesValue). IsSlotAt w.pages i base location (record { number = first + place'; start = start; end = end })) view
      (record {
        stretches = ss;
        place = place';
        stretch = s;
        there = item_got;
        at = got;
        ordered = subst (λ (l : List Stretch). Ascending 0 l) (sym is) up;
        has = has;
        number = ap (λ n. n + place') number_is;
        start = is_start;
        end = is_end;
      })

-- ---- slots

pub found_got : (xs : List PageKey) (ps : List (List Stretch)) (k : PageKey) (i : ℕ) (p : List Stretch) → IsFirstPage xs k i → slice_get ps i ≡ Some p → found xs ps k ≡ p
found_got [] ps k i p f got = absurd f
found_got (x ∷ xs) [] k i p f got = absurd cc
found_got (x ∷ xs) (q ∷ ps) k zero p f got = ap (λ b. cond b q (found xs ps k)) f ∙ same_Some q p got
found_got (x ∷ xs) (q ∷ ps) k (suc i) p f got = ap (λ b. cond b q (found xs ps k)) f.0 ∙ found_got xs ps k i p f.1 got

pub slot_of : (v : PlacesValue) (block location i : ℕ) (slot : LocationSlot) → IsFirstPage v.keys (page_key block (location / 4096)) i
    → IsSlotAt v.pages i (location / 4096 * 4096) (location % 4096) slot → IsSlot v block location slot
slot_of v block location i slot first s =
    let here : at v (page_key block (location / 4096)) ≡ s.stretches = found_got v.keys v.pages (page_key block (location / 4096)) i s.stretches first s.there in
    record {
      stretch = s.stretch;
      among = record { among = subst (λ (l : List Stretch). In l s.stretch) (sym here) (got_in s.stretches s.place s.stretch s.at); has = s.has };
      ordered = subst (λ (l : List Stretch). Ascending 0 l) (sym here) s.ordered;
      number = record { page = i; place = s.place; stretches = s.stretches; of_page = first; there = s.there; at = s.at; is = s.number };
      start = s.start;
      end = s.end;
    }

got_some : (ps : List (List Stretch)) (i : ℕ) → i < length ps → (p : List Stretch) × (slice_get ps i ≡ Some p)
got_some [] i lt = absurd (omega arith)
got_some (p ∷ ps) zero lt = (p, refl)
got_some (p ∷ ps) (suc i) lt = got_some ps i (omega arith)

pub none_of : (v : PlacesValue) (block location i : ℕ) → IsFirstPage v.keys (page_key block (location / 4096)) i → i < length v.pages
    → ((ss : List Stretch) → slice_get v.pages i ≡ Some ss → (s : Stretch) → In ss s → Has s (location % 4096) → ⊥) → (s : Stretch) → IsIn v block location s → ⊥
none_of v block location i first lt none s is =
    let g = got_some v.pages i lt in
    let here : at v (page_key block (location / 4096)) ≡ g.0 = found_got v.keys v.pages (page_key block (location / 4096)) i g.0 first g.1 in
    none g.0 g.1 s (subst (λ (l : List Stretch). In l s) here is.among) is.has

-- ---- no two stretches have one number

record IsOne (i j k l : ℕ) : Type 0 where
  page : i ≡ j
  place : k ≡ l

one_place : (ps : List (List Stretch)) (i j k l : ℕ) (p q : List Stretch) → slice_get ps i ≡ Some p → slice_get ps j ≡ Some q → k < length p → l < length q
    → stretches_before ps i + k ≡ stretches_before ps j + l → IsOne i j k l
one_place [] i j k l p q gp gq lp lq e = absurd cc
one_place (r ∷ ps) zero zero k l p q gp gq lp lq e = record { page = refl; place = omega arith }
one_place (r ∷ ps) zero (suc j) k l p q gp gq lp lq e = absurd (let h : length r ≡ length p = ap length (same_Some r p gp) in omega arith)
one_place (r ∷ ps) (suc i) zero k l p q gp gq lp lq e = absurd (let h : length r ≡ length q = ap length (same_Some r q gq) in omega arith)
one_place (r ∷ ps) (suc i) (suc j) k l p q gp gq lp lq e =
    let o = one_place ps i j k l p q gp gq lp lq (omega arith) in
    record { page = ap suc o.page; place = o.place }

same_first : (xs : List PageKey) (k l : PageKey) (i : ℕ) → IsFirstPage xs k i → IsFirstPage xs l i → k ≡ l
same_first [] k l i f g = absurd f
same_first (x ∷ xs) k l zero f g = same_keys k x f ∙ sym (same_keys l x g)
same_first (x ∷ xs) k l (suc i) f g = same_first xs k l i f.1 g.1

pub numbers_are_distinct : NumbersAreDistinct
numbers_are_distinct v k l s t n a b =
    let o = one_place v.pages a.page b.page a.place b.place a.stretches b.stretches a.there b.there
    (slice_get_within a.stretches a.place s a.at) (slice_get_within b.stretches b.place t b.at) (sym a.is ∙ b.is) in
    let pages : a.stretches ≡ b.stretches = same_Some a.stretches b.stretches (sym a.there ∙ (ap (slice_get v.pages) o.page ∙ b.there)) in (
      same_first v.keys k l b.page (subst (λ (i : ℕ). IsFirstPage v.keys k i) o.page a.of_page) b.of_page,
      same_Some s t (sym a.at ∙ (ap (λ p. slice_get p a.place) pages ∙ (ap (slice_get b.stretches) o.place ∙ b.at))),
    )

pub numbered : (ps : List (List Stretch)) (page base location n m start end : ℕ) → n ≡ m → IsSlotAt ps page base location (record { number = m; start = start; end = end })
    → IsSlotAt ps page base location (record { number = n; start = start; end = end })
numbered ps page base location n m start end is slot =
    subst (λ (x : ℕ). IsSlotAt ps page base location (record { number = x; start = start; end = end })) (sym is) slot

-- ---- a location has one slot

begins_from : (ss : List Stretch) (low k : ℕ) (s : Stretch) → Ascending low ss → slice_get ss k ≡ Some s → low ≤ s.start
begins_from [] low k s up got = absurd cc
begins_from (r ∷ rs) low zero s up got = subst (λ (x : Stretch). low ≤ x.start) (same_Some r s got) up.0
begins_from (r ∷ rs) low (suc k) s up got =
    let later : r.end ≤ s.start = begins_from rs r.end k s up.2 got in
    let a : low ≤ r.start = up.0 in
    let b : r.start < r.end = up.1 in
    omega arith

same_place : (ss : List Stretch) (low k l x : ℕ) (s t : Stretch) → Ascending low ss → slice_get ss k ≡ Some s → slice_get ss l ≡ Some t → Has s x → Has t x → k ≡ l
same_place [] low k l x s t up a b h g = absurd cc
same_place (r ∷ rs) low zero zero x s t up a b h g = refl
same_place (r ∷ rs) low zero (suc l) x s t up a b h g =
    let later : r.end ≤ t.start = begins_from rs r.end l t up.2 b in
    let e : r.end ≡ s.end = ap (λ (y : Stretch). y.end) (same_Some r s a) in
    let below : x < s.end = h.1 in
    let from : t.start ≤ x = g.0 in
    absurd (omega arith)
same_place (r ∷ rs) low (suc k) zero x s t up a b h g =
    let later : r.end ≤ s.start = begins_from rs r.end k s up.2 a in
    let e : r.end ≡ t.end = ap (λ (y : Stretch). y.end) (same_Some r t b) in
    let below : x < t.end = g.1 in
    let from : s.start ≤ x = h.0 in
    absurd (omega arith)
same_place (r ∷ rs) low (suc k) (suc l) x s t up a b h g = ap suc (same_place rs r.end k l x s t up.2 a b h g)

first_once : (xs : List PageKey) (k : PageKey) (i j : ℕ) → IsFirstPage xs k i → IsFirstPage xs k j → i ≡ j
first_once [] k i j f g = absurd f
first_once (x ∷ xs) k zero zero f g = refl
first_once (x ∷ xs) k zero (suc j) f g = absurd (false≢true (sym g.0 ∙ f))
first_once (x ∷ xs) k (suc i) zero f g = absurd (false≢true (sym f.0 ∙ g))
first_once (x ∷ xs) k (suc i) (suc j) f g = ap suc (first_once xs k i j f.1 g.1)

module _ (v : PlacesValue) (block location : ℕ) (s t : LocationSlot) (a : IsSlot v block location s) (b : IsSlot v block location t) where
  same_page_place : a.number.page ≡ b.number.page
  same_page_place = first_once v.keys (page_key block (location / 4096)) a.number.page b.number.page a.number.of_page b.number.of_page

  same_stretches : a.number.stretches ≡ b.number.stretches
  same_stretches = same_Some a.number.stretches b.number.stretches (sym a.number.there ∙ (ap (slice_get v.pages) same_page_place ∙ b.number.there))

  ascending : Ascending 0 b.number.stretches
  ascending =
      subst (λ (l : List Stretch). Ascending 0 l)
      (found_got v.keys v.pages (page_key block (location / 4096)) b.number.page b.number.stretches b.number.of_page b.number.there) b.ordered

  same_number_place : a.number.place ≡ b.number.place
  same_number_place =
      same_place b.number.stretches 0 a.number.place b.number.place (location % 4096) a.stretch b.stretch ascending
      (ap (λ l. slice_get l a.number.place) (sym same_stretches) ∙ a.number.at) b.number.at a.among.has b.among.has

  same_stretch : a.stretch ≡ b.stretch
  same_stretch =
      same_Some a.stretch b.stretch (sym a.number.at ∙ (ap (λ l. slice_get l a.number.place) same_stretches ∙ (ap (slice_get b.number.stretches) same_number_place ∙ b.number.at)))

  same_number : s.number ≡ t.number
  same_number =
      a.number.is ∙ (ap (λ p. stretches_before v.pages p + a.number.place) same_page_place
      ∙ (ap (λ p. stretches_before v.pages b.number.page + p) same_number_place ∙ sym b.number.is))

  same_start : s.start ≡ t.start
  same_start = a.start ∙ (ap (λ (x : Stretch). location / 4096 * 4096 + x.start) same_stretch ∙ sym b.start)

  same_end : s.end ≡ t.end
  same_end = a.end ∙ (ap (λ (x : Stretch). location / 4096 * 4096 + x.end) same_stretch ∙ sym b.end)

  one_slot : s ≡ t
  one_slot =
      ap (λ n. record { number = n; start = s.start; end = s.end }) same_number
      ∙ (ap (λ n. record { number = t.number; start = n; end = s.end }) same_start ∙ ap (λ n. record { number = t.number; start = t.start; end = n }) same_end)

slot_within : (v : PlacesValue) (block location : ℕ) (s : LocationSlot) → IsSlot v block location s → (s.start ≤ location) × (location < s.end)
slot_within v block location s a =
    let from : a.stretch.start ≤ location % 4096 = a.among.has.0 in
    let below : location % 4096 < a.stretch.end = a.among.has.1 in
    let start : s.start ≡ location / 4096 * 4096 + a.stretch.start = a.start in
    let end : s.end ≡ location / 4096 * 4096 + a.stretch.end = a.end in
    (omega arith, omega arith)

-- the slot of a location of a run that is cut is within it
module _ (v : PlacesValue) (block start end location : ℕ) (s : LocationSlot) (cut : IsRunCut v block start end) (from : start ≤ location) (below : location < end) (a : IsSlot v block location s) where
  in_part : (x : ℕ) → Has a.stretch x → (start - location / 4096 * 4096 ≤ x) × (x < min 4096 (end - location / 4096 * 4096))
  in_part x has = (cut (location / 4096)).whole a.stretch a.among.among (location % 4096) x a.among.has has (omega arith) (omega arith)

  begins : start ≤ s.start
  begins =
      let lo : a.stretch.start ≤ location % 4096 = a.among.has.0 in
      let hi : location % 4096 < a.stretch.end = a.among.has.1 in
      let w : start - location / 4096 * 4096 ≤ a.stretch.start = (in_part a.stretch.start (omega arith, omega arith)).0 in
      let is : s.start ≡ location / 4096 * 4096 + a.stretch.start = a.start in
      omega arith

  ends_by : (a.stretch.end ≤ 4096) × (s.end ≤ end)
  ends_by =
      let lo : a.stretch.start ≤ location % 4096 = a.among.has.0 in
      let hi : location % 4096 < a.stretch.end = a.among.has.1 in
      let w : a.stretch.end - 1 < min 4096 (end - location / 4096 * 4096) = (in_part (a.stretch.end - 1) (omega arith, omega arith)).1 in
      let is : s.end ≡ location / 4096 * 4096 + a.stretch.end = a.end in
      (omega arith, omega arith)

  throughout : (x : ℕ) → s.start ≤ x → x < s.end → IsSlot v block x s
  throughout x lo hi =
      let is_start : s.start ≡ location / 4096 * 4096 + a.stretch.start = a.start in
      let is_end : s.end ≡ location / 4096 * 4096 + a.stretch.end = a.end in
      let small : a.stretch.end ≤ 4096 = ends_by.0 in
      let page : location / 4096 ≡ x / 4096 = omega arith in
      record {
        stretch = a.stretch;
        among = record { among = subst (λ (p : ℕ). In (at v (page_key block p)) a.stretch) page a.among.among; has = (omega arith, omega arith) };
        ordered = subst (λ (p : ℕ). Ascending 0 (at v (page_key block p))) page a.ordered;
        number = subst (λ (p : ℕ). IsStretchNumber v (page_key block p) a.stretch s.number) page a.number;
        start = a.start ∙ ap (λ p. p * 4096 + a.stretch.start) page;
        end = a.end ∙ ap (λ p. p * 4096 + a.stretch.end) page;
      }

slot_counted : (v : PlacesValue) (block location : ℕ) (s : LocationSlot) → IsSlot v block location s → s.number < stretch_count v
slot_counted v block location s a =
    let all : stretches_before v.pages a.number.page + length a.number.stretches ≤ sum_by length v.pages = below_all v.pages a.number.page a.number.stretches a.number.there in
    let lt : a.number.place < length a.number.stretches = slice_get_within a.number.stretches a.number.place a.stretch a.number.at in
    let is : s.number ≡ stretches_before v.pages a.number.page + a.number.place = a.number.is in
    omega arith

same_slot : (v : PlacesValue) (block other x y : ℕ) (s t : LocationSlot) → IsSlot v block x s → IsSlot v other y t → s.number ≡ t.number → (block ≡ other) × (s ≡ t)
same_slot v block other x y s t a b e =
    let d = numbers_are_distinct v (page_key block (x / 4096)) (page_key other (y / 4096)) a.stretch b.stretch s.number a.number
    (subst (λ (n : ℕ). IsStretchNumber v (page_key other (y / 4096)) b.stretch n) (sym e) b.number) in
    let page : x / 4096 ≡ y / 4096 = ap (λ (k : PageKey). k.page) d.0 in
    let start : s.start ≡ t.start = a.start ∙ (ap (λ p. p * 4096 + a.stretch.start) page ∙ (ap (λ (z : Stretch). y / 4096 * 4096 + z.start) d.1 ∙ sym b.start)) in
    let end : s.end ≡ t.end = a.end ∙ (ap (λ p. p * 4096 + a.stretch.end) page ∙ (ap (λ (z : Stretch). y / 4096 * 4096 + z.end) d.1 ∙ sym b.end)) in (
      ap (λ (k : PageKey). k.block) d.0,
      ap (λ n. record { number = n; start = s.start; end = s.end }) e
          ∙ (ap (λ n. record { number = t.number; start = n; end = s.end }) start ∙ ap (λ n. record { number = t.number; start = t.start; end = n }) end),
    )

pub slots_are_one : SlotsAreOne
slots_are_one = record {
  within = slot_within;
  counted = slot_counted;
  one = λ v block location s t a b. one_slot v block location s t a b;
  same = same_slot;
  cut = λ v block start end location s cut from below a.
      (begins v block start end location s cut from below a, (ends_by v block start end location s cut from below a).1, throughout v block start end location s cut from below a);
}
