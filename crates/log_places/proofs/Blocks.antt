-- The slots of a block, page after page.
use Rattle.log_places.proofs.Common.{◌≡◌, ◌<◌, ◌≤◌, ◌+◌, ◌-◌, ◌*◌, ◌/◌, ◌==◌, ◌++◌, ◌∷◌, ◌∙◌, ℕ, zero, suc, Bool, true, false, cond, List, [], length, drop, get_or, slice_get, append-nil, Some, None, inl, inr, refl, sym, ap, subst, arith, sum_by, eqb-true, eq-eqb, append_assoc, length-drop, same_Some, slice_get_within, In, got_in, in_append_left, in_append_right, in_append_cases, none_some, in_got, Stretch, PageKey, Region, LocationSlot, Ascending, at, found, page_key, same_page, IsFirstPage, PlacesValue, firsts_from, stretch_count, stretches_before, IsSlot, AreDifferent, AreMarked, slots_of_page, slots_on, slots_of_block, next_page, SlotsDiffer}
use Rattle.log_places.proofs.Marking.{ascending_in}
use Rattle.log_places.proofs.Finding.{is_not, places, same_keys, same_itself}
use Rattle.log_places.proofs.Numbering.{below_all, found_got, item_got, number_is}

-- PAGE AFTER PAGE

-- the next page of the block, and those behind it
pub record IsNextPage (block k n : ℕ) (ks : List PageKey) (ps : List (List Stretch)) (i : ℕ) : Type 0 where
  pub place : ℕ
  pub is : i ≡ k + place
  pub key : PageKey
  pub of_block : key.block ≡ block
  pub at : slice_get ks place ≡ Some key
  pub page : List Stretch
  pub there : slice_get ps place ≡ Some page
  pub slots : slots_on block n ks ps ≡ slots_of_page (key.page * 4096) (n + stretches_before ps place) page ++ slots_on block (n + stretches_before ps (place + 1)) (drop (place + 1) ks) (drop (place + 1) ps)

next_step : (block k n i : ℕ) (x : PageKey) (xs : List PageKey) (p : List Stretch) (ps : List (List Stretch)) (b : Bool) → (x.block == block) ≡ b
    → (next_page block (k + 1) xs ≡ Some i → IsNextPage block (k + 1) (n + length p) xs ps i) → cond b (Some k) (next_page block (k + 1) xs) ≡ Some i → IsNextPage block k n (x ∷ xs) (p ∷ ps) i
next_step block k n i x xs p ps true e more h =
    let same : k ≡ i = same_Some k i h in
    record {
      place = 0;
      is = omega arith;
      key = x;
      of_block = eqb-true x.block block e;
      at = refl;
      page = p;
      there = refl;
      slots = ap (λ b. cond b (slots_of_page (x.page * 4096) n p ++ slots_on block (n + length p) xs ps) (slots_on block (n + length p) xs ps)) e
          ∙ (ap (λ m. slots_of_page (x.page * 4096) m p ++ slots_on block (n + length p) xs ps) (let z : n ≡ n + 0 = omega arith in z)
          ∙ ap (λ m. slots_of_page (x.page * 4096) (n + 0) p ++ slots_on block m xs ps) (let z : n + length p ≡ n + (length p + 0) = omega arith in z));
    }
next_step block k n i x xs p ps false e more h =
    let m = more h in
    let s : suc m.place + 1 ≡ suc (m.place + 1) = omega arith in
    record {
      place = suc m.place;
      is = (let h = m.is in omega (arith, h));
      key = m.key;
      of_block = m.of_block;
      at = m.at;
      page = m.page;
      there = m.there;
      slots = ap (λ b. cond b (slots_of_page (x.page * 4096) n p ++ slots_on block (n + length p) xs ps) (slots_on block (n + length p) xs ps)) e
          ∙ (m.slots
          ∙ (ap (λ a. slots_of_page (m.key.page * 4096) a m.page ++ slots_on block (n + length p + stretches_before ps (m.place + 1)) (drop (m.place + 1) xs) (drop (m.place + 1) ps))
          (let z : n + length p + stretches_before ps m.place ≡ n + (length p + stretches_before ps m.place) = omega arith in z)
          ∙ (ap (λ a. slots_of_page (m.key.page * 4096) (n + stretches_before (p ∷ ps) (suc m.place)) m.page ++ slots_on block a (drop (m.place + 1) xs) (drop (m.place + 1) ps))
          (let z : n + length p + stretches_before ps (m.place + 1) ≡ n + (length p + stretches_before ps (m.place + 1)) = omega arith in z)
          ∙ ap (λ a. slots_of_page (m.key.page * 4096) (n + stretches_before (p ∷ ps) (suc m.place)) m.page ++ slots_on block (n + stretches_before (p ∷ ps) a) (drop a (x ∷ xs)) (drop a (p ∷ ps))) (sym s))));
    }

next_is : (block k n i : ℕ) (ks : List PageKey) (ps : List (List Stretch)) → length ks ≡ length ps → next_page block k ks ≡ Some i → IsNextPage block k n ks ps i
next_is block k n i [] ps size h = none_some h
next_is block k n i (x ∷ xs) [] size h = absurd (omega arith)
next_is block k n i (x ∷ xs) (p ∷ ps) size h = next_step block k n i x xs p ps (x.block == block) refl (next_is block (k + 1) (n + length p) i xs ps (omega arith)) h

none_step : (block n k : ℕ) (x : PageKey) (xs : List PageKey) (p : List Stretch) (ps : List (List Stretch)) (b : Bool) → (next_page block (k + 1) xs ≡ None → slots_on block (n + length p) xs ps ≡ [])
    → cond b (Some k) (next_page block (k + 1) xs) ≡ None → cond b (slots_of_page (x.page * 4096) n p ++ slots_on block (n + length p) xs ps) (slots_on block (n + length p) xs ps) ≡ []
none_step block n k x xs p ps true more h = none_some (sym h)
none_step block n k x xs p ps false more h = more h

none_on : (block k n : ℕ) (ks : List PageKey) (ps : List (List Stretch)) → next_page block k ks ≡ None → slots_on block n ks ps ≡ []
none_on block k n [] ps h = refl
none_on block k n (x ∷ xs) [] h = refl
none_on block k n (x ∷ xs) (p ∷ ps) h = none_step block n k x xs p ps (x.block == block) (none_on block (k + 1) (n + length p) xs ps) h

-- WITHIN THE LISTS

none_left : {A : Type 0} (i : ℕ) → ◌≡◌ {A = List A} (drop i []) []
none_left zero = refl
none_left (suc i) = refl

drop_drop : {A : Type 0} (xs : List A) (i j : ℕ) → drop i (drop j xs) ≡ drop (j + i) xs
drop_drop [] i j = ap (drop i) (none_left j) ∙ (none_left i ∙ sym (none_left (j + i)))
drop_drop (x ∷ xs) i zero = ap (λ n. drop n (x ∷ xs)) (let e : i ≡ 0 + i = omega arith in e)
drop_drop (x ∷ xs) i (suc j) = drop_drop xs i j ∙ ap (λ n. drop n (x ∷ xs)) (let e : suc (j + i) ≡ suc j + i = omega arith in e)

none_there : {A : Type 0} (i : ℕ) → slice_get {X = A} [] i ≡ None
none_there zero = refl
none_there (suc i) = refl

got_drop : {A : Type 0} (xs : List A) (i j : ℕ) → slice_get (drop j xs) i ≡ slice_get xs (j + i)
got_drop [] i zero = ap (slice_get []) (let e : i ≡ 0 + i = omega arith in e)
got_drop [] i (suc j) = none_there i ∙ sym (none_there (suc j + i))
got_drop (x ∷ xs) i zero = ap (slice_get (x ∷ xs)) (let e : i ≡ 0 + i = omega arith in e)
got_drop (x ∷ xs) i (suc j) = got_drop xs i j ∙ ap (slice_get (x ∷ xs)) (let e : suc (j + i) ≡ suc j + i = omega arith in e)

none_before : (i : ℕ) → stretches_before [] i ≡ 0
none_before zero = refl
none_before (suc i) = refl

before_drop : (ps : List (List Stretch)) (j i : ℕ) → stretches_before ps j + stretches_before (drop j ps) i ≡ stretches_before ps (j + i)
before_drop ps zero i = (let z : 0 + stretches_before ps i ≡ stretches_before ps i = omega arith in z) ∙ ap (stretches_before ps) (let e : i ≡ 0 + i = omega arith in e)
before_drop [] (suc j) i = (let e = none_before i in let z : 0 + stretches_before [] i ≡ stretches_before [] i = omega arith in z ∙ e) ∙ sym (none_before (suc j + i))
before_drop (p ∷ ps) (suc j) i =
    let h = before_drop ps j i in
    let e : suc (j + i) ≡ suc j + i = omega arith in
    (let z : length p + stretches_before ps j + stretches_before (drop j ps) i ≡ length p + stretches_before ps (j + i) = omega (arith, h) in z) ∙ ap (stretches_before (p ∷ ps)) e

-- ONE STEP OF THE CODE

pub record IsStep (v : PlacesValue) (block k i : ℕ) : Type 0 where
  pub key : PageKey
  pub at : slice_get v.keys i ≡ Some key
  pub of_block : key.block ≡ block
  pub page : List Stretch
  pub there : slice_get v.pages i ≡ Some page
  pub slots : slots_on block (stretches_before v.pages k) (drop k v.keys) (drop k v.pages)
      ≡ slots_of_page (key.page * 4096) (stretches_before v.pages i) page ++ slots_on block (stretches_before v.pages (i + 1)) (drop (i + 1) v.keys) (drop (i + 1) v.pages)

pub step_is : (v : PlacesValue) (block k i : ℕ) → length v.keys ≡ length v.pages → next_page block k (drop k v.keys) ≡ Some i → IsStep v block k i
step_is v block k i size h =
    let a : length (drop k v.keys) ≡ length v.keys - k = length-drop k v.keys in
    let b : length (drop k v.pages) ≡ length v.pages - k = length-drop k v.pages in
    let m = next_is block k (stretches_before v.pages k) i (drop k v.keys) (drop k v.pages) (omega arith) h in
    let is : k + m.place ≡ i = sym m.is in
    let is' : k + (m.place + 1) ≡ i + 1 = omega (arith, is) in
    let here = before_drop v.pages k m.place ∙ ap (stretches_before v.pages) is in
    let next = before_drop v.pages k (m.place + 1) ∙ ap (stretches_before v.pages) is' in
    let rest = drop_drop v.keys (m.place + 1) k ∙ ap (λ n. drop n v.keys) is' in
    let rest' = drop_drop v.pages (m.place + 1) k ∙ ap (λ n. drop n v.pages) is' in
    record {
      key = m.key;
      at = ap (slice_get v.keys) (sym is) ∙ (sym (got_drop v.keys m.place k) ∙ m.at);
      of_block = m.of_block;
      page = m.page;
      there = ap (slice_get v.pages) (sym is) ∙ (sym (got_drop v.pages m.place k) ∙ m.there);
      slots = m.slots
          ∙ (ap (λ n. slots_of_page (m.key.page * 4096) n m.page ++ slots_on block (stretches_before v.pages k + stretches_before (drop k v.pages) (m.place + 1)) (drop (m.place + 1) (drop k v.keys)) (drop (m.place + 1) (drop k v.pages))) here
          ∙ (ap (λ n. slots_of_page (m.key.page * 4096) (stretches_before v.pages i) m.page ++ slots_on block n (drop (m.place + 1) (drop k v.keys)) (drop (m.place + 1) (drop k v.pages))) next
          ∙ (ap (λ ks. slots_of_page (m.key.page * 4096) (stretches_before v.pages i) m.page ++ slots_on block (stretches_before v.pages (i + 1)) ks (drop (m.place + 1) (drop k v.pages))) rest
          ∙ ap (λ ps. slots_of_page (m.key.page * 4096) (stretches_before v.pages i) m.page ++ slots_on block (stretches_before v.pages (i + 1)) (drop (i + 1) v.keys) ps) rest')));
    }

-- one page more
pub page_added : (v : PlacesValue) (block k i : ℕ) (old new : List LocationSlot) (step : IsStep v block k i) → new ≡ old ++ slots_of_page (step.key.page * 4096) (stretches_before v.pages i) step.page
    → old ++ slots_on block (stretches_before v.pages k) (drop k v.keys) (drop k v.pages) ≡ slots_of_block v block
    → new ++ slots_on block (stretches_before v.pages (i + 1)) (drop (i + 1) v.keys) (drop (i + 1) v.pages) ≡ slots_of_block v block
page_added v block k i old new step is all =
    let rest = slots_on block (stretches_before v.pages (i + 1)) (drop (i + 1) v.keys) (drop (i + 1) v.pages) in
    let page = slots_of_page (step.key.page * 4096) (stretches_before v.pages i) step.page in
    ap (λ l. l ++ rest) is ∙ (append_assoc old page rest ∙ (ap (λ l. old ++ l) (sym step.slots) ∙ all))

pub all_added : (v : PlacesValue) (block k : ℕ) (slots : List LocationSlot) → next_page block k (drop k v.keys) ≡ None
    → slots ++ slots_on block (stretches_before v.pages k) (drop k v.keys) (drop k v.pages) ≡ slots_of_block v block → slots ≡ slots_of_block v block
all_added v block k slots h all =
    sym (append-nil slots) ∙ (ap (λ l. slots ++ l) (sym (none_on block k (stretches_before v.pages k) (drop k v.keys) (drop k v.pages) h)) ∙ all)

-- the numbers of a page's stretches are those of cells
pub page_counted : (v : PlacesValue) (xs : List PageKey) (ps : List (List Stretch)) (fs : List ℕ) (i first count : ℕ) (item ss : List Stretch) → places xs ps ≡ v → fs ≡ firsts_from 0 ps → count ≡ sum_by length ps
    → i < length v.pages → first ≡ get_or fs i first → item ≡ get_or ps i item → ss ≡ item → (first ≡ stretches_before ps i) × (slice_get ps i ≡ Some ss) × (first + length ss ≤ count)
page_counted v xs ps fs i first count item ss view are counted lt is_first is_item is =
    let n = number_is v xs ps fs i first ss item view are lt is_first is_item is in
    let got = item_got v xs ps fs i first ss item view are lt is_first is_item is in
    let b = below_all ps i ss got in
    (n, got, omega (arith, n, b, counted))

-- THE SLOTS OF A PAGE

pub record IsOnPage (base n : ℕ) (ss : List Stretch) (t : LocationSlot) : Type 0 where
  pub place : ℕ
  pub stretch : Stretch
  pub at : slice_get ss place ≡ Some stretch
  pub number : t.number ≡ n + place
  pub start : t.start ≡ base + stretch.start
  pub end : t.end ≡ base + stretch.end

page_in : (base n : ℕ) (ss : List Stretch) (t : LocationSlot) → In (slots_of_page base n ss) t → IsOnPage base n ss t
page_in base n [] t i = absurd i
page_in base n (s ∷ ss) t (inl e) = record {
  place = 0;
  stretch = s;
  at = refl;
  number = sym (ap (λ (x : LocationSlot). x.number) e) ∙ (let z : n ≡ n + 0 = omega arith in z);
  start = sym (ap (λ (x : LocationSlot). x.start) e);
  end = sym (ap (λ (x : LocationSlot). x.end) e);
}
page_in base n (s ∷ ss) t (inr i) =
    let m = page_in base (n + 1) ss t i in
    record {
      place = suc m.place;
      stretch = m.stretch;
      at = m.at;
      number = m.number ∙ (let z : n + 1 + m.place ≡ n + suc m.place = omega arith in z);
      start = m.start;
      end = m.end;
    }

in_page : (base n : ℕ) (ss : List Stretch) (place : ℕ) (s : Stretch) → slice_get ss place ≡ Some s → In (slots_of_page base n ss) (record { number = n + place; start = base + s.start; end = base + s.end })
in_page base n [] place s e = none_some (sym (none_there place) ∙ e)
in_page base n (r ∷ rs) zero s e =
    inl
    (ap (λ m. record { number = m; start = base + r.start; end = base + r.end }) (let z : n ≡ n + 0 = omega arith in z)
    ∙ ap (λ (x : Stretch). record { number = n + 0; start = base + x.start; end = base + x.end }) (same_Some r s e))
in_page base n (r ∷ rs) (suc k) s e =
    inr
    (subst (λ m. In (slots_of_page base (n + 1) rs) (record { number = m; start = base + s.start; end = base + s.end })) (let z : n + 1 + k ≡ n + suc k = omega arith in z)
    (in_page base (n + 1) rs k s e))

-- THE SLOTS OF A BLOCK

pub record IsOnBlock (block n : ℕ) (ks : List PageKey) (ps : List (List Stretch)) (t : LocationSlot) : Type 0 where
  pub page : ℕ
  pub key : PageKey
  pub at : slice_get ks page ≡ Some key
  pub of_block : key.block ≡ block
  pub stretches : List Stretch
  pub there : slice_get ps page ≡ Some stretches
  pub on : IsOnPage (key.page * 4096) (n + stretches_before ps page) stretches t

on_later : (block n : ℕ) (x : PageKey) (xs : List PageKey) (p : List Stretch) (ps : List (List Stretch)) (t : LocationSlot) → IsOnBlock block (n + length p) xs ps t → IsOnBlock block n (x ∷ xs) (p ∷ ps) t
on_later block n x xs p ps t m = record {
  page = suc m.page;
  key = m.key;
  at = m.at;
  of_block = m.of_block;
  stretches = m.stretches;
  there = m.there;
  on = subst (λ a. IsOnPage (m.key.page * 4096) a m.stretches t) (let z : n + length p + stretches_before ps m.page ≡ n + (length p + stretches_before ps m.page) = omega arith in z) m.on;
}

on_step : (block n : ℕ) (x : PageKey) (xs : List PageKey) (p : List Stretch) (ps : List (List Stretch)) (t : LocationSlot) → (In (slots_on block (n + length p) xs ps) t → IsOnBlock block (n + length p) xs ps t)
    → (b : Bool) → (x.block == block) ≡ b → In (cond b (slots_of_page (x.page * 4096) n p ++ slots_on block (n + length p) xs ps) (slots_on block (n + length p) xs ps)) t → IsOnBlock block n (x ∷ xs) (p ∷ ps) t
on_step block n x xs p ps t more true e i =
    elim (in_append_cases (slots_of_page (x.page * 4096) n p) (slots_on block (n + length p) xs ps) t i) [
      | inl j ↦ record {
        page = 0;
        key = x;
        at = refl;
        of_block = eqb-true x.block block e;
        stretches = p;
        there = refl;
        on = subst (λ a. IsOnPage (x.page * 4096) a p t) (let z : n ≡ n + 0 = omega arith in z) (page_in (x.page * 4096) n p t j);
      }
      | inr j ↦ on_later block n x xs p ps t (more j)
    ]
on_step block n x xs p ps t more false e i = on_later block n x xs p ps t (more i)

on_block : (block n : ℕ) (ks : List PageKey) (ps : List (List Stretch)) (t : LocationSlot) → In (slots_on block n ks ps) t → IsOnBlock block n ks ps t
on_block block n [] ps t i = absurd i
on_block block n (x ∷ xs) [] t i = absurd i
on_block block n (x ∷ xs) (p ∷ ps) t i = on_step block n x xs p ps t (on_block block (n + length p) xs ps t) (x.block == block) refl i

in_later : (block n : ℕ) (x : PageKey) (xs : List PageKey) (p : List Stretch) (ps : List (List Stretch)) (t : LocationSlot) (b : Bool) → In (slots_on block (n + length p) xs ps) t
    → In (cond b (slots_of_page (x.page * 4096) n p ++ slots_on block (n + length p) xs ps) (slots_on block (n + length p) xs ps)) t
in_later block n x xs p ps t true i = in_append_right (slots_of_page (x.page * 4096) n p) (slots_on block (n + length p) xs ps) t i
in_later block n x xs p ps t false i = i

in_block : (block n : ℕ) (ks : List PageKey) (ps : List (List Stretch)) (page : ℕ) (key : PageKey) (ss : List Stretch) (t : LocationSlot) → slice_get ks page ≡ Some key → key.block ≡ block → slice_get ps page ≡ Some ss
    → In (slots_of_page (key.page * 4096) (n + stretches_before ps page) ss) t → In (slots_on block n ks ps) t
in_block block n [] ps page key ss t at of_block there i = none_some (sym (none_there page) ∙ at)
in_block block n (x ∷ xs) [] page key ss t at of_block there i = none_some (sym (none_there page) ∙ there)
in_block block n (x ∷ xs) (p ∷ ps) zero key ss t at of_block there i =
    let same = same_Some x key at in
    let mine : (x.block == block) ≡ true = eq-eqb x.block block (ap (λ (k : PageKey). k.block) same ∙ of_block) in
    subst (λ b. In (cond b (slots_of_page (x.page * 4096) n p ++ slots_on block (n + length p) xs ps) (slots_on block (n + length p) xs ps)) t) (sym mine)
    (in_append_left (slots_of_page (x.page * 4096) n p) (slots_on block (n + length p) xs ps) t
    (subst (λ (k : PageKey). In (slots_of_page (k.page * 4096) n p) t) (sym same)
    (subst (λ (l : List Stretch). In (slots_of_page (key.page * 4096) n l) t) (sym (same_Some p ss there))
    (subst (λ a. In (slots_of_page (key.page * 4096) a ss) t) (let z : n + 0 ≡ n = omega arith in z) i))))
in_block block n (x ∷ xs) (p ∷ ps) (suc page) key ss t at of_block there i =
    in_later block n x xs p ps t (x.block == block)
    (in_block block (n + length p) xs ps page key ss t at of_block there
    (subst (λ a. In (slots_of_page (key.page * 4096) a ss) t) (let z : n + (length p + stretches_before ps page) ≡ n + length p + stretches_before ps page = omega arith in z) i))

-- NO TWO HAVE ONE NUMBER

page_from : (base n : ℕ) (ss : List Stretch) (t : LocationSlot) → In (slots_of_page base n ss) t → (n ≤ t.number) × (t.number < n + length ss)
page_from base n ss t i =
    let m = page_in base n ss t i in
    let lt = slice_get_within ss m.place m.stretch m.at in
    let e = m.number in
    (omega (arith, e), omega (arith, e, lt))

on_from : (block n : ℕ) (ks : List PageKey) (ps : List (List Stretch)) (t : LocationSlot) → In (slots_on block n ks ps) t → n ≤ t.number
on_from block n ks ps t i = let m = on_block block n ks ps t i in let e = m.on.number in omega (arith, e)

page_differ : (base n : ℕ) (ss : List Stretch) → SlotsDiffer (slots_of_page base n ss)
page_differ base n [] = tt
page_differ base n (s ∷ ss) = (λ t i same. let l = (page_from base (n + 1) ss t i).0 in omega (arith, l, same), page_differ base (n + 1) ss)

differ_append : (xs ys : List LocationSlot) → SlotsDiffer xs → SlotsDiffer ys → ((s t : LocationSlot) → In xs s → In ys t → s.number ≡ t.number → ⊥) → SlotsDiffer (xs ++ ys)
differ_append [] ys d e apart = e
differ_append (x ∷ xs) ys d e apart = (
  λ t i same. elim (in_append_cases xs ys t i) [
    | inl j ↦ d.0 t j same
    | inr j ↦ apart x t (inl refl) j same
  ],
  differ_append xs ys d.1 e (λ s t i j. apart s t (inr i) j),
)

differ_step : (block n : ℕ) (x : PageKey) (xs : List PageKey) (p : List Stretch) (ps : List (List Stretch)) (b : Bool) → SlotsDiffer (slots_on block (n + length p) xs ps)
    → SlotsDiffer (cond b (slots_of_page (x.page * 4096) n p ++ slots_on block (n + length p) xs ps) (slots_on block (n + length p) xs ps))
differ_step block n x xs p ps true more =
    differ_append (slots_of_page (x.page * 4096) n p) (slots_on block (n + length p) xs ps) (page_differ (x.page * 4096) n p) more
    (λ s t i j same.
    let a = (page_from (x.page * 4096) n p s i).1 in
    let b = on_from block (n + length p) xs ps t j in
    omega (arith, a, b, same))
differ_step block n x xs p ps false more = more

differ_on : (block n : ℕ) (ks : List PageKey) (ps : List (List Stretch)) → SlotsDiffer (slots_on block n ks ps)
differ_on block n [] ps = tt
differ_on block n (x ∷ xs) [] = tt
differ_on block n (x ∷ xs) (p ∷ ps) = differ_step block n x xs p ps (x.block == block) (differ_on block (n + length p) xs ps)

pub slots_differ : (v : PlacesValue) (block : ℕ) → SlotsDiffer (slots_of_block v block)
slots_differ v block = differ_on block 0 v.keys v.pages

-- their numbers are those of cells
pub slots_are_counted : (v : PlacesValue) (block : ℕ) (t : LocationSlot) → In (slots_of_block v block) t → t.number < stretch_count v
slots_are_counted v block t i =
    let m = on_block block 0 v.keys v.pages t i in
    let lt = slice_get_within m.stretches m.on.place m.on.stretch m.on.at in
    let all = below_all v.pages m.page m.stretches m.there in
    let e = m.on.number in
    omega (arith, e, lt, all)

-- THEY ARE THOSE OF THE BLOCK'S LOCATIONS

first_of : (ks : List PageKey) (i : ℕ) (k : PageKey) → AreDifferent ks → slice_get ks i ≡ Some k → IsFirstPage ks k i
first_of [] i k d e = none_some (sym (none_there i) ∙ e)
first_of (x ∷ xs) zero k d e = subst (λ (y : PageKey). same_page y x ≡ true) (same_Some x k e) (same_itself x)
first_of (x ∷ xs) (suc i) k d e = (
  is_not (same_page k x) (λ same. d.0 (subst (λ (y : PageKey). In xs y) (same_keys k x same) (got_in xs i k e))),
  first_of xs i k d.1 e,
)

got_first : (ks : List PageKey) (i : ℕ) (k : PageKey) → IsFirstPage ks k i → slice_get ks i ≡ Some k
got_first [] i k f = absurd f
got_first (x ∷ xs) zero k f = ap (λ (y : PageKey). Some y) (sym (same_keys k x f))
got_first (x ∷ xs) (suc i) k f = got_first xs i k f.1

-- stretches are in order and within their pages
pub record AreWhole (v : PlacesValue) : Type 0 where
  pub different : AreDifferent v.keys
  pub ordered : (k : PageKey) → Ascending 0 (at v k)
  pub within : (k : PageKey) (s : Stretch) → In (at v k) s → s.end ≤ 4096

module _ (v : PlacesValue) (block : ℕ) (whole : AreWhole v) where
  pub slot_each : (t : LocationSlot) → In (slots_of_block v block) t → (x : ℕ) → t.start ≤ x → x < t.end → IsSlot v block x t
  slot_each t i x low high =
      let m = on_block block 0 v.keys v.pages t i in
      let s = m.on.stretch in
      let first = first_of v.keys m.page m.key whole.different m.at in
      let is : at v m.key ≡ m.stretches = found_got v.keys v.pages m.key m.page m.stretches first m.there in
      let among : In (at v m.key) s = subst (λ (l : List Stretch). In l s) (sym is) (got_in m.stretches m.on.place s m.on.at) in
      let le : s.end ≤ 4096 = whole.within m.key s among in
      let start : t.start ≡ m.key.page * 4096 + s.start = m.on.start in
      let end : t.end ≡ m.key.page * 4096 + s.end = m.on.end in
      let page : m.key.page ≡ x / 4096 = omega arith in
      let same : m.key ≡ page_key block (x / 4096) = ap (λ (b : ℕ). page_key b m.key.page) m.of_block ∙ ap (λ (p : ℕ). page_key block p) page in
      record {
        stretch = s;
        among = record { among = subst (λ (k : PageKey). In (at v k) s) same among; has = (omega arith, omega arith) };
        ordered = whole.ordered (page_key block (x / 4096));
        number = record {
          page = m.page;
          place = m.on.place;
          stretches = m.stretches;
          of_page = subst (λ (k : PageKey). IsFirstPage v.keys k m.page) same first;
          there = m.there;
          at = m.on.at;
          is = (let e = m.on.number in omega (arith, e));
        };
        start = m.on.start ∙ ap (λ p. p * 4096 + s.start) page;
        end = m.on.end ∙ ap (λ p. p * 4096 + s.end) page;
      }

  pub slot_some : (t : LocationSlot) → In (slots_of_block v block) t → t.start < t.end
  slot_some t i =
      let m = on_block block 0 v.keys v.pages t i in
      let s = m.on.stretch in
      let first = first_of v.keys m.page m.key whole.different m.at in
      let is : at v m.key ≡ m.stretches = found_got v.keys v.pages m.key m.page m.stretches first m.there in
      let among : In (at v m.key) s = subst (λ (l : List Stretch). In l s) (sym is) (got_in m.stretches m.on.place s m.on.at) in
      let lt : s.start < s.end = (ascending_in 0 (at v m.key) s (whole.ordered m.key) among).1 in
      let start : t.start ≡ m.key.page * 4096 + s.start = m.on.start in
      let end : t.end ≡ m.key.page * 4096 + s.end = m.on.end in
      omega arith

pub slot_in : (v : PlacesValue) (block x : ℕ) (t : LocationSlot) → IsSlot v block x t → In (slots_of_block v block) t
slot_in v block x t a =
    let key = page_key block (x / 4096) in
    let n = a.number in
    let before = stretches_before v.pages n.page in
    let i = in_page (key.page * 4096) (0 + before) n.stretches n.place a.stretch n.at in
    let is : t.number ≡ 0 + before + n.place = (let e = n.is in omega (arith, e)) in
    in_block block 0 v.keys v.pages n.page key n.stretches t (got_first v.keys n.page key n.of_page) refl n.there
    (subst (λ (y : LocationSlot). In (slots_of_page (key.page * 4096) (0 + before) n.stretches) y)
    (ap (λ m. record { number = m; start = key.page * 4096 + a.stretch.start; end = key.page * 4096 + a.stretch.end }) (sym is)
    ∙ (ap (λ m. record { number = t.number; start = m; end = key.page * 4096 + a.stretch.end }) (sym a.start) ∙ ap (λ m. record { number = t.number; start = t.start; end = m }) (sym a.end)))
    i)

-- where regions are marked
pub marked_whole : (rs : List Region) (v : PlacesValue) → AreMarked rs v → AreWhole v
marked_whole rs v are = record { different = are.different; ordered = λ k. (are.page k).ordered; within = λ k. (are.page k).within }

-- each stretch of a page of the block has its slot
pub record HasSlotOn (block n : ℕ) (ks : List PageKey) (ps : List (List Stretch)) (k : PageKey) (s : Stretch) : Type 0 where
  pub slot : LocationSlot
  pub among : In (slots_on block n ks ps) slot
  pub start : slot.start ≡ k.page * 4096 + s.start
  pub end : slot.end ≡ k.page * 4096 + s.end

found_step : (block n : ℕ) (x : PageKey) (xs : List PageKey) (p : List Stretch) (ps : List (List Stretch)) (k : PageKey) (s : Stretch) → k.block ≡ block
    → (In (found xs ps k) s → HasSlotOn block (n + length p) xs ps k s) → (b : Bool) → same_page k x ≡ b → In (cond b p (found xs ps k)) s → HasSlotOn block n (x ∷ xs) (p ∷ ps) k s
found_step block n x xs p ps k s of_block more true e i =
    let same = same_keys k x e in
    let g = in_got p s i in
    record {
      slot = record { number = n + g.0; start = x.page * 4096 + s.start; end = x.page * 4096 + s.end };
      among = in_block block n (x ∷ xs) (p ∷ ps) 0 x p (record { number = n + g.0; start = x.page * 4096 + s.start; end = x.page * 4096 + s.end }) refl
          (ap (λ (y : PageKey). y.block) (sym same) ∙ of_block) refl
          (subst (λ a. In (slots_of_page (x.page * 4096) a p) (record { number = n + g.0; start = x.page * 4096 + s.start; end = x.page * 4096 + s.end })) (let z : n ≡ n + 0 = omega arith in z)
          (in_page (x.page * 4096) n p g.0 s g.1));
      start = ap (λ (y : PageKey). y.page * 4096 + s.start) (sym same);
      end = ap (λ (y : PageKey). y.page * 4096 + s.end) (sym same);
    }
found_step block n x xs p ps k s of_block more false e i =
    let m = more i in
    record { slot = m.slot; among = in_later block n x xs p ps m.slot (x.block == block) m.among; start = m.start; end = m.end }

pub found_on : (block n : ℕ) (ks : List PageKey) (ps : List (List Stretch)) (k : PageKey) (s : Stretch) → k.block ≡ block → In (found ks ps k) s → HasSlotOn block n ks ps k s
found_on block n [] ps k s of_block i = absurd i
found_on block n (x ∷ xs) [] k s of_block i = absurd i
found_on block n (x ∷ xs) (p ∷ ps) k s of_block i = found_step block n x xs p ps k s of_block (found_on block (n + length p) xs ps k s of_block) (same_page k x) refl i
