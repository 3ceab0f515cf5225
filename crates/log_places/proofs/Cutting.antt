-- What marking a region cuts, and what that means for accesses.
use Rattle.log_places.proofs.Common.{◌≡◌, ℕ, ◌+◌, ◌-◌, ◌*◌, ◌/◌, ◌%◌, ◌<◌, ◌≤◌, Bool, true, false, min, Result, Ok, Err, OnOk, OnErr, List, inl, inr, refl, sym, subst, arith, cases_lt, In, Stretch, PageKey, Region, marked, Ascending, AreCut, Has, at, page_key, run_start, same_page, IsRunCut, KeepsCuts, PlacesValue, MarkedAreThere, StretchesAreWhole}
use Rattle.log_places.proofs.Marking.{marked_cut, still_cut}
use Rattle.log_places.proofs.Finding.{same_keys}

-- where there are no locations, these are cut
pub nothing_cut : (ss : List Stretch) (a b : ℕ) → b ≤ a → AreCut ss a b
nothing_cut ss a b le = record {
  whole = λ s i x y hx hy la lb. absurd (omega arith);
  there = λ x la lb. absurd (omega arith);
}

pub keeps_through : (u v w : PlacesValue) → KeepsCuts u v → KeepsCuts v w → KeepsCuts u w
keeps_through u v w f g = λ k a b cut. g k a b (f k a b cut)

module _ {V E : Type 0} (old new : PlacesValue) (key : PageKey) (s e : ℕ)
    (others : (k : PageKey) → same_page k key ≡ false → at new k ≡ at old k) where
  keeps_step : (r : Result V E) → OnOk r (at new key ≡ marked s e (at old key)) → OnErr r (at new key ≡ at old key) → OnOk r (Ascending 0 (at old key))
      → (k : PageKey) (b : Bool) → same_page k key ≡ b → (c d : ℕ) → AreCut (at old k) c d → AreCut (at new k) c d
  keeps_step (Ok v) is same up k true eq c d cut =
      let here : k ≡ key = same_keys k key eq in
      let cut' : AreCut (at old key) c d = subst (λ (q : PageKey). AreCut (at old q) c d) here cut in
      subst (λ (q : PageKey). AreCut (at new q) c d) (sym here) (subst (λ (l : List Stretch). AreCut l c d) (sym is) (still_cut (at old key) s e 0 c d up cut'))
  keeps_step (Err x) is same up k true eq c d cut =
      let here : k ≡ key = same_keys k key eq in
      let cut' : AreCut (at old key) c d = subst (λ (q : PageKey). AreCut (at old q) c d) here cut in
      subst (λ (q : PageKey). AreCut (at new q) c d) (sym here) (subst (λ (l : List Stretch). AreCut l c d) (sym same) cut')
  keeps_step r is same up k false eq c d cut = subst (λ (l : List Stretch). AreCut l c d) (sym (others k eq)) cut

  pub page_keeps : (r : Result V E) → OnOk r (at new key ≡ marked s e (at old key)) → OnErr r (at new key ≡ at old key) → OnOk r (Ascending 0 (at old key)) → KeepsCuts old new
  page_keeps r is same up = λ k c d cut. keeps_step r is same up k (same_page k key) refl c d cut

  pub page_cut : (r : Result V E) → OnOk r (at new key ≡ marked s e (at old key)) → OnOk r (Ascending 0 (at old key)) → OnOk r (AreCut (at new key) s e)
  page_cut (Ok v) is up = subst (λ (l : List Stretch). AreCut l s e) (sym is) (marked_cut (at old key) s e 0 up)
  page_cut (Err x) is up = tt

-- ---- runs

abbrev pub IsPartCut : PlacesValue → ℕ → ℕ → ℕ → ℕ → Type 0
IsPartCut v block start end page = AreCut (at v (page_key block page)) (start - page * 4096) (min 4096 (end - page * 4096))

-- the pages below one are cut
abbrev pub AreCutBelow : PlacesValue → ℕ → ℕ → ℕ → ℕ → Type 0
AreCutBelow v block start end page = (p : ℕ) → p < page → AreCut (at v (page_key block p)) (start - p * 4096) (min 4096 (end - p * 4096))

pub cut_next : (v v' : PlacesValue) (block start end page : ℕ) → KeepsCuts v v' → AreCutBelow v block start end page → IsPartCut v' block start end page → AreCutBelow v' block start end (page + 1)
cut_next v v' block start end page keeps before here = λ p lt.
    elim (cases_lt p page) [
      | inl l ↦ keeps (page_key block p) (start - p * 4096) (min 4096 (end - p * 4096)) (before p l)
      | inr g ↦ let is : page ≡ p = omega arith in subst (λ (q : ℕ). IsPartCut v' block start end q) is here
    ]

pub cut_at_last : (v : PlacesValue) (block start end page : ℕ) → end ≤ page * 4096 → AreCutBelow v block start end page → IsRunCut v block start end
cut_at_last v block start end page le before = λ p.
    elim (cases_lt p page) [
      | inl l ↦ before p l
      | inr g ↦ nothing_cut (at v (page_key block p)) (start - p * 4096) (min 4096 (end - p * 4096)) (omega arith)
    ]

-- the runs before one are cut
abbrev pub RunsAreCut : PlacesValue → Region → ℕ → Type 0
RunsAreCut v r n = (i : ℕ) → i < n → IsRunCut v r.block (run_start r i) (run_start r i + r.length)

pub runs_next : (v v' : PlacesValue) (r : Region) (n start : ℕ) → KeepsCuts v v' → RunsAreCut v r n → start ≡ run_start r n → IsRunCut v' r.block start (start + r.length) → RunsAreCut v' r (n + 1)
runs_next v v' r n start keeps before at' here = λ i lt.
    elim (cases_lt i n) [
      | inl l ↦ λ page. keeps (page_key r.block page) (run_start r i - page * 4096) (min 4096 (run_start r i + r.length - page * 4096)) (before i l page)
      | inr g ↦
          let is : n ≡ i = omega arith in
          subst (λ (j : ℕ). IsRunCut v' r.block (run_start r j) (run_start r j + r.length)) is (subst (λ (x : ℕ). IsRunCut v' r.block x (x + r.length)) at' here)
    ]

-- ---- laws

pub stretches_are_whole : StretchesAreWhole
stretches_are_whole v r cut block x y s same ix iy c =
    let page = x / 4096 in
    let part = cut c.run c.there page in
    let here : In (at v (page_key r.block page)) s = subst (λ (b : ℕ). In (at v (page_key b page)) s) (sym c.of_block) ix.among in
    let from : run_start r c.run ≤ x = c.from in
    let below : x < run_start r c.run + r.length = c.below in
    let hy : Has s (y % 4096) = iy.has in
    let w = part.whole s here (x % 4096) (y % 4096) ix.has hy (omega arith) (omega arith) in
    let lo : run_start r c.run - x / 4096 * 4096 ≤ y % 4096 = w.0 in
    let hi : y % 4096 < min 4096 (run_start r c.run + r.length - x / 4096 * 4096) = w.1 in
    record { of_block = c.of_block; run = c.run; there = c.there; from = omega arith; below = omega arith }

pub marked_are_there : MarkedAreThere
marked_are_there v r cut block x c =
    let page = x / 4096 in
    let from : run_start r c.run ≤ x = c.from in
    let below : x < run_start r c.run + r.length = c.below in
    let w = (cut c.run c.there page).there (x % 4096) (omega arith) (omega arith) in
    (w.0, record { among = subst (λ (b : ℕ). In (at v (page_key b page)) w.0) c.of_block w.1; has = w.2 })

-- ---- as the code tells it

part_is : (v : PlacesValue) (block page start end first last : ℕ) → first ≡ start - page * 4096 → last ≡ min 4096 (end - page * 4096)
    → AreCut (at v (page_key block page)) first last → IsPartCut v block start end page
part_is v block page start end first last is_first is_last cut =
    subst (λ (a : ℕ). AreCut (at v (page_key block page)) a (min 4096 (end - page * 4096))) is_first
    (subst (λ (b : ℕ). AreCut (at v (page_key block page)) first b) is_last cut)

pub part_cut : {V E : Type 0} (r : Result V E) (v : PlacesValue) (block page start end first last : ℕ) → first ≡ start - page * 4096 → last ≡ min 4096 (end - page * 4096)
    → OnOk r (AreCut (at v (page_key block page)) first last) → OnOk r (IsPartCut v block start end page)
part_cut (Ok x) v block page start end first last is_first is_last cut = part_is v block page start end first last is_first is_last cut
part_cut (Err x) v block page start end first last is_first is_last cut = tt
