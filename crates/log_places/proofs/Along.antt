-- What pages have once the runs of a region are marked.
use Rattle.log_places.proofs.Common.{◌≡◌, ℕ, ◌+◌, ◌-◌, ◌*◌, ◌/◌, ◌<◌, ◌≤◌, ◌==◌, Bool, true, false, List, [], ◌∷◌, ◌++◌, min, ◌⊎◌, inl, inr, refl, ap, sym, subst, ◌∙◌, arith, cases_lt, eqb-true, eq-eqb, false≢true, In, in_append_left, in_append_right, in_append_cases, below_next, Stretch, PageKey, Region, marked, at, found, page_key, run_start, same_page, Covers, IsRegionCut, PlacesValue, first_on, end_on, IsRunMarked, IsAccessed, IsEdge, HasEdge, AreCutAlong, AreMarked, AreDifferent}
use Rattle.log_places.proofs.Finding.{is_not, same_keys}
use Rattle.log_places.proofs.Bordering.{has_too, edge_too, marked_along, cut_by}

-- A RUN ON ITS PAGES

-- those from `start` up to `end` were marked, on the pages below one
pub record AreMarkedBelow (old new : PlacesValue) (block start end page : ℕ) : Type 0 where
  pub here : (p : ℕ) → first_on start p < end_on end p → p < page → at new (page_key block p) ≡ marked (first_on start p) (end_on end p) (at old (page_key block p))
  pub none : (p : ℕ) → end_on end p ≤ first_on start p → at new (page_key block p) ≡ at old (page_key block p)
  pub later : (p : ℕ) → page ≤ p → at new (page_key block p) ≡ at old (page_key block p)
  pub others : (k : PageKey) → (k.block ≡ block → ⊥) → at new k ≡ at old k

pub none_marked : (v : PlacesValue) (block start end page : ℕ) → page ≡ start / 4096 → AreMarkedBelow v v block start end page
none_marked v block start end page is = record {
  here = λ p lt below. absurd (omega arith);
  none = λ p le. refl;
  later = λ p le. refl;
  others = λ k never. refl;
}

pub all_marked : (old new : PlacesValue) (block start end page : ℕ) → end ≤ page * 4096 → AreMarkedBelow old new block start end page → IsRunMarked old new block start end
all_marked old new block start end page past m = record {
  here = λ p lt. m.here p lt (omega arith);
  none = m.none;
  others = m.others;
}

-- one page more
pub marked_below : (old v new : PlacesValue) (block start end page : ℕ) → start < end → start / 4096 ≤ page → page * 4096 < end → AreMarkedBelow old v block start end page
    → at new (page_key block page) ≡ marked (first_on start page) (end_on end page) (at v (page_key block page))
    → ((k : PageKey) → same_page k (page_key block page) ≡ false → at new k ≡ at v k) → AreMarkedBelow old new block start end (page + 1)
marked_below old v new block start end page some from upto m now others =
    let other : (p : ℕ) → (p ≡ page → ⊥) → at new (page_key block p) ≡ at v (page_key block p) =
    λ p never. others (page_key block p) (is_not (same_page (page_key block p) (page_key block page)) (λ e. never (ap (λ (k : PageKey). k.page) (same_keys (page_key block p) (page_key block page) e)))) in
    record {
      here = λ p lt below. elim (cases_lt p page) [
        | inl l ↦ other p (λ e. omega arith) ∙ m.here p lt l
        | inr g ↦
            let e : page ≡ p = omega arith in
            subst (λ (q : ℕ). at new (page_key block q) ≡ marked (first_on start q) (end_on end q) (at old (page_key block q))) e
            (now ∙ ap (marked (first_on start page) (end_on end page)) (m.later page (omega arith)))
      ];
      none = λ p le. other p (λ e. omega arith) ∙ m.none p le;
      later = λ p le. other p (λ e. omega arith) ∙ m.later p (omega arith);
      others = λ k never. others k (is_not (same_page k (page_key block page)) (λ e. never (ap (λ (q : PageKey). q.block) (same_keys k (page_key block page) e)))) ∙ m.others k never;
    }

-- REGIONS

-- the first runs of a region
abbrev pub first_runs : Region → ℕ → Region
first_runs r n = record { block = r.block; offset = r.offset; length = r.length; runs = n; apart = r.apart }

-- another region is marked too
abbrev pub and_region : List Region → Region → List Region
and_region rs r = rs ++ r ∷ []

module _ (rs : List Region) (r : Region) (block x : ℕ) where
  has_old : IsAccessed rs block x → IsAccessed (and_region rs r) block x
  has_old (q, i, c) = (q, in_append_left rs (r ∷ []) q i, c)

  has_new : Covers r block x → IsAccessed (and_region rs r) block x
  has_new c = (r, in_append_right rs (r ∷ []) r (inl refl), c)

  has_by : IsAccessed (and_region rs r) block x → IsAccessed rs block x ⊎ Covers r block x
  has_by (q, i, c) =
      elim (in_append_cases rs (r ∷ []) q i) [
        | inl j ↦ inl (q, j, c)
        | inr (inl e) ↦ inr (subst (λ (y : Region). Covers y block x) (sym e) c)
        | inr (inr none) ↦ absurd none
      ]

  edge_old : IsEdge rs block x → IsEdge (and_region rs r) block x
  edge_old (q, i, c) = (q, in_append_left rs (r ∷ []) q i, c)

  edge_new : HasEdge r block x → IsEdge (and_region rs r) block x
  edge_new c = (r, in_append_right rs (r ∷ []) r (inl refl), c)

  edge_by : IsEdge (and_region rs r) block x → IsEdge rs block x ⊎ HasEdge r block x
  edge_by (q, i, c) =
      elim (in_append_cases rs (r ∷ []) q i) [
        | inl j ↦ inl (q, j, c)
        | inr (inl e) ↦ inr (subst (λ (y : Region). HasEdge y block x) (sym e) c)
        | inr (inr none) ↦ absurd none
      ]

-- one run more
module _ (rs : List Region) (r : Region) (n block x : ℕ) where
  abbrev IsInRun : Type 0
  IsInRun = (r.block ≡ block) × (run_start r n ≤ x) × (x < run_start r n + r.length)

  abbrev IsAtRun : Type 0
  IsAtRun = (r.block ≡ block) × ((x ≡ run_start r n) ⊎ (x ≡ run_start r n + r.length))

  run_has : IsAccessed (and_region rs (first_runs r n)) block x ⊎ IsInRun → IsAccessed (and_region rs (first_runs r (n + 1))) block x
  run_has (inl h) =
      elim (has_by rs (first_runs r n) block x h) [
        | inl j ↦ has_old rs (first_runs r (n + 1)) block x j
        | inr c ↦ has_new rs (first_runs r (n + 1)) block x (record { of_block = c.of_block; run = c.run; there = (let l : c.run < n = c.there in omega arith); from = c.from; below = c.below })
      ]
  run_has (inr h) = has_new rs (first_runs r (n + 1)) block x (record { of_block = h.0; run = n; there = omega arith; from = h.1; below = h.2 })

  has_run : IsAccessed (and_region rs (first_runs r (n + 1))) block x → IsAccessed (and_region rs (first_runs r n)) block x ⊎ IsInRun
  has_run h =
      elim (has_by rs (first_runs r (n + 1)) block x h) [
        | inl j ↦ inl (has_old rs (first_runs r n) block x j)
        | inr c ↦ elim (below_next c.run n c.there) [
          | inl l ↦ inl (has_new rs (first_runs r n) block x (record { of_block = c.of_block; run = c.run; there = l; from = c.from; below = c.below }))
          | inr e ↦ inr (c.of_block, subst (λ (m : ℕ). run_start r m ≤ x) e c.from, subst (λ (m : ℕ). x < run_start r m + r.length) e c.below)
        ]
      ]

  run_edge : IsEdge (and_region rs (first_runs r n)) block x ⊎ IsAtRun → IsEdge (and_region rs (first_runs r (n + 1))) block x
  run_edge (inl h) =
      elim (edge_by rs (first_runs r n) block x h) [
        | inl j ↦ edge_old rs (first_runs r (n + 1)) block x j
        | inr c ↦ edge_new rs (first_runs r (n + 1)) block x (record { of_block = c.of_block; run = c.run; there = (let l : c.run < n = c.there in omega arith); at = c.at })
      ]
  run_edge (inr h) = edge_new rs (first_runs r (n + 1)) block x (record { of_block = h.0; run = n; there = omega arith; at = h.1 })

  edge_run : IsEdge (and_region rs (first_runs r (n + 1))) block x → IsEdge (and_region rs (first_runs r n)) block x ⊎ IsAtRun
  edge_run h =
      elim (edge_by rs (first_runs r (n + 1)) block x h) [
        | inl j ↦ inl (edge_old rs (first_runs r n) block x j)
        | inr c ↦ elim (below_next c.run n c.there) [
          | inl l ↦ inl (edge_new rs (first_runs r n) block x (record { of_block = c.of_block; run = c.run; there = l; at = c.at }))
          | inr e ↦ inr (c.of_block, subst (λ (m : ℕ). (x ≡ run_start r m) ⊎ (x ≡ run_start r m + r.length)) e c.at)
        ]
      ]

-- ONE RUN MORE, ON ALL PAGES

abbrev Page : List Region → PageKey → List Stretch → Type 0
Page rs k ss = AreCutAlong (λ x. IsAccessed rs k.block (k.page * 4096 + x)) (λ x. IsEdge rs k.block (k.page * 4096 + x)) ss

module _ (rs : List Region) (r : Region) (n : ℕ) (some : 1 ≤ r.length) where
  abbrev before : List Region
  before = and_region rs (first_runs r n)

  abbrev after : List Region
  after = and_region rs (first_runs r (n + 1))

  abbrev from : ℕ
  from = run_start r n

  abbrev upto : ℕ
  upto = run_start r n + r.length

  module _ (page : ℕ) (ss : List Stretch) (old : Page before (page_key r.block page) ss) where
    abbrev base : ℕ
    base = page * 4096

    -- a page on which the run has locations
    on_page : first_on from page < end_on upto page → Page after (page_key r.block page) (marked (first_on from page) (end_on upto page) ss)
    on_page lt =
        cut_by (has_too (λ x. IsAccessed before r.block (base + x)) (λ x. IsEdge before r.block (base + x)) ss old (first_on from page) (end_on upto page) lt (omega arith))
        (edge_too (λ x. IsAccessed before r.block (base + x)) (λ x. IsEdge before r.block (base + x)) ss old (first_on from page) (end_on upto page) lt (omega arith))
        (λ x. IsAccessed after r.block (base + x)) (λ x. IsEdge after r.block (base + x)) (marked (first_on from page) (end_on upto page) ss)
        (marked_along (λ x. IsAccessed before r.block (base + x)) (λ x. IsEdge before r.block (base + x)) ss old (first_on from page) (end_on upto page) lt (omega arith))
        (λ x low h. elim h [
          | inl j ↦ run_has rs r n r.block (base + x) (inl j)
          | inr j ↦ run_has rs r n r.block (base + x) (inr (refl, omega (arith, j.0), omega (arith, j.1)))
        ])
        (λ x low h. elim (has_run rs r n r.block (base + x) h) [
          | inl j ↦ inl j
          | inr j ↦ inr (let l : from ≤ base + x = j.1 in let u : base + x < upto = j.2 in (omega arith, omega arith))
        ])
        (λ x low high h. elim h [
          | inl j ↦ run_edge rs r n r.block (base + x) (inl j)
          | inr (inl e) ↦ run_edge rs r n r.block (base + x) (inr (refl, inl (omega (arith, e))))
          | inr (inr e) ↦ run_edge rs r n r.block (base + x) (inr (refl, inr (omega (arith, e))))
        ])
        (λ x low high h. elim (edge_run rs r n r.block (base + x) h) [
          | inl j ↦ inl j
          | inr (b, inl e) ↦ inr (inl (omega (arith, e)))
          | inr (b, inr e) ↦ inr (inr (omega (arith, e)))
        ])

    -- one on which it has none
    off_page : end_on upto page ≤ first_on from page → Page after (page_key r.block page) ss
    off_page le =
        cut_by (λ x. IsAccessed before r.block (base + x)) (λ x. IsEdge before r.block (base + x)) (λ x. IsAccessed after r.block (base + x)) (λ x. IsEdge after r.block (base + x)) ss old
        (λ x low h. run_has rs r n r.block (base + x) (inl h))
        (λ x low h. elim (has_run rs r n r.block (base + x) h) [
          | inl j ↦ j
          | inr j ↦ absurd (let l : from ≤ base + x = j.1 in let u : base + x < upto = j.2 in omega arith)
        ])
        (λ x low high h. run_edge rs r n r.block (base + x) (inl h))
        (λ x low high h. elim (edge_run rs r n r.block (base + x) h) [
          | inl j ↦ j
          | inr (b, inl e) ↦ absurd (omega (arith, e))
          | inr (b, inr e) ↦ absurd (omega (arith, e))
        ])

  -- one of another block
  elsewhere : (k : PageKey) (ss : List Stretch) → (k.block ≡ r.block → ⊥) → Page before k ss → Page after k ss
  elsewhere k ss never old =
      cut_by (λ x. IsAccessed before k.block (k.page * 4096 + x)) (λ x. IsEdge before k.block (k.page * 4096 + x))
      (λ x. IsAccessed after k.block (k.page * 4096 + x)) (λ x. IsEdge after k.block (k.page * 4096 + x)) ss old
      (λ x low h. run_has rs r n k.block (k.page * 4096 + x) (inl h))
      (λ x low h. elim (has_run rs r n k.block (k.page * 4096 + x) h) [
        | inl j ↦ j
        | inr j ↦ absurd (never (sym j.0))
      ])
      (λ x low high h. run_edge rs r n k.block (k.page * 4096 + x) (inl h))
      (λ x low high h. elim (edge_run rs r n k.block (k.page * 4096 + x) h) [
        | inl j ↦ j
        | inr j ↦ absurd (never (sym j.0))
      ])

  module _ (v v' : PlacesValue) (run : IsRunMarked v v' r.block from upto) (old : AreMarked before v) where
    page_of : (page : ℕ) → Page after (page_key r.block page) (at v' (page_key r.block page))
    page_of page =
        elim (cases_lt (first_on from page) (end_on upto page)) [
          | inl l ↦ subst (λ (ss : List Stretch). Page after (page_key r.block page) ss) (sym (run.here page l)) (on_page page (at v (page_key r.block page)) (old.page (page_key r.block page)) l)
          | inr g ↦ subst (λ (ss : List Stretch). Page after (page_key r.block page) ss) (sym (run.none page (omega arith))) (off_page page (at v (page_key r.block page)) (old.page (page_key r.block page)) (omega arith))
        ]

    page_by : (k : PageKey) (b : Bool) → (k.block == r.block) ≡ b → Page after k (at v' k)
    page_by k true e =
        let here : page_key r.block k.page ≡ k = ap (λ (y : ℕ). page_key y k.page) (sym (eqb-true k.block r.block e)) in
        subst (λ (q : PageKey). Page after q (at v' q)) here (page_of k.page)
    page_by k false e =
        let never : k.block ≡ r.block → ⊥ = λ is. false≢true (sym e ∙ eq-eqb k.block r.block is) in
        subst (λ (ss : List Stretch). Page after k ss) (sym (run.others k never)) (elsewhere k (at v k) never (old.page k))

    pub run_marked : AreDifferent v'.keys → AreMarked after v'
    run_marked different = record { different = different; page = λ k. page_by k (k.block == r.block) refl }

-- before the first run
pub no_run : (rs : List Region) (r : Region) (n : ℕ) (v : PlacesValue) → n ≡ 0 → AreMarked rs v → AreMarked (and_region rs (first_runs r n)) v
no_run rs r n v z old = record {
  different = old.different;
  page = λ k.
      cut_by (λ x. IsAccessed rs k.block (k.page * 4096 + x)) (λ x. IsEdge rs k.block (k.page * 4096 + x))
      (λ x. IsAccessed (and_region rs (first_runs r n)) k.block (k.page * 4096 + x)) (λ x. IsEdge (and_region rs (first_runs r n)) k.block (k.page * 4096 + x)) (at v k) (old.page k)
      (λ x low h. has_old rs (first_runs r n) k.block (k.page * 4096 + x) h)
      (λ x low h. elim (has_by rs (first_runs r n) k.block (k.page * 4096 + x) h) [
        | inl j ↦ j
        | inr c ↦ absurd (let l : c.run < n = c.there in omega arith)
      ])
      (λ x low high h. edge_old rs (first_runs r n) k.block (k.page * 4096 + x) h)
      (λ x low high h. elim (edge_by rs (first_runs r n) k.block (k.page * 4096 + x) h) [
        | inl j ↦ j
        | inr c ↦ absurd (let l : c.run < n = c.there in omega arith)
      ]);
}

-- what was marked is cut
pub marked_are_cut : (rs : List Region) (v : PlacesValue) (r : Region) → AreMarked rs v → In rs r → IsRegionCut v r
marked_are_cut rs v r are i n there page = record {
  whole = λ s j x y hx hy low high.
      let cut = are.page (page_key r.block page) in
      let e : ℕ → Type 0 = λ x. IsEdge rs r.block (page * 4096 + x) in
      let x0 : s.start ≤ x = hx.0 in
      let x1 : x < s.end = hx.1 in
      let y0 : s.start ≤ y = hy.0 in
      let y1 : y < s.end = hy.1 in
      let le : s.end ≤ 4096 = cut.within s j in (
        elim (cases_lt y (run_start r n - page * 4096)) [
          | inl l ↦ absurd (cut.uncut s (run_start r n - page * 4096) j (r, i, record { of_block = refl; run = n; there = there; at = inl (omega arith) }) (omega arith) (omega arith))
          | inr g ↦ omega arith
        ],
        elim (cases_lt y (min 4096 (run_start r n + r.length - page * 4096))) [
          | inl l ↦ l
          | inr g ↦ absurd (cut.uncut s (run_start r n + r.length - page * 4096) j (r, i, record { of_block = refl; run = n; there = there; at = inr (omega arith) }) (omega arith) (omega arith))
        ],
      );
  there = λ x low high.
      (are.page (page_key r.block page)).all x (omega arith) (r, i, record { of_block = refl; run = n; there = there; from = omega arith; below = omega arith });
}

pub none_are_marked : (v : PlacesValue) → v.keys ≡ [] → v.pages ≡ [] → AreMarked [] v
none_are_marked v none pages = record {
  different = subst (λ (ks : List PageKey). AreDifferent ks) (sym none) tt;
  page = λ k.
      subst (λ (ss : List Stretch). Page [] k ss) (sym (ap (λ ks. found ks v.pages k) none)) (record {
        ordered = tt;
        within = λ s i. absurd i;
        all = λ x lt h. absurd h.1;
        only = λ x lt w. absurd w.1;
        start = λ s i. absurd i;
        end = λ s i. absurd i;
        uncut = λ s x i e low high. absurd i;
        near = λ x low high e. absurd e.1;
      });
}
