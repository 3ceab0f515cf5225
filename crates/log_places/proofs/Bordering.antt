-- Where marked stretches begin and end, and what a page has once some of its locations are marked.
use Rattle.log_places.proofs.Common.{◌≡◌, ℕ, ◌-◌, ◌<◌, ◌≤◌, List, [], ◌∷◌, min, max, ◌⊎◌, inl, inr, refl, sym, subst, ◌∙◌, arith, cases_lt, In, in_append_cases, Stretch, marked, pieces, rest_from, AreWith, Has, AreCutAlong}
use Rattle.log_places.proofs.Marking.{Is, IsPieceOf, is_piece, is_piece_of, ascending_in, refined, kept, covered, marked_cut, marked_ascends}
use Rattle.log_places.proofs.Marking.IsPieceOf.{Gap, Before, Inside, Behind}

-- WHERE THEY BEGIN AND END

-- at a, at b, or where an old one begins or ends
abbrev IsBorder : List Stretch → ℕ → ℕ → ℕ → Type 0
IsBorder ss a b x = (x ≡ a) ⊎ ((x ≡ b) ⊎ ((s : Stretch) × In ss s × ((x ≡ s.start) ⊎ (x ≡ s.end))))

border_min : (ss : List Stretch) (a b x y : ℕ) → IsBorder ss a b x → IsBorder ss a b y → IsBorder ss a b (min x y)
border_min ss a b x y hx hy =
    elim (cases_lt x y) [
      | inl l ↦ subst (λ z. IsBorder ss a b z) (let e : x ≡ min x y = omega arith in e) hx
      | inr g ↦ subst (λ z. IsBorder ss a b z) (let e : y ≡ min x y = omega arith in e) hy
    ]

border_max : (ss : List Stretch) (a b x y : ℕ) → IsBorder ss a b x → IsBorder ss a b y → IsBorder ss a b (max x y)
border_max ss a b x y hx hy =
    elim (cases_lt x y) [
      | inl l ↦ subst (λ z. IsBorder ss a b z) (let e : y ≡ max x y = omega arith in e) hy
      | inr g ↦ subst (λ z. IsBorder ss a b z) (let e : x ≡ max x y = omega arith in e) hx
    ]

border_piece : (ss : List Stretch) (a b x y : ℕ) (t : Stretch) → IsBorder ss a b x → IsBorder ss a b y → Is x y t → IsBorder ss a b t.start × IsBorder ss a b t.end
border_piece ss a b x y t hx hy is = (subst (λ z. IsBorder ss a b z) (sym is.start) hx, subst (λ z. IsBorder ss a b z) (sym is.end) hy)

module _ (s : Stretch) (ss : List Stretch) (a b : ℕ) where
  first_a : IsBorder (s ∷ ss) a b a
  first_a = inl refl

  then_b : IsBorder (s ∷ ss) a b b
  then_b = inr (inl refl)

  its_start : IsBorder (s ∷ ss) a b s.start
  its_start = inr (inr (s, inl refl, inl refl))

  its_end : IsBorder (s ∷ ss) a b s.end
  its_end = inr (inr (s, inl refl, inr refl))

  border_pieces : (t : Stretch) → IsPieceOf a b s t → IsBorder (s ∷ ss) a b t.start × IsBorder (s ∷ ss) a b t.end
  border_pieces t (Gap is) = border_piece (s ∷ ss) a b a (min b s.start) t first_a (border_min (s ∷ ss) a b b s.start then_b its_start) is
  border_pieces t (Before is) = border_piece (s ∷ ss) a b s.start (min a s.end) t its_start (border_min (s ∷ ss) a b a s.end first_a its_end) is
  border_pieces t (Inside is) =
      border_piece (s ∷ ss) a b (max a s.start) (min b s.end) t (border_max (s ∷ ss) a b a s.start first_a its_start)
      (border_min (s ∷ ss) a b b s.end then_b its_end) is
  border_pieces t (Behind is) = border_piece (s ∷ ss) a b (max b s.start) s.end t (border_max (s ∷ ss) a b b s.start then_b its_start) its_end is

  border_behind : (x : ℕ) → IsBorder ss (rest_from a b s) b x → IsBorder (s ∷ ss) a b x
  border_behind x (inl e) =
      subst (λ z. IsBorder (s ∷ ss) a b z) (sym e) (border_max (s ∷ ss) a b a (min b s.end) first_a (border_min (s ∷ ss) a b b s.end then_b its_end))
  border_behind x (inr (inl e)) = inr (inl e)
  border_behind x (inr (inr (u, i, e))) = inr (inr (u, inr i, e))

borders : (ss : List Stretch) (a b : ℕ) (t : Stretch) → In (marked a b ss) t → IsBorder ss a b t.start × IsBorder ss a b t.end
borders [] a b t i = border_piece [] a b a b t (inl refl) (inr (inl refl)) (is_piece a b t i)
borders (s ∷ ss) a b t i =
    elim (in_append_cases (pieces a b s) (marked (rest_from a b s) b ss) t i) [
      | inl p ↦ border_pieces s ss a b t (is_piece_of a b s t p)
      | inr m ↦ let r = borders ss (rest_from a b s) b t m in (border_behind s ss a b t.start r.0, border_behind s ss a b t.end r.1)
    ]

-- ONCE SOME LOCATIONS ARE MARKED

module _ (has edge : ℕ → Type 0) (ss : List Stretch) (cut : AreCutAlong has edge ss) (a b : ℕ) (some : a < b) (below : b ≤ 4096) where
  abbrev pub has_too : ℕ → Type 0
  has_too x = has x ⊎ ((a ≤ x) × (x < b))

  abbrev pub edge_too : ℕ → Type 0
  edge_too x = edge x ⊎ ((x ≡ a) ⊎ (x ≡ b))

  within : (t : Stretch) → In (marked a b ss) t → t.end ≤ 4096
  within t i =
      elim (refined ss a b 0 t cut.ordered i) [
        | inl r ↦ let h = cut.within r.0 r.1 in omega (arith, r.2.end)
        | inr r ↦ omega (arith, r.end)
      ]

  some_in : (t : Stretch) → In (marked a b ss) t → t.start < t.end
  some_in t i = (ascending_in 0 (marked a b ss) t (marked_ascends ss a b 0 (omega arith) (λ l. omega arith) cut.ordered) i).1

  all : (x : ℕ) → x < 4096 → has_too x → AreWith (marked a b ss) x
  all x lt (inl h) = kept ss a b x (cut.all x lt h)
  all x lt (inr (l, h)) = covered ss a b x l h

  only : (x : ℕ) → x < 4096 → AreWith (marked a b ss) x → has_too x
  only x lt (t, i, h) =
      let low : t.start ≤ x = h.0 in
      let high : x < t.end = h.1 in
      elim (refined ss a b 0 t cut.ordered i) [
        | inl r ↦ inl (cut.only x lt (r.0, r.1, (omega (arith, r.2.start), omega (arith, r.2.end))))
        | inr r ↦ inr (omega (arith, r.start), omega (arith, r.end))
      ]

  start_by : (t : Stretch) → In (marked a b ss) t → IsBorder ss a b t.start → (t.start ≡ 0) ⊎ edge_too t.start
  start_by t i (inl e) = inr (inr (inl e))
  start_by t i (inr (inl e)) = inr (inr (inr e))
  start_by t i (inr (inr (s, j, inl e))) =
      elim (cut.start s j) [
        | inl z ↦ inl (e ∙ z)
        | inr h ↦ inr (inl (subst edge (sym e) h))
      ]
  start_by t i (inr (inr (s, j, inr e))) =
      elim (cut.end s j) [
        | inl z ↦ absurd (let l = some_in t i in let h = within t i in omega (arith, e, z))
        | inr h ↦ inr (inl (subst edge (sym e) h))
      ]

  end_by : (t : Stretch) → In (marked a b ss) t → IsBorder ss a b t.end → (t.end ≡ 4096) ⊎ edge_too t.end
  end_by t i (inl e) = inr (inr (inl e))
  end_by t i (inr (inl e)) = inr (inr (inr e))
  end_by t i (inr (inr (s, j, inl e))) =
      elim (cut.start s j) [
        | inl z ↦ absurd (let l = some_in t i in omega (arith, e, z))
        | inr h ↦ inr (inl (subst edge (sym e) h))
      ]
  end_by t i (inr (inr (s, j, inr e))) =
      elim (cut.end s j) [
        | inl z ↦ inl (e ∙ z)
        | inr h ↦ inr (inl (subst edge (sym e) h))
      ]

  -- what was added has no location that was there
  not_there : (t : Stretch) (x : ℕ) → x < 4096 → Has t x → has x → ((s : Stretch) → In ss s → (s.end ≤ t.start) ⊎ (t.end ≤ s.start)) → ⊥
  not_there t x lt h there apart =
      let w = cut.all x lt there in
      let low : w.0.start ≤ x = w.2.0 in
      let high : x < w.0.end = w.2.1 in
      let from : t.start ≤ x = h.0 in
      let upto : x < t.end = h.1 in
      elim (apart w.0 w.1) [
        | inl l ↦ omega arith
        | inr l ↦ omega arith
      ]

  uncut_old : (t : Stretch) (x : ℕ) → In (marked a b ss) t → edge x → t.start < x → x < t.end → ⊥
  uncut_old t x i h low high =
      let end = within t i in
      elim (refined ss a b 0 t cut.ordered i) [
        | inl r ↦ cut.uncut r.0 x r.1 h (omega (arith, r.2.start)) (omega (arith, r.2.end))
        | inr r ↦ elim (cut.near x (omega arith) (omega arith) h) [
          | inl there ↦ not_there t x (omega arith) (omega arith, high) there r.apart
          | inr there ↦ not_there t (x - 1) (omega arith) (omega arith, omega arith) there r.apart
        ]
      ]

  uncut : (t : Stretch) (x : ℕ) → In (marked a b ss) t → edge_too x → t.start < x → x < t.end → ⊥
  uncut t x i (inl h) low high = uncut_old t x i h low high
  uncut t x i (inr (inl e)) low high =
      let w = (marked_cut ss a b 0 cut.ordered).whole t i x (x - 1) (omega arith, high) (omega arith, omega arith) (omega (arith, e)) (omega (arith, e)) in
      let l : a ≤ x - 1 = w.0 in
      omega (arith, e)
  uncut t x i (inr (inr e)) low high =
      let w = (marked_cut ss a b 0 cut.ordered).whole t i (x - 1) x (omega arith, omega arith) (omega arith, high) (omega (arith, e)) (omega (arith, e)) in
      let l : x < b = w.1 in
      omega (arith, e)

  near : (x : ℕ) → 0 < x → x < 4096 → edge_too x → has_too x ⊎ has_too (x - 1)
  near x low high (inl h) =
      elim (cut.near x low high h) [
        | inl there ↦ inl (inl there)
        | inr there ↦ inr (inl there)
      ]
  near x low high (inr (inl e)) = inl (inr (omega (arith, e), omega (arith, e)))
  near x low high (inr (inr e)) = inr (inr (omega (arith, e), omega (arith, e)))

  pub marked_along : AreCutAlong has_too edge_too (marked a b ss)
  marked_along = record {
    ordered = marked_ascends ss a b 0 (omega arith) (λ l. omega arith) cut.ordered;
    within = within;
    all = all;
    only = only;
    start = λ t i. start_by t i (borders ss a b t i).0;
    end = λ t i. end_by t i (borders ss a b t i).1;
    uncut = uncut;
    near = near;
  }

-- the same along other words for what is there, and for the edges within the page
pub cut_by : (has edge has' edge' : ℕ → Type 0) (ss : List Stretch) → AreCutAlong has edge ss → ((x : ℕ) → x < 4096 → has x → has' x) → ((x : ℕ) → x < 4096 → has' x → has x)
    → ((x : ℕ) → 0 < x → x < 4096 → edge x → edge' x) → ((x : ℕ) → 0 < x → x < 4096 → edge' x → edge x) → AreCutAlong has' edge' ss
cut_by has edge has' edge' ss cut to from edge_to edge_from = record {
  ordered = cut.ordered;
  within = cut.within;
  all = λ x lt h. cut.all x lt (from x lt h);
  only = λ x lt w. to x lt (cut.only x lt w);
  start = λ s i.
      let lt : s.start < s.end = (ascending_in 0 ss s cut.ordered i).1 in
      let le : s.end ≤ 4096 = cut.within s i in
      elim (cases_lt 0 s.start) [
        | inr z ↦ inl (omega arith)
        | inl z ↦ elim (cut.start s i) [
          | inl e ↦ inl e
          | inr h ↦ inr (edge_to s.start z (omega arith) h)
        ]
      ];
  end = λ s i.
      let lt : s.start < s.end = (ascending_in 0 ss s cut.ordered i).1 in
      let le : s.end ≤ 4096 = cut.within s i in
      elim (cases_lt s.end 4096) [
        | inr z ↦ inl (omega arith)
        | inl z ↦ elim (cut.end s i) [
          | inl e ↦ inl e
          | inr h ↦ inr (edge_to s.end (omega arith) z h)
        ]
      ];
  uncut = λ s x i h low high. let le : s.end ≤ 4096 = cut.within s i in cut.uncut s x i (edge_from x (omega arith) (omega arith) h) low high;
  near = λ x low high h.
      elim (cut.near x low high (edge_from x low high h)) [
        | inl there ↦ inl (to x high there)
        | inr there ↦ inr (to (x - 1) (omega arith) there)
      ];
}
