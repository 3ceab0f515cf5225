-- What marking does to stretches.
use Rattle.log_places.proofs.Common.{◌≡◌, ℕ, ◌<◌, ◌≤◌, Bool, true, false, cond, List, [], ◌∷◌, ◌++◌, min, max, ◌⊎◌, inl, inr, refl, ap, sym, subst, ◌∙◌, arith, nat_lt, ltb-true, cases_lt, lt-ltb, le-ltb, append_assoc, In, in_append_left, in_append_right, in_append_cases, Stretch, marked, piece, pieces, rest_from, Ascending, AreCut, AreWith, Has}
use Rattle.std.proofs.lemmas.List.{append-nil}

-- ---- pieces

-- a stretch that isn't empty, by its ends
pub record Is (a b : ℕ) (t : Stretch) : Type 0 where
  pub start : t.start ≡ a
  pub end : t.end ≡ b
  pub some : a < b

is_step : (a b : ℕ) (t : Stretch) (c : Bool) → nat_lt a b ≡ c → In (cond c (record { start = a; end = b } ∷ []) []) t → Is a b t
is_step a b t true lt (inl e) = record { start = ap (λ (s : Stretch). s.start) (sym e); end = ap (λ (s : Stretch). s.end) (sym e); some = ltb-true a b lt }
is_step a b t true lt (inr i) = absurd i
is_step a b t false lt i = absurd i

pub is_piece : (a b : ℕ) (t : Stretch) → In (piece a b) t → Is a b t
is_piece a b t i = is_step a b t (nat_lt a b) refl i

in_piece : (a b : ℕ) → a < b → In (piece a b) (record { start = a; end = b })
in_piece a b lt =
    let t : Stretch = record { start = a; end = b } in
    subst (λ (c : Bool). In {A = Stretch} (cond c (t ∷ []) []) t) (sym (lt-ltb a b lt)) (inl refl)

pub no_piece : (a b : ℕ) → b ≤ a → piece a b ≡ []
no_piece a b le = let t : Stretch = record { start = a; end = b } in ap (λ c. cond c (t ∷ []) []) (le-ltb a b le)

pub whole_piece : (a b : ℕ) → a < b → (s : Stretch) → s.start ≡ a → s.end ≡ b → piece a b ≡ s ∷ []
whole_piece a b lt s p q =
    let t : Stretch = record { start = a; end = b } in
    ap (λ c. cond c (t ∷ []) []) (lt-ltb a b lt) ∙ ap (λ x. record { start = x; end = b } ∷ []) (sym p) ∙ ap (λ y. record { start = s.start; end = y } ∷ []) (sym q)

-- what is added before a stretch, its parts before a, from a up to b, and from b on
pub data IsPieceOf (a b : ℕ) (s t : Stretch) : Type 0 where
  Gap : Is a (min b s.start) t → IsPieceOf a b s t
  Before : Is s.start (min a s.end) t → IsPieceOf a b s t
  Inside : Is (max a s.start) (min b s.end) t → IsPieceOf a b s t
  Behind : Is (max b s.start) s.end t → IsPieceOf a b s t

pub is_piece_of : (a b : ℕ) (s t : Stretch) → In (pieces a b s) t → IsPieceOf a b s t
is_piece_of a b s t i =
    elim (in_append_cases (piece a (min b s.start) ++ piece s.start (min a s.end) ++ piece (max a s.start) (min b s.end)) (piece (max b s.start) s.end) t i) [
      | inr d ↦ Behind (is_piece (max b s.start) s.end t d)
      | inl i3 ↦ elim (in_append_cases (piece a (min b s.start) ++ piece s.start (min a s.end)) (piece (max a s.start) (min b s.end)) t i3) [
        | inr c ↦ Inside (is_piece (max a s.start) (min b s.end) t c)
        | inl i2 ↦ elim (in_append_cases (piece a (min b s.start)) (piece s.start (min a s.end)) t i2) [
          | inr c ↦ Before (is_piece s.start (min a s.end) t c)
          | inl c ↦ Gap (is_piece a (min b s.start) t c)
        ]
      ]
    ]

-- ---- where marked stretches lie

pub ascending_in : (low : ℕ) (ss : List Stretch) (s : Stretch) → Ascending low ss → In ss s → (low ≤ s.start) × (s.start < s.end)
ascending_in low [] s up i = absurd i
ascending_in low (x ∷ xs) s up (inl is) = subst (λ (y : Stretch). (low ≤ y.start) × (y.start < y.end)) is (up.0, up.1)
ascending_in low (x ∷ xs) s up (inr i) =
    let r = ascending_in x.end xs s up.2 i in
    let a : low ≤ x.start = up.0 in
    let b : x.start < x.end = up.1 in
    let c : x.end ≤ s.start = r.0 in
    (omega arith, r.1)

pub ascending_from : (low low' : ℕ) (ss : List Stretch) → low' ≤ low → Ascending low ss → Ascending low' ss
ascending_from low low' [] le up = tt
ascending_from low low' (s ∷ ss) le up = (let a : low ≤ s.start = up.0 in omega arith, up.1, up.2)

bound_piece : (a b low : ℕ) (s t : Stretch) → low ≤ s.start → IsPieceOf a b s t → (min low a ≤ t.start) × (t.start < t.end)
bound_piece a b low s t le (Gap is) = (omega (arith, is.start), omega (arith, is.start, is.end, is.some))
bound_piece a b low s t le (Before is) = (omega (arith, is.start), omega (arith, is.start, is.end, is.some))
bound_piece a b low s t le (Inside is) = (omega (arith, is.start), omega (arith, is.start, is.end, is.some))
bound_piece a b low s t le (Behind is) = (omega (arith, is.start), omega (arith, is.start, is.end, is.some))

bound : (ss : List Stretch) (a b low : ℕ) (t : Stretch) → Ascending low ss → In (marked a b ss) t → (min low a ≤ t.start) × (t.start < t.end)
bound [] a b low t up i = let is = is_piece a b t i in (omega (arith, is.start), omega (arith, is.start, is.end, is.some))
bound (s ∷ ss) a b low t up i =
    elim (in_append_cases (pieces a b s) (marked (rest_from a b s) b ss) t i) [
      | inl p ↦ bound_piece a b low s t up.0 (is_piece_of a b s t p)
      | inr m ↦
          let r = bound ss (rest_from a b s) b s.end t up.2 m in
          let h : min s.end (max a (min b s.end)) ≤ t.start = r.0 in
          let le : low ≤ s.start = up.0 in
          let lt : s.start < s.end = up.1 in
          (omega arith, r.1)
    ]

-- ---- each is within an old one, or apart from all of them and within what was marked

-- no location of one is in the other
abbrev pub AreApart : Stretch → Stretch → Type 0
AreApart s t = (s.end ≤ t.start) ⊎ (t.end ≤ s.start)

pub record IsWithin (s t : Stretch) : Type 0 where
  pub start : s.start ≤ t.start
  pub end : t.end ≤ s.end

pub record IsAdded (ss : List Stretch) (a b : ℕ) (t : Stretch) : Type 0 where
  pub apart : (s : Stretch) → In ss s → AreApart s t
  pub start : a ≤ t.start
  pub end : t.end ≤ b

abbrev pub IsRefined : List Stretch → ℕ → ℕ → Stretch → Type 0
IsRefined ss a b t = ((s : Stretch) × In ss s × IsWithin s t) ⊎ IsAdded ss a b t

refined_piece : (s : Stretch) (ss : List Stretch) (a b low : ℕ) (t : Stretch) → Ascending low (s ∷ ss) → IsPieceOf a b s t → IsRefined (s ∷ ss) a b t
refined_piece s ss a b low t up (Gap is) =
    inr (record {
      apart = λ u i. inr (let le : s.start ≤ u.start = (ascending_in s.start (s ∷ ss) u (let lt : s.start < s.end = up.1 in (omega arith, up.1, up.2)) i).0 in omega (arith, is.end));
      start = omega (arith, is.start);
      end = omega (arith, is.end);
    })
refined_piece s ss a b low t up (Before is) = inl (s, inl refl, record { start = omega (arith, is.start); end = omega (arith, is.end) })
refined_piece s ss a b low t up (Inside is) = inl (s, inl refl, record { start = omega (arith, is.start); end = omega (arith, is.end) })
refined_piece s ss a b low t up (Behind is) = inl (s, inl refl, record { start = omega (arith, is.start); end = omega (arith, is.end) })

behind_head : (s : Stretch) (ss : List Stretch) (a b : ℕ) (t : Stretch) → t.start < t.end → IsAdded ss (rest_from a b s) b t → IsAdded (s ∷ ss) a b t
behind_head s ss a b t lt r =
    let st : max a (min b s.end) ≤ t.start = r.start in
    let en : t.end ≤ b = r.end in
    record {
      apart = λ u i. elim i [
        | inl is ↦ subst (λ (x : Stretch). AreApart x t) is (inl (omega arith))
        | inr j ↦ r.apart u j
      ];
      start = omega arith;
      end = r.end;
    }

pub refined : (ss : List Stretch) (a b low : ℕ) (t : Stretch) → Ascending low ss → In (marked a b ss) t → IsRefined ss a b t
refined [] a b low t up i =
    let is = is_piece a b t i in
    inr (record { apart = λ s j. absurd j; start = omega (arith, is.start); end = omega (arith, is.end) })
refined (s ∷ ss) a b low t up i =
    elim (in_append_cases (pieces a b s) (marked (rest_from a b s) b ss) t i) [
      | inl p ↦ refined_piece s ss a b low t up (is_piece_of a b s t p)
      | inr m ↦
          let lt = (bound ss (rest_from a b s) b s.end t up.2 m).1 in
          elim (refined ss (rest_from a b s) b s.end t up.2 m) [
            | inl w ↦ inl (w.0, inr w.1, w.2)
            | inr r ↦ inr (behind_head s ss a b t lt r)
          ]
    ]

-- ---- what was marked is cut

abbrev IsWhole : ℕ → ℕ → Stretch → Type 0
IsWhole a b t = ((a ≤ t.start) × (t.end ≤ b)) ⊎ ((t.end ≤ a) ⊎ (b ≤ t.start))

whole_piece_of : (a b : ℕ) (s t : Stretch) → IsPieceOf a b s t → IsWhole a b t
whole_piece_of a b s t (Gap is) = inl (omega (arith, is.start), omega (arith, is.end))
whole_piece_of a b s t (Before is) = inr (inl (omega (arith, is.end)))
whole_piece_of a b s t (Inside is) = inl (omega (arith, is.start), omega (arith, is.end))
whole_piece_of a b s t (Behind is) = inr (inr (omega (arith, is.start)))

whole_behind : (a b : ℕ) (s t : Stretch) → min s.end (rest_from a b s) ≤ t.start → t.start < t.end → IsWhole (rest_from a b s) b t → IsWhole a b t
whole_behind a b s t le lt (inl w) = inl (let h : max a (min b s.end) ≤ t.start = w.0 in omega arith, w.1)
whole_behind a b s t le lt (inr (inl h)) = inr (inl (let g : t.end ≤ max a (min b s.end) = h in let k : min s.end (max a (min b s.end)) ≤ t.start = le in omega arith))
whole_behind a b s t le lt (inr (inr h)) = inr (inr h)

whole : (ss : List Stretch) (a b low : ℕ) (t : Stretch) → Ascending low ss → In (marked a b ss) t → IsWhole a b t
whole [] a b low t up i = let is = is_piece a b t i in inl (omega (arith, is.start), omega (arith, is.end))
whole (s ∷ ss) a b low t up i =
    elim (in_append_cases (pieces a b s) (marked (rest_from a b s) b ss) t i) [
      | inl p ↦ whole_piece_of a b s t (is_piece_of a b s t p)
      | inr m ↦
          let r = bound ss (rest_from a b s) b s.end t up.2 m in
          whole_behind a b s t r.0 r.1 (whole ss (rest_from a b s) b s.end t up.2 m)
    ]

all_or_none : (a b : ℕ) (t : Stretch) → IsWhole a b t → (x y : ℕ) → Has t x → Has t y → a ≤ x → x < b → (a ≤ y) × (y < b)
all_or_none a b t (inl w) x y hx hy la lb = let p : t.start ≤ y = hy.0 in let q : y < t.end = hy.1 in (omega (arith, w.0), omega (arith, w.1))
all_or_none a b t (inr (inl w)) x y hx hy la lb = absurd (let q : x < t.end = hx.1 in omega arith)
all_or_none a b t (inr (inr w)) x y hx hy la lb = absurd (let q : t.start ≤ x = hx.0 in omega arith)

-- ---- which locations are in marked stretches

with_piece : (a b x : ℕ) → a ≤ x → x < b → AreWith (piece a b) x
with_piece a b x la lb = (record { start = a; end = b }, in_piece a b (omega arith), (la, lb))

with_left : (ss ts : List Stretch) (x : ℕ) → AreWith ss x → AreWith (ss ++ ts) x
with_left ss ts x w = (w.0, in_append_left ss ts w.0 w.1, w.2)

with_right : (ss ts : List Stretch) (x : ℕ) → AreWith ts x → AreWith (ss ++ ts) x
with_right ss ts x w = (w.0, in_append_right ss ts w.0 w.1, w.2)

module _ (a b : ℕ) (s : Stretch) (x : ℕ) where
  abbrev gap : List Stretch
  gap = piece a (min b s.start)

  abbrev before : List Stretch
  before = piece s.start (min a s.end)

  abbrev inside : List Stretch
  inside = piece (max a s.start) (min b s.end)

  abbrev behind : List Stretch
  behind = piece (max b s.start) s.end

  in_gap : AreWith gap x → AreWith (pieces a b s) x
  in_gap w = with_left (gap ++ before ++ inside) behind x (with_left (gap ++ before) inside x (with_left gap before x w))

  in_before : AreWith before x → AreWith (pieces a b s) x
  in_before w = with_left (gap ++ before ++ inside) behind x (with_left (gap ++ before) inside x (with_right gap before x w))

  in_inside : AreWith inside x → AreWith (pieces a b s) x
  in_inside w = with_left (gap ++ before ++ inside) behind x (with_right (gap ++ before) inside x w)

  in_behind : AreWith behind x → AreWith (pieces a b s) x
  in_behind w = with_right (gap ++ before ++ inside) behind x w

  -- a location of the stretch is in one of its parts
  kept_in : Has s x → AreWith (pieces a b s) x
  kept_in h =
      let st : s.start ≤ x = h.0 in
      let en : x < s.end = h.1 in
      elim (cases_lt x a) [
        | inl l ↦ in_before (with_piece s.start (min a s.end) x st (omega arith))
        | inr g ↦ elim (cases_lt x b) [
          | inl l ↦ in_inside (with_piece (max a s.start) (min b s.end) x (omega arith) (omega arith))
          | inr h ↦ in_behind (with_piece (max b s.start) s.end x (omega arith) en)
        ]
      ]

pub kept : (ss : List Stretch) (a b x : ℕ) → AreWith ss x → AreWith (marked a b ss) x
kept [] a b x w = absurd w.1
kept (s ∷ ss) a b x (t, inl is, h) =
    with_left (pieces a b s) (marked (rest_from a b s) b ss) x (kept_in a b s x (subst (λ (u : Stretch). Has u x) (sym is) h))
kept (s ∷ ss) a b x (t, inr i, h) = with_right (pieces a b s) (marked (rest_from a b s) b ss) x (kept ss (rest_from a b s) b x (t, i, h))

pub covered : (ss : List Stretch) (a b x : ℕ) → a ≤ x → x < b → AreWith (marked a b ss) x
covered [] a b x la lb = with_piece a b x la lb
covered (s ∷ ss) a b x la lb =
    elim (cases_lt x s.start) [
      | inl l ↦ with_left (pieces a b s) (marked (rest_from a b s) b ss) x (in_gap a b s x (with_piece a (min b s.start) x la (omega arith)))
      | inr g ↦ elim (cases_lt x s.end) [
        | inl l ↦
            with_left (pieces a b s) (marked (rest_from a b s) b ss) x
            (in_inside a b s x (with_piece (max a s.start) (min b s.end) x (omega arith) (omega arith)))
        | inr h ↦ with_right (pieces a b s) (marked (rest_from a b s) b ss) x (covered ss (rest_from a b s) b x (omega arith) lb)
      ]
    ]

-- ---- what is cut

pub marked_cut : (ss : List Stretch) (a b low : ℕ) → Ascending low ss → AreCut (marked a b ss) a b
marked_cut ss a b low up = record {
  whole = λ s i. all_or_none a b s (whole ss a b low s up i);
  there = covered ss a b;
}

-- what was cut before stays cut
pub still_cut : (ss : List Stretch) (a b low c d : ℕ) → Ascending low ss → AreCut ss c d → AreCut (marked a b ss) c d
still_cut ss a b low c d up cut = record {
  whole = λ t i x y hx hy lc ld.
      let sx : t.start ≤ x = hx.0 in
      let ex : x < t.end = hx.1 in
      let sy : t.start ≤ y = hy.0 in
      let ey : y < t.end = hy.1 in
      elim (refined ss a b low t up i) [
        | inl r ↦
            cut.whole r.0 r.1 x y (omega (arith, r.2.start), omega (arith, r.2.end)) (omega (arith, r.2.start), omega (arith, r.2.end)) lc ld
        | inr r ↦
            let w = cut.there x lc ld in
            let sw : w.0.start ≤ x = w.2.0 in
            let ew : x < w.0.end = w.2.1 in
            absurd (elim (r.apart w.0 w.1) [ inl h ↦ omega arith | inr h ↦ omega arith ])
      ];
  there = λ x lc ld. kept ss a b x (cut.there x lc ld);
}

-- ---- marked stretches ascend

module _ (a b : ℕ) (s : Stretch) (after : List Stretch) (order : a ≤ b) (some : s.start < s.end) (rest : Ascending s.end after) where
  ascend : (low c d : ℕ) (more : List Stretch) → (c < d → low ≤ c) → (c < d → Ascending d more) → (d ≤ c → Ascending low more) → Ascending low (piece c d ++ more)
  ascend low c d more le some none =
      elim (cases_lt c d) [
        | inl lt ↦
            let t : Stretch = record { start = c; end = d } in
            subst (λ (l : List Stretch). Ascending low (l ++ more)) (sym (whole_piece c d lt t refl refl)) (le lt, lt, some lt)
        | inr ge ↦ subst (λ (l : List Stretch). Ascending low (l ++ more)) (sym (no_piece c d ge)) (none ge)
      ]

  fourth : (low : ℕ) → low ≤ s.end → (max b s.start < s.end → low ≤ max b s.start) → Ascending low (behind a b s 0 ++ after)
  fourth low le h = ascend low (max b s.start) s.end after h (λ lt. rest) (λ ge. ascending_from s.end low after le rest)

  third : (low : ℕ) → low ≤ max s.start (min a s.end) → Ascending low (inside a b s 0 ++ (behind a b s 0 ++ after))
  third low le =
      ascend low (max a s.start) (min b s.end) (behind a b s 0 ++ after) (λ lt. omega arith)
      (λ lt. fourth (min b s.end) (omega arith) (λ h. omega arith)) (λ ge. fourth low (omega arith) (λ h. omega arith))

  second : (low : ℕ) → low ≤ s.start → Ascending low (before a b s 0 ++ (inside a b s 0 ++ (behind a b s 0 ++ after)))
  second low le =
      ascend low s.start (min a s.end) (inside a b s 0 ++ (behind a b s 0 ++ after)) (λ lt. le)
      (λ lt. third (min a s.end) (omega arith)) (λ ge. third low (omega arith))

  first : (low : ℕ) → low ≤ s.start → (a < b → low ≤ a) → Ascending low (gap a b s 0 ++ (before a b s 0 ++ (inside a b s 0 ++ (behind a b s 0 ++ after))))
  first low le h =
      ascend low a (min b s.start) (before a b s 0 ++ (inside a b s 0 ++ (behind a b s 0 ++ after))) (λ lt. h (omega arith))
      (λ lt. second (min b s.start) (omega arith)) (λ ge. second low le)

pub marked_ascends : (ss : List Stretch) (a b low : ℕ) → a ≤ b → (a < b → low ≤ a) → Ascending low ss → Ascending low (marked a b ss)
marked_ascends [] a b low order h up =
    subst (λ (l : List Stretch). Ascending low l) (append-nil (piece a b))
    (ascend a b (record { start = 0; end = 1 }) [] order (omega arith) tt low a b [] h (λ lt. tt) (λ ge. tt))
marked_ascends (s ∷ ss) a b low order h up =
    let lt : s.start < s.end = up.1 in
    let more = marked_ascends ss (rest_from a b s) b s.end (omega arith) (λ l. omega arith) up.2 in
    subst (λ (l : List Stretch). Ascending low l) (sym (flat a b s (marked (rest_from a b s) b ss)))
    (first a b s (marked (rest_from a b s) b ss) order lt more low up.0 h)
  where
    flat : (a b : ℕ) (s : Stretch) (after : List Stretch) → pieces a b s ++ after ≡ gap a b s 0 ++ (before a b s 0 ++ (inside a b s 0 ++ (behind a b s 0 ++ after)))
    flat a b s after =
        append_assoc (gap a b s 0 ++ before a b s 0 ++ inside a b s 0) (behind a b s 0) after
        ∙ (append_assoc (gap a b s 0 ++ before a b s 0) (inside a b s 0) (behind a b s 0 ++ after)
        ∙ append_assoc (gap a b s 0) (before a b s 0) (inside a b s 0 ++ (behind a b s 0 ++ after)))
