-- Links from piece to piece, as the code makes them.
use Rattle.log_touches.proofs.Common.{◌≡◌, ◌<◌, ◌≤◌, ◌+◌, ◌-◌, ◌∷◌, ◌∙◌, ℕ, cond, List, [], length, drop, slice_get, slice_set, Option, Some, None, IfSome, inl, inr, refl, sym, ap, subst, arith, cases_lt, length-drop, same_Some, got_other, got_set, GraphStrand, strand, LogPiece, is_that, next_on}
use Rattle.log_touches.proofs.Chains.{next_within, dropped}

-- a place that was found is one of a piece
there_by : (o : Option ℕ) (k n m : ℕ) → IfSome o (λ j. (k ≤ j) × (j < k + n)) → k + n ≤ m → IfSome o (λ j. j < m)
there_by None k n m h le = tt
there_by (Some j) k n m h le = let l : j < k + n = h.1 in omega arith

pub first_there : (u : GraphStrand) (pieces : List LogPiece) (o : Option ℕ) → o ≡ next_on u 0 pieces → IfSome o (λ j. j < length pieces)
first_there u pieces o e =
    subst (λ (p : Option ℕ). IfSome p (λ j. j < length pieces)) (sym e) (there_by (next_on u 0 pieces) 0 (length pieces) (length pieces) (next_within u 0 pieces) (omega arith))

pub next_there : (u : GraphStrand) (pieces : List LogPiece) (k : ℕ) (o : Option ℕ) → k < length pieces → o ≡ next_on u (k + 1) (drop (k + 1) pieces) → IfSome o (λ j. j < length pieces)
next_there u pieces k o lt e =
    subst (λ (p : Option ℕ). IfSome p (λ j. j < length pieces)) (sym e)
    (there_by (next_on u (k + 1) (drop (k + 1) pieces)) (k + 1) (length (drop (k + 1) pieces)) (length pieces) (next_within u (k + 1) (drop (k + 1) pieces))
    (let l = length-drop (k + 1) pieces in omega (arith, l)))

pub next_later : (u : GraphStrand) (pieces : List LogPiece) (k : ℕ) (j : ℕ) → next_on u (k + 1) (drop (k + 1) pieces) ≡ Some j → k < j
next_later u pieces k j e =
    let h : (k + 1 ≤ j) × (j < k + 1 + length (drop (k + 1) pieces)) = subst (λ (p : Option ℕ). IfSome p (λ i. (k + 1 ≤ i) × (i < k + 1 + length (drop (k + 1) pieces)))) e (next_within u (k + 1) (drop (k + 1) pieces)) in
    let l = h.0 in omega (arith, l)

-- a piece more is first on its strand
pub head_more : (pieces : List LogPiece) (k t i : ℕ) (p : LogPiece) → slice_get pieces k ≡ Some p
    → cond (is_that p.strand t i) (Some k) (next_on (strand t i) (k + 1) (drop (k + 1) pieces)) ≡ next_on (strand t i) k (drop k pieces)
head_more pieces k t i p at = ap (λ (l : List LogPiece). next_on (strand t i) k l) (sym (dropped pieces k p at))

pub none_first : (u : GraphStrand) (pieces : List LogPiece) (k : ℕ) → length pieces ≤ k → next_on u k (drop k pieces) ≡ None
none_first u pieces k le = none_of (drop k pieces) (let l = length-drop k pieces in omega (arith, l))
  where
    none_of : (ps : List LogPiece) → length ps ≤ 0 → next_on u k ps ≡ None
    none_of [] z = refl
    none_of (q ∷ qs) z = absurd (omega arith)

-- the link of a piece is set
pub link_set : (pieces : List LogPiece) (nexts : List (Option ℕ)) (place : ℕ) (p : LogPiece) (next : Option ℕ) → length nexts ≡ length pieces → slice_get pieces place ≡ Some p
    → next ≡ next_on p.strand (place + 1) (drop (place + 1) pieces) → place < length pieces
    → ((k : ℕ) (q : LogPiece) → place + 1 ≤ k → slice_get pieces k ≡ Some q → slice_get nexts k ≡ Some (next_on q.strand (k + 1) (drop (k + 1) pieces)))
    → (k : ℕ) (q : LogPiece) → place ≤ k → slice_get pieces k ≡ Some q → slice_get (slice_set nexts place next) k ≡ Some (next_on q.strand (k + 1) (drop (k + 1) pieces))
link_set pieces nexts place p next size at is lt before k q le here =
    elim (cases_lt place k) [
      | inl l ↦ got_other nexts place k next (λ e. omega (arith, e)) ∙ before k q (omega arith) here
      | inr g ↦
          let e : place ≡ k = omega arith in
          subst (λ (j : ℕ). slice_get (slice_set nexts place next) j ≡ Some (next_on q.strand (j + 1) (drop (j + 1) pieces))) e
          (got_set nexts place next (omega (arith, size))
          ∙ ap (λ (o : Option ℕ). Some o) (is ∙ ap (λ (x : LogPiece). next_on x.strand (place + 1) (drop (place + 1) pieces)) (same_Some p q (sym at ∙ (ap (slice_get pieces) e ∙ here)))))
    ]

-- how many places are left
abbrev pub left_of : Option ℕ → ℕ → ℕ
left_of None n = 0
left_of (Some i) n = n - i

pub fewer_left : (u : GraphStrand) (pieces : List LogPiece) (k : ℕ) (o : Option ℕ) → k < length pieces → o ≡ next_on u (k + 1) (drop (k + 1) pieces) → left_of o (length pieces) < length pieces - k
fewer_left u pieces k None lt e = omega arith
fewer_left u pieces k (Some j) lt e = let l = next_later u pieces k j (sym e) in omega (arith, l)
