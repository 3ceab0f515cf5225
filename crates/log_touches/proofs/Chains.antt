-- The pieces of a strand, one after the other, have its accesses.
use Rattle.log_touches.proofs.Common.{◌≡◌, ◌<◌, ◌≤◌, ◌+◌, ◌++◌, ◌∷◌, ◌∙◌, ℕ, zero, suc, Bool, true, false, cond, List, [], length, take, drop, slice_get, Option, Some, None, IfSome, refl, sym, ap, subst, arith, filter, flat_map, flat_map-append, length-append, length-map, take-append-drop, filter-append, same_Some, none_some, Act, GraphStrand, Event, event, is_on, LogPiece, is_that, acts_of_piece, events_in, events_of_pieces, on_strand, Region, Touch, touches_of_act, touches_from, numbered_from, touches_behind, firsts_from, next_on}
use Rattle.std.proofs.lemmas.List.{append-nil}

-- WHERE THE NEXT PIECE STANDS

next_by : (k n i : ℕ) (o : Option ℕ) (b : Bool) → IfSome o (λ j. (k + 1 ≤ j) × (j < k + 1 + n)) → IfSome (cond b (Some k) o) (λ j. (k ≤ j) × (j < k + suc n))
next_by k n i o true h = (omega arith, omega arith)
next_by k n i None false h = tt
next_by k n i (Some j) false h = let a : k + 1 ≤ j = h.0 in let b : j < k + 1 + n = h.1 in (omega arith, omega arith)

pub next_within : (u : GraphStrand) (k : ℕ) (ps : List LogPiece) → IfSome (next_on u k ps) (λ j. (k ≤ j) × (j < k + length ps))
next_within u k [] = tt
next_within u k (p ∷ ps) = next_by k (length ps) 0 (next_on u (k + 1) ps) (is_that p.strand u.task u.index) (next_within u (k + 1) ps)

-- ONE PIECE MORE

pub record IsSplit (ps : List LogPiece) (k : ℕ) (p : LogPiece) (rest : List LogPiece) : Type 0 where
  pub at : slice_get ps k ≡ Some p
  pub behind : drop (k + 1) ps ≡ rest
  pub front : take (k + 1) ps ≡ take k ps ++ p ∷ []
  pub there : k < length ps

pub split_at : (ps : List LogPiece) (k : ℕ) (p : LogPiece) (rest : List LogPiece) → drop k ps ≡ p ∷ rest → IsSplit ps k p rest
split_at [] zero p rest e = absurd (let z : ◌≡◌ {A = List LogPiece} [] (p ∷ rest) = e in cc)
split_at [] (suc k) p rest e = absurd (let z : ◌≡◌ {A = List LogPiece} [] (p ∷ rest) = e in cc)
split_at (q ∷ qs) zero p rest e =
    let a : q ≡ p = (let z : ◌≡◌ {A = List LogPiece} (q ∷ qs) (p ∷ rest) = e in cc) in
    let b : qs ≡ rest = (let z : ◌≡◌ {A = List LogPiece} (q ∷ qs) (p ∷ rest) = e in cc) in
    record { at = ap (λ (x : LogPiece). Some x) a; behind = b; front = ap (λ (x : LogPiece). x ∷ []) a; there = omega arith }
split_at (q ∷ qs) (suc k) p rest e =
    let s = split_at qs k p rest e in
    let n : suc k + 1 ≡ suc (k + 1) = omega arith in
    record {
      at = s.at;
      behind = ap (λ m. drop m (q ∷ qs)) n ∙ s.behind;
      front = ap (λ m. take m (q ∷ qs)) n ∙ ap (λ (l : List LogPiece). q ∷ l) s.front;
      there = (let h = s.there in omega arith);
    }

pub dropped : (ps : List LogPiece) (k : ℕ) (p : LogPiece) → slice_get ps k ≡ Some p → drop k ps ≡ p ∷ drop (k + 1) ps
dropped [] k p e = none_some e
dropped (q ∷ qs) zero p e = ap (λ (x : LogPiece). x ∷ qs) (same_Some q p e)
dropped (q ∷ qs) (suc k) p e =
    dropped qs k p e ∙ ap (λ m. p ∷ drop m (q ∷ qs)) (let n : suc (k + 1) ≡ suc k + 1 = omega arith in n)

module _ (texts : List (List ℕ)) (pieces : List LogPiece) where
  -- how many acts come before the piece at a place
  abbrev pub acts_up_to : ℕ → ℕ
  acts_up_to k = length (events_of_pieces texts (take k pieces))

  pub events_more : (k : ℕ) (p : LogPiece) (rest : List LogPiece) → IsSplit pieces k p rest → events_of_pieces texts (take (k + 1) pieces) ≡ events_of_pieces texts (take k pieces) ++ events_in texts p
  events_more k p rest split =
      ap (events_of_pieces texts) split.front
      ∙ (flat_map-append (events_in texts) (take k pieces) (p ∷ []) ∙ ap (λ l. events_of_pieces texts (take k pieces) ++ l) (append-nil (events_in texts p)))

  pub count_more : (k : ℕ) (p : LogPiece) (rest : List LogPiece) → IsSplit pieces k p rest → acts_up_to (k + 1) ≡ acts_up_to k + length (acts_of_piece texts p)
  count_more k p rest split =
      ap length (events_more k p rest split)
      ∙ (length-append (events_of_pieces texts (take k pieces)) (events_in texts p) ∙ ap (λ n. acts_up_to k + n) (length-map (acts_of_piece texts p) (event p.strand)))

  pub few_up_to : (k : ℕ) → acts_up_to k ≤ length (events_of_pieces texts pieces)
  few_up_to k =
      let e = ap (λ l. length (events_of_pieces texts l)) (sym (take-append-drop k pieces)) ∙ (ap length (flat_map-append (events_in texts) (take k pieces) (drop k pieces))
      ∙ length-append (events_of_pieces texts (take k pieces)) (events_of_pieces texts (drop k pieces))) in
      omega (arith, e)

-- EVENTS WITH THEIR NUMBERS

numbered_append : (n : ℕ) (xs ys : List Event) → numbered_from n (xs ++ ys) ≡ numbered_from n xs ++ numbered_from (n + length xs) ys
numbered_append n [] ys = ap (λ m. numbered_from m ys) (let e : n ≡ n + 0 = omega arith in e)
numbered_append n (x ∷ xs) ys =
    ap (λ l. (n, x) ∷ l) (numbered_append (n + 1) xs ys ∙ ap (λ m. numbered_from (n + 1) xs ++ numbered_from m ys) (let e : n + 1 + length xs ≡ n + suc (length xs) = omega arith in e))

module _ (rs : List Region) (u : GraphStrand) (s : ℕ) where
  abbrev on_it : ℕ × Event → Bool
  on_it p = is_on u p.1

  abbrev touches_by : ℕ × Event → List Touch
  touches_by p = touches_of_act rs s p.0 p.1.act

  pub behind_append : (n : ℕ) (xs ys : List Event) → touches_behind rs u s n (xs ++ ys) ≡ touches_behind rs u s n xs ++ touches_behind rs u s (n + length xs) ys
  behind_append n xs ys =
      ap (λ l. flat_map touches_by (filter on_it l)) (numbered_append n xs ys)
      ∙ (ap (flat_map touches_by) (filter-append on_it (numbered_from n xs) (numbered_from (n + length xs) ys))
      ∙ flat_map-append touches_by (filter on_it (numbered_from n xs)) (filter on_it (numbered_from (n + length xs) ys)))

  own_by : (n : ℕ) (v : GraphStrand) (a : Act) (more : List (ℕ × Event)) (b : Bool) → is_that v u.task u.index ≡ b
      → filter on_it ((n, event v a) ∷ more) ≡ cond b ((n, event v a) ∷ filter on_it more) (filter on_it more)
  own_by n v a more b e = ap (λ c. cond c ((n, event v a) ∷ filter on_it more) (filter on_it more)) e

  pub of_own : (v : GraphStrand) (n : ℕ) (acts : List Act) → is_that v u.task u.index ≡ true → touches_behind rs u s n (on_strand v acts) ≡ touches_from rs s n acts
  of_own v n [] e = refl
  of_own v n (a ∷ acts) e =
      ap (flat_map touches_by) (own_by n v a (numbered_from (n + 1) (on_strand v acts)) true e) ∙ ap (λ l. touches_of_act rs s n a ++ l) (of_own v (n + 1) acts e)

  pub of_others : (v : GraphStrand) (n : ℕ) (acts : List Act) → is_that v u.task u.index ≡ false → touches_behind rs u s n (on_strand v acts) ≡ []
  of_others v n [] e = refl
  of_others v n (a ∷ acts) e = ap (flat_map touches_by) (own_by n v a (numbered_from (n + 1) (on_strand v acts)) false e) ∙ of_others v (n + 1) acts e

  -- ALONG THE PIECES

  module _ (texts : List (List ℕ)) (pieces : List LogPiece) where
    abbrev acts_before : ℕ → ℕ
    acts_before k = acts_up_to texts pieces k

    -- the accesses from the piece at a place on
    abbrev pub from_piece : ℕ → List Touch
    from_piece k = touches_behind rs u s (acts_before k) (events_of_pieces texts (drop k pieces))

    pub one_more : (k : ℕ) (p : LogPiece) (rest : List LogPiece) → drop k pieces ≡ p ∷ rest
        → from_piece k ≡ touches_behind rs u s (acts_before k) (on_strand p.strand (acts_of_piece texts p)) ++ from_piece (k + 1)
    one_more k p rest e =
        let split = split_at pieces k p rest e in
        ap (λ l. touches_behind rs u s (acts_before k) (events_of_pieces texts l)) e
        ∙ (behind_append (acts_before k) (events_in texts p) (events_of_pieces texts rest)
        ∙ ap (λ l. touches_behind rs u s (acts_before k) (events_in texts p) ++ l)
        (ap (λ n. touches_behind rs u s n (events_of_pieces texts rest))
        (ap (λ n. acts_before k + n) (length-map (acts_of_piece texts p) (event p.strand)) ∙ sym (count_more texts pieces k p rest split))
        ∙ ap (λ l. touches_behind rs u s (acts_before (k + 1)) (events_of_pieces texts l)) (sym split.behind)))

    -- the next piece of the strand
    pub record IsNext (k i : ℕ) : Type 0 where
      pub piece : LogPiece
      pub at : slice_get pieces i ≡ Some piece
      pub there : i < length pieces
      pub own : is_that piece.strand u.task u.index ≡ true
      pub same : from_piece k ≡ from_piece i

    next_step : (k i : ℕ) (p : LogPiece) (rest : List LogPiece) (b : Bool) → is_that p.strand u.task u.index ≡ b → drop k pieces ≡ p ∷ rest
        → (next_on u (k + 1) rest ≡ Some i → IsNext (k + 1) i) → cond b (Some k) (next_on u (k + 1) rest) ≡ Some i → IsNext k i
    next_step k i p rest true e d more h =
        let split = split_at pieces k p rest d in
        let same : k ≡ i = same_Some k i h in
        subst (λ j. IsNext k j) same (record { piece = p; at = split.at; there = split.there; own = e; same = refl })
    next_step k i p rest false e d more h =
        let m = more h in
        record {
          piece = m.piece;
          at = m.at;
          there = m.there;
          own = m.own;
          same = one_more k p rest d ∙ (ap (λ l. l ++ from_piece (k + 1)) (of_others p.strand (acts_before k) (acts_of_piece texts p) e) ∙ m.same);
        }

    pub next_is : (rest : List LogPiece) (k i : ℕ) → drop k pieces ≡ rest → next_on u k rest ≡ Some i → IsNext k i
    next_is [] k i d h = none_some h
    next_is (p ∷ rest) k i d h =
        next_step k i p rest (is_that p.strand u.task u.index) refl d (next_is rest (k + 1) i (split_at pieces k p rest d).behind) h

    none_step : (k : ℕ) (p : LogPiece) (rest : List LogPiece) (b : Bool) → is_that p.strand u.task u.index ≡ b → drop k pieces ≡ p ∷ rest
        → (next_on u (k + 1) rest ≡ None → from_piece (k + 1) ≡ []) → cond b (Some k) (next_on u (k + 1) rest) ≡ None → from_piece k ≡ []
    none_step k p rest true e d more h = none_some (sym h)
    none_step k p rest false e d more h =
        one_more k p rest d ∙ (ap (λ l. l ++ from_piece (k + 1)) (of_others p.strand (acts_before k) (acts_of_piece texts p) e) ∙ more h)

    pub none_left : (rest : List LogPiece) (k : ℕ) → drop k pieces ≡ rest → next_on u k rest ≡ None → from_piece k ≡ []
    none_left [] k d h = ap (λ l. touches_behind rs u s (acts_before k) (events_of_pieces texts l)) d
    none_left (p ∷ rest) k d h =
        none_step k p rest (is_that p.strand u.task u.index) refl d (none_left rest (k + 1) (split_at pieces k p rest d).behind) h

    -- the piece, and then those behind it
    pub piece_more : (i : ℕ) (p : LogPiece) → slice_get pieces i ≡ Some p → is_that p.strand u.task u.index ≡ true
        → from_piece i ≡ touches_from rs s (acts_before i) (acts_of_piece texts p) ++ from_piece (i + 1)
    piece_more i p at own =
        one_more i p (drop (i + 1) pieces) (dropped pieces i p at)
        ∙ ap (λ l. l ++ from_piece (i + 1)) (of_own p.strand (acts_before i) (acts_of_piece texts p) own)

-- THE NUMBERS OF FIRST ACTS

pub first_at : (texts : List (List ℕ)) (n k : ℕ) (ps : List LogPiece) → k < length ps → slice_get (firsts_from texts n ps) k ≡ Some (n + length (events_of_pieces texts (take k ps)))
first_at texts n k [] lt = absurd (omega arith)
first_at texts n zero (p ∷ ps) lt = ap (λ m. Some m) (let e : n ≡ n + 0 = omega arith in e)
first_at texts n (suc k) (p ∷ ps) lt =
    first_at texts (n + length (acts_of_piece texts p)) k ps (omega arith)
    ∙ ap (λ m. Some m)
    (let e : length (events_in texts p ++ events_of_pieces texts (take k ps)) ≡ length (events_in texts p) + length (events_of_pieces texts (take k ps)) = length-append (events_in texts p) (events_of_pieces texts (take k ps)) in
    let f : length (events_in texts p) ≡ length (acts_of_piece texts p) = length-map (acts_of_piece texts p) (event p.strand) in
    omega arith)

pub firsts_length : (texts : List (List ℕ)) (n : ℕ) (ps : List LogPiece) → length (firsts_from texts n ps) ≡ length ps
firsts_length texts n [] = refl
firsts_length texts n (p ∷ ps) = ap suc (firsts_length texts (n + length (acts_of_piece texts p)) ps)
