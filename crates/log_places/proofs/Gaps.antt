-- What lies before the next stretch is added as it is.
use Rattle.log_places.proofs.Common.{◌≡◌, ℕ, ◌<◌, ◌≤◌, ◌-◌, true, List, [], ◌∷◌, ◌++◌, length, get_or, take, drop, min, max, refl, ap, sym, ◌∙◌, arith, leb-true, Stretch, marked, pieces, rest_from, Ascending, insert, is_gap}
use Rattle.log_places.proofs.Marking.{no_piece, whole_piece, ascending_from}
use Rattle.log_places.proofs.Tiling.{none_marked}
use Rattle.log_places.proofs.Ends.{ascending_dropped, marked_behind, rest_is, ended_of}

before_and_whole : (a b : ℕ) (s t : Stretch) → t.start ≡ a → t.end ≡ b → a < b → b ≤ s.start → s.start < s.end → pieces a b s ≡ t ∷ s ∷ []
before_and_whole a b s t p q some le lt =
    let e : t.end ≡ min b s.start = q ∙ omega arith in
    let f : s.start ≡ max b s.start = omega arith in
    rw (whole_piece a (min b s.start) (omega arith) t p e, no_piece s.start (min a s.end) (omega arith), no_piece (max a s.start) (min b s.end) (omega arith), whole_piece (max b s.start) s.end (omega arith) s f refl) refl

gap_marked : (ss : List Stretch) (a b low : ℕ) (t : Stretch) → t.start ≡ a → t.end ≡ b → a < b → Ascending low ss → is_gap b ss ≡ true → marked a b ss ≡ t ∷ ss
gap_marked [] a b low t p q some up e = whole_piece a b some t p q
gap_marked (s ∷ ss) a b low t p q some up e =
    let le : b ≤ s.start = leb-true b s.start e in
    let lt : s.start < s.end = up.1 in
    let same : rest_from a b s ≡ b = omega arith in
    rw (before_and_whole a b s t p q some le lt, same) (ap (λ l. t ∷ s ∷ l) (none_marked ss b (ascending_from s.end b ss (omega arith) up.2)))

-- as the code tells it
pub gap_filled : (ss xs ys : List Stretch) (n a b : ℕ) → xs ≡ ss → ys ≡ ss → Ascending 0 ss → a < b → ((k : ℕ) (d : Stretch) → k < n → (get_or xs k d).end ≤ a)
    → is_gap b (take (length ys - n) (drop n ys)) ≡ true → insert ss n (record { start = a; end = b }) ≡ marked a b ss
gap_filled ss xs ys n a b same same' up some ended is =
    let low = ascending_dropped ss n 0 up in
    let gap : is_gap b (drop n ss) ≡ true = sym (ap (is_gap b) (rest_is ss ys n same')) ∙ is in
    sym (ap (λ l. take n ss ++ l) (gap_marked (drop n ss) a b low.0 (record { start = a; end = b }) refl refl some low.1 gap))
    ∙ marked_behind ss n a b up (omega arith) (ended_of ss xs n a same ended)
