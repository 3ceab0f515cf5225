-- The words of a line from a place on, step by step.
use Rattle.text_faults.proofs.Common.{◌≡◌, ◌<◌, ◌≤◌, ◌+◌, ◌==◌, inl, inr, ℕ, Bool, true, false, cond, List, [], ◌∷◌, length, take, drop, arith, refl, ap, sym, ◌∙◌, true≢false, cases_lt, take_all, drop_all, drop-drop, length-drop, length-take-le, slice_split, position_or_len, slice_split_first, is_blank, begins_comment, split_last, PlacedWord, placed_in, placed_from}

-- the pieces after the blank at a place, or none if the bytes end there
behind_short : (bytes : List ℕ) (size : ℕ) → size ≡ position_or_len is_blank bytes → size < length bytes → slice_split is_blank bytes ≡ take size bytes ∷ slice_split is_blank (drop (size + 1) bytes)
behind_short bytes size e lt = rw e (slice_split_first is_blank bytes 0 (let h : position_or_len is_blank bytes < length bytes = omega (arith, e, lt) in h))

behind_whole : (bytes : List ℕ) (size : ℕ) → size ≡ position_or_len is_blank bytes → size ≡ length bytes → slice_split is_blank bytes ≡ take size bytes ∷ []
behind_whole bytes size e z = split_last is_blank bytes (sym e ∙ z) ∙ ap (λ p. p ∷ []) (sym (take_all size bytes (omega (arith, z))))

-- a piece that isn't empty is a word, or the comment
abbrev piece_first : ℕ → List ℕ → List PlacedWord → List PlacedWord
piece_first column [] later = later
piece_first column (c ∷ cs) later = cond (c == 35) [] (record { column = column; word = c ∷ cs } ∷ later)

piece_is : (column : ℕ) (piece : List ℕ) (pieces : List (List ℕ)) → placed_in column (piece ∷ pieces) ≡ piece_first column piece (placed_in (column + length piece + 1) pieces)
piece_is column [] pieces = ap (λ k. placed_in k pieces) (let e : column + 1 ≡ column + 0 + 1 = omega arith in e)
piece_is column (c ∷ cs) pieces = refl

length_first : (size : ℕ) (bytes : List ℕ) → size ≤ length bytes → length (take size bytes) ≡ size
length_first size bytes le = length-take-le size bytes le

drop_more : (line : List ℕ) (at k : ℕ) → drop k (drop at line) ≡ drop (at + k) line
drop_more line at k = drop-drop k at line

column_is : (at size : ℕ) (piece : List ℕ) → length piece ≡ size → at + 1 + length piece + 1 ≡ at + size + 1 + 1
column_is at size piece e = omega (arith, e)

-- a word that ends before the line does, and one that ends with it
module _ (line : List ℕ) (at size : ℕ) (ends : size ≡ position_or_len is_blank (drop at line)) (le : size ≤ length (drop at line)) where
  pub word_short : size < length (drop at line) → placed_from line at ≡ piece_first (at + 1) (take size (drop at line)) (placed_from line (at + size + 1))
  word_short lt =
      ap (placed_in (at + 1)) (behind_short (drop at line) size ends lt)
      ∙ piece_is (at + 1) (take size (drop at line)) (slice_split is_blank (drop (size + 1) (drop at line)))
      ∙ ap (λ k. piece_first (at + 1) (take size (drop at line)) (placed_in k (slice_split is_blank (drop (size + 1) (drop at line))))) (column_is at size (take size (drop at line)) (length_first size (drop at line) le))
      ∙ ap (λ bs. piece_first (at + 1) (take size (drop at line)) (placed_in (at + size + 1 + 1) (slice_split is_blank bs))) (drop_more line at (size + 1) ∙ ap (λ k. drop k line) (let e : at + (size + 1) ≡ at + size + 1 = omega arith in e))

  pub word_whole : size ≡ length (drop at line) → placed_from line at ≡ piece_first (at + 1) (take size (drop at line)) []
  word_whole z =
      ap (placed_in (at + 1)) (behind_whole (drop at line) size ends z)
      ∙ piece_is (at + 1) (take size (drop at line)) []

pub nothing_behind : (line : List ℕ) (at : ℕ) → at ≡ length line → placed_from line at ≡ []
nothing_behind line at e = ap (λ bs. placed_in (at + 1) (slice_split is_blank bs)) (drop_all at line (omega (arith, e)))

-- what the first byte decides
word_here : (column : ℕ) (piece : List ℕ) (later : List PlacedWord) → 0 < length piece → begins_comment piece ≡ false → piece_first column piece later ≡ record { column = column; word = piece } ∷ later
word_here column [] later lt e = absurd (let h : 0 < 0 = lt in omega arith)
word_here column (c ∷ cs) later lt e = ap (λ b. cond b [] (record { column = column; word = c ∷ cs } ∷ later)) e

comment_here : (column : ℕ) (piece : List ℕ) (later : List PlacedWord) → begins_comment piece ≡ true → piece_first column piece later ≡ []
comment_here column [] later e = absurd (true≢false (sym e))
comment_here column (c ∷ cs) later e = ap (λ b. cond b [] (record { column = column; word = c ∷ cs } ∷ later)) e

-- a blank is passed
pub blank_passed : (line : List ℕ) (at end : ℕ) → end ≡ position_or_len is_blank (drop at line) → end ≤ 0 → at < length line → placed_from line at ≡ placed_from line (at + 1)
blank_passed line at end e le lt =
    let zeroth : 0 ≡ position_or_len is_blank (drop at line) = omega (arith, e, le) in
    let some : 0 < length (drop at line) = grind (arith, length-drop, lt) in
    word_short line at 0 zeroth (omega arith) some ∙ ap (placed_from line) (let k : at + 0 + 1 ≡ at + 1 = omega arith in k)

module _ (line : List ℕ) (start size : ℕ) (rest : List ℕ) (is : rest ≡ drop start line) (ends : size ≡ position_or_len is_blank (drop start line)) (le : start + size ≤ length line) where
  fits : size ≤ length (drop start line)
  fits = grind (arith, length-drop, le)

  pub comment_at : begins_comment (take size rest) ≡ true → placed_from line start ≡ []
  comment_at e = elim (cases_lt size (length (drop start line))) [
    | inl lt ↦ word_short line start size ends fits lt ∙ comment_here (start + 1) (take size (drop start line)) (placed_from line (start + size + 1)) (ap (λ r. begins_comment (take size r)) (sym is) ∙ e)
    | inr ge ↦ word_whole line start size ends fits (let z : size ≡ length (drop start line) = omega (arith, fits, ge) in z) ∙ comment_here (start + 1) (take size (drop start line)) [] (ap (λ r. begins_comment (take size r)) (sym is) ∙ e)
  ]

  long : 0 < size → 0 < length (take size (drop start line))
  long lt = let e : length (take size (drop start line)) ≡ size = length-take-le size (drop start line) fits in omega (arith, e, lt)

  same_word : (later : List PlacedWord) → ◌≡◌ {A = List PlacedWord} (record { column = start + 1; word = take size (drop start line) } ∷ later) (record { column = start + 1; word = take size rest } ∷ later)
  same_word later = ap (λ r. record { column = start + 1; word = take size r } ∷ later) (sym is)

  pub word_more : begins_comment (take size rest) ≡ false → 0 < size → start + size < length line → placed_from line start ≡ record { column = start + 1; word = take size rest } ∷ placed_from line (start + size + 1)
  word_more e some lt =
      word_short line start size ends fits (let h : size < length (drop start line) = grind (arith, length-drop, lt) in h)
      ∙ word_here (start + 1) (take size (drop start line)) (placed_from line (start + size + 1)) (long some) (ap (λ r. begins_comment (take size r)) (sym is) ∙ e)
      ∙ same_word (placed_from line (start + size + 1))

  pub word_last : begins_comment (take size rest) ≡ false → 0 < size → length line ≤ start + size → placed_from line start ≡ record { column = start + 1; word = take size rest } ∷ placed_from line (length line)
  word_last e some ge =
      word_whole line start size ends fits (let z : size ≡ length (drop start line) = grind (arith, length-drop, le, ge) in z)
      ∙ word_here (start + 1) (take size (drop start line)) [] (long some) (ap (λ r. begins_comment (take size r)) (sym is) ∙ e)
      ∙ same_word []
      ∙ ap (λ later. record { column = start + 1; word = take size rest } ∷ later) (sym (nothing_behind line (length line) refl))

pub rest_fits : (line rest : List ℕ) (start end : ℕ) → rest ≡ drop start line → start ≤ length line → end ≤ length rest → start + end ≤ length line
rest_fits line rest start end is le fits = let e : length rest ≡ length (drop start line) = ap length is in grind (arith, length-drop, e, le, fits)
