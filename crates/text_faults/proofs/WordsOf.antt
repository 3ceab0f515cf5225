-- The words of a line with their columns, and without.
use Rattle.text_faults.proofs.Common.{◌≡◌, ◌+◌, ◌==◌, ℕ, Bool, true, false, cond, List, [], ◌∷◌, length, map, filter, refl, ap, sym, ◌∙◌, Option, Some, None, option_map, if◌then◌else◌, slice_split, is_blank, is_word, before_comment, words_of, head_of_words, operands_of, only_name, head_of_line, PlacedWord, placed_in, placed_words, head_of, behind_first, lone_name}

abbrev pub texts : List PlacedWord → List (List ℕ)
texts ps = map (λ p. p.word) ps

up_to_comment : (b : Bool) (p : PlacedWord) (ps : List PlacedWord) (ws : List (List ℕ)) → texts ps ≡ ws → texts (cond b [] (p ∷ ps)) ≡ cond b [] (p.word ∷ ws)
up_to_comment true p ps ws e = refl
up_to_comment false p ps ws e = ap (λ xs. p.word ∷ xs) e

texts_in : (column : ℕ) (pieces : List (List ℕ)) → texts (placed_in column pieces) ≡ before_comment (filter is_word pieces)
texts_in column [] = refl
texts_in column ([] ∷ pieces) = texts_in (column + 1) pieces
texts_in column ((c ∷ cs) ∷ pieces) =
    up_to_comment (c == 35) (record { column = column; word = c ∷ cs }) (placed_in (column + length (c ∷ cs) + 1) pieces) (before_comment (filter is_word pieces))
    (texts_in (column + length (c ∷ cs) + 1) pieces)

-- the words of a line are those of the reader
pub texts_of : (line : List ℕ) → texts (placed_words line) ≡ words_of line
texts_of line = texts_in 1 (slice_split is_blank line)

same_head : (ps : List PlacedWord) → head_of ps ≡ head_of_words (texts ps)
same_head [] = refl
same_head (p ∷ ps) = refl

-- so a line is of one kind here and there
pub head_is : (line : List ℕ) → head_of (placed_words line) ≡ head_of_line line
head_is line = same_head (placed_words line) ∙ ap head_of_words (texts_of line)

pub texts_behind : (ps : List PlacedWord) → texts (behind_first ps) ≡ operands_of (texts ps)
texts_behind [] = refl
texts_behind (p ∷ ps) = refl

-- and so is the name that stands alone
pub lone_is_only : (ps : List PlacedWord) → lone_name ps ≡ only_name (texts ps)
lone_is_only [] = refl
lone_is_only (p ∷ []) = refl
lone_is_only (p ∷ q ∷ ps) = refl
