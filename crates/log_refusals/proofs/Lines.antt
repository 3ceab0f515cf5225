-- A search along the lines of files.
use Rattle.log_refusals.proofs.Common.{◌≡◌, ◌∙◌, ◌<◌, ◌+◌, ℕ, suc, List, [], ◌∷◌, ◌++◌, length, drop, drop-cons, add-one, get_or, refl, ap, sym, subst, Option, Some, None, fold, arith, false, MatchOption, drop_all, fold-append, is_last, lines_of, some_line, line_of, GraphStrand, LogPosition, all_but_last, lines_in, Placed, position, placed_said, placed_lines, placed_files, here_behind, later_of}

-- LINES OF A TEXT

but_last : (x : List ℕ) (xs : List (List ℕ)) → is_last xs ≡ false → all_but_last (x ∷ xs) ≡ x ∷ all_but_last xs
but_last x [] e = absurd cc
but_last x (y ∷ ys) e = refl

line_more : (left line rest : List ℕ) → lines_of left ≡ line ∷ lines_of rest → lines_in left ≡ line ∷ lines_in rest
line_more left line rest e = ap all_but_last e ∙ but_last line (lines_of rest) (some_line rest)

line_last : (left line : List ℕ) → lines_of left ≡ line ∷ [] → lines_in left ≡ []
line_last left line e = ap all_but_last e

-- what a text goes on with
pub at_some : {X : Type 0} (now : X → List ℕ) (o : Option X) (left line : List ℕ) (r : X) → o ≡ Some r → MatchOption o (lines_of left ≡ line ∷ []) (λ x. lines_of left ≡ line ∷ lines_of (now x)) → lines_of left ≡ line ∷ lines_of (now r)
at_some now o left line r e h = subst (λ p. MatchOption p (lines_of left ≡ line ∷ []) (λ x. lines_of left ≡ line ∷ lines_of (now x))) e h

pub at_none : {X : Type 0} (now : X → List ℕ) (o : Option X) (left line : List ℕ) → o ≡ None → MatchOption o (lines_of left ≡ line ∷ []) (λ x. lines_of left ≡ line ∷ lines_of (now x)) → lines_of left ≡ line ∷ []
at_none now o left line e h = subst (λ p. MatchOption p (lines_of left ≡ line ∷ []) (λ x. lines_of left ≡ line ∷ lines_of (now x))) e h

-- A SEARCH

module _ (u : GraphStrand) (file : ℕ) where
  -- what is found at the end, from a line on
  abbrev pub found_from : Option GraphStrand → ℕ → List ℕ → Option LogPosition → Option LogPosition
  found_from here n text found = fold (later_of u) found (placed_lines file here n (lines_in text))

  -- behind a line more
  pub found_next : (here : Option GraphStrand) (n : ℕ) (left line rest : List ℕ) (found next : Option LogPosition) (behind : Option GraphStrand) → lines_of left ≡ line ∷ lines_of rest
      → next ≡ fold (later_of u) found (placed_said (position file n) here (line_of line)) → behind ≡ here_behind here (line_of line)
      → found_from behind (n + 1) rest next ≡ found_from here n left found
  found_next here n left line rest found next behind e f b =
      ap (λ (x : Option LogPosition). found_from behind (n + 1) rest x) f
      ∙ ap (λ (h : Option GraphStrand). found_from h (n + 1) rest (fold (later_of u) found (placed_said (position file n) here (line_of line)))) b
      ∙ sym (fold-append (later_of u) found (placed_said (position file n) here (line_of line)) (placed_lines file (here_behind here (line_of line)) (n + 1) (lines_in rest)))
      ∙ ap (λ (ls : List (List ℕ)). fold (later_of u) found (placed_lines file here n ls)) (sym (line_more left line rest e))

  -- at the last line, which has no line feed
  pub found_last : (here : Option GraphStrand) (n : ℕ) (left line : List ℕ) (found : Option LogPosition) → lines_of left ≡ line ∷ [] → found ≡ found_from here n left found
  found_last here n left line found e = ap (λ (ls : List (List ℕ)). fold (later_of u) found (placed_lines file here n ls)) (sym (line_last left line e))

-- FILES

module _ (u : GraphStrand) where
  -- what is found at the end, from a file on
  abbrev pub found_in : List (List ℕ) → ℕ → Option LogPosition → Option LogPosition
  found_in texts file found = fold (later_of u) found (placed_files file (drop file texts))

  files_more : (texts : List (List ℕ)) (file : ℕ) (text : List ℕ) → file < length texts → text ≡ get_or texts file text
      → placed_files file (drop file texts) ≡ placed_lines file None 1 (lines_in text) ++ placed_files (file + 1) (drop (file + 1) texts)
  files_more texts file text lt e = ap (placed_files file) (drop-cons texts file text lt ∙ ap (λ (t : List ℕ). t ∷ drop (suc file) texts) (sym e)) ∙ rw add-one refl

  pub file_next : (texts : List (List ℕ)) (file : ℕ) (item text : List ℕ) (found next : Option LogPosition) → file < length texts → item ≡ get_or texts file item → text ≡ item
      → next ≡ found_from u file None 1 text found → found_in texts (file + 1) next ≡ found_in texts file found
  file_next texts file item text found next lt e t f =
      ap (λ (x : Option LogPosition). found_in texts (file + 1) x) (f ∙ ap (λ (s : List ℕ). found_from u file None 1 s found) t)
      ∙ sym (fold-append (later_of u) found (placed_lines file None 1 (lines_in item)) (placed_files (file + 1) (drop (file + 1) texts)))
      ∙ ap (fold (later_of u) found) (sym (files_more texts file item lt e))

  pub files_last : (texts : List (List ℕ)) (file : ℕ) (found : Option LogPosition) → length texts ≡ file → found ≡ found_in texts file found
  files_last texts file found e = ap (λ (ts : List (List ℕ)). fold (later_of u) found (placed_files file ts)) (sym (drop_all file texts (omega arith)))
