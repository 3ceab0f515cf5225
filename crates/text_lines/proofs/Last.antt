-- Every text has at least one line.
use Rattle.text_lines.proofs.Common.{◌≡◌, ◌==◌, ℕ, Bool, true, false, List, [], ◌∷◌, cond, refl, onto_first, is_last, lines_of}

more_by : (x : ℕ) (ps : List (List ℕ)) → is_last (onto_first x ps) ≡ false
more_by x [] = refl
more_by x (p ∷ ps) = refl

either_line : (b : Bool) (ps : List (List ℕ)) (x : ℕ) → is_last (cond b ([] ∷ ps) (onto_first x ps)) ≡ false
either_line true ps x = refl
either_line false ps x = more_by x ps

pub some_line : (text : List ℕ) → is_last (lines_of text) ≡ false
some_line [] = refl
some_line (c ∷ cs) = either_line (c == 10) (lines_of cs) c
