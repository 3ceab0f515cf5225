-- The faults of the lines of a text, one line after the other.
use Rattle.text_faults.proofs.Common.{◌≡◌, ◌<◌, ◌≤◌, ◌+◌, ◌++◌, ℕ, Bool, true, false, List, [], ◌∷◌, length, take, drop, arith, refl, ap, sym, ◌∙◌, append_assoc, append-nil, ◌==◌, position_or_len, is_last, lines_of, some_line, Head, Blank, Begin, End, Label, Order, Unknown, Fault, LinesAbove, PlacedWord, placed_words, head_of, behind_first, faults_on, faults_from, walked, walked_by}
use Rattle.text_faults.proofs.TextLines.{first_line, last_line}

module _ (w : LinesAbove) (n end : ℕ) (rest line : List ℕ) (last : Bool) (before now total : List Fault) (at : end ≡ position_or_len (λ c. c == 10) rest) (is : line ≡ take end rest) (added : now ≡ before ++ faults_on w n last line) (whole : before ++ faults_from w n (lines_of rest) ≡ total) where
  pub last_added : end ≡ length rest → last ≡ true → now ≡ total
  last_added z e =
      added
      ∙ ap (λ b. before ++ faults_on w n b line) e
      ∙ ap (λ l. before ++ faults_on w n true l) is
      ∙ ap (λ x. before ++ x) (sym (append-nil (faults_on w n true (take end rest))))
      ∙ ap (λ ls. before ++ faults_from w n ls) (sym (last_line rest end at z))
      ∙ whole

  more_by : (ls : List (List ℕ)) → is_last ls ≡ false → last ≡ false → lines_of rest ≡ take end rest ∷ ls → now ++ faults_from (walked w n (take end rest) ls) (n + 1) ls ≡ total
  more_by ls some e d =
      ap (λ x. x ++ faults_from (walked w n (take end rest) ls) (n + 1) ls) (added ∙ ap (λ b. before ++ faults_on w n b line) (e ∙ sym some) ∙ ap (λ l. before ++ faults_on w n (is_last ls) l) is)
      ∙ append_assoc before (faults_on w n (is_last ls) (take end rest)) (faults_from (walked w n (take end rest) ls) (n + 1) ls)
      ∙ ap (λ xs. before ++ faults_from w n xs) (sym d)
      ∙ whole

  pub more_added : (w' : LinesAbove) (below : List ℕ) → below ≡ drop (end + 1) rest → w' ≡ walked w n line (lines_of below) → end < length rest → last ≡ false → now ++ faults_from w' (n + 1) (lines_of below) ≡ total
  more_added w' below d passed lt e =
      ap (λ v. now ++ faults_from v (n + 1) (lines_of below)) (passed ∙ ap (λ l. walked w n l (lines_of below)) is)
      ∙ more_by (lines_of below) (some_line below) e (first_line rest end at lt ∙ ap (λ b. take end rest ∷ lines_of b) (sym d))

begun_by : (w : LinesAbove) (n : ℕ) (h : Head) (ps : List PlacedWord) (ls : List (List ℕ)) → (walked_by w n h ps ls).begun ≤ w.begun + 1
begun_by w n Blank ps ls = omega arith
begun_by w n Begin ps ls = omega arith
begun_by w n End ps ls = omega arith
begun_by w n Label ps ls = omega arith
begun_by w n (Order v) ps ls = omega arith
begun_by w n Unknown ps ls = omega arith

orders_by : (w : LinesAbove) (n : ℕ) (h : Head) (ps : List PlacedWord) (ls : List (List ℕ)) → (walked_by w n h ps ls).orders ≤ w.orders + 1
orders_by w n Blank ps ls = omega arith
orders_by w n Begin ps ls = omega arith
orders_by w n End ps ls = omega arith
orders_by w n Label ps ls = omega arith
orders_by w n (Order v) ps ls = omega arith
orders_by w n Unknown ps ls = omega arith

pub begun_next : (w v : LinesAbove) (n : ℕ) (line : List ℕ) (ls : List (List ℕ)) → v ≡ walked w n line ls → v.begun ≤ w.begun + 1
begun_next w v n line ls e = rw e (begun_by w n (head_of (placed_words line)) (behind_first (placed_words line)) ls)

pub orders_next : (w v : LinesAbove) (n : ℕ) (line : List ℕ) (ls : List (List ℕ)) → v ≡ walked w n line ls → v.orders ≤ w.orders + 1
orders_next w v n line ls e = rw e (orders_by w n (head_of (placed_words line)) (behind_first (placed_words line)) ls)
