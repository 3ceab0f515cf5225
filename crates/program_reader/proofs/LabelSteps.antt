-- The labels of a function, line by line.
use Rattle.program_reader.proofs.Common.{◌≡◌, ◌<◌, ◌≤◌, ◌+◌, ℕ, true, false, cond, List, [], ◌∷◌, length, take, drop, arith, ap, sym, ◌∙◌, nat_lt, ◌==◌, position_or_len, lines_of, Head, Label, Order, Labels, head_of_line, operands_of_line, label_line, labels_onto, ends_body}
use Rattle.program_reader.proofs.Lines.{lines_first, lines_last, lines_cut, lines_behind}

ended : (s : Labels) (line : List ℕ) (ls : List (List ℕ)) → ends_body (head_of_line line) ≡ true → s ≡ labels_onto s (line ∷ ls)
ended s line ls h = ap (λ b. cond b s (labels_onto (label_line (head_of_line line) (operands_of_line line) s) ls)) (sym h)

pub goes_on : (s : Labels) (line : List ℕ) (ls : List (List ℕ)) → ends_body (head_of_line line) ≡ false → labels_onto (label_line (head_of_line line) (operands_of_line line) s) ls ≡ labels_onto s (line ∷ ls)
goes_on s line ls h = ap (λ b. cond b s (labels_onto (label_line (head_of_line line) (operands_of_line line) s) ls)) (sym h)

-- the body ends before the first line
pub labels_end : (s : Labels) (end : ℕ) (rest : List ℕ) → end ≡ position_or_len (λ c. c == 10) rest → end ≤ length rest → ends_body (head_of_line (take end rest)) ≡ true → s ≡ labels_onto s (lines_of rest)
labels_end s end rest e le h = ended s (take end rest) (lines_behind rest end (nat_lt end (length rest))) h ∙ ap (labels_onto s) (sym (lines_cut rest end e le))

pub labels_more : (s : Labels) (end : ℕ) (rest : List ℕ) → end ≡ position_or_len (λ c. c == 10) rest → end < length rest → ends_body (head_of_line (take end rest)) ≡ false → labels_onto (label_line (head_of_line (take end rest)) (operands_of_line (take end rest)) s) (lines_of (drop (end + 1) rest)) ≡ labels_onto s (lines_of rest)
labels_more s end rest e lt h = goes_on s (take end rest) (lines_of (drop (end + 1) rest)) h ∙ ap (labels_onto s) (sym (lines_first rest end e lt))

pub labels_last : (s : Labels) (end : ℕ) (rest : List ℕ) → end ≡ position_or_len (λ c. c == 10) rest → end ≡ length rest → ends_body (head_of_line (take end rest)) ≡ false → label_line (head_of_line (take end rest)) (operands_of_line (take end rest)) s ≡ labels_onto s (lines_of rest)
labels_last s end rest e z h = goes_on s (take end rest) [] h ∙ ap (labels_onto s) (sym (lines_last rest end e z))

pub next_at_most : (h : Head) (ws : List (List ℕ)) (s : Labels) → (label_line h ws s).next ≤ s.next + 1
next_at_most Label ws s = omega arith
next_at_most (Order v) ws s = omega arith
next_at_most _ ws s = omega arith
