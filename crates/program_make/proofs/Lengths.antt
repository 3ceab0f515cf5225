-- Made texts are short: at most 422 bytes for each function.
use Rattle.std.proofs.Common.{◌≡◌, ℕ, zero, suc, ◌+◌, ◌*◌, ◌<◌, ◌≤◌, ◌%◌, ◌/◌, Bool, true, false, cond, List, [], ◌++◌, length, nat_lt, refl, arith}
use Rattle.std.specs.Prelude.{codes, nat_eq}
use Rattle.std.specs.Fmt.{decimal}
use Rattle.std.proofs.Math.Nat.{mod-lt}
use Rattle.std.proofs.lemmas.Bool.{ltb-true}
use Rattle.std.proofs.lemmas.Fmt.{length-decimal-le}
use Rattle.std.proofs.lemmas.List.{length-append}
use Rattle.program_make.specs.Draws.{after_three, amount, drawn, garbage, next_value, rounds, value_after}
use Rattle.program_make.specs.Text.{children_lines, children_of, first_functions, first_lines, function_text, last_lines, main_text, numbered, par_line, side}
use Rattle.program_make.specs.Laws.{MadeAreShort}

digits : (n : ℕ) → n < 1000 → length (decimal n) ≤ 3
digits n lt = length-decimal-le 3 n (omega arith) (omega (arith, lt)) (omega (arith, lt))

-- two parts of a text
both : (a b : List ℕ) (m n : ℕ) → length a ≤ m → length b ≤ n → length (a ++ b) ≤ m + n
both a b m n la lb = let e = length-append a b in omega (arith, e, la, lb)

just : (a : List ℕ) (n : ℕ) → length a ≡ n → length a ≤ n
just a n e = omega (arith, e)

number_line : (words : List ℕ) (k n : ℕ) → length words ≡ k → n < 1000 → length (numbered words n) ≤ k + 3 + 1
number_line words k n e lt = both (words ++ decimal n) (codes "\n") (k + 3) 1 (both words (decimal n) k 3 (just words k e) (digits n lt)) (just (codes "\n") 1 refl)

-- THE PARTS OF A FUNCTION

first_short : (number added : ℕ) → number < 1000 → added < 1000 → length (first_lines number added) ≤ 73
first_short number added ln la =
    both (numbered (codes "fn f") number ++ codes "movr r3 r0\nset i2 2\nset i3 0\nnewm r0 i2 i3\nmovr r2 r0\n") (numbered (codes "set i5 ") added) 62 11
    (both (numbered (codes "fn f") number) (codes "movr r3 r0\nset i2 2\nset i3 0\nnewm r0 i2 i3\nmovr r2 r0\n") 8 54 (number_line (codes "fn f") 4 number refl ln) (just (codes "movr r3 r0\nset i2 2\nset i3 0\nnewm r0 i2 i3\nmovr r2 r0\n") 54 refl))
    (number_line (codes "set i5 ") 7 added refl la)

par_short : (left right : ℕ) → left < 1000 → right < 1000 → length (par_line left right) ≤ 14
par_short left right ll lr =
    both (codes "par f" ++ decimal left ++ codes " f" ++ decimal right) (codes "\n") 13 1
    (both (codes "par f" ++ decimal left ++ codes " f") (decimal right) 10 3
    (both (codes "par f" ++ decimal left) (codes " f") 8 2 (both (codes "par f") (decimal left) 5 3 (just (codes "par f") 5 refl) (digits left ll)) (just (codes " f") 2 refl))
    (digits right lr))
    (just (codes "\n") 1 refl)

children_short : (left right : ℕ) → left < 1000 → right < 1000 → length (children_lines left right) ≤ 123
children_short left right ll lr =
    both (par_line left right) (codes "set i4 0\ngetr r4 r2 i4\ngeti i6 r4 i4\nadd i5 i5 i6\nset i4 1\ngetr r4 r2 i4\nset i4 0\ngeti i6 r4 i4\nadd i5 i5 i6\n") 14 109 (par_short left right ll lr) (just (codes "set i4 0\ngetr r4 r2 i4\ngeti i6 r4 i4\nadd i5 i5 i6\nset i4 1\ngetr r4 r2 i4\nset i4 0\ngeti i6 r4 i4\nadd i5 i5 i6\n") 109 refl)

last_short : (size times where_to : ℕ) → size < 1000 → times < 1000 → where_to < 1000 → length (last_lines size times where_to) ≤ 226
last_short size times where_to ls lt lw =
    let a = codes "set i2 0\n" in
    let b = numbered (codes "set i3 ") size in
    let c = numbered (codes "set i7 ") times in
    let d = codes "set i8 1\nlab a\nnewm r5 i2 i3\nputi r5 i2 i7\nsub i7 i7 i8\njz i7 b\njmp a\nlab b\n" in
    let e = numbered (codes "set i4 ") where_to in
    let f = codes "putr r3 i4 r5\nset i3 1\nnewm r6 i2 i3\nputi r6 i2 i5\nputr r3 i4 r6\ngetr r7 r3 i4\ngeti i0 r7 i2\nnil r0\nret\nend\n" in
    both (a ++ b ++ c ++ d ++ e) f 118 108
    (both (a ++ b ++ c ++ d) e 107 11
    (both (a ++ b ++ c) d 31 76
    (both (a ++ b) c 20 11 (both a b 9 11 (just a 9 refl) (number_line (codes "set i3 ") 7 size refl ls)) (number_line (codes "set i7 ") 7 times refl lt))
    (just d 76 refl))
    (number_line (codes "set i4 ") 7 where_to refl lw))
    (just f 108 refl)

-- WHAT IS DRAWN IS SMALL

pub amount_small : (x : ℕ) → amount x < 1000
amount_small x = mod-lt (next_value x / 65536) (omega arith)

pub garbage_small : (x : ℕ) → garbage x < 1000
garbage_small x = let h : drawn (next_value (next_value x)) 60 < 60 = mod-lt (next_value (next_value x) / 65536) (omega arith) in omega (arith, h)

pub rounds_small : (x : ℕ) → rounds x < 1000
rounds_small x = let h : drawn (after_three x) 40 < 40 = mod-lt (after_three x / 65536) (omega arith) in omega (arith, h)

pub side_small : (i : ℕ) → side i < 1000
side_small i = side_small_by_cases (nat_eq i 0) (nat_eq (i % 2) 0)
  where
    side_small_by_cases : (b c : Bool) → cond b 0 (cond c 1 0) < 1000
    side_small_by_cases true c = omega arith
    side_small_by_cases false true = omega arith
    side_small_by_cases false false = omega arith

-- A FUNCTION, AND ALL

children_of_short : (size i : ℕ) → size ≤ 1000 → length (children_of size i) ≤ 123
children_of_short size i le = children_of_short_by_cases (nat_lt (2 * i + 2) size) refl
  where
    children_of_short_by_cases : (b : Bool) → nat_lt (2 * i + 2) size ≡ b → length (cond b (children_lines (2 * i + 1) (2 * i + 2)) []) ≤ 123
    children_of_short_by_cases true e = let lt = ltb-true (2 * i + 2) size e in children_short (2 * i + 1) (2 * i + 2) (omega (arith, lt, le)) (omega (arith, lt, le))
    children_of_short_by_cases false e = omega arith

function_short : (size i x : ℕ) → size ≤ 1000 → i < 1000 → length (function_text size i x) ≤ 422
function_short size i x le lt =
    both (first_lines i (amount x) ++ children_of size i) (last_lines (garbage x) (rounds x) (side i)) 196 226
    (both (first_lines i (amount x)) (children_of size i) 73 123 (first_short i (amount x) lt (amount_small x)) (children_of_short size i le))
    (last_short (garbage x) (rounds x) (side i) (garbage_small x) (rounds_small x) (side_small i))

functions_short : (seed size k : ℕ) → size ≤ 1000 → k ≤ 1000 → length (first_functions seed size k) ≤ 422 * k
functions_short seed size zero ls lk = omega arith
functions_short seed size (suc k) ls lk =
    let so = functions_short seed size k ls (omega (arith, lk)) in
    let now = function_short size k (value_after seed k) ls (omega (arith, lk)) in
    let both_are = both (first_functions seed size k) (function_text size k (value_after seed k)) (422 * k) 422 so now in
    omega (arith, both_are)

pub made_are_short : MadeAreShort
made_are_short seed size le =
    let all = both (first_functions seed size size) main_text (422 * size) 111 (functions_short seed size size le le) (just main_text 111 refl) in
    omega (arith, all, le)
