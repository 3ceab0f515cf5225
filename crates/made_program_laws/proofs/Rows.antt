-- The lines of made texts.
use Rattle.made_program_laws.proofs.Common.{◌≡◌, ◌≤◌, ◌<◌, ◌+◌, ◌*◌, ◌++◌, ℕ, zero, suc, Bool, true, false, cond, List, [], ◌∷◌, arith, refl, ap, sym, ◌∙◌, append_assoc, nat_lt, codes, decimal, ltb-true, lines_of, spaced, AreProper, IsProper, line_first, amount, garbage, rounds, value_after, children_lines, first_functions, first_lines, function_text, last_lines, main_text, numbered, par_line, side, amount_small, garbage_small, rounds_small, side_small}
pub use Rattle.program_reader.proofs.Passing.{Lines}
use Rattle.made_program_laws.proofs.Names.{name_of, proper_name, proper_number}

-- THE LINES

-- the words of a line that sets a number register,
abbrev pub set_words : List ℕ → ℕ → Lines
set_words register n = codes "set" ∷ register ∷ decimal n ∷ []

-- of one that begins a function,
abbrev pub begin_words : ℕ → Lines
begin_words n = codes "fn" ∷ name_of n ∷ []

-- and of one that runs two functions side by side
abbrev pub par_words : ℕ → ℕ → Lines
par_words left right = codes "par" ∷ name_of left ∷ name_of right ∷ []

abbrev pub cell_rows : Lines
cell_rows = codes "movr r3 r0" ∷ codes "set i2 2" ∷ codes "set i3 0" ∷ codes "newm r0 i2 i3" ∷ codes "movr r2 r0" ∷ []

abbrev pub first_rows : ℕ → Lines
first_rows added = cell_rows ++ spaced (set_words (codes "i5") added) ∷ []

abbrev pub sum_rows : Lines
sum_rows =
    codes "set i4 0" ∷ codes "getr r4 r2 i4" ∷ codes "geti i6 r4 i4" ∷ codes "add i5 i5 i6" ∷
    codes "set i4 1" ∷ codes "getr r4 r2 i4" ∷ codes "set i4 0" ∷ codes "geti i6 r4 i4" ∷ codes "add i5 i5 i6" ∷ []

abbrev pub children_rows : ℕ → ℕ → Lines
children_rows left right = spaced (par_words left right) ∷ sum_rows

-- before the loop, with children or without
abbrev pub before_rows : Bool → ℕ → ℕ → ℕ → ℕ → Lines
before_rows has i added size times =
    first_rows added ++ cond has (children_rows (2 * i + 1) (2 * i + 2)) []
    ++ codes "set i2 0" ∷ spaced (set_words (codes "i3") size) ∷ spaced (set_words (codes "i7") times) ∷ codes "set i8 1" ∷ []

abbrev pub loop_rows : Lines
loop_rows = codes "newm r5 i2 i3" ∷ codes "puti r5 i2 i7" ∷ codes "sub i7 i7 i8" ∷ codes "jz i7 b" ∷ codes "jmp a" ∷ []

abbrev pub result_rows : Lines
result_rows =
    codes "putr r3 i4 r5" ∷ codes "set i3 1" ∷ codes "newm r6 i2 i3" ∷ codes "puti r6 i2 i5" ∷
    codes "putr r3 i4 r6" ∷ codes "getr r7 r3 i4" ∷ codes "geti i0 r7 i2" ∷ codes "nil r0" ∷ codes "ret" ∷ []

-- after the loop
abbrev pub after_rows : ℕ → Lines
after_rows side = spaced (set_words (codes "i4") side) ∷ result_rows

-- a function's lines after its first
abbrev pub body_rows : Bool → ℕ → ℕ → ℕ → ℕ → ℕ → Lines
body_rows has i added size times side =
    before_rows has i added size times ++ codes "lab a" ∷ (loop_rows ++ codes "lab b" ∷ (after_rows side ++ codes "end" ∷ []))

abbrev pub function_by : Bool → ℕ → ℕ → Lines
function_by has i x = spaced (begin_words i) ∷ body_rows has i (amount x) (garbage x) (rounds x) (side i)

-- function i of a program of this size, with the generator at x
abbrev pub function_rows : ℕ → ℕ → ℕ → Lines
function_rows size i x = function_by (nat_lt (2 * i + 2) size) i x

-- the first k functions
abbrev pub rows_of : ℕ → ℕ → ℕ → Lines
rows_of seed size zero = []
rows_of seed size (suc k) = rows_of seed size k ++ function_rows size k (value_after seed k)

abbrev pub main_order_rows : Lines
main_order_rows =
    codes "set i2 2" ∷ codes "set i3 0" ∷ codes "newm r0 i2 i3" ∷ codes "movr r9 r0" ∷ codes "call f0" ∷
    codes "set i4 0" ∷ codes "getr r4 r9 i4" ∷ codes "geti i6 r4 i4" ∷ codes "out i6" ∷ codes "ret" ∷ []

-- main, and the empty line after it
abbrev pub main_rows : Lines
main_rows = codes "fn main" ∷ (main_order_rows ++ codes "end" ∷ [] ∷ [])

-- WHAT IS DRAWN IS SMALL

-- TEXTS AND THEIR LINES

-- a text that begins with these lines, whatever follows
abbrev pub HasLines : List ℕ → Lines → Type 0
HasLines text ls = (rest : List ℕ) → lines_of (text ++ rest) ≡ ls ++ lines_of rest

pub both_lines : (a b : List ℕ) (ls ms : Lines) → HasLines a ls → HasLines b ms → HasLines (a ++ b) (ls ++ ms)
both_lines a b ls ms f g = λ rest. ap lines_of (append_assoc a b rest) ∙ f (b ++ rest) ∙ ap (λ xs. ls ++ xs) (g rest) ∙ sym (append_assoc ls ms (lines_of rest))

one_line : (ws : Lines) → AreProper ws → HasLines (spaced ws ++ 10 ∷ []) (spaced ws ∷ [])
one_line ws h = λ rest. line_first ws rest h

pub proper_begin : (n : ℕ) → n < 1000 → AreProper (begin_words n)
proper_begin n lt = (grind arith, (proper_name n lt, tt))

pub proper_par : (left right : ℕ) → left < 1000 → right < 1000 → AreProper (par_words left right)
proper_par left right ll lr = (grind arith, (proper_name left ll, (proper_name right lr, tt)))

pub proper_set : (register : List ℕ) (n : ℕ) → IsProper register → n < 1000 → AreProper (set_words register n)
proper_set register n h lt = (grind arith, (h, (proper_number n lt, tt)))

pub i3 : IsProper (codes "i3")
i3 = grind arith

pub i4 : IsProper (codes "i4")
i4 = grind arith

pub i5 : IsProper (codes "i5")
i5 = grind arith

pub i7 : IsProper (codes "i7")
i7 = grind arith

begin_line : (n : ℕ) → n < 1000 → HasLines (numbered (codes "fn f") n) (spaced (begin_words n) ∷ [])
begin_line n lt = one_line (begin_words n) (proper_begin n lt)

first_has : (i added : ℕ) → i < 1000 → added < 1000 → HasLines (first_lines i added) (spaced (begin_words i) ∷ first_rows added)
first_has i added li la =
    both_lines (numbered (codes "fn f") i ++ codes "movr r3 r0\nset i2 2\nset i3 0\nnewm r0 i2 i3\nmovr r2 r0\n") (numbered (codes "set i5 ") added) (spaced (begin_words i) ∷ cell_rows) (spaced (set_words (codes "i5") added) ∷ [])
    (both_lines (numbered (codes "fn f") i) (codes "movr r3 r0\nset i2 2\nset i3 0\nnewm r0 i2 i3\nmovr r2 r0\n") (spaced (begin_words i) ∷ []) cell_rows (begin_line i li) (λ rest. refl))
    (one_line (set_words (codes "i5") added) (proper_set (codes "i5") added i5 la))

-- two ways to concatenate the words of a line
par_same : (left right : ℕ) → par_line left right ≡ spaced (par_words left right) ++ 10 ∷ []
par_same left right = ap (λ w. (codes "par " ++ w) ++ 10 ∷ []) (append_assoc (name_of left) (codes " f") (decimal right))

par_has : (left right : ℕ) → left < 1000 → right < 1000 → HasLines (par_line left right) (spaced (par_words left right) ∷ [])
par_has left right ll lr = λ rest. ap (λ w. lines_of (w ++ rest)) (par_same left right) ∙ one_line (par_words left right) (proper_par left right ll lr) rest

children_have : (left right : ℕ) → left < 1000 → right < 1000 → HasLines (children_lines left right) (children_rows left right)
children_have left right ll lr =
    both_lines (par_line left right) (codes "set i4 0\ngetr r4 r2 i4\ngeti i6 r4 i4\nadd i5 i5 i6\nset i4 1\ngetr r4 r2 i4\nset i4 0\ngeti i6 r4 i4\nadd i5 i5 i6\n") (spaced (par_words left right) ∷ []) sum_rows
    (par_has left right ll lr) (λ rest. refl)

abbrev last_rows : ℕ → ℕ → ℕ → Lines
last_rows size times side =
    codes "set i2 0" ∷ spaced (set_words (codes "i3") size) ∷ spaced (set_words (codes "i7") times) ∷ codes "set i8 1" ∷
    codes "lab a" ∷ (loop_rows ++ codes "lab b" ∷ (after_rows side ++ codes "end" ∷ []))

last_has : (size times side : ℕ) → size < 1000 → times < 1000 → side < 1000 → HasLines (last_lines size times side) (last_rows size times side)
last_has size times side ls lt lw =
    let a = codes "set i2 0\n" in
    let b = numbered (codes "set i3 ") size in
    let c = numbered (codes "set i7 ") times in
    let d = codes "set i8 1\nlab a\nnewm r5 i2 i3\nputi r5 i2 i7\nsub i7 i7 i8\njz i7 b\njmp a\nlab b\n" in
    let e = numbered (codes "set i4 ") side in
    let f = codes "putr r3 i4 r5\nset i3 1\nnewm r6 i2 i3\nputi r6 i2 i5\nputr r3 i4 r6\ngetr r7 r3 i4\ngeti i0 r7 i2\nnil r0\nret\nend\n" in
    let ra = codes "set i2 0" ∷ [] in
    let rb = spaced (set_words (codes "i3") size) ∷ [] in
    let rc = spaced (set_words (codes "i7") times) ∷ [] in
    let rd = codes "set i8 1" ∷ codes "lab a" ∷ (loop_rows ++ codes "lab b" ∷ []) in
    let re = spaced (set_words (codes "i4") side) ∷ [] in
    let rf = result_rows ++ codes "end" ∷ [] in
    both_lines (a ++ b ++ c ++ d ++ e) f (ra ++ rb ++ rc ++ rd ++ re) rf
    (both_lines (a ++ b ++ c ++ d) e (ra ++ rb ++ rc ++ rd) re
    (both_lines (a ++ b ++ c) d (ra ++ rb ++ rc) rd
    (both_lines (a ++ b) c (ra ++ rb) rc (both_lines a b ra rb (λ rest. refl) (one_line (set_words (codes "i3") size) (proper_set (codes "i3") size i3 ls))) (one_line (set_words (codes "i7") times) (proper_set (codes "i7") times i7 lt)))
    (λ rest. refl))
    (one_line (set_words (codes "i4") side) (proper_set (codes "i4") side i4 lw)))
    (λ rest. refl)

-- A FUNCTION, AND ALL

by_children : (has : Bool) (size i x : ℕ) → nat_lt (2 * i + 2) size ≡ has → i < 1000 → size ≤ 1000
    → HasLines (first_lines i (amount x) ++ cond has (children_lines (2 * i + 1) (2 * i + 2)) [] ++ last_lines (garbage x) (rounds x) (side i)) (function_by has i x)
by_children true size i x e lt le =
    let below = ltb-true (2 * i + 2) size e in
    both_lines (first_lines i (amount x) ++ children_lines (2 * i + 1) (2 * i + 2)) (last_lines (garbage x) (rounds x) (side i))
    ((spaced (begin_words i) ∷ first_rows (amount x)) ++ children_rows (2 * i + 1) (2 * i + 2)) (last_rows (garbage x) (rounds x) (side i))
    (both_lines (first_lines i (amount x)) (children_lines (2 * i + 1) (2 * i + 2)) (spaced (begin_words i) ∷ first_rows (amount x)) (children_rows (2 * i + 1) (2 * i + 2))
    (first_has i (amount x) lt (amount_small x)) (children_have (2 * i + 1) (2 * i + 2) (omega (arith, below, le)) (omega (arith, below, le))))
    (last_has (garbage x) (rounds x) (side i) (garbage_small x) (rounds_small x) (side_small i))
by_children false size i x e lt le =
    both_lines (first_lines i (amount x) ++ []) (last_lines (garbage x) (rounds x) (side i))
    ((spaced (begin_words i) ∷ first_rows (amount x)) ++ []) (last_rows (garbage x) (rounds x) (side i))
    (both_lines (first_lines i (amount x)) [] (spaced (begin_words i) ∷ first_rows (amount x)) [] (first_has i (amount x) lt (amount_small x)) (λ rest. refl))
    (last_has (garbage x) (rounds x) (side i) (garbage_small x) (rounds_small x) (side_small i))

pub function_has : (size i x : ℕ) → i < 1000 → size ≤ 1000 → HasLines (function_text size i x) (function_rows size i x)
function_has size i x lt le = by_children (nat_lt (2 * i + 2) size) size i x refl lt le

pub functions_have : (seed size k : ℕ) → k ≤ 1000 → size ≤ 1000 → HasLines (first_functions seed size k) (rows_of seed size k)
functions_have seed size zero lk ls = λ rest. refl
functions_have seed size (suc k) lk ls =
    both_lines (first_functions seed size k) (function_text size k (value_after seed k)) (rows_of seed size k) (function_rows size k (value_after seed k))
    (functions_have seed size k (omega (arith, lk)) ls) (function_has size k (value_after seed k) (omega (arith, lk)) ls)

pub main_lines : lines_of main_text ≡ main_rows
main_lines = refl
