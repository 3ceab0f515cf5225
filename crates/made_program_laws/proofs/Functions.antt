-- The lines of each function of a made text, and of main, have no fault.
use Rattle.made_program_laws.proofs.Common.{◌≡◌, ◌≤◌, ◌<◌, ◌+◌, ◌*◌, ◌++◌, ℕ, zero, suc, Bool, true, false, List, [], ◌∷◌, length, arith, refl, ap, ◌∙◌, append_assoc, nat_lt, ◌&&◌, Option, Some, codes, nat_le, pos, ℤ, decimal, is_utf8, AllByRecursion, list_all, All-from_recursion, is_utf8-from_IsUtf8, IsUtf8-from_ascii, IsAscii-from_all, and_parts, ltb-true, and_from, is_last, signed_number, spaced, AreProper, words_spaced, spaced_utf8, amount, garbage, rounds, value_after, side, NotedName, noted_name_of, is_name, is_noted, name_index, int_register, fork, plain, sense_of, two, operands_of, head_of_line, operands_of_line, orders_above, outline_of, first_fault_from, spot_of, turned, Within, begin_free, end_free, has_place, is_instr, is_order, is_read, label_passes, not_last, orders_pass, passes, amount_small, garbage_small, rounds_small, side_small}
use Rattle.hh_lang.specs.declared.instr.Instr.TheVariants as does
use Rattle.made_program_laws.proofs.Names.{is_a_name, name_of, number_again}
use Rattle.made_program_laws.proofs.Rows.{Lines, after_rows, before_rows, begin_words, body_rows, cell_rows, children_rows, first_rows, function_by, function_rows, i3, i4, i5, i7, loop_rows, par_words, proper_begin, proper_par, proper_set, result_rows, rows_of, set_words, sum_rows}
use Rattle.made_program_laws.proofs.Between.{Between, Named, above_of, begun_name_is, between}

-- LINES WITH NUMBERS

three_hold : (a b c : Bool) → a ≡ true → b ≡ true → c ≡ true → (a && (b && c)) ≡ true
three_hold a b c ea eb ec = rw (ea, eb, ec) refl

-- a proper line's words
reads : (text : List ℕ) (labels : List NotedName) (ws : Lines) → AreProper ws → is_order (head_of_line (spaced ws)) ≡ true → is_instr (sense_of (outline_of text) labels (head_of_line (spaced ws)) (operands_of ws)) ≡ true → is_read (outline_of text) labels (spaced ws) ≡ true
reads text labels ws h order instr =
    let e : is_instr (sense_of (outline_of text) labels (head_of_line (spaced ws)) (operands_of_line (spaced ws))) ≡ true =
    ap (λ vs. is_instr (sense_of (outline_of text) labels (head_of_line (spaced ws)) (operands_of vs))) (words_spaced ws h) ∙ instr in
    three_hold (is_utf8 (spaced ws)) (is_order (head_of_line (spaced ws))) (is_instr (sense_of (outline_of text) labels (head_of_line (spaced ws)) (operands_of_line (spaced ws)))) (spaced_utf8 ws h) order e

sets : (register : Option ℕ) (number : Option ℤ) → (r : ℕ) → register ≡ Some r → (n : ℤ) → number ≡ Some n → is_instr (plain (two register number (λ d k. does.Set d k))) ≡ true
sets register number r e n f = rw (e, f) refl

set_reads_i5 : (text : List ℕ) (labels : List NotedName) (n : ℕ) → n < 1000 → is_read (outline_of text) labels (spaced (set_words (codes "i5") n)) ≡ true
set_reads_i5 text labels n lt = reads text labels (set_words (codes "i5") n) (proper_set (codes "i5") n i5 lt) refl (sets (int_register (codes "i5")) (signed_number (decimal n)) 5 refl (pos n) (number_again n lt))

set_reads_i3 : (text : List ℕ) (labels : List NotedName) (n : ℕ) → n < 1000 → is_read (outline_of text) labels (spaced (set_words (codes "i3") n)) ≡ true
set_reads_i3 text labels n lt = reads text labels (set_words (codes "i3") n) (proper_set (codes "i3") n i3 lt) refl (sets (int_register (codes "i3")) (signed_number (decimal n)) 3 refl (pos n) (number_again n lt))

set_reads_i7 : (text : List ℕ) (labels : List NotedName) (n : ℕ) → n < 1000 → is_read (outline_of text) labels (spaced (set_words (codes "i7") n)) ≡ true
set_reads_i7 text labels n lt = reads text labels (set_words (codes "i7") n) (proper_set (codes "i7") n i7 lt) refl (sets (int_register (codes "i7")) (signed_number (decimal n)) 7 refl (pos n) (number_again n lt))

set_reads_i4 : (text : List ℕ) (labels : List NotedName) (n : ℕ) → n < 1000 → is_read (outline_of text) labels (spaced (set_words (codes "i4") n)) ≡ true
set_reads_i4 text labels n lt = reads text labels (set_words (codes "i4") n) (proper_set (codes "i4") n i4 lt) refl (sets (int_register (codes "i4")) (signed_number (decimal n)) 4 refl (pos n) (number_again n lt))

forks : (text : List ℕ) (a b : List ℕ) (f g : ℕ) → is_name a ≡ true → is_name b ≡ true → name_index (outline_of text).functions a ≡ Some f → name_index (outline_of text).functions b ≡ Some g → is_instr (fork (outline_of text) a b) ≡ true
forks text a b f g na nb ea eb = rw (na, nb, ea, eb) refl

par_reads : (text : List ℕ) (labels : List NotedName) (left right : ℕ) → left < 1000 → right < 1000 → is_noted (outline_of text).functions (name_of left) ≡ true → is_noted (outline_of text).functions (name_of right) ≡ true → is_read (outline_of text) labels (spaced (par_words left right)) ≡ true
par_reads text labels left right ll lr el er =
    let l = has_place (outline_of text).functions (name_of left) el in
    let r = has_place (outline_of text).functions (name_of right) er in
    reads text labels (par_words left right) (proper_par left right ll lr) refl (forks text (name_of left) (name_of right) l.0 r.0 (is_a_name left ll) (is_a_name right lr) l.1 r.1)

-- THE PARTS OF A FUNCTION

-- its labels, with n instructions before them
abbrev two_labels : ℕ → ℕ → List NotedName
two_labels a b = noted_name_of (codes "a") a ∷ noted_name_of (codes "b") b ∷ []

pub both_read : (text : List ℕ) (labels : List NotedName) (ls ms : Lines) → list_all (is_read (outline_of text) labels) ls ≡ true → list_all (is_read (outline_of text) labels) ms ≡ true → list_all (is_read (outline_of text) labels) (ls ++ ms) ≡ true
both_read text labels [] ms e f = f
both_read text labels (l ∷ ls) ms e f =
    let both = and_parts (is_read (outline_of text) labels l) (list_all (is_read (outline_of text) labels) ls) e in
    and_from (is_read (outline_of text) labels l) (list_all (is_read (outline_of text) labels) (ls ++ ms)) both.0 (both_read text labels ls ms both.1 f)

pub one_read : (text : List ℕ) (labels : List NotedName) (l : List ℕ) → is_read (outline_of text) labels l ≡ true → list_all (is_read (outline_of text) labels) (l ∷ []) ≡ true
one_read text labels l e = and_from (is_read (outline_of text) labels l) true e refl

-- bytes of ASCII are UTF-8
ascii : (l : List ℕ) → list_all (λ b. nat_lt b 128) l ≡ true → AllByRecursion (λ b. b < 128) l
ascii [] e = tt
ascii (c ∷ cs) e = let both = and_parts (nat_lt c 128) (list_all (λ b. nat_lt b 128) cs) e in (ltb-true c 128 both.0, ascii cs both.1)

pub ascii_utf8 : (l : List ℕ) → list_all (λ b. nat_lt b 128) l ≡ true → is_utf8 l ≡ true
ascii_utf8 l e = is_utf8-from_IsUtf8 l (IsUtf8-from_ascii l (IsAscii-from_all l (All-from_recursion (λ b. b < 128) l (ascii l e))))

-- a line of ASCII is read as an instruction
abbrev pub is_read_ascii : List ℕ → List NotedName → List ℕ → Bool
is_read_ascii text labels l = list_all (λ b. nat_lt b 128) l && (is_order (head_of_line l) && is_instr (sense_of (outline_of text) labels (head_of_line l) (operands_of_line l)))

as_read : (text : List ℕ) (labels : List NotedName) (l : List ℕ) → is_read_ascii text labels l ≡ true → is_read (outline_of text) labels l ≡ true
as_read text labels l e =
    let both = and_parts (list_all (λ b. nat_lt b 128) l) (is_order (head_of_line l) && is_instr (sense_of (outline_of text) labels (head_of_line l) (operands_of_line l))) e in
    and_from (is_utf8 l) (is_order (head_of_line l) && is_instr (sense_of (outline_of text) labels (head_of_line l) (operands_of_line l))) (ascii_utf8 l both.0) both.1

pub all_read : (text : List ℕ) (labels : List NotedName) (ls : Lines) → list_all (is_read_ascii text labels) ls ≡ true → list_all (is_read (outline_of text) labels) ls ≡ true
all_read text labels [] e = refl
all_read text labels (l ∷ ls) e =
    let both = and_parts (is_read_ascii text labels l) (list_all (is_read_ascii text labels) ls) e in
    and_from (is_read (outline_of text) labels l) (list_all (is_read (outline_of text) labels) ls) (as_read text labels l both.0) (all_read text labels ls both.1)

module _ (text : List ℕ) (labels : List NotedName) where
  first_read : (added : ℕ) → added < 1000 → list_all (is_read (outline_of text) labels) (first_rows added) ≡ true
  first_read added lt = both_read text labels cell_rows (spaced (set_words (codes "i5") added) ∷ []) (all_read text labels cell_rows refl) (one_read text labels (spaced (set_words (codes "i5") added)) (set_reads_i5 text labels added lt))

  children_read : (left right : ℕ) → left < 1000 → right < 1000 → is_noted (outline_of text).functions (name_of left) ≡ true → is_noted (outline_of text).functions (name_of right) ≡ true → list_all (is_read (outline_of text) labels) (children_rows left right) ≡ true
  children_read left right ll lr el er = both_read text labels (spaced (par_words left right) ∷ []) sum_rows (one_read text labels (spaced (par_words left right)) (par_reads text labels left right ll lr el er)) (all_read text labels sum_rows refl)

  counts_read : (size times : ℕ) → size < 1000 → times < 1000 → list_all (is_read (outline_of text) labels) (codes "set i2 0" ∷ spaced (set_words (codes "i3") size) ∷ spaced (set_words (codes "i7") times) ∷ codes "set i8 1" ∷ []) ≡ true
  counts_read size times ls lt =
      both_read text labels (codes "set i2 0" ∷ spaced (set_words (codes "i3") size) ∷ spaced (set_words (codes "i7") times) ∷ []) (codes "set i8 1" ∷ [])
      (both_read text labels (codes "set i2 0" ∷ spaced (set_words (codes "i3") size) ∷ []) (spaced (set_words (codes "i7") times) ∷ [])
      (both_read text labels (codes "set i2 0" ∷ []) (spaced (set_words (codes "i3") size) ∷ []) (all_read text labels (codes "set i2 0" ∷ []) refl) (one_read text labels (spaced (set_words (codes "i3") size)) (set_reads_i3 text labels size ls)))
      (one_read text labels (spaced (set_words (codes "i7") times)) (set_reads_i7 text labels times lt)))
      (all_read text labels (codes "set i8 1" ∷ []) refl)

  pub after_read : (n : ℕ) → n < 1000 → list_all (is_read (outline_of text) labels) (after_rows n) ≡ true
  after_read n lt = both_read text labels (spaced (set_words (codes "i4") n) ∷ []) result_rows (one_read text labels (spaced (set_words (codes "i4") n)) (set_reads_i4 text labels n lt)) (all_read text labels result_rows refl)

  pub before_read : (has : Bool) (i added size times : ℕ) → added < 1000 → size < 1000 → times < 1000 → (has ≡ true → list_all (is_read (outline_of text) labels) (children_rows (2 * i + 1) (2 * i + 2)) ≡ true) → list_all (is_read (outline_of text) labels) (before_rows has i added size times) ≡ true
  before_read true i added size times la ls lt f =
      both_read text labels (first_rows added ++ children_rows (2 * i + 1) (2 * i + 2)) (codes "set i2 0" ∷ spaced (set_words (codes "i3") size) ∷ spaced (set_words (codes "i7") times) ∷ codes "set i8 1" ∷ [])
      (both_read text labels (first_rows added) (children_rows (2 * i + 1) (2 * i + 2)) (first_read added la) (f refl))
      (counts_read size times ls lt)
  before_read false i added size times la ls lt f =
      both_read text labels (first_rows added ++ []) (codes "set i2 0" ∷ spaced (set_words (codes "i3") size) ∷ spaced (set_words (codes "i7") times) ∷ codes "set i8 1" ∷ [])
      (both_read text labels (first_rows added) [] (first_read added la) refl)
      (counts_read size times ls lt)

  pub has_children : (size i : ℕ) → size ≤ 1000 → 2 * i + 2 < size → Named size (outline_of text).functions → list_all (is_read (outline_of text) labels) (children_rows (2 * i + 1) (2 * i + 2)) ≡ true
  has_children size i le lt named = children_read (2 * i + 1) (2 * i + 2) (omega (arith, lt, le)) (omega (arith, lt, le)) (named.functions (2 * i + 1) (omega (arith, lt))) (named.functions (2 * i + 2) lt)

loop_read : (text : List ℕ) (a b : ℕ) → list_all (is_read (outline_of text) (two_labels a b)) loop_rows ≡ true
loop_read text a b = all_read text (two_labels a b) loop_rows refl

-- A FUNCTION

-- before, in and after its loop
module _ (text : List ℕ) (a b : ℕ) (above before after rest : Lines) (begun : List ℕ) where
  abbrev open_at : Lines
  open_at = begun ∷ above

  abbrev from_end : Lines
  from_end = codes "end" ∷ rest

  abbrev from_second : Lines
  from_second = codes "lab b" ∷ (after ++ from_end)

  abbrev from_first : Lines
  from_first = codes "lab a" ∷ (loop_rows ++ from_second)

  abbrev at_end : Lines
  at_end = turned (codes "lab b" ∷ turned (codes "lab a" ∷ turned open_at before) loop_rows) after

  body_passes : list_all (is_read (outline_of text) (two_labels a b)) before ≡ true → list_all (is_read (outline_of text) (two_labels a b)) after ≡ true
      → Within (two_labels a b) [] open_at (before ++ from_first) → orders_above open_at + length before + 5 + length after ≤ 65536 → is_last rest ≡ false
      → first_fault_from (outline_of text) open_at (before ++ from_first) ≡ first_fault_from (outline_of text) (codes "end" ∷ at_end) rest
  body_passes read_before read_after w few last =
      let one = orders_pass (outline_of text) (two_labels a b) [] before open_at from_first (orders_above open_at + length before) read_before w (omega arith) (omega (arith, few)) refl in
      let first = label_passes (outline_of text) (two_labels a b) [] (codes "a") (turned open_at before) (codes "lab a") (loop_rows ++ from_second) (ascii_utf8 (codes "lab a") refl) refl refl one.within refl refl in
      let five : length loop_rows ≡ 5 = refl in
      let two = orders_pass (outline_of text) (two_labels a b) (noted_name_of (codes "a") first.number ∷ []) loop_rows (codes "lab a" ∷ turned open_at before) from_second (orders_above open_at + length before + 5) (loop_read text a b) first.within (omega (arith, five, first.orders, one.orders)) (omega (arith, few)) refl in
      let second = label_passes (outline_of text) (two_labels a b) (noted_name_of (codes "a") first.number ∷ []) (codes "b") (turned (codes "lab a" ∷ turned open_at before) loop_rows) (codes "lab b") (after ++ from_end) (ascii_utf8 (codes "lab b") refl) refl refl two.within refl (not_last after from_end refl) in
      let three = orders_pass (outline_of text) (two_labels a b) (noted_name_of (codes "a") first.number ∷ noted_name_of (codes "b") second.number ∷ []) after (codes "lab b" ∷ turned (codes "lab a" ∷ turned open_at before) loop_rows) from_end (orders_above open_at + length before + 5 + length after) read_after second.within (omega (arith, second.orders, two.orders)) few refl in
      one.faults ∙ first.faults ∙ two.faults ∙ second.faults ∙ three.faults
      ∙ passes (outline_of text) at_end (codes "end") rest (end_free (outline_of text) (spot_of at_end (codes "end") rest) (codes "end") (ascii_utf8 (codes "end") refl) refl refl three.within.inside last)

begin_count : (k : ℕ) → k < 1000 → nat_le 1024 k ≡ false
begin_count k lt = grind (arith, lt)

-- the line that begins it
begin_passes : (text : List ℕ) (k : ℕ) (above rest : Lines) → k < 1000 → Between k above → is_last rest ≡ false → first_fault_from (outline_of text) above (spaced (begin_words k) ∷ rest) ≡ first_fault_from (outline_of text) (spaced (begin_words k) ∷ above) rest
begin_passes text k above rest lt b last =
    passes (outline_of text) above (spaced (begin_words k)) rest
    (begin_free (outline_of text) (spot_of above (spaced (begin_words k)) rest) (spaced (begin_words k)) (spaced_utf8 (begin_words k) (proper_begin k lt)) (name_of k) refl (begun_name_is k lt) b.outside last
    (b.names k lt ∙ none k) (ap (λ n. nat_le 1024 n) b.begun ∙ begin_count k lt))
  where
    none : (n : ℕ) → nat_lt n n ≡ false
    none n = grind arith

function_passes : (has : Bool) (text : List ℕ) (size k x : ℕ) (above rest : Lines) → nat_lt (2 * k + 2) size ≡ has → k < size → size ≤ 1000 → Named size (outline_of text).functions → Between k above → is_last rest ≡ false
    → first_fault_from (outline_of text) above (function_by has k x ++ rest) ≡ first_fault_from (outline_of text) (turned above (function_by has k x)) rest
function_passes true text size k x above rest e lt le named b last =
    let small : k < 1000 = omega (arith, lt, le) in
    let before : length (before_rows true k (amount x) (garbage x) (rounds x)) ≡ 20 = refl in
    let behind : length (after_rows (side k)) ≡ 10 = refl in
    let none : orders_above (spaced (begin_words k) ∷ above) ≡ orders_above above + 0 = refl in
    begin_passes text k above (body_rows true k (amount x) (garbage x) (rounds x) (side k) ++ rest) small b refl
    ∙ body_passes text 20 25 above (before_rows true k (amount x) (garbage x) (rounds x)) (after_rows (side k)) rest (spaced (begin_words k))
    (before_read text (two_labels 20 25) true k (amount x) (garbage x) (rounds x) (amount_small x) (garbage_small x) (rounds_small x) (λ _. has_children text (two_labels 20 25) size k le (ltb-true (2 * k + 2) size e) named))
    (after_read text (two_labels 20 25) (side k) (side_small k))
    (record { inside = refl; known = refl; behind = refl })
    (omega (arith, none, b.orders, small, before, behind)) last
function_passes false text size k x above rest e lt le named b last =
    let small : k < 1000 = omega (arith, lt, le) in
    let before : length (before_rows false k (amount x) (garbage x) (rounds x)) ≡ 10 = refl in
    let behind : length (after_rows (side k)) ≡ 10 = refl in
    let none : orders_above (spaced (begin_words k) ∷ above) ≡ orders_above above + 0 = refl in
    begin_passes text k above (body_rows false k (amount x) (garbage x) (rounds x) (side k) ++ rest) small b refl
    ∙ body_passes text 10 15 above (before_rows false k (amount x) (garbage x) (rounds x)) (after_rows (side k)) rest (spaced (begin_words k))
    (before_read text (two_labels 10 15) false k (amount x) (garbage x) (rounds x) (amount_small x) (garbage_small x) (rounds_small x) (λ f. absurd (let g : false ≡ true = f in cc)))
    (after_read text (two_labels 10 15) (side k) (side_small k))
    (record { inside = refl; known = refl; behind = refl })
    (omega (arith, none, b.orders, small, before, behind)) last

pub functions_pass : (text : List ℕ) (seed size k : ℕ) (rest : Lines) → k ≤ size → size ≤ 1000 → Named size (outline_of text).functions → is_last rest ≡ false → first_fault_from (outline_of text) [] (rows_of seed size k ++ rest) ≡ first_fault_from (outline_of text) (above_of seed size k) rest
functions_pass text seed size zero rest le ls named last = refl
functions_pass text seed size (suc k) rest le ls named last =
    ap (first_fault_from (outline_of text) []) (append_assoc (rows_of seed size k) (function_rows size k (value_after seed k)) rest)
    ∙ functions_pass text seed size k (function_rows size k (value_after seed k) ++ rest) (omega (arith, le)) ls named (not_last (function_rows size k (value_after seed k)) rest last)
    ∙ function_passes (nat_lt (2 * k + 2) size) text size k (value_after seed k) (above_of seed size k) rest refl (omega (arith, le)) ls named (between seed size k (omega (arith, le, ls))) last
