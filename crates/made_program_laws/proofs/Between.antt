-- Between the functions of a made text: the names above, and the number of instructions.
use Rattle.made_program_laws.proofs.Common.{◌≡◌, ◌≤◌, ◌<◌, ◌+◌, ◌*◌, ◌++◌, ℕ, zero, suc, Bool, true, false, List, [], ◌∷◌, length, arith, refl, ap, ◌∙◌, append_assoc, nat_lt, ◌||◌, Some, codes, list_all, bytes_eq, lt-ltb, lines_of, spaced, words_spaced, value_after, NotedName, noted_name_of, is_noted, is_name, with_name, only_name, operands_of, begun_above, is_inside, noted_if, no_names, operands_of_line, orders_above, outline_above, outline_line, outline_of, outline_onto, turned, begins_none, new_entry, none_begin}
use Rattle.made_program_laws.proofs.Names.{among_more, is_a_name, name_of, not_main, noted_more}
use Rattle.made_program_laws.proofs.Rows.{Lines, begin_words, body_rows, function_rows, main_rows, proper_begin, rows_of}

-- the lines above the first function, above the second, and so on, nearest first
abbrev pub above_of : ℕ → ℕ → ℕ → Lines
above_of seed size zero = []
above_of seed size (suc k) = turned (above_of seed size k) (function_rows size k (value_after seed k))

-- the name after `fn`
name_alone : (w : List ℕ) → is_name w ≡ true → only_name (w ∷ []) ≡ Some w
name_alone w e = rw e refl

pub begun_name_is : (n : ℕ) → n < 1000 → only_name (operands_of_line (spaced (begin_words n))) ≡ Some (name_of n)
begun_name_is n lt = ap (λ ws. only_name (operands_of ws)) (words_spaced (begin_words n) (proper_begin n lt)) ∙ name_alone (name_of n) (is_a_name n lt)

-- BETWEEN FUNCTIONS

-- the names above are those of the first k functions
pub record Between (k : ℕ) (above : Lines) : Type 0 where
  pub outside : is_inside above ≡ false
  pub begun : begun_above above ≡ k
  pub orders : orders_above above ≤ 40 * k
  pub names : (j : ℕ) → j < 1000 → is_noted (outline_above above).functions (name_of j) ≡ nat_lt j k
  pub main : is_noted (outline_above above).functions (codes "main") ≡ false

not_below : (k : ℕ) → nat_lt k k ≡ false
not_below k = grind arith

-- one more name
names_next : (k : ℕ) (es fs : List NotedName) (number : ℕ) → k < 1000 → ((j : ℕ) → j < 1000 → is_noted es (name_of j) ≡ nat_lt j k) → fs ≡ es ++ noted_name_of (name_of k) number ∷ [] → (j : ℕ) → j < 1000 → is_noted fs (name_of j) ≡ nat_lt j (suc k)
names_next k es fs number lt names e j lj =
    ap (λ xs. is_noted xs (name_of j)) e ∙ noted_more es (name_of j) (name_of k) number ∙ ap (λ b. b || bytes_eq (name_of j) (name_of k)) (names j lj) ∙ among_more j k lj lt

main_next : (k : ℕ) (es fs : List NotedName) (number : ℕ) → is_noted es (codes "main") ≡ false → fs ≡ es ++ noted_name_of (name_of k) number ∷ [] → is_noted fs (codes "main") ≡ false
main_next k es fs number main e = ap (λ xs. is_noted xs (codes "main")) e ∙ noted_more es (codes "main") (name_of k) number ∙ ap (λ b. b || bytes_eq (codes "main") (name_of k)) main ∙ not_main k

-- the lines of a function after its first begin no function, are at most 39, and end it
record IsBody (above ls : Lines) : Type 0 where
  none : list_all begins_none ls ≡ true
  short : length ls ≤ 39
  ends : is_inside (turned above ls) ≡ false

body_is : (has : Bool) (i added size times side : ℕ) (above : Lines) → IsBody above (body_rows has i added size times side)
body_is true i added size times side above = record { none = refl; short = omega arith; ends = refl }
body_is false i added size times side above = record { none = refl; short = omega arith; ends = refl }

next_by : (k : ℕ) (above body : Lines) → k < 1000 → Between k above → IsBody (spaced (begin_words k) ∷ above) body → Between (suc k) (turned (spaced (begin_words k) ∷ above) body)
next_by k above body lt b is =
    let kept = none_begin body (spaced (begin_words k) ∷ above) is.none in
    let new = ap (λ n. noted_if (outline_above above).functions n (length above + 1)) (begun_name_is k lt) ∙ new_entry (outline_above above).functions (name_of k) (length above + 1) (b.names k lt ∙ not_below k) in
    let named = kept.functions ∙ new in
    let begun : begun_above (spaced (begin_words k) ∷ above) ≡ begun_above above + 1 = refl in
    let none : orders_above (spaced (begin_words k) ∷ above) ≡ orders_above above + 0 = refl in
    record {
      outside = is.ends;
      begun = omega (arith, kept.begun, begun, b.begun);
      orders = omega (arith, kept.orders, none, is.short, b.orders);
      names = names_next k (outline_above above).functions (outline_above (turned (spaced (begin_words k) ∷ above) body)).functions (length above + 1) lt b.names named;
      main = main_next k (outline_above above).functions (outline_above (turned (spaced (begin_words k) ∷ above) body)).functions (length above + 1) b.main named;
    }

none_below : (j : ℕ) → false ≡ nat_lt j 0
none_below j = grind arith

pub between : (seed size k : ℕ) → k ≤ 1000 → Between k (above_of seed size k)
between seed size zero le = record { outside = refl; begun = refl; orders = omega arith; names = λ j lj. none_below j; main = refl }
between seed size (suc k) le =
    next_by k (above_of seed size k) _ (omega (arith, le)) (between seed size k (omega (arith, le)))
    (body_is (nat_lt (2 * k + 2) size) k _ _ _ _ (spaced (begin_words k) ∷ above_of seed size k))

-- THE NAMES OF THE WHOLE TEXT

one_more : (n : ℕ) → n + 1 + 1 ≡ suc n + 1
one_more n = omega arith

-- the outline so far is that of the lines above
onto_above : (ls above rest : Lines) → outline_onto (length above + 1) (outline_above above) (ls ++ rest) ≡ outline_onto (length (turned above ls) + 1) (outline_above (turned above ls)) rest
onto_above [] above rest = refl
onto_above (l ∷ ls) above rest = ap (λ k. outline_onto k (outline_line (length above + 1) (outline_above above) l) (ls ++ rest)) (one_more (length above)) ∙ onto_above ls (l ∷ above) rest

pub outline_so_far : (seed size k : ℕ) (rest : Lines) → outline_onto 1 no_names (rows_of seed size k ++ rest) ≡ outline_onto (length (above_of seed size k) + 1) (outline_above (above_of seed size k)) rest
outline_so_far seed size zero rest = refl
outline_so_far seed size (suc k) rest =
    ap (outline_onto 1 no_names) (append_assoc (rows_of seed size k) (function_rows size k (value_after seed k)) rest)
    ∙ outline_so_far seed size k (function_rows size k (value_after seed k) ++ rest)
    ∙ onto_above (function_rows size k (value_after seed k)) (above_of seed size k) rest

-- main is noted after all functions
main_named : (above : Lines) → (outline_onto (length above + 1) (outline_above above) main_rows).functions ≡ with_name (outline_above above).functions (codes "main") (length above + 1)
main_named above = refl

-- these are the names of the functions of a whole text
pub record Named (size : ℕ) (names : List NotedName) : Type 0 where
  pub functions : (j : ℕ) → j < size → is_noted names (name_of j) ≡ true
  pub main : is_noted names (codes "main") ≡ true

names_all : (size : ℕ) (all es : List NotedName) (number : ℕ) → size ≤ 1000 → ((j : ℕ) → j < 1000 → is_noted es (name_of j) ≡ nat_lt j size) → is_noted es (codes "main") ≡ false → all ≡ with_name es (codes "main") number → Named size all
names_all size all es number le names main e =
    let is : all ≡ es ++ noted_name_of (codes "main") number ∷ [] = e ∙ new_entry es (codes "main") number main in
    record {
      functions = λ j lt. ap (λ xs. is_noted xs (name_of j)) is ∙ noted_more es (name_of j) (codes "main") number ∙ ap (λ b. b || bytes_eq (name_of j) (codes "main")) (names j (omega (arith, lt, le)) ∙ lt-ltb j size lt);
      main = ap (λ xs. is_noted xs (codes "main")) is ∙ noted_more es (codes "main") (codes "main") number ∙ ap (λ b. b || bytes_eq (codes "main") (codes "main")) main;
    }

pub named_all : (seed size : ℕ) (text : List ℕ) → size ≤ 1000 → lines_of text ≡ rows_of seed size size ++ main_rows → Named size (outline_of text).functions
named_all seed size text le e =
    let b = between seed size size le in
    names_all size (outline_of text).functions (outline_above (above_of seed size size)).functions (length (above_of seed size size) + 1) le b.names b.main
    (ap (λ p. p.functions) (ap (outline_onto 1 no_names) e ∙ outline_so_far seed size size main_rows) ∙ main_named (above_of seed size size))
