-- The acts of texts that are whole lines.
use Rattle.log_pieces.proofs.Common.{◌≡◌, ◌<◌, ◌≤◌, ◌+◌, ◌-◌, ◌==◌, ℕ, zero, suc, Bool, true, false, List, [], ◌∷◌, ◌++◌, length, take, drop, drop-cons, get_or, cond, arith, refl, ap, sym, ◌∙◌, append_assoc, append-nil, eqb-true, slice_range, Option, Some, None, slice_split, onto_first, flat_map, position_or_len, All, flat_map-append, length-drop, take_all, take_more, drop-drop, length-take, take-append-drop, get_or-take, nat_tests, passes_at_first, fails_before_first, slice_split_none, take-add, take-append-add, split_last, lines_of, Act, line_of, lines_in, all_but_last, act_said, acts_in, IsLineAt, BeginsLine}

-- SPLITTING

-- each text has a line
some_part : {X : Type 0} (p : X → Bool) (xs : List X) → (first : List X) × (rest : List (List X)) × (slice_split p xs ≡ first ∷ rest)
some_part p [] = ([], [], refl)
some_part {X} p (x ∷ xs) = some_part_by_cases (p x) (slice_split p xs)
  where
    some_part_by_cases : (b : Bool) (parts : List (List X)) → (first : List X) × (rest : List (List X)) × (cond b ([] ∷ parts) (onto_first x parts) ≡ first ∷ rest)
    some_part_by_cases true parts = ([], parts, refl)
    some_part_by_cases false [] = (x ∷ [], [], refl)
    some_part_by_cases false (q ∷ qs) = (x ∷ q, qs, refl)

onto_append : {X : Type 0} (x : X) (parts more : List (List X)) → ((first : List X) × (rest : List (List X)) × (parts ≡ first ∷ rest)) → onto_first x (parts ++ more) ≡ onto_first x parts ++ more
onto_append x parts more (first, rest, e) = rw e refl

step_append : {X : Type 0} (b : Bool) (x : X) (parts more : List (List X)) → ((first : List X) × (rest : List (List X)) × (parts ≡ first ∷ rest)) → cond b ([] ∷ (parts ++ more)) (onto_first x (parts ++ more)) ≡ cond b ([] ∷ parts) (onto_first x parts) ++ more
step_append true x parts more s = refl
step_append false x parts more s = onto_append x parts more s

split_append : {X : Type 0} (p : X → Bool) (xs : List X) (c : X) (ys : List X) → p c ≡ true → slice_split p (xs ++ c ∷ ys) ≡ slice_split p xs ++ slice_split p ys
split_append p [] c ys e = rw e refl
split_append p (x ∷ xs) c ys e =
    ap (λ parts. cond (p x) ([] ∷ parts) (onto_first x parts)) (split_append p xs c ys e)
    ∙ step_append (p x) x (slice_split p xs) (slice_split p ys) (some_part p xs)

lines_append : (xs ys : List ℕ) → lines_of (xs ++ 10 ∷ ys) ≡ lines_of xs ++ lines_of ys
lines_append xs ys = split_append (λ c. c == 10) xs 10 ys refl

pub acts_append : (xs ys : List ℕ) → acts_in (xs ++ 10 ∷ ys) ≡ acts_in xs ++ acts_in ys
acts_append xs ys = ap (flat_map (λ line. act_said (line_of line))) (lines_append xs ys) ∙ flat_map-append (λ line. act_said (line_of line)) (lines_of xs) (lines_of ys)

-- WHOLE LINES

pub none_whole : BeginsLine []
none_whole ys = refl

acts_alone : (line : List ℕ) → acts_in (line ++ 10 ∷ []) ≡ acts_in line
acts_alone line = acts_append line [] ∙ append-nil (acts_in line)

pub whole_acts : (xs line : List ℕ) → BeginsLine xs → acts_in (xs ++ (line ++ 10 ∷ [])) ≡ acts_in xs ++ acts_in line
whole_acts xs line h = h (line ++ 10 ∷ []) ∙ ap (λ a. acts_in xs ++ a) (acts_alone line)

pub whole_more : (xs line : List ℕ) → BeginsLine xs → BeginsLine (xs ++ (line ++ 10 ∷ []))
whole_more xs line h ys =
    ap acts_in (append_assoc xs (line ++ 10 ∷ []) ys ∙ ap (λ zs. xs ++ zs) (append_assoc line (10 ∷ []) ys))
    ∙ h (line ++ 10 ∷ ys)
    ∙ ap (λ a. acts_in xs ++ a) (acts_append line ys)
    ∙ sym (append_assoc (acts_in xs) (acts_in line) (acts_in ys))
    ∙ ap (λ a. a ++ acts_in ys) (sym (whole_acts xs line h))

some_bytes : (n : ℕ) → (n == 0) ≡ false → (n - 1) + 1 ≡ n
some_bytes n e = grind (arith, nat_tests, e)

-- a text without the line feed that it ends with says the same
pub feedless : (text : List ℕ) → (length text == 0) ≡ false → get_or text (length text - 1) 0 ≡ 10 → acts_in (take (length text - 1) text) ≡ acts_in text
feedless text some feed =
    let end = length text - 1 in
    let size : end + 1 ≡ length text = some_bytes (length text) some in
    let last : take end text ++ 10 ∷ [] ≡ take (end + 1) text = ap (λ c. take end text ++ c ∷ []) (sym feed) ∙ sym (take_more text end 0 (omega (arith, size))) in
    let all : take (end + 1) text ≡ text = take_all (end + 1) text (omega (arith, size)) in
    sym (acts_alone (take end text)) ∙ ap acts_in (last ∙ all)

-- the acts of one line
pub acts_one : (line : List ℕ) → lines_of line ≡ line ∷ [] → acts_in line ≡ act_said (line_of line)
acts_one line e = ap (flat_map (λ l. act_said (line_of l))) e ∙ append-nil (act_said (line_of line))

-- A LINE IN A TEXT

-- a line more, cut from a text
pub range_more : (text : List ℕ) (begin at end : ℕ) → begin ≤ at → IsLineAt text at end → slice_range text begin (end + 1) ≡ slice_range text begin at ++ (slice_range text at end ++ 10 ∷ [])
range_more text begin at end le is =
    let long : end + 1 - begin ≡ (at - begin) + (end + 1 - at) = let a = is.after in omega (arith, a, le) in
    let place : (at - begin) + begin ≡ at = omega (arith, le) in
    let line = slice_range text at end in
    let few : length line ≡ end - at = let w = is.within in let a = is.after in let d = length-drop at text in let t = length-take (end - at) (drop at text) in omega (arith, w, a, d, t) in
    let size : end + 1 - at ≡ length line + 1 = let a = is.after in omega (arith, few, a) in
    ap (λ k. take k (drop begin text)) long
    ∙ take-add (at - begin) (end + 1 - at) (drop begin text)
    ∙ ap (λ zs. slice_range text begin at ++ take (end + 1 - at) zs) (drop-drop (at - begin) begin text ∙ ap (λ k. drop k text) (let e : begin + (at - begin) ≡ at = omega (arith, le) in e) ∙ is.cut)
    ∙ ap (λ k. slice_range text begin at ++ take k (line ++ 10 ∷ drop (end + 1) text)) size
    ∙ ap (λ zs. slice_range text begin at ++ zs) (take-append-add line (10 ∷ drop (end + 1) text) 1)

-- THE LINES FROM A PLACE ON

but_last_more : {A : Type 0} (x : A) (xs : List A) → ((first : A) × (rest : List A) × (xs ≡ first ∷ rest)) → all_but_last (x ∷ xs) ≡ x ∷ all_but_last xs
but_last_more x xs (first, rest, e) = rw e refl

pub lines_from : (text : List ℕ) (at end : ℕ) → IsLineAt text at end → lines_in (drop at text) ≡ slice_range text at end ∷ lines_in (drop (end + 1) text)
lines_from text at end is =
    let line = slice_range text at end in
    ap lines_in is.cut
    ∙ ap all_but_last (lines_append line (drop (end + 1) text) ∙ ap (λ ls. ls ++ lines_of (drop (end + 1) text)) is.alone)
    ∙ but_last_more line (lines_of (drop (end + 1) text)) (some_part (λ c. c == 10) (drop (end + 1) text))

-- no line feed is left
pub none_from : (text : List ℕ) → position_or_len (λ c. c == 10) text ≡ length text → lines_in text ≡ []
none_from text e = ap all_but_last (split_last (λ c. c == 10) text e)

none_before : (xs : List ℕ) (n : ℕ) → n ≡ position_or_len (λ c. c == 10) xs → n < length xs → All (λ c. (c == 10) ≡ false) (take n xs)
none_before xs n e lt = λ k d below.
    let t = length-take n xs in
    let small : k < n = let b : k < length (take n xs) = below in omega (arith, b, t) in
    rw (get_or-take n xs k d small) (fails_before_first (λ c. c == 10) xs k d (omega (arith, small, e)))

feed_at : (xs : List ℕ) (n : ℕ) → n ≡ position_or_len (λ c. c == 10) xs → n < length xs → get_or xs n 0 ≡ 10
feed_at xs n e lt = eqb-true (get_or xs n 0) 10 (rw e (passes_at_first (λ c. c == 10) xs 0 (omega (arith, e, lt))))

cut_at : (xs : List ℕ) (n : ℕ) → n ≡ position_or_len (λ c. c == 10) xs → n < length xs → xs ≡ take n xs ++ 10 ∷ drop (n + 1) xs
cut_at xs n e lt =
    sym (take-append-drop n xs)
    ∙ ap (λ zs. take n xs ++ zs) (drop-cons xs n 0 lt ∙ ap (λ c. c ∷ drop (suc n) xs) (feed_at xs n e lt) ∙ ap (λ k. 10 ∷ drop k xs) (let s : suc n ≡ n + 1 = omega arith in s))

-- the first line feed from a place on ends a line
pub line_found : (text : List ℕ) (at n : ℕ) → n ≡ position_or_len (λ c. c == 10) (drop at text) → n < length (drop at text) → IsLineAt text at (at + n)
line_found text at n e lt =
    let xs = drop at text in
    let d = length-drop at text in
    let same : at + n - at ≡ n = omega arith in
    let range : slice_range text at (at + n) ≡ take n xs = ap (λ k. take k xs) same in
    record {
      after = omega arith;
      within = omega (arith, d, lt);
      cut = cut_at xs n e lt ∙ ap (λ zs. zs ++ 10 ∷ drop (n + 1) xs) (sym range) ∙ ap (λ zs. slice_range text at (at + n) ++ 10 ∷ zs) (drop-drop (n + 1) at text ∙ ap (λ k. drop k text) (let s : at + (n + 1) ≡ at + n + 1 = omega arith in s));
      alone = rw range (slice_split_none (λ c. c == 10) (take n xs) (none_before xs n e lt));
    }

-- the rest of a text as the code cuts it
rest_as_cut : (text : List ℕ) (at : ℕ) → take (length text - at) (drop at text) ≡ drop at text
rest_as_cut text at = take_all (length text - at) (drop at text) (let d = length-drop at text in omega (arith, d))

pub feed_none : (text : List ℕ) (at n : ℕ) → n ≡ position_or_len (λ c. c == 10) (take (length text - at) (drop at text)) → n ≡ length (take (length text - at) (drop at text)) → lines_in (drop at text) ≡ []
feed_none text at n e f = none_from (drop at text) (ap (position_or_len (λ c. c == 10)) (sym (rest_as_cut text at)) ∙ sym e ∙ f ∙ ap length (rest_as_cut text at))

pub feed_some : (text : List ℕ) (at n : ℕ) → n ≡ position_or_len (λ c. c == 10) (take (length text - at) (drop at text)) → n < length (take (length text - at) (drop at text)) → IsLineAt text at (at + n)
feed_some text at n e lt = line_found text at n (e ∙ ap (position_or_len (λ c. c == 10)) (rest_as_cut text at)) (let l = ap length (rest_as_cut text at) in omega (arith, lt, l))
