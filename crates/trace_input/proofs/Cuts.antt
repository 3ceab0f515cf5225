-- One more line that isn't the trace line.
use Rattle.trace_input.proofs.Common.{◌≡◌, ◌<◌, ◌+◌, ◌-◌, ◌++◌, ℕ, suc, false, List, [], ◌∷◌, length, take, arith, refl, ap, sym, ◌∙◌, append_assoc, length-append, ◌==◌, join_with_byte, join_with_byte-slice_split, length-slice_split, take-append_seam, lines_of, is_trace_line, lines_above, trace_lines, with_feeds}

join_first : (line : List ℕ) (ls : List (List ℕ)) → 0 < length ls → join_with_byte 10 (line ∷ ls) ≡ line ++ 10 ∷ join_with_byte 10 ls
join_first line [] h = absurd (let a : 0 < 0 = h in omega arith)
join_first line (l ∷ ls) h = refl

pub some_lines : (text : List ℕ) → 0 < length (lines_of text)
some_lines text = let e = length-slice_split (λ c. c == 10) text in omega (arith, e)

-- the bytes of a text that begins with this line
pub first_bytes : (rest line below : List ℕ) → lines_of rest ≡ line ∷ lines_of below → rest ≡ line ++ 10 ∷ below
first_bytes rest line below e =
    sym (join_with_byte-slice_split 10 rest)
    ∙ ap (join_with_byte 10) e
    ∙ join_first line (lines_of below) (some_lines below)
    ∙ ap (λ bs. line ++ 10 ∷ bs) (join_with_byte-slice_split 10 below)

module _ (input rest line below : List ℕ) (lines : lines_of rest ≡ line ∷ lines_of below) (no : is_trace_line line ≡ false) where
  above_more : lines_above (lines_of rest) ≡ line ∷ lines_above (lines_of below)
  above_more = ap lines_above lines ∙ rw no refl

  pub traced_more : trace_lines (lines_of rest) ≡ trace_lines (lines_of below)
  traced_more = ap trace_lines lines ∙ rw no refl

  pub counted_more : (number : ℕ) → length (lines_above (lines_of rest)) + number ≡ length (lines_above (lines_of below)) + (number + 1)
  counted_more number =
      let e : length (lines_above (lines_of rest)) ≡ suc (length (lines_above (lines_of below))) = ap length above_more in
      omega (arith, e)

  abbrev prefix : List ℕ → List ℕ
  prefix of = take (length input - length of) input

  module _ (parts : input ≡ prefix rest ++ rest) where
    whole : input ≡ (prefix rest ++ (line ++ (10 ∷ []))) ++ below
    whole =
        parts
        ∙ ap (λ bs. prefix rest ++ bs) (first_bytes rest line below lines)
        ∙ sym (append_assoc (prefix rest) (line ++ (10 ∷ [])) below ∙ ap (λ bs. prefix rest ++ bs) (append_assoc line (10 ∷ []) below))

    abbrev front : List ℕ
    front = prefix rest ++ (line ++ (10 ∷ []))

    front_long : length input - length below ≡ length front
    front_long =
        let e : length input ≡ length front + length below = ap length whole ∙ length-append front below in
        omega (arith, e)

    pub prefix_more : prefix below ≡ front
    prefix_more =
        ap (λ n. take n input) front_long
        ∙ ap (take (length front)) whole
        ∙ take-append_seam front below

    pub parts_more : input ≡ prefix below ++ below
    parts_more = whole ∙ ap (λ bs. bs ++ below) (sym prefix_more)

    pub fed_more : (above : List ℕ) → above ≡ prefix rest ++ with_feeds (lines_above (lines_of rest)) → above ≡ prefix below ++ with_feeds (lines_above (lines_of below))
    fed_more above e =
        e
        ∙ ap (λ ls. prefix rest ++ with_feeds ls) above_more
        ∙ sym (append_assoc (prefix rest) (line ++ (10 ∷ [])) (with_feeds (lines_above (lines_of below))))
        ∙ ap (λ bs. bs ++ with_feeds (lines_above (lines_of below))) (sym prefix_more)
