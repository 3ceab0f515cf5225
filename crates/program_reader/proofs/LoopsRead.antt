-- A text without a fault has the functions of its loops after those that its lines begin.
use Rattle.program_reader.proofs.Common.{◌≡◌, ◌<◌, ◌+◌, ◌*◌, ◌++◌, ℕ, zero, suc, Bool, true, false, cond, List, [], ◌∷◌, length, arith, refl, ap, sym, ◌∙◌, get_or, length-append, Option, Some, None, map, slice_get, codes, bytes_eq, is_utf8, unwrap_or, position-Some, get_or_from_slice_get, bytes_eq-Decides, got_back, got_front, got_some, Instr, Line, Fun, code_of, lines_of, instrs_of, whole_code, left_code, right_code, Cause, NotUtf8, TextFault, Head, Begin, WrongOperand, Outline, NotedName, is_noted, with_name, name_index, sense_of, loop_function, looping, only_name, head_of_line, operands_of_line, begun_name, noted_if, outline_line, outline_above, outline_onto, outline_of, no_labels, labels_onto, spot_of, is_misplaced, has_wrong_operand, leaves_open, is_named_in, is_second, names_no_function, names_no_label, lacks_main, is_too_many, first_cause, line_cause, fault_on, or_later_fault, first_fault_from, on_line, function_of, loop_from, loop_functions, loops_from, function_number, with_function, functions_from, code_from, LoopsAreRead}

-- AS MANY FUNCTIONS AS NAMES

-- without a first cause the name isn't a second one
no_second : (word operand no_end two no_name no_label no_main many : Bool) → first_cause word operand no_end two no_name no_label no_main many ≡ None → two ≡ false
no_second true operand no_end two no_name no_label no_main many e = absurd cc
no_second false true no_end two no_name no_label no_main many e = absurd cc
no_second false false true two no_name no_label no_main many e = absurd cc
no_second false false false true no_name no_label no_main many e = absurd cc
no_second false false false false no_name no_label no_main many e = refl

no_fault_by : (b : Bool) (c : Option Cause) (d : Cause) → cond b c (Some d) ≡ None → c ≡ None
no_fault_by true c d e = e
no_fault_by false c d e = absurd cc

not_second : (o : Outline) (above : List (List ℕ)) (l : List ℕ) (ls : List (List ℕ)) → fault_on o (spot_of above l ls) l ≡ None → is_second (spot_of above l ls) (head_of_line l) (operands_of_line l) ≡ false
not_second o above l ls e =
    let s = spot_of above l ls in
    let h = head_of_line l in
    let ws = operands_of_line l in
    let sense = sense_of o s.labels h ws in
    no_second (is_misplaced s.inside h) (has_wrong_operand sense) (leaves_open s h) (is_second s h ws) (names_no_function sense) (names_no_label sense) (lacks_main o s) (is_too_many s h)
    (no_fault_by (is_utf8 l) (line_cause o s h ws sense) NotUtf8 e)

abbrev one_if : Option (List ℕ) → ℕ
one_if None = 0
one_if (Some name) = 1

noted_new : (es : List NotedName) (name : List ℕ) (number : ℕ) → is_noted es name ≡ false → length (with_name es name number) ≡ length es + 1
noted_new es name number new = ap (λ b. length (cond b es (es ++ record { name = name; number = number } ∷ []))) new ∙ length-append es (record { name = name; number = number } ∷ [])

noted_if_new : (es : List NotedName) (name : Option (List ℕ)) (number : ℕ) → is_named_in es name ≡ false → length (noted_if es name number) ≡ length es + one_if name
noted_if_new es None number new = omega arith
noted_if_new es (Some name) number new = noted_new es name number new

-- a line notes a name if and only if it begins a function
line_notes : (above : List (List ℕ)) (l : List ℕ) (ls : List (List ℕ)) (h : Head) (ws : List (List ℕ)) (number : ℕ) → is_second (spot_of above l ls) h ws ≡ false
    → length (noted_if (outline_above above).functions (begun_name h ws) number) ≡ length (outline_above above).functions + one_if (begun_name h ws)
line_notes above l ls Begin ws number new = noted_if_new (outline_above above).functions (only_name ws) number new
line_notes above l ls _ ws number new = omega arith

line_begins : (name : Option (List ℕ)) (code : List Line) (rest : List Fun) → length (with_function name code rest) ≡ one_if name + length rest
line_begins None code rest = omega arith
line_begins (Some name) code rest = let e : length (with_function (Some name) code rest) ≡ suc (length rest) = refl in omega arith

first_part : (c : Option Cause) (n : ℕ) (later : Option TextFault) → or_later_fault c n later ≡ None → c ≡ None
first_part None n later e = refl
first_part (Some cause) n later e = absurd cc

later_part : (c : Option Cause) (n : ℕ) (later : Option TextFault) → or_later_fault c n later ≡ None → later ≡ None
later_part None n later e = e
later_part (Some cause) n later e = absurd cc

as_many : (o : Outline) (above ls : List (List ℕ)) (number : ℕ) → number ≡ length above + 1 → first_fault_from o above ls ≡ None
    → length (functions_from o number ls) + length (outline_above above).functions ≡ length (outline_onto number (outline_above above) ls).functions
as_many o above [] number e none = let z : length (functions_from o number []) ≡ 0 = refl in omega arith
as_many o above (l ∷ ls) number e none =
    let name = begun_name (head_of_line l) (operands_of_line l) in
    let fault = fault_on o (spot_of above l ls) l in
    let here = first_part fault (length above + 1) (first_fault_from o (l ∷ above) ls) none in
    let below = later_part fault (length above + 1) (first_fault_from o (l ∷ above) ls) none in
    let next : number + 1 ≡ length (l ∷ above) + 1 = let s : length (l ∷ above) ≡ suc (length above) = refl in omega arith in
    let rest = as_many o (l ∷ above) ls (number + 1) next below in
    let notes = line_notes above l ls (head_of_line l) (operands_of_line l) (length above + 1) (not_second o above l ls here) in
    let begins = line_begins name (code_from o (labels_onto no_labels ls).entries (number + 1) ls) (functions_from o (number + 1) ls) in
    (let sum : length (functions_from o number (l ∷ ls)) + length (outline_above above).functions ≡ length (functions_from o (number + 1) ls) + length (outline_above (l ∷ above)).functions = omega (arith, begins, notes) in sum)
    ∙ (rest ∙ ap (λ n. length (outline_onto (number + 1) (outline_line n (outline_above above) l) ls).functions) (sym e))

-- THE FUNCTIONS OF LOOPS

map_on_line : (number : ℕ) (code : List Instr) → map (λ (l : Line). l.instr) (on_line number code) ≡ code
map_on_line number [] = refl
map_on_line number (i ∷ is) = ap (λ c. i ∷ c) (map_on_line number is)

module _ (o : Outline) where
  -- the three functions of a loop, by its index
  loop_at : (j : ℕ) (es : List NotedName) (k : ℕ) (e : NotedName) → slice_get es k ≡ Some e → (s : ℕ) (fun : Fun) → slice_get (loop_functions o (loop_function o (j + k)) e) s ≡ Some fun → s < 3 → slice_get (loops_from o j es) (3 * k + s) ≡ Some fun
  loop_at j [] k e is s fun at lt = absurd cc
  loop_at j (x ∷ es) zero e is s fun at lt =
      let same : x ≡ e = cc in
      ap (slice_get (loops_from o j (x ∷ es))) (let h : 3 * zero + s ≡ s = omega arith in h)
      ∙ (got_front (loop_functions o (loop_function o j) x) (loops_from o (j + 1) es) s lt
      ∙ (ap (λ z. slice_get (loop_functions o (loop_function o j) z) s) same
      ∙ (ap (λ n. slice_get (loop_functions o (loop_function o n) e) s) (let h : j ≡ j + zero = omega arith in h) ∙ at)))
  loop_at j (x ∷ es) (suc k) e is s fun at lt =
      ap (slice_get (loops_from o j (x ∷ es))) (let h : 3 * suc k + s ≡ suc (suc (suc (3 * k + s))) = omega arith in h)
      ∙ loop_at (j + 1) es k e is s fun (ap (λ n. slice_get (loop_functions o (loop_function o n) e) s) (let h : j + 1 + k ≡ j + suc k = omega arith in h) ∙ at) lt

  -- a function of the program, by its index after the text's functions
  instrs_at : (fs : List Fun) (main : ℕ) → length fs ≡ length o.functions → (k : ℕ) (e : NotedName) → slice_get o.loops k ≡ Some e → (s : ℕ) (name : List ℕ) (code : List Instr) → slice_get (loop_functions o (loop_function o k) e) s ≡ Some (function_of name e.number code) → s < 3
      → (q : ℕ) → q ≡ loop_function o k + s → instrs_of (record { functions = fs ++ loops_from o 0 o.loops; main = main }) q ≡ code
  instrs_at fs main long k e is s name code at lt q place =
      ap (λ f. map (λ (l : Line). l.instr) (code_of f))
      (ap (slice_get (fs ++ loops_from o 0 o.loops)) (let h : q ≡ length fs + (3 * k + s) = omega arith in h)
      ∙ (got_back fs (loops_from o 0 o.loops) (3 * k + s)
      ∙ loop_at 0 o.loops k e is s (function_of name e.number code) (ap (λ n. slice_get (loop_functions o (loop_function o n) e) s) (let h : 0 + k ≡ k = omega arith in h) ∙ at) lt))
      ∙ map_on_line e.number code

-- THE LAW

place_names : (es : List NotedName) (name : List ℕ) (k : ℕ) → name_index es name ≡ Some k → (e : NotedName) × (slice_get es k ≡ Some e) × (e.name ≡ name)
place_names es name k place =
    let d : NotedName = record { name = []; number = 0 } in
    let within = position-Some (λ (e : NotedName). bytes_eq name e.name) es k d place in
    let e = got_some es k within.0 in
    let at = position-Some (λ (e : NotedName). bytes_eq name e.name) es k e.0 place in
    let same : get_or es k e.0 ≡ e.0 = get_or_from_slice_get es k e.0 e.0 e.1 in
    (e.0, e.1, sym ((bytes_eq-Decides name e.0.name).0 (ap (λ (z : NotedName). bytes_eq name z.name) (sym same) ∙ at.1)))

pub loops_are_read : LoopsAreRead
loops_are_read text name f k none is_name_of is_f is_k =
    let o = outline_of text in
    let fs = functions_from o 1 (lines_of text) in
    let long : length fs ≡ length o.functions = let h = as_many o [] (lines_of text) 1 refl none in omega arith in
    let e = place_names o.loops name k is_k in
    let body : function_number o e.0.name ≡ f = ap (λ n. function_number o n) e.2 ∙ ap (λ z. unwrap_or z 0) is_f in
    let first = loop_function o k in
    let d : NotedName = record { name = []; number = 0 } in
    let within = position-Some (λ (e : NotedName). bytes_eq name e.name) o.functions f d is_f in
    let few : f < length o.functions = within.0 in
    let main = function_number o (codes "main") in (
      loop_from f first,
      record {
        instr = ap (λ b. cond b (looping o (name_index o.functions name) (name_index o.loops name)) WrongOperand) is_name_of ∙ (λ z. looping o (is_f z) (is_k z));
        body = is_f;
        runs = record {
          whole = instrs_at o fs main long k e.0 e.1 0 _ (whole_code (loop_from (function_number o e.0.name) first)) refl (omega arith) first (omega arith) ∙ ap (λ b. whole_code (loop_from b first)) body;
          left = instrs_at o fs main long k e.0 e.1 1 _ (left_code first) refl (omega arith) (first + 1) refl;
          right = instrs_at o fs main long k e.0 e.1 2 _ (right_code first) refl (omega arith) (first + 2) refl;
          apart = λ h. omega arith;
        };
      },
    )
