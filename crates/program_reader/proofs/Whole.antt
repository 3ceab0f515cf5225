-- The functions of a text and those of its loops are a program.
use Rattle.program_reader.proofs.Common.{◌≡◌, ◌<◌, ◌≤◌, ◌+◌, ◌*◌, ◌++◌, ℕ, zero, suc, true, List, [], ◌∷◌, length, get_or, arith, refl, ap, sym, subst, ◌∙◌, length-append, Option, Some, None, IsSomeAnd, slice_get, codes, unwrap_or, All, bytes_eq, take_all, All-append, All-nil, position-Some, bytes_eq-Decides, Fun, NamesExist, IsFunction, IsProgram, whole_code, left_code, right_code, Outline, NotedName, is_noted, name_index, OutlineIsSmall, loop_function, function_number, loop_from, on_line, loop_functions, loops_from, program_in}
use Rattle.program_reader.proofs.Ranges.{all_functions, place_below}
use Rattle.program_reader.proofs.Sounds.{fun_names, entry_names}
use Rattle.program_reader.proofs.Tables.{noted_before}
use Rattle.program_reader.proofs.Passing.{some_place}

-- the same as All, item by item
abbrev Each : {A : Type 0} → (A → Type 0) → List A → Type 0
Each P [] = Unit {0}
Each P (x ∷ xs) = P x × Each P xs

each_all : {A : Type 0} (P : A → Type 0) (xs : List A) → Each P xs → All P xs
each_all P [] h = All-nil P
each_all P (x ∷ xs) h = All-append P (x ∷ []) xs (one h.0) (each_all P xs h.1)
  where
    one : P x → All P (x ∷ [])
    one p zero d lt = p
    one p (suc k) d lt = absurd (let l : suc k < 1 = lt in omega arith)

-- ---- the functions of loops

below_here : 9 < 16
below_here = omega arith

below_there : 13 < 16
below_there = omega arith

whole_in : (n f first all : ℕ) → f < all → first + 1 < all → first + 2 < all → Each (λ l. NamesExist all 16 l.instr) (on_line n (whole_code (loop_from f first)))
whole_in n f first all a b c = (tt, (below_there, (tt, (tt, (tt, (below_here, (a, (tt, (tt, ((b, c), (tt, (tt, (tt, (tt, (tt, (tt, tt))))))))))))))))

half_in : (n first all : ℕ) → first < all → Each (λ l. NamesExist all 6 l.instr) (on_line n (left_code first))
half_in n first all a = (tt, (tt, (tt, (tt, (a, (tt, tt))))))

other_half_in : (n first all : ℕ) → first < all → Each (λ l. NamesExist all 6 l.instr) (on_line n (right_code first))
other_half_in n first all a = (tt, (tt, (tt, (tt, (a, (tt, tt))))))

loop_in : (o : Outline) (first : ℕ) (e : NotedName) → function_number o e.name < all_functions o → first + 2 < all_functions o → Each (IsFunction (all_functions o)) (loop_functions o first e)
loop_in o first e a b =
    let one : first + 1 < all_functions o = omega (arith, b) in
    let none : first < all_functions o = omega (arith, b) in (
      record { sized = omega arith; names = each_all (λ l. NamesExist (all_functions o) 16 l.instr) (on_line e.number (whole_code (loop_from (function_number o e.name) first))) (whole_in e.number (function_number o e.name) first (all_functions o) a one b); ends = tt },
      (
        record { sized = omega arith; names = each_all (λ l. NamesExist (all_functions o) 6 l.instr) (on_line e.number (left_code first)) (half_in e.number first (all_functions o) none); ends = tt },
        (record { sized = omega arith; names = each_all (λ l. NamesExist (all_functions o) 6 l.instr) (on_line e.number (right_code first)) (other_half_in e.number first (all_functions o) none); ends = tt }, tt),
      ),
    )

number_by : (o : Outline) (name : List ℕ) (r : Option ℕ) → 0 < length o.functions → name_index o.functions name ≡ r → unwrap_or r 0 < length o.functions
number_by o name None h e = h
number_by o name (Some k) h e = place_below o.functions name k e

number_in_range : (o : Outline) (name : List ℕ) → 0 < length o.functions → function_number o name < all_functions o
number_in_range o name h = let lt = number_by o name (name_index o.functions name) h refl in omega (arith, lt)

loops_in : (o : Outline) (k : ℕ) (es : List NotedName) → 0 < length o.functions → k + length es ≤ length o.loops → All (IsFunction (all_functions o)) (loops_from o k es)
loops_in o k [] h le = All-nil (IsFunction (all_functions o))
loops_in o k (e ∷ es) h le =
    let here : loop_function o k + 2 < all_functions o = omega (arith, le) in
    let more : k + 1 + length es ≤ length o.loops = omega (arith, le) in
    All-append (IsFunction (all_functions o)) (loop_functions o (loop_function o k) e) (loops_from o (k + 1) es)
    (each_all (IsFunction (all_functions o)) (loop_functions o (loop_function o k) e) (loop_in o (loop_function o k) e (number_in_range o e.name h) here))
    (loops_in o (k + 1) es h more)

loops_length : (o : Outline) (k : ℕ) (es : List NotedName) → length (loops_from o k es) ≡ 3 * length es
loops_length o k [] = refl
loops_length o k (e ∷ es) = let i = loops_length o (k + 1) es in omega (arith, i)

-- ---- main

names_length : (fs : List Fun) (es : List NotedName) → fun_names fs ≡ entry_names es → length fs ≡ length es
names_length [] [] h = refl
names_length [] (e ∷ es) h = absurd (cc)
names_length (f ∷ fs) [] h = absurd (cc)
names_length (f ∷ fs) (e ∷ es) h = ap suc (names_length fs es (let t : fun_names fs ≡ entry_names es = cc in t))

named_at : (fs more : List Fun) (es : List NotedName) (k : ℕ) (d : NotedName) → fun_names fs ≡ entry_names es → k < length es → IsSomeAnd (slice_get (fs ++ more) k) (λ f. f.name ≡ (get_or es k d).name)
named_at fs more [] k d h lt = absurd (let l : k < 0 = lt in omega arith)
named_at [] more (e ∷ es) k d h lt = absurd (cc)
named_at (f ∷ fs) more (e ∷ es) zero d h lt = let t : f.name ≡ e.name = cc in t
named_at (f ∷ fs) more (e ∷ es) (suc k) d h lt = named_at fs more es k d (let t : fun_names fs ≡ entry_names es = cc in t) (omega (arith, lt))

renamed : (r : Option Fun) (a b : List ℕ) → a ≡ b → IsSomeAnd r (λ f. f.name ≡ a) → IsSomeAnd r (λ f. f.name ≡ b)
renamed None a b e h = h
renamed (Some f) a b e h = h ∙ e

-- a name that is noted has an index
main_place : (o : Outline) → is_noted o.functions (codes "main") ≡ true → (k : ℕ) × (name_index o.functions (codes "main") ≡ Some k)
main_place o h = some_place (name_index o.functions (codes "main")) (length o.functions) (noted_before o.functions (codes "main") (length o.functions) ∙ ap (λ es. is_noted es (codes "main")) (take_all (length o.functions) o.functions (omega arith)) ∙ h)

same_bytes : (xs ys : List ℕ) → bytes_eq xs ys ≡ true → ys ≡ xs
same_bytes xs ys e = sym ((bytes_eq-Decides xs ys).0 e)

-- the program of these functions, which have the names of the outline
pub is_program : (o : Outline) (fs : List Fun) → fun_names fs ≡ entry_names o.functions → All (IsFunction (all_functions o)) fs → is_noted o.functions (codes "main") ≡ true → OutlineIsSmall o → IsProgram (program_in o fs)
is_program o fs names done main small =
    let found = main_place o main in
    let d : NotedName = record { name = []; number = 0 } in
    let at = position-Some (λ e. bytes_eq (codes "main") e.name) o.functions found.0 d found.1 in
    let some : 0 < length o.functions = omega (arith, at.0) in
    let long : length (fs ++ loops_from o 0 o.loops) ≡ all_functions o = omega (arith, length-append fs (loops_from o 0 o.loops), names_length fs o.functions names, loops_length o 0 o.loops) in
    let each : All (IsFunction (all_functions o)) (fs ++ loops_from o 0 o.loops) = All-append (IsFunction (all_functions o)) fs (loops_from o 0 o.loops) done (loops_in o 0 o.loops some (omega arith)) in
    let number : function_number o (codes "main") ≡ found.0 = ap (λ r. unwrap_or r 0) found.1 in
    record {
      sized = omega (arith, long, small);
      each = subst (λ k. All (IsFunction k) (fs ++ loops_from o 0 o.loops)) (sym long) each;
      main = subst (λ k. IsSomeAnd (slice_get (fs ++ loops_from o 0 o.loops) k) (λ f. f.name ≡ codes "main")) (sym number)
          (renamed (slice_get (fs ++ loops_from o 0 o.loops) found.0) (get_or o.functions found.0 d).name (codes "main") (same_bytes (codes "main") (get_or o.functions found.0 d).name at.1) (named_at fs (loops_from o 0 o.loops) o.functions found.0 d names at.0));
    }
