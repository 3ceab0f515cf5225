-- The names and numbers of a program that is read fit in the lines of a log.
use Rattle.std.proofs.Common.{◌≡◌, ◌<◌, ◌+◌, ◌^◌, ℕ, Bool, true, false, cond, Option, Some, None, Ok, List, [], ◌∷◌, ◌++◌, length, nat_le, refl, subst, arith}
use Rattle.std.proofs.lemmas.Bool.{and_parts}
use Rattle.std.proofs.lemmas.List.Elements.{All-append, All-from_recursion}
use Rattle.std.proofs.lemmas.List.Splits.{length-slice_split}
use Rattle.std.proofs.lemmas.List.Sums.{count_by-le-length}
use Rattle.std.proofs.lemmas.Option.{same_Some}
use Rattle.std.specs.List.{All, AllByRecursion, list_all}
use Rattle.std.specs.Prelude.{◌==◌, ◌&&◌}
use Rattle.hh_lang.specs.Form.{ProgramText}
use Rattle.hh_lang.specs.Loop.{left_code, right_code, whole_code}
use Rattle.hh_lang.specs.declared.instr.Instr.{Instr}
use Rattle.hh_lang.specs.declared.program.Fun.{Fun}
use Rattle.hh_lang.specs.declared.program.Line.{Line}
use Rattle.log_text_laws.specs.Names.{AllFunctionsNamed, HasName, IsInsideLine}
use Rattle.program_reader.specs.Around.{begun_name, head_of_line, labels_onto, looped_by, looped_name, no_labels, no_names, noted_if, operands_of_line, outline_line, outline_of, outline_onto}
use Rattle.program_reader.specs.Fault.{first_fault}
use Rattle.program_reader.specs.Names.{NotedName, begins_name, is_name, is_name_byte, is_noted}
use Rattle.program_reader.specs.Program.{code_by, code_from, function_number, function_of, functions_from, loop_from, loop_functions, loops_from, on_line, program_of, unless_refused, with_function}
use Rattle.program_reader.specs.Sense.{loop_function, only_name, sense_of}
use Rattle.program_reader.specs.declared.cause.TextFault.{TextFault}
use Rattle.program_reader.specs.declared.head.Head.{Head}
use Rattle.program_reader.specs.declared.head.Head.TheVariants.{Begin, End, Order}
use Rattle.program_reader.specs.declared.head.Verb.{Verb}
use Rattle.program_reader.specs.declared.head.Verb.TheVariants.{Pfor}
use Rattle.program_reader.specs.declared.sense.Outline.{Outline}
use Rattle.program_reader.specs.declared.sense.Sense.{Sense}
use Rattle.program_reader.specs.declared.sense.Sense.TheVariants.{Does}
use Rattle.text_lines.specs.Lines.{lines_of}
use Rattle.read_name_laws.specs.Named.{ReadProgramsAreNamed}

-- NAMES

name_byte : (c : ℕ) → is_name_byte c ≡ true → IsInsideLine c
name_byte c h = (
  λ e. absurd (let z : false ≡ true = subst (λ k. is_name_byte k ≡ true) e h in cc),
  λ e. absurd (let z : false ≡ true = subst (λ k. is_name_byte k ≡ true) e h in cc),
)

name_bytes : (w : List ℕ) → list_all is_name_byte w ≡ true → AllByRecursion IsInsideLine w
name_bytes [] h = tt
name_bytes (c ∷ cs) h = let parts = and_parts (is_name_byte c) (list_all is_name_byte cs) h in (name_byte c parts.0, name_bytes cs parts.1)

inside : (w : List ℕ) → is_name w ≡ true → All IsInsideLine w
inside w h =
    let parts = and_parts (begins_name w) (nat_le (length w) 32 && list_all is_name_byte w) h in
    All-from_recursion IsInsideLine w (name_bytes w (and_parts (nat_le (length w) 32) (list_all is_name_byte w) parts.1).1)

only : (ws : List (List ℕ)) (name : List ℕ) → only_name ws ≡ Some name → is_name name ≡ true
only [] name e = absurd cc
only (w ∷ []) name e = only_by_cases (is_name w) refl e
  where
    only_by_cases : (b : Bool) → is_name w ≡ b → cond b (Some w) None ≡ Some name → is_name name ≡ true
    only_by_cases true is e = subst (λ v. is_name v ≡ true) (same_Some w name e) is
    only_by_cases false is e = absurd cc
only (v ∷ w ∷ ws) name e = absurd cc

begun : (h : Head) (ws : List (List ℕ)) (name : List ℕ) → begun_name h ws ≡ Some name → is_name name ≡ true
begun Begin ws name e = only ws name e
begun _ ws name e = absurd cc

looped_verb : (v : Verb) (ws : List (List ℕ)) (name : List ℕ) → looped_by v ws ≡ Some name → is_name name ≡ true
looped_verb Pfor ws name e = only ws name e
looped_verb _ ws name e = absurd cc

looped : (h : Head) (ws : List (List ℕ)) (name : List ℕ) → looped_name h ws ≡ Some name → is_name name ≡ true
looped (Order v) ws name e = looped_verb v ws name e
looped _ ws name e = absurd cc

-- FUNCTIONS OF THE TEXT

abbrev AreNumbered : List Line → Type 0
AreNumbered code = AllByRecursion (λ (l : Line). l.number < 10 ^ 18) code

numbered_by : (h : Head) (sense : Sense) (number : ℕ) (rest : List Line) → number < 10 ^ 18 → AreNumbered rest → AreNumbered (code_by h sense number rest)
numbered_by Begin sense number rest n r = tt
numbered_by End sense number rest n r = (n, tt)
numbered_by _ (Does instr) number rest n r = (n, r)
numbered_by _ _ number rest n r = r

module _ (o : Outline) where
  numbered : (labels : List NotedName) (number : ℕ) (ls : List (List ℕ)) → number + length ls < 10 ^ 18 → AreNumbered (code_from o labels number ls)
  numbered labels number [] few = tt
  numbered labels number (l ∷ ls) few =
      numbered_by (head_of_line l) (sense_of o labels (head_of_line l) (operands_of_line l)) number (code_from o labels (number + 1) ls) (omega (arith, few)) (numbered labels (number + 1) ls (omega (arith, few)))

  with_one : (name : Option (List ℕ)) (code : List Line) (rest : List Fun) → ((w : List ℕ) → name ≡ Some w → is_name w ≡ true) → AreNumbered code → AllByRecursion HasName rest → AllByRecursion HasName (with_function name code rest)
  with_one None code rest named n r = r
  with_one (Some w) code rest named n r = (record { bytes = inside w (named w refl); numbers = All-from_recursion (λ (l : Line). l.number < 10 ^ 18) code n }, r)

  functions : (number : ℕ) (ls : List (List ℕ)) → number + length ls < 10 ^ 18 → AllByRecursion HasName (functions_from o number ls)
  functions number [] few = tt
  functions number (l ∷ ls) few =
      with_one (begun_name (head_of_line l) (operands_of_line l)) (code_from o (labels_onto no_labels ls).entries (number + 1) ls) (functions_from o (number + 1) ls)
      (begun (head_of_line l) (operands_of_line l)) (numbered (labels_onto no_labels ls).entries (number + 1) ls (omega (arith, few))) (functions (number + 1) ls (omega (arith, few)))

-- FUNCTIONS OF LOOPS

-- a name with a number that fits
record IsNoted (e : NotedName) : Type 0 where
  pub name : is_name e.name ≡ true
  pub number : e.number < 10 ^ 18

both : {A : Type 0} (P : A → Type 0) (xs ys : List A) → AllByRecursion P xs → AllByRecursion P ys → AllByRecursion P (xs ++ ys)
both P [] ys h k = k
both P (x ∷ xs) ys h k = (h.0, both P xs ys h.1 k)

noted_more : (es : List NotedName) (name : Option (List ℕ)) (number : ℕ) → ((w : List ℕ) → name ≡ Some w → is_name w ≡ true) → number < 10 ^ 18 → AllByRecursion IsNoted es → AllByRecursion IsNoted (noted_if es name number)
noted_more es None number named n h = h
noted_more es (Some w) number named n h = noted_by_cases (is_noted es w)
  where
    noted_by_cases : (b : Bool) → AllByRecursion IsNoted (cond b es (es ++ record { name = w; number = number } ∷ []))
    noted_by_cases true = h
    noted_by_cases false = both IsNoted es (record { name = w; number = number } ∷ []) h (record { name = named w refl; number = n }, tt)

noted : (number : ℕ) (o : Outline) (ls : List (List ℕ)) → number + length ls < 10 ^ 18 → AllByRecursion IsNoted o.loops → AllByRecursion IsNoted (outline_onto number o ls).loops
noted number o [] few h = h
noted number o (l ∷ ls) few h =
    noted (number + 1) (outline_line number o l) ls (omega (arith, few))
    (noted_more o.loops (looped_name (head_of_line l) (operands_of_line l)) number (looped (head_of_line l) (operands_of_line l)) (omega (arith, few)) h)

on_one_line : (number : ℕ) (code : List Instr) → number < 10 ^ 18 → AreNumbered (on_line number code)
on_one_line number [] n = tt
on_one_line number (i ∷ is) n = (n, on_one_line number is n)

-- a name and one more byte
loop_named : (name : List ℕ) (c number : ℕ) (code : List Instr) → is_name name ≡ true → IsInsideLine c → number < 10 ^ 18 → HasName (function_of (name ++ c ∷ []) number code)
loop_named name c number code h i n = record {
  bytes = All-append IsInsideLine name (c ∷ []) (inside name h) (All-from_recursion IsInsideLine (c ∷ []) (i, tt));
  numbers = All-from_recursion (λ (l : Line). l.number < 10 ^ 18) (on_line number code) (on_one_line number code n);
}

loops : (o : Outline) (k : ℕ) (es : List NotedName) → AllByRecursion IsNoted es → AllByRecursion HasName (loops_from o k es)
loops o k [] h = tt
loops o k (e ∷ es) h =
    let first = loop_function o k in
    both HasName (loop_functions o first e) (loops_from o (k + 1) es) (
      loop_named e.name 63 e.number (whole_code (loop_from (function_number o e.name) first)) h.0.name (λ z. omega (arith, z), λ z. omega (arith, z)) h.0.number,
      (
        loop_named e.name 60 e.number (left_code first) h.0.name (λ z. omega (arith, z), λ z. omega (arith, z)) h.0.number,
        (loop_named e.name 62 e.number (right_code first) h.0.name (λ z. omega (arith, z), λ z. omega (arith, z)) h.0.number, tt),
      ),
    )
    (loops o (k + 1) es h.1)

-- PROGRAMS

named_program : (text : List ℕ) → 1 + length (lines_of text) < 10 ^ 18 → AllFunctionsNamed (program_of text)
named_program text few =
    let o = outline_of text in
    All-from_recursion HasName (functions_from o 1 (lines_of text) ++ loops_from o 0 o.loops)
    (both HasName (functions_from o 1 (lines_of text)) (loops_from o 0 o.loops) (functions o 1 (lines_of text) few) (loops o 0 o.loops (noted 1 no_names (lines_of text) few tt)))

is_program : (text : List ℕ) (p : ProgramText) (fault : Option TextFault) → unless_refused fault (program_of text) ≡ Ok p → program_of text ≡ p
is_program text p None e = same_Ok (program_of text) p e
  where
    same_Ok : (a b : ProgramText) → unless_refused None a ≡ unless_refused None b → a ≡ b
    same_Ok a b e = cc
is_program text p (Some r) e = absurd cc

pub read_programs_are_named : ReadProgramsAreNamed
read_programs_are_named text p sized e =
    let count = length-slice_split (λ c. c == 10) text in
    let most = count_by-le-length (λ c. c == 10) text in
    subst AllFunctionsNamed (is_program text p (first_fault text) e) (named_program text (omega (arith, sized, count, most)))
