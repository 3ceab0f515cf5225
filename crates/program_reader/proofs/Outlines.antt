-- The outline of a text, line by line.
use Rattle.program_reader.proofs.Common.{◌≡◌, ◌<◌, ◌≤◌, ◌+◌, ◌++◌, ℕ, Bool, true, false, cond, List, [], ◌∷◌, length, take, drop, arith, ap, sym, length-append, ◌==◌, Option, Some, None, position_or_len, lines_of, Outline, NotedName, is_noted, OutlineIsSmall, head_of_line, operands_of_line, begun_name, looped_name, noted_if, outline_line, outline_onto}
use Rattle.program_reader.proofs.Lines.{lines_first, lines_last}

pub outline_more : (o : Outline) (n end : ℕ) (rest : List ℕ) → end ≡ position_or_len (λ c. c == 10) rest → end < length rest → outline_onto (n + 1) (outline_line n o (take end rest)) (lines_of (drop (end + 1) rest)) ≡ outline_onto n o (lines_of rest)
outline_more o n end rest e lt = ap (outline_onto n o) (sym (lines_first rest end e lt))

pub outline_last : (o : Outline) (n end : ℕ) (rest : List ℕ) → end ≡ position_or_len (λ c. c == 10) rest → end ≡ length rest → outline_line n o (take end rest) ≡ outline_onto n o (lines_of rest)
outline_last o n end rest e z = ap (outline_onto n o) (sym (lines_last rest end e z))

one_more : (es : List NotedName) (e : NotedName) (b : Bool) → length (cond b es (es ++ e ∷ [])) ≤ length es + 1
one_more es e true = omega arith
one_more es e false = grind (arith, length-append)

noted_length : (es : List NotedName) (name : Option (List ℕ)) (n : ℕ) → length (noted_if es name n) ≤ length es + 1
noted_length es None n = omega arith
noted_length es (Some name) n = one_more es (record { name = name; number = n }) (is_noted es name)

-- so far there are at most as many names as lines
pub record IsShort (o : Outline) (n : ℕ) : Type 0 where
  pub functions : length o.functions ≤ n
  pub loops : length o.loops ≤ n

pub short_more : (o p : Outline) (n m j : ℕ) (line : List ℕ) → p ≡ outline_line m o line → j ≡ n + 1 → IsShort o n → IsShort p j
short_more o p n m j line e k h =
    let a = noted_length o.functions (begun_name (head_of_line line) (operands_of_line line)) m in
    let b = noted_length o.loops (looped_name (head_of_line line) (operands_of_line line)) m in
    rw e (record { functions = omega (arith, a, h.functions, k); loops = omega (arith, b, h.loops, k) })

pub short_small : (o : Outline) (n : ℕ) → IsShort o n → n ≤ 16777217 → OutlineIsSmall o
short_small o n h le = omega (arith, h.functions, h.loops, le)
