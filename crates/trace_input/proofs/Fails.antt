-- If a trace can't be read for its program, the input has that fault.
use Rattle.trace_input.proofs.Common.{◌≡◌, ◌<◌, ℕ, List, [], ◌∷◌, length, arith, refl, ap, sym, ◌∙◌, subst, Option, Some, None, Ok, Err, ProgramText, lines_of, TextFault, first_fault, program_of, reading_of, unless_refused, OrNoMemory, InputFault, program_part, trace_lines, trace_number, trace_bad, bad_line, as_bad_line, parts_fault, Reports, FailsTrace}
use Rattle.trace_input.proofs.Cuts.{some_lines}

bad_same : (last n : ℕ) (p : ProgramText) (ls : List (List ℕ)) → 0 < length ls → bad_line last n p ls ≡ trace_bad n p ls
bad_same last n p [] h = absurd (let a : 0 < 0 = h in omega arith)
bad_same last n p (l ∷ ls) h = refl

read_by : (r : Option TextFault) (q p : ProgramText) → unless_refused r q ≡ Ok p → (r ≡ None) × (p ≡ q)
read_by None q p e = (refl, cc)
read_by (Some r) q p e = absurd (let f : Err r ≡ Ok p = e in cc)

pub fails : (input above t : List ℕ) (n : ℕ) (p : ProgramText) (e : OrNoMemory InputFault)
    → above ≡ program_part input → Ok p ≡ reading_of above → trace_lines (lines_of input) ≡ lines_of t → n ≡ trace_number input
    → FailsTrace (trace_bad n p (lines_of t)) e → Reports (parts_fault input) e
fails input above t n p e part reads lines number bad =
    let both = read_by (first_fault above) (program_of above) p (sym reads) in
    let none : first_fault (program_part input) ≡ None = ap first_fault (sym part) ∙ both.0 in
    let program : program_of (program_part input) ≡ p = ap program_of (sym part) ∙ sym both.1 in
    let same : bad_line (length (lines_of input)) (trace_number input) (program_of (program_part input)) (trace_lines (lines_of input)) ≡ trace_bad n p (lines_of t) =
    rw (program, lines, ← number) (bad_same (length (lines_of input)) n p (lines_of t) (some_lines t)) in
    let whole : parts_fault input ≡ as_bad_line (trace_bad n p (lines_of t)) = rw (none, same) refl in
    subst (λ f. Reports f e) (sym whole) bad
