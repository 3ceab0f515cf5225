-- Made texts are programs.
use Rattle.made_program_laws.proofs.Common.{◌≡◌, ◌≤◌, ◌+◌, ◌++◌, ℕ, true, false, List, [], ◌∷◌, length, arith, refl, ap, sym, ◌∙◌, Some, None, codes, nat_le, list_all, is_utf8, decimal_digit, lines_of, made_text, main_text, NotedName, is_noted, name_index, call, orders_above, outline_of, first_fault_from, first_fault, spot_of, turned, program_of, unless_refused, begin_free, blank_free, end_free, has_place, is_instr, is_read, orders_pass, passes, MadeArePrograms}
use Rattle.made_program_laws.proofs.Names.{name_of}
use Rattle.made_program_laws.proofs.Rows.{Lines, functions_have, main_lines, main_order_rows, main_rows, rows_of}
use Rattle.made_program_laws.proofs.Between.{Between, Named, above_of, between, named_all}
use Rattle.made_program_laws.proofs.Functions.{all_read, ascii_utf8, both_read, functions_pass, one_read}

-- MAIN

calls : (text : List ℕ) (f : ℕ) → name_index (outline_of text).functions (codes "f0") ≡ Some f → is_instr (call (outline_of text) (codes "f0")) ≡ true
calls text f e = rw e refl

first_name : name_of 0 ≡ codes "f0"
first_name = ap (λ ds. codes "f" ++ ds) (decimal_digit 0 (omega arith))

call_reads : (text : List ℕ) (labels : List NotedName) → is_noted (outline_of text).functions (name_of 0) ≡ true → is_read (outline_of text) labels (codes "call f0") ≡ true
call_reads text labels h =
    let at = has_place (outline_of text).functions (codes "f0") (ap (is_noted (outline_of text).functions) (sym first_name) ∙ h) in
    as_call (ascii_utf8 (codes "call f0") refl) (calls text at.0 at.1)
  where
    as_call : is_utf8 (codes "call f0") ≡ true → is_instr (call (outline_of text) (codes "f0")) ≡ true → is_read (outline_of text) labels (codes "call f0") ≡ true
    as_call e f = rw (e, f) refl

main_read : (text : List ℕ) (labels : List NotedName) → is_noted (outline_of text).functions (name_of 0) ≡ true → list_all (is_read (outline_of text) labels) main_order_rows ≡ true
main_read text labels h =
    both_read text labels (codes "set i2 2" ∷ codes "set i3 0" ∷ codes "newm r0 i2 i3" ∷ codes "movr r9 r0" ∷ codes "call f0" ∷ []) (codes "set i4 0" ∷ codes "getr r4 r9 i4" ∷ codes "geti i6 r4 i4" ∷ codes "out i6" ∷ codes "ret" ∷ [])
    (both_read text labels (codes "set i2 2" ∷ codes "set i3 0" ∷ codes "newm r0 i2 i3" ∷ codes "movr r9 r0" ∷ []) (codes "call f0" ∷ []) (all_read text labels (codes "set i2 2" ∷ codes "set i3 0" ∷ codes "newm r0 i2 i3" ∷ codes "movr r9 r0" ∷ []) refl) (one_read text labels (codes "call f0") (call_reads text labels h)))
    (all_read text labels (codes "set i4 0" ∷ codes "getr r4 r9 i4" ∷ codes "geti i6 r4 i4" ∷ codes "out i6" ∷ codes "ret" ∷ []) refl)

last_count : (k : ℕ) → k ≤ 1000 → nat_le 1024 k ≡ false
last_count k le = grind (arith, le)

main_passes : (text : List ℕ) (size : ℕ) (above : Lines) → 1 ≤ size → size ≤ 1000 → Named size (outline_of text).functions → Between size above → first_fault_from (outline_of text) above main_rows ≡ None
main_passes text size above some le named b =
    let none : orders_above (codes "fn main" ∷ above) ≡ orders_above above + 0 = refl in
    let ten : length main_order_rows ≡ 10 = refl in
    let at_end : Lines = turned (codes "fn main" ∷ above) main_order_rows in
    let all = orders_pass (outline_of text) [] [] main_order_rows (codes "fn main" ∷ above) (codes "end" ∷ [] ∷ []) 65536 (main_read text [] (named.functions 0 (omega (arith, some)))) (record { inside = refl; known = refl; behind = refl }) (omega (arith, none, b.orders, le, ten)) (omega arith) refl in
    passes (outline_of text) above (codes "fn main") (main_order_rows ++ codes "end" ∷ [] ∷ []) (begin_free (outline_of text) (spot_of above (codes "fn main") (main_order_rows ++ codes "end" ∷ [] ∷ [])) (codes "fn main") (ascii_utf8 (codes "fn main") refl) (codes "main") refl refl b.outside refl b.main (ap (λ n. nat_le 1024 n) b.begun ∙ last_count size le))
    ∙ all.faults
    ∙ passes (outline_of text) at_end (codes "end") ([] ∷ []) (end_free (outline_of text) (spot_of at_end (codes "end") ([] ∷ [])) (codes "end") (ascii_utf8 (codes "end") refl) refl refl all.within.inside refl)
    ∙ passes (outline_of text) (codes "end" ∷ at_end) [] [] (blank_free (outline_of text) (spot_of (codes "end" ∷ at_end) [] []) [] (ascii_utf8 [] refl) refl refl refl named.main)

-- THE WHOLE TEXT

made_lines : (seed size : ℕ) → size ≤ 1000 → lines_of (made_text seed size) ≡ rows_of seed size size ++ main_rows
made_lines seed size le = functions_have seed size size le le main_text ∙ ap (λ ls. rows_of seed size size ++ ls) main_lines

no_fault : (seed size : ℕ) → 1 ≤ size → size ≤ 1000 → first_fault (made_text seed size) ≡ None
no_fault seed size some le =
    let lines = made_lines seed size le in
    let named = named_all seed size (made_text seed size) le lines in
    ap (first_fault_from (outline_of (made_text seed size)) []) lines
    ∙ functions_pass (made_text seed size) seed size size main_rows (omega arith) le named refl
    ∙ main_passes (made_text seed size) size (above_of seed size size) some le named (between seed size size le)

pub made_are_programs : MadeArePrograms
made_are_programs = λ seed size some le. ap (λ f. unless_refused f (program_of (made_text seed size))) (no_fault seed size some le)
