-- Reading on over the bytes of a text.
use Rattle.program_reader.proofs.Common.{◌≡◌, ◌<◌, ◌≤◌, ◌+◌, ◌++◌, ◌^◌, ℕ, Bool, true, false, cond, List, [], ◌∷◌, length, take, drop, arith, refl, ap, sym, subst, ◌∙◌, nat_lt, nat_eq, Option, Some, None, IfNone, ◌==◌, codes, position_or_len, drop_all, IsProgram, Fun, is_last, lines_of, some_line, Cause, TextFault, Head, Begin, Sense, Outline, Reader, is_noted, OutlineIsSmall, only_name, sense_of, outline_of, head_of_line, operands_of_line, fault_on, first_fault, functions_from, program_of, unless_refused, reading_of, spot_in, after_begin, after_line, line_taken, program_in}
use Rattle.program_reader.proofs.Lines.{lines_first, lines_last, lines_cut, lines_behind}
use Rattle.program_reader.proofs.Rounds.{IsReading, next_line, refused_at, no_fault, functions_done, at_last, has_main}
use Rattle.program_reader.proofs.Sounds.{fun_names, entry_names}
use Rattle.program_reader.proofs.Whole.{is_program}

last_by : (rest : List ℕ) (end : ℕ) (b : Bool) → end ≤ length rest → nat_lt end (length rest) ≡ b → nat_eq end (length rest) ≡ is_last (lines_behind rest end b)
last_by rest end true le e = (let f : nat_eq end (length rest) ≡ false = grind (arith, e) in f) ∙ sym (some_line (drop (end + 1) rest))
last_by rest end false le e = grind (arith, e, le)

-- one empty line below is the same as none
begun_over : (r : Reader) (name : Option (List ℕ)) → after_begin r name ([] ∷ []) ≡ after_begin r name []
begun_over r None = refl
begun_over r (Some name) = refl

over : (r : Reader) (h : Head) (ws : List (List ℕ)) (x : Sense) (n : ℕ) → after_line r h ws x n ([] ∷ []) ≡ after_line r h ws x n []
over r Begin ws x n = begun_over r (only_name ws)
over r _ ws x n = refl

abbrev Ends : ℕ → List ℕ → Type 0
Ends end rest = end ≡ position_or_len (λ c. c == 10) rest

module _ (o : Outline) (text : List ℕ) (r : Reader) (n end : ℕ) (rest : List ℕ) (last : Bool) (h : IsReading o text r n (lines_of rest)) (e : Ends end rest) (le : end ≤ length rest) (same : last ≡ nat_eq end (length rest)) where
  cut : IsReading o text r n (take end rest ∷ lines_behind rest end (nat_lt end (length rest)))
  cut = subst (IsReading o text r n) (lines_cut rest end e le) h

  pub refuses : (cause : Cause) → fault_on o (spot_in o r last) (take end rest) ≡ Some cause → first_fault text ≡ Some (record { line = n; cause = cause })
  refuses cause some = refused_at o text r n (take end rest) (lines_behind rest end (nat_lt end (length rest))) last cause cut (same ∙ last_by rest end (nat_lt end (length rest)) le refl) some

  module _ (s : Reader) (few : n ≤ 16777217) (none : fault_on o (spot_in o r last) (take end rest) ≡ None) (taken : s ≡ line_taken o r n (take end rest) (lines_of (drop (end + 1) rest))) where
    pub goes_on : last ≡ false → IsReading o text s (n + 1) (lines_of (drop (end + 1) rest))
    goes_on f =
        let lt : end < length rest = grind (arith, le, same, f) in
        next_line o text r s n (take end rest) (lines_of (drop (end + 1) rest)) last (subst (IsReading o text r n) (lines_first rest end e lt) h) few (f ∙ sym (some_line (drop (end + 1) rest))) none taken

    at_end : last ≡ true → end ≡ length rest
    at_end t = grind (arith, same, t)

    nothing_below : last ≡ true → s ≡ line_taken o r n (take end rest) []
    nothing_below t = taken ∙ ap (λ b. line_taken o r n (take end rest) (lines_of b)) (drop_all (end + 1) rest (omega (arith, at_end t))) ∙ over r (head_of_line (take end rest)) (operands_of_line (take end rest)) (sense_of o r.labels.entries (head_of_line (take end rest)) (operands_of_line (take end rest))) n

    last_line : last ≡ true → IsReading o text r n (take end rest ∷ [])
    last_line t = subst (IsReading o text r n) (lines_last rest end e (at_end t)) h

    ended : last ≡ true → IsReading o text s (n + 1) []
    ended t = next_line o text r s n (take end rest) [] last (last_line t) few t none (nothing_below t)

    few_above : (t : last ≡ true) → length (last_line t).above < 2 ^ 31
    few_above t = omega (arith, (last_line t).counted, few)

    closed : last ≡ true → s.inside ≡ false
    closed t = ap (λ q. q.inside) (nothing_below t) ∙ at_last o r (last_line t).above (take end rest) [] n last (last_line t).follows (last_line t).sound (few_above t) none t

    main : last ≡ true → is_noted o.functions (codes "main") ≡ true
    main t = has_main o r (last_line t).above (take end rest) [] n last (last_line t).follows (last_line t).sound (few_above t) none t

    -- the functions are those of a program
    pub form : last ≡ true → OutlineIsSmall o → IsProgram (program_in o s.done)
    form t small =
        let a = ended t in
        let names = ap (λ b. cond b (fun_names s.done ++ s.name ∷ []) (fun_names s.done)) (sym (closed t)) ∙ a.sound.names in
        let all = ap (λ p. entry_names p.functions) a.follows.whole in
        is_program o s.done (names ∙ all) a.sound.done (main t) small

    -- and those of the text, which has no fault
    pub done : last ≡ true → s.done ≡ functions_from o 1 (lines_of text)
    done t = functions_done o text s (n + 1) (ended t) (closed t)

    pub faultless : last ≡ true → None ≡ first_fault text
    faultless t = sym (no_fault o text s (n + 1) (ended t))

-- what a text is read as, by its first fault and its functions
pub read_as : (o : Outline) (text : List ℕ) (fault : Option TextFault) (functions : List Fun) → o ≡ outline_of text → fault ≡ first_fault text → IfNone fault (functions ≡ functions_from o 1 (lines_of text))
    → unless_refused fault (program_in o functions) ≡ reading_of text
read_as o text None functions same e h =
    ap (λ fs. unless_refused None (program_in o fs)) h
    ∙ ap (λ q. unless_refused None (program_in q (functions_from q 1 (lines_of text)))) same
    ∙ ap (λ f. unless_refused f (program_of text)) e
read_as o text (Some r) functions same e h = ap (λ f. unless_refused f (program_of text)) e
