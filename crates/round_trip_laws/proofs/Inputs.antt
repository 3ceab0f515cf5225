-- A program's text followed by a trace is read as these.
use Rattle.round_trip_laws.proofs.Common.{◌≡◌, ◌∙◌, ◌≤◌, ◌+◌, ◌++◌, ℕ, Bool, cond, true, false, List, [], ◌∷◌, length, refl, ap, sym, subst, append_assoc, length-append, Option, Some, None, Result, Ok, Err, codes, bytes_eq, is_utf8, le-leb, ProgramText, lines_of, most_bytes, words_of, TextFault, first_fault, program_of, unless_refused, Version, Trace, AreTraceLines, fault_in, trace_text, version_by, version_of, version_of_words, texts_are_read_again, Source, TraceInput, begins_trace, bytes_above, is_trace_line, lines_above, program_part, trace_lines, trace_number, with_feeds, IsInput, as_bad_line, bad_line, first_input_fault as fault_of_parts, input_fault, is_too_old, parts_fault, too_long, TraceFollows, InputsAreRead, IsReadAsTrace, RecordedInputsAreRead}
use Rattle.round_trip_laws.proofs.Lines.{fed_lines, lines_behind}
use Rattle.round_trip_laws.proofs.Above.{AreAbove, above_both, clean_above, cut_above, cut_behind}

-- THE TRACE LINE

no_version : (v : Version) → None ≡ Some v → ⊥
no_version v e = cc

by_word : (b : Bool) (o : Option Version) (v : Version) → cond b o None ≡ Some v → b ≡ true
by_word true o v e = refl
by_word false o v e = absurd (no_version v e)

trace_words : (ws : List (List ℕ)) (v : Version) → version_of_words ws ≡ Some v → begins_trace ws ≡ true
trace_words [] v e = absurd (no_version v e)
trace_words (w ∷ []) v e = absurd (no_version v e)
trace_words (w ∷ x ∷ []) v e = by_word (bytes_eq w (codes "trace")) (version_by x) v e
trace_words (w ∷ x ∷ y ∷ ws) v e = absurd (no_version v e)

by_utf8 : (b : Bool) (o : Option Version) (v : Version) → cond b o None ≡ Some v → o ≡ Some v
by_utf8 true o v e = e
by_utf8 false o v e = absurd (no_version v e)

version_is_traced : (l : List ℕ) (v : Version) → version_of l ≡ Some v → is_trace_line l ≡ true
version_is_traced l v e = trace_words (words_of l) v (by_utf8 (is_utf8 l) (version_of_words (words_of l)) v e)

-- ONE TRACE

some_same : (v w : Version) → Some v ≡ Some w → v ≡ w
some_same v w e = cc

both_same : (t u : Trace) → u.version ≡ t.version → u.entries ≡ t.entries → u ≡ t
both_same t u e f = rw (sym e, sym f) refl

same_trace : (ls : List (List ℕ)) (t u : Trace) → AreTraceLines ls t → AreTraceLines ls u → u ≡ t
same_trace [] t u a b = absurd a
same_trace (l ∷ ls) t u a b = both_same t u (some_same u.version t.version (sym b.0 ∙ a.0)) (b.1 ∙ sym a.1)

-- INPUTS

refused_is : (r : TextFault) (p : ProgramText) → Err r ≡ Ok p → ⊥
refused_is r p e = cc

read_is : (p q : ProgramText) → ◌≡◌ {A = Result ProgramText TextFault} (Ok p) (Ok q) → p ≡ q
read_is p q e = cc

read_parts : (o : Option TextFault) (p q : ProgramText) → unless_refused o p ≡ Ok q → (o ≡ None) × (p ≡ q)
read_parts None p q e = (refl, read_is p q e)
read_parts (Some r) p q e = absurd (refused_is r q e)

read_same : (r : TraceInput) (p : ProgramText) (t : Trace) → r.program ≡ p → r.trace ≡ t → r ≡ record { program = p; trace = t }
read_same r p t e f = rw (sym e, sym f) refl

-- lines that begin with a trace line
module _ (input text : List ℕ) (above : List (List ℕ)) (l : List ℕ) (ls : List (List ℕ)) (v : Version) (p : ProgramText) where
  module _ (lines : lines_of input ≡ above ++ l ∷ ls) (clean : AreAbove above) (named : version_of l ≡ Some v) (fed : with_feeds above ≡ text) where
    traced : trace_lines (lines_of input) ≡ l ∷ ls
    traced = ap trace_lines lines ∙ cut_behind above l ls clean (version_is_traced l v named)

    cut : lines_above (lines_of input) ≡ above
    cut = ap lines_above lines ∙ cut_above above l ls clean (version_is_traced l v named)

    numbered : trace_number input ≡ length above + 1
    numbered = ap (λ xs. length xs + 1) cut

    part : program_part input ≡ text
    part =
        ap (bytes_above input) traced
        ∙ ap with_feeds cut
        ∙ fed

    module _ (fault : first_fault text ≡ None) (program : program_of text ≡ p) (new : is_too_old (Some v) p ≡ false) (sound : fault_in (length above + 1) (l ∷ ls) ≡ None) where
      good : (last : ℕ) → bad_line last (length above + 1) p (l ∷ ls) ≡ None
      good last =
          let a : is_too_old (version_of l) p ≡ false = ap (λ o. is_too_old o p) named ∙ new in
          ap (λ b. cond b (Some (length above + 1)) (fault_in (length above + 1) (l ∷ ls))) a ∙ sound

      no_parts : parts_fault input ≡ None
      no_parts =
          ap (λ o. fault_of_parts o (bad_line (length (lines_of input)) (trace_number input) (program_of (program_part input)) (trace_lines (lines_of input)))) (ap first_fault part ∙ fault)
          ∙ ap (λ q. as_bad_line (bad_line (length (lines_of input)) (trace_number input) q (trace_lines (lines_of input)))) (ap program_of part ∙ program)
          ∙ ap (λ xs. as_bad_line (bad_line (length (lines_of input)) (trace_number input) p xs)) traced
          ∙ ap (λ n. as_bad_line (bad_line (length (lines_of input)) n p (l ∷ ls))) numbered
          ∙ ap as_bad_line (good (length (lines_of input)))

      no_fault : length input ≤ most_bytes → input_fault input ≡ None
      no_fault le = ap (λ b. cond b (parts_fault input) (Some (Source too_long))) (le-leb (length input) most_bytes le) ∙ no_parts

      read_as : (t : Trace) → v ≡ t.version → AreTraceLines (l ∷ ls) t → length input ≤ most_bytes → IsReadAsTrace input p t
      read_as t e says le = λ read. (
        λ is. read_same read p t (is.program ∙ ap program_of part ∙ program) (same_trace (l ∷ ls) t read.trace says (subst (λ xs. AreTraceLines xs read.trace) traced is.trace)),
        λ is. subst (IsInput input) (sym is) (record {
          no_fault = no_fault le;
          program = sym (ap program_of part ∙ program);
          trace = subst (λ xs. AreTraceLines xs t) (sym traced) says;
        }),
      )

-- the lines of both
whole_lines : (text behind front : List ℕ) → text ≡ front ++ 10 ∷ [] → lines_of (text ++ behind) ≡ lines_of front ++ lines_of behind
whole_lines text behind front e = ap (λ xs. lines_of (xs ++ behind)) e ∙ ap lines_of (append_assoc front (10 ∷ []) behind) ∙ lines_behind front behind

clean_front : (text front : List ℕ) → text ≡ front ++ 10 ∷ [] → first_fault text ≡ None → AreAbove (lines_of front)
clean_front text front e none =
    above_both (lines_of front) (lines_of []) (subst AreAbove (ap lines_of e ∙ lines_behind front []) (clean_above text [] (lines_of text) none))

module _ (text behind : List ℕ) (p : ProgramText) (t : Trace) (can : TraceFollows text behind p t) where
  last_line : length (lines_of text) ≡ length (lines_of can.feed.0) + 1
  last_line = ap length (ap lines_of can.feed.1 ∙ lines_behind can.feed.0 []) ∙ length-append (lines_of can.feed.0) ([] ∷ [])

  by_lines : (ls : List (List ℕ)) → lines_of behind ≡ ls → fault_in (length (lines_of text)) ls ≡ None → AreTraceLines ls t → IsReadAsTrace (text ++ behind) p t
  by_lines [] e none says = absurd says
  by_lines (l ∷ ls) e none says =
      let front = can.feed.0 in
      let parts = read_parts (first_fault text) (program_of text) p can.program in
      read_as (text ++ behind) text (lines_of front) l ls t.version p
      (whole_lines text behind front can.feed.1 ∙ ap (λ xs. lines_of front ++ xs) e)
      (clean_front text front can.feed.1 parts.0)
      says.0
      (fed_lines front ∙ sym can.feed.1)
      parts.0 parts.1 can.new (ap (λ n. fault_in n (l ∷ ls)) (sym last_line) ∙ none)
      t refl says can.within

pub inputs_are_read : InputsAreRead
inputs_are_read text behind p t is can = by_lines text behind p t can (lines_of behind) refl is.no_fault is.says

pub recorded_inputs_are_read : RecordedInputsAreRead
recorded_inputs_are_read text p v journal all can =
    inputs_are_read text (trace_text v journal) p (record { version = v; entries = journal }) (texts_are_read_again (length (lines_of text)) v journal all).0 can
