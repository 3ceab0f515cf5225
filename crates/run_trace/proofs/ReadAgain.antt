-- A trace text, read again, gives the journal for which it was written.
use Rattle.run_trace.proofs.Common.{◌≡◌, ◌<◌, ◌^◌, ◌+◌, ℕ, List, [], ◌∷◌, arith, refl, ap, sym, subst, ◌∙◌, Some, None, codes, All, flat_map, decimal, decimal_digit, is_utf8-from_IsUtf8, IsUtf8-nil, All-head, All-tail, lines_of, Version, One, Two, Nothing, Trace, EntryValue, IsEntry, version_number, trace_line, spaced, entry_line, version_of, version_of_words, first_bad, entries_in, fault_in, trace_fault, AreTraceLines, IsTraceText, trace_text, TextsAreReadAgain}
use Rattle.run_trace.proofs.Words.{AreProper, words_spaced, line_first, decimal_is_proper}
use Rattle.run_trace.proofs.TraceLine.{entry_words, entry_is_proper, entry_again, spaced_utf8}

-- ENTRIES

-- the lines of a journal's entries, and the empty one after the last line feed
abbrev lines_for : List EntryValue → List (List ℕ)
lines_for [] = [] ∷ []
lines_for (e ∷ es) = spaced (entry_words e) ∷ lines_for es

lines_are : (es : List EntryValue) → All IsEntry es → lines_of (flat_map entry_line es) ≡ lines_for es
lines_are [] h = refl
lines_are (e ∷ es) h =
    line_first (entry_words e) (flat_map entry_line es) (entry_is_proper e (All-head IsEntry e es h))
    ∙ ap (λ ls. spaced (entry_words e) ∷ ls) (lines_are es (All-tail IsEntry e es h))

-- an empty line has no entry
empty_says : trace_line [] ≡ Nothing
empty_says = rw (is_utf8-from_IsUtf8 [] IsUtf8-nil) refl

no_bad : (n : ℕ) (es : List EntryValue) → All IsEntry es → first_bad n (lines_for es) ≡ None
no_bad n [] h = rw empty_says refl
no_bad n (e ∷ es) h = rw (entry_again e (All-head IsEntry e es h)) (no_bad (n + 1) es (All-tail IsEntry e es h))

same_entries : (es : List EntryValue) → All IsEntry es → entries_in (lines_for es) ≡ es
same_entries [] h = rw empty_says refl
same_entries (e ∷ es) h = rw (entry_again e (All-head IsEntry e es h)) (ap (λ fs. e ∷ fs) (same_entries es (All-tail IsEntry e es h)))

-- THE VERSION

abbrev version_words : Version → List (List ℕ)
version_words v = codes "trace" ∷ decimal (version_number v) ∷ []

version_below : (v : Version) → version_number v < 2 ^ 32
version_below One = omega arith
version_below Two = omega arith

version_is_proper : (v : Version) → AreProper (version_words v)
version_is_proper v = (grind arith, (decimal_is_proper (version_number v) (version_below v), tt))

words_again : (v : Version) → version_of_words (version_words v) ≡ Some v
words_again One = rw (decimal_digit 1 (omega arith)) refl
words_again Two = rw (decimal_digit 2 (omega arith)) refl

version_again : (v : Version) → version_of (spaced (version_words v)) ≡ Some v
version_again v =
    rw (spaced_utf8 (version_words v) (version_is_proper v))
    (ap version_of_words (words_spaced (version_words v) (version_is_proper v)) ∙ words_again v)

-- THE TEXT

text_lines : (v : Version) (es : List EntryValue) → All IsEntry es → lines_of (trace_text v es) ≡ spaced (version_words v) ∷ lines_for es
text_lines v es h =
    line_first (version_words v) (flat_map entry_line es) (version_is_proper v)
    ∙ ap (λ ls. spaced (version_words v) ∷ ls) (lines_are es h)

no_fault : (n : ℕ) (v : Version) (es : List EntryValue) → All IsEntry es → trace_fault n (trace_text v es) ≡ None
no_fault n v es h = ap (fault_in n) (text_lines v es h) ∙ rw (version_again v) (no_bad (n + 1) es h)

said : (v : Version) (es : List EntryValue) → All IsEntry es → AreTraceLines (lines_of (trace_text v es)) (record { version = v; entries = es })
said v es h = rw (text_lines v es h) (version_again v, sym (same_entries es h))

some_same : (v w : Version) → Some v ≡ Some w → v ≡ w
some_same v w e = cc

both_same : (t : Trace) (v : Version) (es : List EntryValue) → v ≡ t.version → t.entries ≡ es → t ≡ record { version = v; entries = es }
both_same t v es e f = rw (e, sym f) refl

unique : (n : ℕ) (v : Version) (es : List EntryValue) → All IsEntry es → (t : Trace) → IsTraceText n (trace_text v es) t → t ≡ record { version = v; entries = es }
unique n v es h t is =
    let lines : AreTraceLines (spaced (version_words v) ∷ lines_for es) t = subst (λ ls. AreTraceLines ls t) (text_lines v es h) is.says in
    both_same t v es (some_same v t.version (sym (version_again v) ∙ lines.0)) (lines.1 ∙ same_entries es h)

pub texts_are_read_again : TextsAreReadAgain
texts_are_read_again n v es h = (record { no_fault = no_fault n v es h; says = said v es h }, unique n v es h)
