-- A text of lines is read again as them.
use Rattle.log_text_laws.proofs.Common.{◌≡◌, ◌<◌, ◌≤◌, ◌*◌, ◌^◌, ◌==◌, ℕ, Bool, true, false, not, List, [], ◌∷◌, ◌++◌, length, arith, refl, ap, sym, ◌∙◌, cond, Option, Some, None, Ok, append-nil, append_assoc, map, ne_eqb, All, AllByRecursion, flat_map, position_or_len, decimal, digit_value, AllDigits, nat_tests, decimal_is_IsNumeral, flat_map-append, take_all, map-append, All-from_recursion, recursion_from_All, mul_comm, le-mul_of_pos_right, slice_split_at, position_or_len_is, ProgramText, Fun, Line, is_last, some_line, AccessKind, Act, LogLine, Reference, LogPlace, line_of, IsLogNumber, IsSite, IsLogPlace, IsAct, IsLine, is_space, words_of, has_word, number_again, left_by, lines_in, text_of, all_but_last, is_zero, line_text, act_text, site_text, spaced_numbers, is_location, place_text, access_letter, written, all_written, accesses_field, name_line, site_line, function_sites, sites_of, IsInsideLine, HasName, AllFunctionsNamed, names_at, names_in, name_lines, IsReadAsLines}
use Rattle.text_lines.specs.Lines.{lines_of}
use Rattle.log_lines.specs.declared.line.AccessKind.TheVariants as kinds
use Rattle.log_lines.specs.declared.line.Act.TheVariants as acts
use Rattle.log_lines.specs.declared.line.LogLine.TheVariants as lines
use Rattle.log_text_laws.proofs.Lines.{number_then, written_again}

-- BYTES OF A LINE

abbrev IsInner : ℕ → Type 0
IsInner c = ((c == 10) ≡ false) × ((c == 0) ≡ false)

abbrev pub AreInner : List ℕ → Type 0
AreInner w = AllByRecursion IsInner w

inner_both : (v w : List ℕ) → AreInner v → AreInner w → AreInner (v ++ w)
inner_both [] w h g = g
inner_both (c ∷ cs) w h g = (h.0, inner_both cs w h.1 g)

inner_digit : (c : ℕ) → digit_value c < 10 → IsInner c
inner_digit c h = (grind (arith, nat_tests, h), grind (arith, nat_tests, h))

inner_digits : (ds : List ℕ) → AllDigits 10 ds → AreInner ds
inner_digits [] h = tt
inner_digits (c ∷ cs) h = (inner_digit c h.0, inner_digits cs h.1)

inner_number : (n : ℕ) → IsLogNumber n → AreInner (decimal n)
inner_number n h = inner_digits (decimal n) (decimal_is_IsNumeral n (omega (arith, h))).0.1

-- FILES

-- each line with its line feed
abbrev fed : List (List ℕ) → List ℕ
fed ws = flat_map (λ w. w ++ 10 ∷ []) ws

abbrev AreLines : List (List ℕ) → Type 0
AreLines ws = AllByRecursion AreInner ws

no_feed : (w : List ℕ) → AreInner w → AllByRecursion (λ c. (c == 10) ≡ false) w
no_feed [] h = tt
no_feed (c ∷ cs) h = (h.0.0, no_feed cs h.1)

fed_first : (w : List ℕ) (ws : List (List ℕ)) → fed (w ∷ ws) ≡ w ++ 10 ∷ fed ws
fed_first w ws = append_assoc w (10 ∷ []) (fed ws)

more_lines : (l : List ℕ) (ls : List (List ℕ)) → is_last ls ≡ false → all_but_last (l ∷ ls) ≡ l ∷ all_but_last ls
more_lines l [] e = absurd cc
more_lines l (k ∷ ls) e = refl

lines_of_fed : (ws : List (List ℕ)) → AreLines ws → lines_in (fed ws) ≡ ws
lines_of_fed [] h = refl
lines_of_fed (w ∷ ws) h =
    ap lines_in (fed_first w ws)
    ∙ (ap all_but_last (slice_split_at (λ c. c == 10) w 10 (fed ws) (All-from_recursion (λ c. (c == 10) ≡ false) w (no_feed w h.0)) refl)
    ∙ (more_lines w (lines_of (fed ws)) (some_line (fed ws)) ∙ ap (λ ls. w ∷ ls) (lines_of_fed ws h.1)))

nonzero : (w : List ℕ) → AreInner w → AllByRecursion (λ c. is_zero c ≡ false) w
nonzero [] h = tt
nonzero (c ∷ cs) h = (h.0.1, nonzero cs h.1)

nonzero_both : (v w : List ℕ) → AllByRecursion (λ c. is_zero c ≡ false) v → AllByRecursion (λ c. is_zero c ≡ false) w → AllByRecursion (λ c. is_zero c ≡ false) (v ++ w)
nonzero_both [] w h g = g
nonzero_both (c ∷ cs) w h g = (h.0, nonzero_both cs w h.1 g)

nonzero_fed : (ws : List (List ℕ)) → AreLines ws → AllByRecursion (λ c. is_zero c ≡ false) (fed ws)
nonzero_fed [] h = tt
nonzero_fed (w ∷ ws) h = nonzero_both (w ++ 10 ∷ []) (fed ws) (nonzero_both w (10 ∷ []) (nonzero w h.0) (refl, tt)) (nonzero_fed ws h.1)

whole_text : (t : List ℕ) → AllByRecursion (λ c. is_zero c ≡ false) t → text_of t ≡ t
whole_text t h =
    let all = All-from_recursion (λ c. is_zero c ≡ false) t h in
    let n : position_or_len is_zero t ≡ length t = position_or_len_is is_zero t (length t) 1 (omega arith) (λ k lt. all k 1 lt) (λ lt. absurd (omega (arith, lt))) in
    rw n (take_all (length t) t (omega arith))

file_lines : (ws : List (List ℕ)) → AreLines ws → lines_in (text_of (fed ws)) ≡ ws
file_lines ws h = ap lines_in (whole_text (fed ws) (nonzero_fed ws h)) ∙ lines_of_fed ws h

-- LINES HAVE NO OTHER BYTES

inner_numbers : (ns : List ℕ) → AllByRecursion IsLogNumber ns → AreInner (spaced_numbers ns)
inner_numbers [] h = tt
inner_numbers (n ∷ ns) h = inner_both (32 ∷ decimal n) (spaced_numbers ns) ((refl, refl), inner_number n h.0) (inner_numbers ns h.1)

inner_site : (site : Option ℕ) → IsSite site → AreInner (site_text site)
inner_site None h = tt
inner_site (Some n) h = ((refl, refl), ((refl, refl), inner_number n h))

short : (m n : ℕ) → 1 ≤ n → m * n ≤ 2 ^ 28 → IsLogNumber m
short m n h few = let a : m ≤ m * n = le-mul_of_pos_right m h in omega (arith, a, few)

inner_place : (p : LogPlace) (b : Bool) → IsLogPlace p → AreInner (cond b (spaced_numbers (p.block ∷ p.offset ∷ [])) (spaced_numbers (p.block ∷ p.offset ∷ p.length ∷ p.runs ∷ p.apart ∷ [])))
inner_place p true h = inner_numbers (p.block ∷ p.offset ∷ []) (h.block, (h.offset, tt))
inner_place p false h =
    let few = h.few in
    inner_numbers (p.block ∷ p.offset ∷ p.length ∷ p.runs ∷ p.apart ∷ [])
    (h.block, (h.offset, (short p.length p.runs h.runs few, (short p.runs p.length h.length (let e = mul_comm p.length p.runs in omega (arith, few, e)), (h.apart, tt)))))

inner_letter : (kind : AccessKind) → IsInner (access_letter kind)
inner_letter kinds.Read = (refl, refl)
inner_letter kinds.Write = (refl, refl)
inner_letter kinds.AtomicRead = (refl, refl)
inner_letter kinds.AtomicWrite = (refl, refl)

inner_reference : (r : Reference) → IsLogNumber r.block → IsLogNumber r.offset → IsLogNumber r.target → IsSite r.site → AreInner (spaced_numbers (r.block ∷ r.offset ∷ r.target ∷ []) ++ site_text r.site)
inner_reference r b o t s = inner_both (spaced_numbers (r.block ∷ r.offset ∷ r.target ∷ [])) (site_text r.site) (inner_numbers (r.block ∷ r.offset ∷ r.target ∷ []) (b, (o, (t, tt)))) (inner_site r.site s)

inner_act : (a : Act) → IsAct a → AreInner (act_text a)
inner_act (acts.Access a) h = (inner_letter a.kind, inner_both (place_text a.place) (site_text a.site) (inner_place a.place (is_location a.place) h.place) (inner_site a.site h.site))
inner_act (acts.Yield r) h = ((refl, refl), inner_reference r h.block h.offset h.target h.site)
inner_act (acts.Store r) h = ((refl, refl), inner_reference r h.block h.offset h.target h.site)
inner_act (acts.Birth b l) h = ((refl, refl), inner_numbers (b ∷ l ∷ []) (h.0, (h.1, tt)))
inner_act (acts.Release b) h = ((refl, refl), inner_numbers (b ∷ []) (h, tt))
inner_act (acts.Work n) h = ((refl, refl), inner_numbers (n ∷ []) (h, tt))
inner_act (acts.Spawn t) h = ((refl, refl), inner_numbers (t ∷ []) (omega (arith, h), tt))
inner_act (acts.Join t) h = ((refl, refl), inner_numbers (t ∷ []) (omega (arith, h), tt))
inner_act acts.Finish h = ((refl, refl), tt)

inner_line : (l : LogLine) → IsLine l → AreInner (line_text l)
inner_line lines.Version h = ((refl, refl), ((refl, refl), ((refl, refl), ((refl, refl), ((refl, refl), ((refl, refl), ((refl, refl), tt)))))))
inner_line (lines.Strand t s) h = let a = h.0 in let b = h.1 in ((refl, refl), inner_numbers (t ∷ s ∷ []) (omega (arith, a), (omega (arith, b), tt)))
inner_line (lines.Act a) h = inner_act a h
inner_line (lines.Name site) h = ((refl, refl), inner_both (spaced_numbers (site ∷ [])) (32 ∷ []) (inner_numbers (site ∷ []) (h, tt)) ((refl, refl), tt))
inner_line lines.Comment h = ((refl, refl), tt)
inner_line lines.End h = ((refl, refl), ((refl, refl), ((refl, refl), tt)))

abbrev pub AreWithin : List LogLine → Type 0
AreWithin ls = AllByRecursion IsLine ls

inner_lines : (ls : List LogLine) → AreWithin ls → AreLines (map line_text ls)
inner_lines [] h = tt
inner_lines (l ∷ ls) h = (inner_line l h.0, inner_lines ls h.1)

said_lines : (ls : List LogLine) → AreWithin ls → map line_of (map line_text ls) ≡ map Ok ls
said_lines [] h = refl
said_lines (l ∷ ls) h = λ i. written_again l h.0 i ∷ said_lines ls h.1 i

fed_lines : (ls : List LogLine) → all_written ls ≡ fed (map line_text ls)
fed_lines [] = refl
fed_lines (l ∷ ls) = ap (λ t. written l ++ t) (fed_lines ls)

-- NAMES

abbrev name_text : List ℕ → ℕ → List ℕ
name_text function number = 64 ∷ 32 ∷ (decimal number ++ 32 ∷ (function ++ 58 ∷ decimal number))

name_fed : (function : List ℕ) (number : ℕ) → name_line function number ≡ name_text function number ++ 10 ∷ []
name_fed function number = simp append_assoc refl

some_length : (cs : List ℕ) → not (length (32 ∷ cs) == 0) ≡ true
some_length cs = let e : (length (32 ∷ cs) == 0) ≡ false = grind arith in rw e refl

name_by : (text : List ℕ) (number : ℕ) (name : List ℕ) → IsLogNumber number → words_of (64 ∷ text) ≡ (64 ∷ []) ∷ decimal number ∷ words_of name → line_of (64 ∷ text) ≡ Ok (lines.Name number)
name_by text number name h e =
    let left : has_word (words_of name) ≡ true = sym (left_by (32 ∷ name)) ∙ some_length name in
    rw (e, number_again number h, left) refl

name_said : (function : List ℕ) (number : ℕ) → IsLogNumber number → line_of (name_text function number) ≡ Ok (lines.Name number)
name_said function number h =
    name_by (32 ∷ (decimal number ++ 32 ∷ (function ++ 58 ∷ decimal number))) number (function ++ 58 ∷ decimal number) h
    (slice_split_at is_space (64 ∷ []) 32 (decimal number ++ 32 ∷ (function ++ 58 ∷ decimal number)) (All-from_recursion (λ c. is_space c ≡ false) (64 ∷ []) (refl, tt)) refl
    ∙ ap (λ ws. (64 ∷ []) ∷ ws) (number_then number (function ++ 58 ∷ decimal number) h))

inner_name : (w : List ℕ) → All IsInsideLine w → AreInner w
inner_name w h = along w (recursion_from_All IsInsideLine w h)
  where
    along : (v : List ℕ) → AllByRecursion IsInsideLine v → AreInner v
    along [] g = tt
    along (c ∷ cs) g = ((ne_eqb c 10 g.0.0, ne_eqb c 0 g.0.1), along cs g.1)

inner_name_text : (function : List ℕ) (number : ℕ) → AreInner function → IsLogNumber number → AreInner (name_text function number)
inner_name_text function number f h = (
  (refl, refl),
  (
    (refl, refl),
    inner_both (decimal number) (32 ∷ (function ++ 58 ∷ decimal number)) (inner_number number h)
        ((refl, refl), inner_both function (58 ∷ decimal number) f ((refl, refl), inner_number number h)),
  ),
)

-- of one line of a program, of a function, and of a program
abbrev texts_at : List ℕ → Line → List (List ℕ)
texts_at function l = cond (accesses_field l.instr) (name_text function l.number ∷ []) []

abbrev texts_in : Fun → List (List ℕ)
texts_in f = flat_map (texts_at f.name) f.code

abbrev texts_of : List Fun → List (List ℕ)
texts_of fs = flat_map texts_in fs

-- the texts are lines, are written so, and say these lines
record Say (text : List ℕ) (ws : List (List ℕ)) (ls : List LogLine) : Type 0 where
  inner : AreLines ws
  written : text ≡ fed ws
  said : map line_of ws ≡ map Ok ls

lines_both : (vs ws : List (List ℕ)) → AreLines vs → AreLines ws → AreLines (vs ++ ws)
lines_both [] ws h g = g
lines_both (v ∷ vs) ws h g = (h.0, lines_both vs ws h.1 g)

say_both : (t u : List ℕ) (vs ws : List (List ℕ)) (ks ls : List LogLine) → Say t vs ks → Say u ws ls → Say (t ++ u) (vs ++ ws) (ks ++ ls)
say_both t u vs ws ks ls h g = record {
  inner = lines_both vs ws h.inner g.inner;
  written = (λ i. h.written i ++ g.written i) ∙ sym (flat_map-append (λ w. w ++ 10 ∷ []) vs ws);
  said = map-append line_of vs ws ∙ ((λ i. h.said i ++ g.said i) ∙ sym (map-append Ok ks ls));
}

say_none : Say [] [] []
say_none = record { inner = tt; written = refl; said = refl }

say_site_by : (function : List ℕ) (l : Line) (b : Bool) → AreInner function → IsLogNumber l.number
    → Say (cond b (name_line function l.number) []) (cond b (name_text function l.number ∷ []) []) (cond b (lines.Name l.number ∷ []) [])
say_site_by function l true f h = record {
  inner = (inner_name_text function l.number f h, tt);
  written = name_fed function l.number ∙ sym (append-nil (name_text function l.number ++ 10 ∷ []));
  said = ap (λ x. x ∷ []) (name_said function l.number h);
}
say_site_by function l false f h = say_none

say_code : (function : List ℕ) (ls : List Line) → AreInner function → AllByRecursion (λ (l : Line). IsLogNumber l.number) ls → Say (flat_map (site_line function) ls) (flat_map (texts_at function) ls) (flat_map names_at ls)
say_code function [] f h = say_none
say_code function (l ∷ ls) f h =
    say_both (site_line function l) (flat_map (site_line function) ls) (texts_at function l) (flat_map (texts_at function) ls) (names_at l) (flat_map names_at ls)
    (say_site_by function l (accesses_field l.instr) f h.0) (say_code function ls f h.1)

say_functions : (fs : List Fun) → AllByRecursion HasName fs → Say (flat_map function_sites fs) (texts_of fs) (flat_map names_in fs)
say_functions [] h = say_none
say_functions (f ∷ fs) h =
    say_both (function_sites f) (flat_map function_sites fs) (texts_in f) (texts_of fs) (names_in f) (flat_map names_in fs)
    (say_code f.name f.code (inner_name f.name h.0.bytes) (recursion_from_All (λ (l : Line). IsLogNumber l.number) f.code h.0.numbers))
    (say_functions fs h.1)

say_lines : (ls : List LogLine) → AreWithin ls → Say (all_written ls) (map line_text ls) ls
say_lines ls h = record { inner = inner_lines ls h; written = fed_lines ls; said = said_lines ls h }

-- THE WHOLE LOG

say_log : (p : ProgramText) (ls es : List LogLine) → AllFunctionsNamed p → AreWithin ls → AreWithin es
    → Say (written lines.Version ++ sites_of p ++ all_written ls ++ all_written es) ((line_text lines.Version ∷ []) ++ texts_of p.functions ++ map line_text ls ++ map line_text es) ((lines.Version ∷ []) ++ name_lines p ++ ls ++ es)
say_log p ls es n h g =
    say_both (written lines.Version ++ sites_of p ++ all_written ls) (all_written es) ((line_text lines.Version ∷ []) ++ texts_of p.functions ++ map line_text ls) (map line_text es) ((lines.Version ∷ []) ++ name_lines p ++ ls) es
    (say_both (written lines.Version ++ sites_of p) (all_written ls) ((line_text lines.Version ∷ []) ++ texts_of p.functions) (map line_text ls) ((lines.Version ∷ []) ++ name_lines p) ls
    (say_both (written lines.Version) (sites_of p) (line_text lines.Version ∷ []) (texts_of p.functions) (lines.Version ∷ []) (name_lines p)
    (say_lines (lines.Version ∷ []) (tt, tt))
    (say_functions p.functions (recursion_from_All HasName p.functions n)))
    (say_lines ls h))
    (say_lines es g)

read_as : (text : List ℕ) (ws : List (List ℕ)) (ls : List LogLine) → Say text ws ls → IsReadAsLines text ls
read_as text ws ls h = ap (λ t. map line_of (lines_in (text_of t))) h.written ∙ (ap (map line_of) (file_lines ws h.inner) ∙ h.said)

pub log_again : (p : ProgramText) (ls es : List LogLine) → AllFunctionsNamed p → AreWithin ls → AreWithin es
    → IsReadAsLines (written lines.Version ++ sites_of p ++ all_written ls ++ all_written es) ((lines.Version ∷ []) ++ name_lines p ++ ls ++ es)
log_again p ls es n h g = read_as _ _ _ (say_log p ls es n h g)
