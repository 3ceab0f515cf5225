-- A line that is written is read again.
use Rattle.log_lines.proofs.Common.{◌≡◌, ◌<◌, ◌≤◌, ◌*◌, ◌^◌, ◌==◌, ℕ, true, false, List, [], ◌∷◌, length, get_or, arith, refl, ap, ◌∙◌, Option, Some, None, Ok, nat_lt, nat_le, inl, inr, codes, digit_value, is_ascii_digit, decimal, All, AllByRecursion, all_ascii_digits, AllDigits, cases_lt, nat_tests, decimal_is_IsNumeral, decimal_digit, decimal_nonempty, length-decimal-le, first_decimal, mul_comm, le-mul_of_pos_right, All-from_recursion, slice_split_at, slice_split_none, join_with_byte, LogPlace, AccessKind, Access, Reference, Act, LogLine, is_space, words_of, has_length, has_leading_zero, digits_number, numeral_value, is_site, site_at, IsLogNumber, IsLogPlace, IsSite, IsAccess, IsLogReference, IsAct, IsLine, access_limit, location_limit, place_end, is_small, place_at, act_of_access, reference_of, line_of_words, line_of, site_words, place_words, reference_words, access_word, act_words, line_bytes}
use Rattle.log_lines.proofs.Within.{one_below}
use Rattle.log_lines.specs.declared.line.AccessKind.TheVariants as kinds
use Rattle.log_lines.specs.declared.line.Act.TheVariants as acts
use Rattle.log_lines.specs.declared.line.LogLine.TheVariants as lines

-- NUMBERS

wide : (n : ℕ) → IsLogNumber n → n < 2 ^ 64
wide n h = omega (arith, h)

is_digit : (c : ℕ) → digit_value c < 10 → is_ascii_digit c ≡ true
is_digit c h = grind (arith, nat_tests, h)

pass_digits : (ds : List ℕ) → AllDigits 10 ds → all_ascii_digits ds ≡ true
pass_digits [] h = refl
pass_digits (c ∷ cs) h = rw (is_digit c h.0) (pass_digits cs h.1)

digits_again : (n : ℕ) → IsLogNumber n → digits_number (decimal n) ≡ Some n
digits_again n h = let d = decimal_is_IsNumeral n (wide n h) in rw (pass_digits (decimal n) d.0.1) (ap Some d.1)

long_enough : (w : List ℕ) → 0 < length w → length w ≤ 18 → has_length w ≡ true
long_enough [] h g = absurd (omega (arith, h))
long_enough (c ∷ cs) h g = grind (arith, nat_tests, g)

no_zero : (w : List ℕ) → 48 < get_or w 0 0 → has_leading_zero w ≡ false
no_zero [] h = refl
no_zero (c ∷ []) h = refl
no_zero (c ∷ d ∷ ds) h = let above : 48 < c = h in grind (arith, nat_tests, above)

zero_alone : (n : ℕ) → n < 1 → has_leading_zero (decimal n) ≡ false
zero_alone n h = rw (decimal_digit n (omega (arith, h))) refl

no_leading : (n : ℕ) → IsLogNumber n → has_leading_zero (decimal n) ≡ false
no_leading n h = elim (cases_lt n 1) [ inl lt ↦ zero_alone n lt | inr ge ↦ no_zero (decimal n) (first_decimal n (omega (arith, ge)) (wide n h)) ]

pub number_again : (n : ℕ) → IsLogNumber n → numeral_value (decimal n) ≡ Some n
number_again n h =
    let few = length-decimal-le 18 n (omega arith) h (wide n h) in
    rw (long_enough (decimal n) (decimal_nonempty n (wide n h)) few, no_leading n h) (digits_again n h)

-- a number is no site
no_site_by : (w : List ℕ) → AllDigits 10 w → is_site w ≡ false
no_site_by [] h = refl
no_site_by (c ∷ cs) h = let d = h.0 in grind (arith, nat_tests, d)

no_site : (n : ℕ) → IsLogNumber n → is_site (decimal n) ≡ false
no_site n h = no_site_by (decimal n) (decimal_is_IsNumeral n (wide n h)).0.1

-- WORDS

-- without a space
abbrev IsClear : List ℕ → Type 0
IsClear [] = Unit {0}
IsClear (c ∷ cs) = (is_space c ≡ false) × IsClear cs

abbrev AreClear : List (List ℕ) → Type 0
AreClear [] = Unit {0}
AreClear (w ∷ ws) = IsClear w × AreClear ws

clear_all : (w : List ℕ) → IsClear w → All (λ c. is_space c ≡ false) w
clear_all w h = All-from_recursion (λ c. is_space c ≡ false) w (along w h)
  where
    along : (v : List ℕ) → IsClear v → AllByRecursion (λ c. is_space c ≡ false) v
    along [] g = tt
    along (c ∷ cs) g = (g.0, along cs g.1)

words_spaced : (w : List ℕ) (ws : List (List ℕ)) → IsClear w → AreClear ws → words_of (join_with_byte 32 (w ∷ ws)) ≡ w ∷ ws
words_spaced w [] h g = slice_split_none is_space w (clear_all w h)
words_spaced w (v ∷ ws) h g = slice_split_at is_space w 32 (join_with_byte 32 (v ∷ ws)) (clear_all w h) refl ∙ ap (λ rs. w ∷ rs) (words_spaced v ws g.0 g.1)

clear_digit : (c : ℕ) → digit_value c < 10 → is_space c ≡ false
clear_digit c h = grind (arith, nat_tests, h)

clear_digits : (ds : List ℕ) → AllDigits 10 ds → IsClear ds
clear_digits [] h = tt
clear_digits (c ∷ cs) h = (clear_digit c h.0, clear_digits cs h.1)

clear : (n : ℕ) → IsLogNumber n → IsClear (decimal n)
clear n h = clear_digits (decimal n) (decimal_is_IsNumeral n (wide n h)).0.1

-- a line whose first word begins with no number sign says what its words say
as_words : (c : ℕ) (cs : List ℕ) (ws : List (List ℕ)) → (c == 35) ≡ false → IsClear (c ∷ cs) → AreClear ws → line_of (join_with_byte 32 ((c ∷ cs) ∷ ws)) ≡ line_of_words ((c ∷ cs) ∷ ws)
as_words c cs [] e h g = rw e (ap line_of_words (words_spaced (c ∷ cs) [] h g))
as_words c cs (v ∷ ws) e h g = rw e (ap line_of_words (words_spaced (c ∷ cs) (v ∷ ws) h g))

-- PLACES AND SITES

short : (m n : ℕ) → 1 ≤ n → m * n ≤ access_limit → IsLogNumber m
short m n h few = let a : m ≤ m * n = le-mul_of_pos_right m h in omega (arith, a, few)

short_too : (m n : ℕ) → 1 ≤ m → m * n ≤ access_limit → IsLogNumber n
short_too m n h few = let a : n ≤ n * m = le-mul_of_pos_right n h in let e = mul_comm m n in omega (arith, a, e, few)

small_again : (p : LogPlace) → IsLogPlace p → is_small p ≡ true
small_again p h =
    let l = h.length in let r = h.runs in let f = h.few in let w = h.within in
    let a : nat_le 1 p.length ≡ true = grind (arith, nat_tests, l) in
    let b : nat_le 1 p.runs ≡ true = grind (arith, nat_tests, r) in
    let c : nat_le (p.length * p.runs) access_limit ≡ true = grind (arith, nat_tests, f) in
    let d : nat_le (place_end p) location_limit ≡ true = grind (arith, nat_tests, w) in
    rw (a, b, c, d) refl

apart_again : (p : LogPlace) → IsLogPlace p → nat_le p.length p.apart ≡ true
apart_again p h = let d = h.distinct in grind (arith, nat_tests, d)

place_again : (p : LogPlace) (ws : List (List ℕ)) → IsLogPlace p → place_at (place_words p ws) ≡ Ok (p, ws)
place_again p ws h =
    let l : IsLogNumber p.length = short p.length p.runs h.runs h.few in
    let r : IsLogNumber p.runs = short_too p.length p.runs h.length h.few in
    rw (number_again p.block h.block, number_again p.offset h.offset, no_site p.length l, number_again p.length l, no_site p.runs r, number_again p.runs r, number_again p.apart h.apart, small_again p h, apart_again p h) refl

site_again : (site : Option ℕ) → IsSite site → site_at (site_words site) ≡ Ok site
site_again None h = refl
site_again (Some n) h = rw (number_again n h) refl

clear_site : (site : Option ℕ) → IsSite site → AreClear (site_words site)
clear_site None h = tt
clear_site (Some n) h = ((refl, clear n h), tt)

clear_place : (p : LogPlace) (ws : List (List ℕ)) → IsLogPlace p → AreClear ws → AreClear (place_words p ws)
clear_place p ws h g =
    (clear p.block h.block, (clear p.offset h.offset, (clear p.length (short p.length p.runs h.runs h.few), (clear p.runs (short_too p.length p.runs h.length h.few), (clear p.apart h.apart, g)))))

-- ACTS

access_operands : (a : Access) → IsAccess a → act_of_access a.kind (place_words a.place (site_words a.site)) ≡ Ok (acts.Access a)
access_operands a h = rw (place_again a.place (site_words a.site) h.place, site_again a.site h.site) refl

access_by : (kind : AccessKind) (ws : List (List ℕ)) → AreClear ws → line_of (join_with_byte 32 (access_word kind ∷ ws)) ≡ line_of_words (access_word kind ∷ ws)
access_by kinds.Read ws g = as_words 114 [] ws refl (refl, tt) g
access_by kinds.Write ws g = as_words 119 [] ws refl (refl, tt) g
access_by kinds.AtomicRead ws g = as_words 82 [] ws refl (refl, tt) g
access_by kinds.AtomicWrite ws g = as_words 87 [] ws refl (refl, tt) g

access_said : (kind : AccessKind) (ws : List (List ℕ)) (act : Act) → act_of_access kind ws ≡ Ok act → line_of_words (access_word kind ∷ ws) ≡ Ok (lines.Act act)
access_said kinds.Read ws act e = rw e refl
access_said kinds.Write ws act e = rw e refl
access_said kinds.AtomicRead ws act e = rw e refl
access_said kinds.AtomicWrite ws act e = rw e refl

reference_again : (r : Reference) → IsLogReference r → reference_of (reference_words r) ≡ Ok r
reference_again r h = rw (number_again r.block h.block, number_again r.offset h.offset, number_again r.target h.target, site_again r.site h.site) refl

clear_reference : (r : Reference) → IsLogReference r → AreClear (reference_words r)
clear_reference r h = (clear r.block h.block, (clear r.offset h.offset, (clear r.target h.target, clear_site r.site h.site)))

task_number : (t : ℕ) → t < 2 ^ 32 → IsLogNumber t
task_number t h = omega (arith, h)

task_passes : (t : ℕ) → t < 2 ^ 32 → nat_lt t (2 ^ 32) ≡ true
task_passes t h = grind (arith, nat_tests, h)

strand_passes : (s : ℕ) → s < 2 ^ 31 → nat_lt s (2 ^ 31) ≡ true
strand_passes s h = grind (arith, nat_tests, h)

act_again : (act : Act) → IsAct act → line_of (join_with_byte 32 (act_words act)) ≡ Ok (lines.Act act)
act_again (acts.Access a) h =
    access_by a.kind (place_words a.place (site_words a.site)) (clear_place a.place (site_words a.site) h.place (clear_site a.site h.site))
    ∙ access_said a.kind (place_words a.place (site_words a.site)) (acts.Access a) (access_operands a h)
act_again (acts.Yield r) h = as_words 103 [] (reference_words r) refl (refl, tt) (clear_reference r h) ∙ rw (reference_again r h) refl
act_again (acts.Store r) h = as_words 112 [] (reference_words r) refl (refl, tt) (clear_reference r h) ∙ rw (reference_again r h) refl
act_again (acts.Birth b l) h = as_words 97 [] (decimal b ∷ decimal l ∷ []) refl (refl, tt) (clear b h.0, (clear l h.1, tt)) ∙ rw (number_again b h.0, number_again l h.1) refl
act_again (acts.Release b) h = as_words 102 [] (decimal b ∷ []) refl (refl, tt) (clear b h, tt) ∙ rw (number_again b h) refl
act_again (acts.Work n) h = as_words 107 [] (decimal n ∷ []) refl (refl, tt) (clear n h, tt) ∙ rw (number_again n h) refl
act_again (acts.Spawn t) h = as_words 43 [] (decimal t ∷ []) refl (refl, tt) (clear t (task_number t h), tt) ∙ rw (number_again t (task_number t h), task_passes t h) refl
act_again (acts.Join t) h = as_words 45 [] (decimal t ∷ []) refl (refl, tt) (clear t (task_number t h), tt) ∙ rw (number_again t (task_number t h), task_passes t h) refl
act_again acts.Finish h = as_words 46 [] [] refl (refl, tt) tt

-- LINES

strand_number : (s : ℕ) → s < 2 ^ 31 → IsLogNumber s
strand_number s h = omega (arith, h)

pub line_again : (l : LogLine) → IsLine l → line_of (line_bytes l) ≡ Ok l
line_again lines.Version h = as_words 104 (codes "hlog") (decimal 1 ∷ []) refl (refl, (refl, (refl, (refl, (refl, tt))))) (clear 1 one_below, tt) ∙ rw (number_again 1 one_below) refl
line_again (lines.Strand t s) h =
    as_words 115 [] (decimal t ∷ decimal s ∷ []) refl (refl, tt) (clear t (task_number t h.0), (clear s (strand_number s h.1), tt))
    ∙ rw (number_again t (task_number t h.0), number_again s (strand_number s h.1), task_passes t h.0, strand_passes s h.1) refl
line_again (lines.Act act) h = act_again act h
line_again (lines.Name site) h = as_words 64 [] (decimal site ∷ [] ∷ []) refl (refl, tt) (clear site h, (tt, tt)) ∙ rw (number_again site h) refl
line_again lines.Comment h = refl
line_again lines.End h = as_words 101 (codes "nd") [] refl (refl, (refl, (refl, tt))) tt
