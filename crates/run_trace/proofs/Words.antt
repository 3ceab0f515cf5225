-- Words separated by single spaces are read again as these words.
use Rattle.run_trace.proofs.Common.{◌≡◌, ◌<◌, ◌++◌, ◌^◌, ℕ, false, List, [], ◌∷◌, length, arith, refl, ap, ◌∙◌, filter, append_assoc, ◌==◌, All, AllByRecursion, slice_split, digit_value, decimal, AllDigits, decimal_is_IsNumeral, All-nil, All-from_recursion, All-append, slice_split_at, slice_split_none, is_blank, is_word, runs_of, words_of, before_comment, lines_of, spaced}

-- a byte that is neither blank nor a line feed, and begins no comment
abbrev pub IsPlain : ℕ → Type 0
IsPlain c = (35 < c) × (c < 128)

abbrev pub ArePlain : List ℕ → Type 0
ArePlain [] = Unit {0}
ArePlain (c ∷ cs) = IsPlain c × ArePlain cs

-- a word of such bytes
abbrev pub IsProper : List ℕ → Type 0
IsProper w = (0 < length w) × ArePlain w

abbrev pub AreProper : List (List ℕ) → Type 0
AreProper [] = Unit {0}
AreProper (w ∷ ws) = IsProper w × AreProper ws

-- DECIMALS

pub digit_is_plain : (c : ℕ) → digit_value c < 10 → IsPlain c
digit_is_plain c h = (grind arith, grind arith)

pub digits_are_plain : (ds : List ℕ) → AllDigits 10 ds → ArePlain ds
digits_are_plain [] h = tt
digits_are_plain (c ∷ cs) h = (digit_is_plain c h.0, digits_are_plain cs h.1)

pub decimal_is_proper : (n : ℕ) → n < 2 ^ 32 → IsProper (decimal n)
decimal_is_proper n lt =
    let wide : n < 2 ^ 64 = omega (arith, lt) in
    let h = (decimal_is_IsNumeral n wide).0 in (h.0, digits_are_plain (decimal n) h.1)

-- PIECES

plain_is_no_blank : (c : ℕ) → IsPlain c → is_blank c ≡ false
plain_is_no_blank c h = let a : 35 < c = h.0 in grind (arith, a)

plain_is_no_feed : (c : ℕ) → IsPlain c → (c == 10) ≡ false
plain_is_no_feed c h = let a : 35 < c = h.0 in grind (arith, a)

no_blanks : (w : List ℕ) → ArePlain w → All (λ c. is_blank c ≡ false) w
no_blanks w h = All-from_recursion (λ c. is_blank c ≡ false) w (along w h)
  where
    along : (v : List ℕ) → ArePlain v → AllByRecursion (λ c. is_blank c ≡ false) v
    along [] g = tt
    along (c ∷ cs) g = (plain_is_no_blank c g.0, along cs g.1)

no_feeds : (w : List ℕ) → ArePlain w → All (λ c. (c == 10) ≡ false) w
no_feeds w h = All-from_recursion (λ c. (c == 10) ≡ false) w (along w h)
  where
    along : (v : List ℕ) → ArePlain v → AllByRecursion (λ c. (c == 10) ≡ false) v
    along [] g = tt
    along (c ∷ cs) g = (plain_is_no_feed c g.0, along cs g.1)

-- WORDS

kept : (w : List ℕ) (rest : List (List ℕ)) → IsProper w → filter is_word (w ∷ rest) ≡ w ∷ filter is_word rest
kept [] rest h = absurd (let a : 0 < 0 = h.0 in omega arith)
kept (c ∷ cs) rest h = refl

no_comment : (w : List ℕ) (rest : List (List ℕ)) → IsProper w → before_comment (w ∷ rest) ≡ w ∷ before_comment rest
no_comment [] rest h = absurd (let a : 0 < 0 = h.0 in omega arith)
no_comment (c ∷ cs) rest h =
    let a : 35 < c = h.1.0.0 in
    let e : (c == 35) ≡ false = grind (arith, a) in rw e refl

pub runs_spaced : (ws : List (List ℕ)) → AreProper ws → runs_of (spaced ws) ≡ ws
runs_spaced [] h = refl
runs_spaced (w ∷ []) h = ap (filter is_word) (slice_split_none is_blank w (no_blanks w h.0.1)) ∙ kept w [] h.0
runs_spaced (w ∷ v ∷ ws) h =
    ap (filter is_word) (slice_split_at is_blank w 32 (spaced (v ∷ ws)) (no_blanks w h.0.1) refl)
    ∙ kept w (slice_split is_blank (spaced (v ∷ ws))) h.0
    ∙ ap (λ rs. w ∷ rs) (runs_spaced (v ∷ ws) h.1)

no_comments : (ws : List (List ℕ)) → AreProper ws → before_comment ws ≡ ws
no_comments [] h = refl
no_comments (w ∷ ws) h = no_comment w ws h.0 ∙ ap (λ vs. w ∷ vs) (no_comments ws h.1)

pub words_spaced : (ws : List (List ℕ)) → AreProper ws → words_of (spaced ws) ≡ ws
words_spaced ws h = ap before_comment (runs_spaced ws h) ∙ no_comments ws h

-- LINES

pub no_feeds_spaced : (ws : List (List ℕ)) → AreProper ws → All (λ c. (c == 10) ≡ false) (spaced ws)
no_feeds_spaced [] h = All-nil (λ c. (c == 10) ≡ false)
no_feeds_spaced (w ∷ []) h = no_feeds w h.0.1
no_feeds_spaced (w ∷ v ∷ ws) h =
    All-append (λ c. (c == 10) ≡ false) w (32 ∷ spaced (v ∷ ws)) (no_feeds w h.0.1)
    (All-append (λ c. (c == 10) ≡ false) (32 ∷ []) (spaced (v ∷ ws)) (All-from_recursion (λ c. (c == 10) ≡ false) (32 ∷ []) (refl, tt)) (no_feeds_spaced (v ∷ ws) h.1))

-- a line of words is the first line of a text that begins with it
pub line_first : (ws : List (List ℕ)) (rest : List ℕ) → AreProper ws → lines_of ((spaced ws ++ 10 ∷ []) ++ rest) ≡ spaced ws ∷ lines_of rest
line_first ws rest h =
    ap lines_of (append_assoc (spaced ws) (10 ∷ []) rest)
    ∙ slice_split_at (λ c. c == 10) (spaced ws) 10 rest (no_feeds_spaced ws h) refl
