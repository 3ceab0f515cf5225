-- A line of a run's log is read again as itself.
use Rattle.log_text_laws.proofs.Common.{◌≡◌, ◌<◌, ◌≤◌, ◌+◌, ◌*◌, ◌^◌, ◌==◌, ℕ, Bool, true, false, List, [], ◌∷◌, ◌++◌, arith, refl, ap, sym, ◌∙◌, cond, Option, Some, None, Ok, append-nil, append_assoc, nat_le, ◌-◌, subst, codes, ◌&&◌, All, AllByRecursion, flat_map, decimal, digit_value, AllDigits, and_parts, eqb-true, flat_map-append, nat_tests, decimal_is_IsNumeral, decimal_digit, All-from_recursion, slice_split_at, slice_split_none, Access, AccessKind, Act, LogLine, LogPlace, Reference, line_of, act_of_access, place_at, IsLogNumber, IsSite, IsLogPlace, IsAccess, IsAct, IsLine, is_space, words_of, site_at, spaced, site_words, line_bytes, access_word, place_words, reference_words, number_again, line_again, line_text, act_text, site_text, spaced_numbers, is_location, access_letter, reference_text}
use Rattle.log_lines.specs.declared.line.AccessKind.TheVariants as kinds
use Rattle.log_lines.specs.declared.line.Act.TheVariants as acts
use Rattle.log_lines.specs.declared.line.LogLine.TheVariants as lines

-- WORDS BEHIND A FIRST ONE

-- each with its space
abbrev spread : List (List ℕ) → List ℕ
spread ws = flat_map (λ w. 32 ∷ w) ws

spaced_words : (w : List ℕ) (ws : List (List ℕ)) → spaced (w ∷ ws) ≡ w ++ spread ws
spaced_words w [] = sym (append-nil w)
spaced_words w (v ∷ ws) = ap (λ t. w ++ 32 ∷ t) (spaced_words v ws)

site_spread : (site : Option ℕ) → site_text site ≡ spread (site_words site)
site_spread None = refl
site_spread (Some n) = ap (λ ds. 32 ∷ (64 ∷ ds)) (sym (append-nil (decimal n)))

-- WORDS

clear_digit : (c : ℕ) → digit_value c < 10 → is_space c ≡ false
clear_digit c h = grind (arith, nat_tests, h)

clear_digits : (ds : List ℕ) → AllDigits 10 ds → AllByRecursion (λ c. is_space c ≡ false) ds
clear_digits [] h = tt
clear_digits (c ∷ cs) h = (clear_digit c h.0, clear_digits cs h.1)

clear_number : (n : ℕ) → IsLogNumber n → All (λ c. is_space c ≡ false) (decimal n)
clear_number n h = All-from_recursion (λ c. is_space c ≡ false) (decimal n) (clear_digits (decimal n) (decimal_is_IsNumeral n (omega (arith, h))).0.1)

clear_site : (n : ℕ) → IsLogNumber n → All (λ c. is_space c ≡ false) (64 ∷ decimal n)
clear_site n h = All-from_recursion (λ c. is_space c ≡ false) (64 ∷ decimal n) (refl, clear_digits (decimal n) (decimal_is_IsNumeral n (omega (arith, h))).0.1)

-- a number's word ends at the next space
pub number_then : (n : ℕ) (rest : List ℕ) → IsLogNumber n → words_of (decimal n ++ 32 ∷ rest) ≡ decimal n ∷ words_of rest
number_then n rest h = slice_split_at is_space (decimal n) 32 rest (clear_number n h) refl

-- an offset is the last word, or the site is
offset_words : (offset : ℕ) (site : Option ℕ) → IsLogNumber offset → IsSite site → words_of (spaced (decimal offset ∷ site_words site)) ≡ decimal offset ∷ site_words site
offset_words offset None h g = slice_split_none is_space (decimal offset) (clear_number offset h)
offset_words offset (Some n) h g =
    number_then offset (64 ∷ decimal n) h ∙ ap (λ ws. decimal offset ∷ ws) (slice_split_none is_space (64 ∷ decimal n) (clear_site n g))

location_words : (letter block offset : ℕ) (site : Option ℕ) → is_space letter ≡ false → IsLogNumber block → IsLogNumber offset → IsSite site
    → words_of (letter ∷ 32 ∷ (decimal block ++ 32 ∷ spaced (decimal offset ∷ site_words site))) ≡ (letter ∷ []) ∷ decimal block ∷ decimal offset ∷ site_words site
location_words letter block offset site e b o s =
    slice_split_at is_space (letter ∷ []) 32 (decimal block ++ 32 ∷ spaced (decimal offset ∷ site_words site)) (All-from_recursion (λ c. is_space c ≡ false) (letter ∷ []) (e, tt)) refl
    ∙ ap (λ ws. (letter ∷ []) ∷ ws) (number_then block (spaced (decimal offset ∷ site_words site)) b ∙ ap (λ ws. decimal block ∷ ws) (offset_words offset site o s))

-- ONE LOCATION

site_again : (site : Option ℕ) → IsSite site → site_at (site_words site) ≡ Ok site
site_again None h = refl
site_again (Some n) h = rw (number_again n h) refl

abbrev location : ℕ → ℕ → LogPlace
location block offset = record { block = block; offset = offset; length = 1; runs = 1; apart = 1 }

small_location : (offset : ℕ) → offset + 1 ≤ 2 ^ 60 → nat_le (offset + (1 - 1) * 1 + 1) (2 ^ 60) ≡ true
small_location offset h = grind (arith, nat_tests, h)

location_place : (block offset : ℕ) (site : Option ℕ) → IsLogPlace (location block offset) → place_at (decimal block ∷ decimal offset ∷ site_words site) ≡ Ok (location block offset, site_words site)
location_place block offset None h = let w = h.within in let e : offset + 1 ≤ 2 ^ 60 = omega (arith, w) in rw (number_again block h.block, number_again offset h.offset, small_location offset e) refl
location_place block offset (Some n) h = let w = h.within in let e : offset + 1 ≤ 2 ^ 60 = omega (arith, w) in rw (number_again block h.block, number_again offset h.offset, small_location offset e) refl

is_one : (p : LogPlace) → is_location p ≡ true → p ≡ location p.block p.offset
is_one p e =
    let a = and_parts (p.length == 1) ((p.runs == 1) && (p.apart == 1)) e in
    let b = and_parts (p.runs == 1) (p.apart == 1) a.1 in
    λ i. record { block = p.block; offset = p.offset; length = eqb-true p.length 1 a.0 i; runs = eqb-true p.runs 1 b.0 i; apart = eqb-true p.apart 1 b.1 i }

location_bytes : (letter block offset : ℕ) (site : Option ℕ)
    → letter ∷ (spaced_numbers (block ∷ offset ∷ []) ++ site_text site) ≡ letter ∷ 32 ∷ (decimal block ++ 32 ∷ spaced (decimal offset ∷ site_words site))
location_bytes letter block offset site =
    ap (λ t. letter ∷ 32 ∷ t)
    (append_assoc (decimal block) (32 ∷ (decimal offset ++ [])) (site_text site)
    ∙ ap (λ t. decimal block ++ 32 ∷ t) (ap (λ ds. ds ++ site_text site) (append-nil (decimal offset)) ∙ (ap (λ t. decimal offset ++ t) (site_spread site) ∙ sym (spaced_words (decimal offset) (site_words site)))))

-- PLACES THAT ARE MORE

runs_bytes : (p : LogPlace) (site : Option ℕ)
    → spaced_numbers (p.block ∷ p.offset ∷ p.length ∷ p.runs ∷ p.apart ∷ []) ++ site_text site ≡ spread (place_words p (site_words site))
runs_bytes p site =
    ap (λ t. spread (place_words p []) ++ t) (site_spread site) ∙ sym (flat_map-append (λ w. 32 ∷ w) (place_words p []) (site_words site))

-- ACCESSES

letter_word : (kind : AccessKind) → access_word kind ≡ access_letter kind ∷ []
letter_word kinds.Read = refl
letter_word kinds.Write = refl
letter_word kinds.AtomicRead = refl
letter_word kinds.AtomicWrite = refl

clear_letter : (kind : AccessKind) → is_space (access_letter kind) ≡ false
clear_letter kinds.Read = refl
clear_letter kinds.Write = refl
clear_letter kinds.AtomicRead = refl
clear_letter kinds.AtomicWrite = refl

access_said : (kind : AccessKind) (text : List ℕ) (ws : List (List ℕ)) (act : Act)
    → words_of (access_letter kind ∷ text) ≡ (access_letter kind ∷ []) ∷ ws → act_of_access kind ws ≡ Ok act → line_of (access_letter kind ∷ text) ≡ Ok (lines.Act act)
access_said kinds.Read text ws act e f = rw (e, f) refl
access_said kinds.Write text ws act e f = rw (e, f) refl
access_said kinds.AtomicRead text ws act e f = rw (e, f) refl
access_said kinds.AtomicWrite text ws act e f = rw (e, f) refl

location_operands : (kind : AccessKind) (block offset : ℕ) (site : Option ℕ) → IsLogPlace (location block offset) → IsSite site
    → act_of_access kind (decimal block ∷ decimal offset ∷ site_words site) ≡ Ok (acts.Access (record { kind = kind; place = location block offset; site = site }))
location_operands kind block offset site h s = rw (location_place block offset site h, site_again site s) refl

location_again : (kind : AccessKind) (block offset : ℕ) (site : Option ℕ) → IsLogPlace (location block offset) → IsSite site
    → line_of (access_letter kind ∷ (spaced_numbers (block ∷ offset ∷ []) ++ site_text site)) ≡ Ok (lines.Act (acts.Access (record { kind = kind; place = location block offset; site = site })))
location_again kind block offset site h s =
    ap line_of (location_bytes (access_letter kind) block offset site)
    ∙ access_said kind (32 ∷ (decimal block ++ 32 ∷ spaced (decimal offset ∷ site_words site))) (decimal block ∷ decimal offset ∷ site_words site) (acts.Access (record { kind = kind; place = location block offset; site = site }))
    (location_words (access_letter kind) block offset site (clear_letter kind) h.block h.offset s)
    (location_operands kind block offset site h s)

-- by whether the place is one location
access_by : (a : Access) (b : Bool) → is_location a.place ≡ b → IsAccess a
    → line_of (access_letter a.kind ∷ (cond b (spaced_numbers (a.place.block ∷ a.place.offset ∷ [])) (spaced_numbers (a.place.block ∷ a.place.offset ∷ a.place.length ∷ a.place.runs ∷ a.place.apart ∷ [])) ++ site_text a.site))
    ≡ Ok (lines.Act (acts.Access a))
access_by a true e h =
    let one : a.place ≡ location a.place.block a.place.offset = is_one a.place e in
    location_again a.kind a.place.block a.place.offset a.site (subst IsLogPlace one h.place) h.site
    ∙ ap (λ p. Ok (lines.Act (acts.Access (record { kind = a.kind; place = p; site = a.site })))) (sym one)
access_by a false e h =
    ap (λ t. line_of (access_letter a.kind ∷ t)) (runs_bytes a.place a.site)
    ∙ (ap (λ w. line_of (w ++ spread (place_words a.place (site_words a.site)))) (sym (letter_word a.kind))
    ∙ (ap line_of (sym (spaced_words (access_word a.kind) (place_words a.place (site_words a.site)))) ∙ line_again (lines.Act (acts.Access a)) h))

-- ALL LINES

reference_bytes : (letter : ℕ) (r : Reference) → reference_text letter r ≡ spaced ((letter ∷ []) ∷ reference_words r)
reference_bytes letter r =
    ap (λ t. letter ∷ t) (ap (λ t. spread (decimal r.block ∷ decimal r.offset ∷ decimal r.target ∷ []) ++ t) (site_spread r.site)
    ∙ sym (flat_map-append (λ w. 32 ∷ w) (decimal r.block ∷ decimal r.offset ∷ decimal r.target ∷ []) (site_words r.site)))
    ∙ sym (spaced_words (letter ∷ []) (reference_words r))

-- where the text is as a line is written with each number of its place
as_bytes : (l : LogLine) → IsLine l → line_text l ≡ line_bytes l → line_of (line_text l) ≡ Ok l
as_bytes l h e = ap line_of e ∙ line_again l h

act_again : (a : Act) → IsAct a → line_of (act_text a) ≡ Ok (lines.Act a)
act_again (acts.Access a) h = access_by a (is_location a.place) refl h
act_again (acts.Yield r) h = as_bytes (lines.Act (acts.Yield r)) h (reference_bytes 103 r)
act_again (acts.Store r) h = as_bytes (lines.Act (acts.Store r)) h (reference_bytes 112 r)
act_again (acts.Birth b l) h = as_bytes (lines.Act (acts.Birth b l)) h (sym (spaced_words (97 ∷ []) (decimal b ∷ decimal l ∷ [])))
act_again (acts.Release b) h = as_bytes (lines.Act (acts.Release b)) h (sym (spaced_words (102 ∷ []) (decimal b ∷ [])))
act_again (acts.Work n) h = as_bytes (lines.Act (acts.Work n)) h (sym (spaced_words (107 ∷ []) (decimal n ∷ [])))
act_again (acts.Spawn t) h = as_bytes (lines.Act (acts.Spawn t)) h (sym (spaced_words (43 ∷ []) (decimal t ∷ [])))
act_again (acts.Join t) h = as_bytes (lines.Act (acts.Join t)) h (sym (spaced_words (45 ∷ []) (decimal t ∷ [])))
act_again acts.Finish h = as_bytes (lines.Act acts.Finish) h refl

pub written_again : (l : LogLine) → IsLine l → line_of (line_text l) ≡ Ok l
written_again lines.Version h = as_bytes lines.Version h (ap (λ ds. codes "hhlog" ++ 32 ∷ ds) (sym (decimal_digit 1 (omega arith))))
written_again (lines.Strand t s) h = as_bytes (lines.Strand t s) h (sym (spaced_words (115 ∷ []) (decimal t ∷ decimal s ∷ [])))
written_again (lines.Act a) h = act_again a h
written_again (lines.Name site) h = as_bytes (lines.Name site) h (ap (λ ds. 64 ∷ 32 ∷ (ds ++ 32 ∷ [])) (append-nil (decimal site)))
written_again lines.Comment h = refl
written_again lines.End h = refl
