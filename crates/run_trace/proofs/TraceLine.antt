-- An entry's line, read again, gives that entry.
use Rattle.run_trace.proofs.Common.{◌≡◌, ◌<◌, ◌≤◌, ◌^◌, ℕ, true, List, [], ◌∷◌, arith, refl, ap, sym, ◌∙◌, Some, codes, nat_le, nat_lt, ◌&&◌, decimal, is_utf8, All, AllByRecursion, decimal_is_IsNumeral, All-nil, All-from_recursion, All-append, is_utf8-from_IsUtf8, IsUtf8-from_ascii, IsAscii-from_all, Kind, Took, Ran, Chunk, Begin, End, PutOff, Mark, More, Sweep, Fuel, Says, EntryValue, IsEntry, IsKind, unsigned_number, numbers_in, kind_of_words, kind_by, entry_by, said_by_words, trace_line, kind_name, kind_words, spaced}
use Rattle.run_trace.proofs.Numbers.{as_option}
use Rattle.run_trace.proofs.Words.{ArePlain, AreProper, decimal_is_proper, words_spaced}

-- NUMBERS

pub number_again : (n : ℕ) → n < 2 ^ 32 → unsigned_number (decimal n) ≡ Some n
number_again n lt =
    let wide : n < 2 ^ 64 = omega (arith, lt) in
    let h = decimal_is_IsNumeral n wide in
    sym (as_option (decimal n) (Some n) ((h.0, rw h.1 lt), sym h.1))

-- UTF-8

plain_ascii : (w : List ℕ) → ArePlain w → All (λ b. b < 128) w
plain_ascii w h = All-from_recursion (λ b. b < 128) w (along w h)
  where
    along : (v : List ℕ) → ArePlain v → AllByRecursion (λ b. b < 128) v
    along [] g = tt
    along (c ∷ cs) g = (g.0.1, along cs g.1)

spaced_ascii : (ws : List (List ℕ)) → AreProper ws → All (λ b. b < 128) (spaced ws)
spaced_ascii [] h = All-nil (λ b. b < 128)
spaced_ascii (w ∷ []) h = plain_ascii w h.0.1
spaced_ascii (w ∷ v ∷ ws) h =
    All-append (λ b. b < 128) w (32 ∷ spaced (v ∷ ws)) (plain_ascii w h.0.1)
    (All-append (λ b. b < 128) (32 ∷ []) (spaced (v ∷ ws)) (All-from_recursion (λ b. b < 128) (32 ∷ []) (omega arith, tt)) (spaced_ascii (v ∷ ws) h.1))

pub spaced_utf8 : (ws : List (List ℕ)) → AreProper ws → is_utf8 (spaced ws) ≡ true
spaced_utf8 ws h = is_utf8-from_IsUtf8 (spaced ws) (IsUtf8-from_ascii (spaced ws) (IsAscii-from_all (spaced ws) (spaced_ascii ws h)))

-- KINDS

one : (n : ℕ) → n < 2 ^ 32 → AreProper (decimal n ∷ [])
one n h = (decimal_is_proper n h, tt)

two : (m n : ℕ) → m < 2 ^ 32 → n < 2 ^ 32 → AreProper (decimal m ∷ decimal n ∷ [])
two m n h g = (decimal_is_proper m h, one n g)

step_count : (k : ℕ) → k ≤ 257 → k < 2 ^ 32
step_count k h = omega (arith, h)

mark_count : (n : ℕ) → n ≤ 1024 → n < 2 ^ 32
mark_count n h = omega (arith, h)

pub kind_is_proper : (kind : Kind) → IsKind kind → AreProper (kind_words kind)
kind_is_proper (Took t) h = (grind arith, one t h)
kind_is_proper (Ran t k) h = (grind arith, two t k h.0 (step_count k h.1.1))
kind_is_proper (Chunk t) h = (grind arith, one t h)
kind_is_proper (Begin t) h = (grind arith, one t h)
kind_is_proper (End t taken given left) h = (grind arith, (decimal_is_proper t h.0, (decimal_is_proper taken h.1, two given left h.2 h.3)))
kind_is_proper (PutOff t) h = (grind arith, one t h)
kind_is_proper (Mark t) h = (grind arith, one t h)
kind_is_proper (More t n) h = (grind arith, two t n h.0 (mark_count n h.1.1))
kind_is_proper (Sweep t given) h = (grind arith, two t given h.0 h.1)
kind_is_proper Fuel h = (grind arith, tt)

-- the words of an entry
abbrev pub entry_words : EntryValue → List (List ℕ)
entry_words e = decimal e.worker ∷ kind_words e.kind

worker_word : (w : ℕ) → w < 64 → w < 2 ^ 32
worker_word w h = omega (arith, h)

pub entry_is_proper : (e : EntryValue) → IsEntry e → AreProper (entry_words e)
entry_is_proper e h = (decimal_is_proper e.worker (worker_word e.worker h.0), kind_is_proper e.kind h.1)

-- WHAT IS READ

-- the numbers of an entry
abbrev operands_of : Kind → List (List ℕ)
operands_of (Took t) = decimal t ∷ []
operands_of (Ran t k) = decimal t ∷ decimal k ∷ []
operands_of (Chunk t) = decimal t ∷ []
operands_of (Begin t) = decimal t ∷ []
operands_of (End t taken given left) = decimal t ∷ decimal taken ∷ decimal given ∷ decimal left ∷ []
operands_of (PutOff t) = decimal t ∷ []
operands_of (Mark t) = decimal t ∷ []
operands_of (More t n) = decimal t ∷ decimal n ∷ []
operands_of (Sweep t given) = decimal t ∷ decimal given ∷ []
operands_of Fuel = []

kind_words_are : (kind : Kind) → kind_words kind ≡ kind_name kind ∷ operands_of kind
kind_words_are (Took t) = refl
kind_words_are (Ran t k) = refl
kind_words_are (Chunk t) = refl
kind_words_are (Begin t) = refl
kind_words_are (End t taken given left) = refl
kind_words_are (PutOff t) = refl
kind_words_are (Mark t) = refl
kind_words_are (More t n) = refl
kind_words_are (Sweep t given) = refl
kind_words_are Fuel = refl

steps_within : (t k : ℕ) → 1 ≤ k → k ≤ 257 → kind_of_words (codes "ran") (t ∷ k ∷ []) ≡ Some (Ran t k)
steps_within t k low high = let e : (nat_le 1 k && nat_le k 257) ≡ true = grind (arith, low, high) in rw e refl

marks_within : (t n : ℕ) → 1 ≤ n → n ≤ 1024 → kind_of_words (codes "some") (t ∷ n ∷ []) ≡ Some (More t n)
marks_within t n low high = let e : (nat_le 1 n && nat_le n 1024) ≡ true = grind (arith, low, high) in rw e refl

kind_again : (kind : Kind) → IsKind kind → kind_by (kind_name kind) (numbers_in (operands_of kind)) ≡ Some kind
kind_again (Took t) h = rw (number_again t h) refl
kind_again (Ran t k) h = rw (number_again t h.0, number_again k (step_count k h.1.1)) (steps_within t k h.1.0 h.1.1)
kind_again (Chunk t) h = rw (number_again t h) refl
kind_again (Begin t) h = rw (number_again t h) refl
kind_again (End t taken given left) h = rw (number_again t h.0, number_again taken h.1, number_again given h.2, number_again left h.3) refl
kind_again (PutOff t) h = rw (number_again t h) refl
kind_again (Mark t) h = rw (number_again t h) refl
kind_again (More t n) h = rw (number_again t h.0, number_again n (mark_count n h.1.1)) (marks_within t n h.1.0 h.1.1)
kind_again (Sweep t given) h = rw (number_again t h.0, number_again given h.1) refl
kind_again Fuel h = refl

worker_within : (w : ℕ) (kind : Kind) → w < 64 → entry_by (Some w) (Some kind) ≡ Says (record { worker = w; kind = kind })
worker_within w kind h = let e : nat_lt w 64 ≡ true = grind (arith, h) in rw e refl

words_again : (e : EntryValue) → IsEntry e → said_by_words (entry_words e) ≡ Says e
words_again e h =
    rw (kind_words_are e.kind)
    rw (number_again e.worker (worker_word e.worker h.0), kind_again e.kind h.1)
    (worker_within e.worker e.kind h.0)

pub entry_again : (e : EntryValue) → IsEntry e → trace_line (spaced (entry_words e)) ≡ Says e
entry_again e h =
    rw (spaced_utf8 (entry_words e) (entry_is_proper e h))
    (ap said_by_words (words_spaced (entry_words e) (entry_is_proper e h)) ∙ words_again e h)
