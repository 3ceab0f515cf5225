-- The lines of two texts, concatenated.
use Rattle.round_trip_laws.proofs.Common.{◌≡◌, ◌∙◌, ◌<◌, ◌++◌, ℕ, Bool, cond, true, false, List, [], ◌∷◌, length, refl, ap, sym, arith, ◌==◌, onto_first, eqb-true, length-slice_split, lines_of, with_feeds}

some_lines : (text : List ℕ) → 0 < length (lines_of text)
some_lines text = let e = length-slice_split (λ c. c == 10) text in omega (arith, e)

onto_both : (c : ℕ) (ls rest : List (List ℕ)) → 0 < length ls → onto_first c (ls ++ rest) ≡ onto_first c ls ++ rest
onto_both c [] rest some = absurd (let a : 0 < 0 = some in omega arith)
onto_both c (l ∷ ls) rest some = refl

onto_feeds : (c : ℕ) (ls : List (List ℕ)) → 0 < length ls → with_feeds (onto_first c ls) ≡ c ∷ with_feeds ls
onto_feeds c [] some = absurd (let a : 0 < 0 = some in omega arith)
onto_feeds c (l ∷ ls) some = refl

-- a text begins with a line feed, or with the first byte of its first line
abbrev lines_by : Bool → ℕ → List (List ℕ) → List (List ℕ)
lines_by b c ls = cond b ([] ∷ ls) (onto_first c ls)

behind_by : (b : Bool) (c : ℕ) (ls rest all : List (List ℕ)) → 0 < length ls → all ≡ ls ++ rest → lines_by b c all ≡ lines_by b c ls ++ rest
behind_by true c ls rest all some e = ap (λ xs. [] ∷ xs) e
behind_by false c ls rest all some e = ap (onto_first c) e ∙ onto_both c ls rest some

-- of a text that ends in a line feed and a text after it: the lines of both
pub lines_behind : (front rest : List ℕ) → lines_of (front ++ 10 ∷ rest) ≡ lines_of front ++ lines_of rest
lines_behind [] rest = refl
lines_behind (c ∷ cs) rest = behind_by (c == 10) c (lines_of cs) (lines_of rest) (lines_of (cs ++ 10 ∷ rest)) (some_lines cs) (lines_behind cs rest)

fed_by : (b : Bool) (c : ℕ) (cs : List ℕ) (ls : List (List ℕ)) → (c == 10) ≡ b → 0 < length ls → with_feeds ls ≡ cs ++ 10 ∷ [] → with_feeds (lines_by b c ls) ≡ c ∷ (cs ++ 10 ∷ [])
fed_by true c cs ls is some e = ap (λ x. x ∷ with_feeds ls) (sym (eqb-true c 10 is)) ∙ ap (λ xs. c ∷ xs) e
fed_by false c cs ls is some e = onto_feeds c ls some ∙ ap (λ xs. c ∷ xs) e

-- lines with their line feeds are the text, and a line feed
pub fed_lines : (front : List ℕ) → with_feeds (lines_of front) ≡ front ++ 10 ∷ []
fed_lines [] = refl
fed_lines (c ∷ cs) = fed_by (c == 10) c cs (lines_of cs) refl (some_lines cs) (fed_lines cs)
