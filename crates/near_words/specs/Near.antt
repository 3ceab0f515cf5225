-- Words that are near one another: one becomes the other by few edits.
use Rattle.std.specs.Prelude.{ℕ, ◌==◌, ◌&&◌, ◌||◌, Bool, false, Option, Some, None, List, [], ◌∷◌, length, drop, nat_lt, if◌then◌else◌}
use Rattle.std.specs.Str.{bytes_eq}

-- what is left of two words after their common prefix
abbrev pub differing_rests : List ℕ → List ℕ → List ℕ
differing_rests [] ys = []
differing_rests (x ∷ xs) [] = x ∷ xs
differing_rests (x ∷ xs) (y ∷ ys) = if x == y then differing_rests xs ys else x ∷ xs

-- both begin with the same two letters, swapped
abbrev pub is_turned : List ℕ → List ℕ → Bool
is_turned (a ∷ b ∷ xs) (c ∷ d ∷ ys) = (a == d) && (b == c)
is_turned _ _ = false

-- AN EDIT puts one letter in another one's place, takes one out, puts one in, or turns two neighbours round. It is made
-- where the words first differ; what is left of them then agrees by the test

abbrev pub is_edited : (List ℕ → List ℕ → Bool) → List ℕ → List ℕ → Bool
is_edited agree xs ys =
    agree (drop 1 xs) (drop 1 ys) || (agree (drop 1 xs) ys || (agree xs (drop 1 ys) || (is_turned xs ys && agree (drop 2 xs) (drop 2 ys))))

-- the words are the same but for at most one edit
abbrev pub is_within_one : List ℕ → List ℕ → Bool
is_within_one xs ys = is_edited bytes_eq (differing_rests xs ys) (differing_rests ys xs)

-- the words are the same but for at most two
abbrev pub is_within_two : List ℕ → List ℕ → Bool
is_within_two xs ys = is_edited is_within_one (differing_rests xs ys) (differing_rests ys xs)

-- THE NEAREST of some words: the first within one edit, or else the first within two. A word of one letter is near to
-- none, and one of fewer than five letters to none by two edits

abbrev pub first_such : (List ℕ → Bool) → List (List ℕ) → Option (List ℕ)
first_such is [] = None
first_such is (w ∷ ws) = if is w then Some w else first_such is ws

abbrev pub or_then : Option (List ℕ) → Option (List ℕ) → Option (List ℕ)
or_then (Some w) other = Some w
or_then None other = other

abbrev pub nearest : List ℕ → List (List ℕ) → Option (List ℕ)
nearest word words =
    or_then (if nat_lt 1 (length word) then first_such (is_within_one word) words else None)
    (if nat_lt 4 (length word) then first_such (is_within_two word) words else None)
