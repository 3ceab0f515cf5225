-- Quoted strings that may occur in a page's script element.
use Rattle.std.specs.Prelude.{◌≡◌, ◌==◌, ℕ, Bool, false, List, [], ◌∷◌, ◌++◌, codes, if◌then◌else◌}
use Rattle.std.specs.List.{flat_map}
use Rattle.quoted_text.specs.Quoted.{escaped}

-- a byte as in any string, except `<`, which could begin the end tag: it is written \u003c
abbrev pub guarded_byte : ℕ → List ℕ
guarded_byte c = if c == 60 then codes "\\u003c" else escaped c

-- a word in quotes
abbrev pub guarded : List ℕ → List ℕ
guarded word = 34 ∷ (flat_map guarded_byte word ++ 34 ∷ [])

-- a text has no `<`
abbrev pub HasNoTag : List ℕ → Type 0
HasNoTag [] = Unit {0}
HasNoTag (c ∷ cs) = ((c == 60) ≡ false) × HasNoTag cs

abbrev pub GuardedHasNoTag : Type 0
GuardedHasNoTag = (word : List ℕ) → HasNoTag (guarded word)
