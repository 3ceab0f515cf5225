-- The letters that lines begin with.
use Rattle.std.specs.Prelude.{◌≡◌, ℕ, ◌==◌, Bool, false, List, [], ◌∷◌, codes, slice_index}
use Rattle.std.specs.List.{list_any}
use Rattle.log_lines.specs.declared.line.AccessKind.{AccessKind}
use Rattle.log_lines.specs.declared.line.AccessKind.TheVariants as kinds
use Rattle.log_lines.specs.declared.line.Act.{Act}
use Rattle.log_lines.specs.declared.line.Act.TheVariants as acts
use Rattle.log_lines.specs.declared.line.LogLine.{LogLine}
use Rattle.log_lines.specs.declared.line.LogLine.TheVariants as lines

abbrev pub is_among : List ℕ → ℕ → Bool
is_among letters c = list_any (λ d. d == c) letters

-- a line begins with one of some letters
abbrev pub begins_with : List ℕ → List ℕ → Bool
begins_with letters [] = false
begins_with letters (c ∷ cs) = is_among letters c

abbrev pub letter : List ℕ → ℕ
letter word = slice_index word 0

abbrev pub letter_of_kind : AccessKind → ℕ
letter_of_kind kinds.Read = letter (codes "r")
letter_of_kind kinds.Write = letter (codes "w")
letter_of_kind kinds.AtomicRead = letter (codes "R")
letter_of_kind kinds.AtomicWrite = letter (codes "W")

-- what a line begins with that says an act
abbrev pub letter_of : Act → ℕ
letter_of (acts.Access a) = letter_of_kind a.kind
letter_of (acts.Yield r) = letter (codes "g")
letter_of (acts.Store r) = letter (codes "p")
letter_of (acts.Birth block length) = letter (codes "a")
letter_of (acts.Release block) = letter (codes "f")
letter_of (acts.Work units) = letter (codes "k")
letter_of (acts.Spawn task) = letter (codes "+")
letter_of (acts.Join task) = letter (codes "-")
letter_of acts.Finish = letter (codes ".")

-- an act has one of the letters, and so a name, or none of them
abbrev pub HasOneOf : List ℕ → Bool → LogLine → Type 0
HasOneOf letters one (lines.Act act) = is_among letters (letter_of act) ≡ one
HasOneOf letters one (lines.Name site) = is_among letters (letter (codes "@")) ≡ one
HasOneOf letters one lines.Version = Unit {0}
HasOneOf letters one (lines.Strand task strand) = Unit {0}
HasOneOf letters one lines.Comment = Unit {0}
HasOneOf letters one lines.End = Unit {0}
