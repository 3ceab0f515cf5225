-- Texts in which quotes and brackets balance.
use Rattle.std.specs.Prelude.{◌≡◌, ℕ, ◌==◌, ◌||◌, Bool, true, false, List, [], ◌∷◌, ◌++◌, nat_lt, if◌then◌else◌}
use Rattle.quoted_text.specs.Quoted.{quoted}

-- the state of a scan: outside strings, with the closing brackets that are due, innermost first; in a string; in a
-- string after a backslash; or at a fault
pub data ScanState : Type 0 where
  Outside : List ℕ → ScanState
  Inside : List ℕ → ScanState
  Behind : List ℕ → ScanState
  Broken : ScanState

-- a bracket closes if it is the one due
abbrev pub closed : ℕ → List ℕ → ScanState
closed c [] = Broken
closed c (w ∷ ws) = if c == w then Outside ws else Broken

abbrev pub read_outside : ℕ → List ℕ → ScanState
read_outside c ws =
    if c == 34 then Inside ws
    else if c == 91 then Outside (93 ∷ ws)
    else if c == 123 then Outside (125 ∷ ws)
    else if (c == 93) || (c == 125) then closed c ws
    else Outside ws

-- a string has no control byte
abbrev pub read_inside : ℕ → List ℕ → ScanState
read_inside c ws =
    if c == 34 then Outside ws
    else if c == 92 then Behind ws
    else if nat_lt c 32 then Broken
    else Inside ws

abbrev pub read_byte : ScanState → ℕ → ScanState
read_byte (Outside ws) c = read_outside c ws
read_byte (Inside ws) c = read_inside c ws
read_byte (Behind ws) c = Inside ws
read_byte Broken c = Broken

abbrev pub read_all : ScanState → List ℕ → ScanState
read_all r [] = r
read_all r (c ∷ cs) = read_all (read_byte r c) cs

-- each quote that opens a string is followed by the one that closes it, and each bracket by its partner
abbrev pub IsBalanced : List ℕ → Type 0
IsBalanced text = (ws : List ℕ) → read_all (Outside ws) text ≡ Outside ws

-- neither a quote nor a bracket
abbrev pub is_plain : ℕ → Bool
is_plain c = if (c == 34) || ((c == 91) || ((c == 93) || ((c == 123) || (c == 125)))) then false else true

abbrev pub ArePlain : List ℕ → Type 0
ArePlain [] = Unit {0}
ArePlain (c ∷ cs) = (is_plain c ≡ true) × ArePlain cs

abbrev pub QuotedBalance : Type 0
QuotedBalance = (word : List ℕ) → IsBalanced (quoted word)

abbrev pub PlainBalance : Type 0
PlainBalance = (text : List ℕ) → ArePlain text → IsBalanced text

-- concatenated, in brackets, and in braces
pub record JoinedBalance : Type 0 where
  pub nothing : IsBalanced []
  pub joined : (a b : List ℕ) → IsBalanced a → IsBalanced b → IsBalanced (a ++ b)
  pub brackets : (a : List ℕ) → IsBalanced a → IsBalanced (91 ∷ (a ++ 93 ∷ []))
  pub braces : (a : List ℕ) → IsBalanced a → IsBalanced (123 ∷ (a ++ 125 ∷ []))
