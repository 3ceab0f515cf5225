-- The acts of a text, line by line.
use Rattle.log_pieces.proofs.Common.{◌≡◌, ◌++◌, ◌∷◌, ◌∙◌, ℕ, Bool, List, [], sym, ap, subst, Option, Some, None, Result, Ok, Err, IfOk, append-nil, MatchOption, flat_map, lines_of, LogCause, Act, LogLine, line_of, is_among, begins_with, letter_of, HasOneOf, letters_tell, act_said, acts_in}
use Rattle.log_lines.specs.declared.line.LogLine.TheVariants as lines

pub line_more : (left line rest : List ℕ) → lines_of left ≡ line ∷ lines_of rest → acts_in left ≡ act_said (line_of line) ++ acts_in rest
line_more left line rest e = ap (λ (ls : List (List ℕ)). flat_map (λ l. act_said (line_of l)) ls) e

pub line_last : (left line : List ℕ) → lines_of left ≡ line ∷ [] → acts_in left ≡ act_said (line_of line)
line_last left line e = ap (λ (ls : List (List ℕ)). flat_map (λ l. act_said (line_of l)) ls) e ∙ append-nil (act_said (line_of line))

-- the rest of a text if it goes on
pub at_some : {X : Type 0} (now : X → List ℕ) (o : Option X) (left line : List ℕ) (r : X) → o ≡ Some r → MatchOption o (lines_of left ≡ line ∷ []) (λ x. lines_of left ≡ line ∷ lines_of (now x)) → lines_of left ≡ line ∷ lines_of (now r)
at_some now o left line r e h = subst (λ p. MatchOption p (lines_of left ≡ line ∷ []) (λ x. lines_of left ≡ line ∷ lines_of (now x))) e h

pub at_none : {X : Type 0} (now : X → List ℕ) (o : Option X) (left line : List ℕ) → o ≡ None → MatchOption o (lines_of left ≡ line ∷ []) (λ x. lines_of left ≡ line ∷ lines_of (now x)) → lines_of left ≡ line ∷ []
at_none now o left line e h = subst (λ p. MatchOption p (lines_of left ≡ line ∷ []) (λ x. lines_of left ≡ line ∷ lines_of (now x))) e h

-- the first line's acts, and those of what follows it
pub said_first : {X : Type 0} (now : X → List ℕ) (o : Option X) (left line : List ℕ) → MatchOption o (lines_of left ≡ line ∷ []) (λ x. lines_of left ≡ line ∷ lines_of (now x))
    → (rest : List Act) × (acts_in left ≡ act_said (line_of line) ++ rest)
said_first now None left line h = ([], line_last left line h ∙ sym (append-nil (act_said (line_of line))))
said_first now (Some r) left line h = (acts_in (now r), line_more left line (now r) h)

-- what a line says, by whether it has one of some letters
said_by : (P : List Act → Type 0) (letters : List ℕ) (one : Bool) (said : Result LogLine LogCause) → IfOk said (HasOneOf letters one) → P [] → ((act : Act) → is_among letters (letter_of act) ≡ one → P (act ∷ [])) → P (act_said said)
said_by P letters one (Ok (lines.Act act)) h none some = some act h
said_by P letters one (Ok lines.Version) h none some = none
said_by P letters one (Ok (lines.Strand t i)) h none some = none
said_by P letters one (Ok (lines.Name site)) h none some = none
said_by P letters one (Ok lines.Comment) h none some = none
said_by P letters one (Ok lines.End) h none some = none
said_by P letters one (Err cause) h none some = none

-- by whether it begins with one
pub said_of : (P : List Act → Type 0) (letters line : List ℕ) (one : Bool) → begins_with letters line ≡ one → P [] → ((act : Act) → is_among letters (letter_of act) ≡ one → P (act ∷ [])) → P (act_said (line_of line))
said_of P letters line one e none some = said_by P letters one (line_of line) (subst (λ (b : Bool). IfOk (line_of line) (HasOneOf letters b)) e (letters_tell letters line)) none some
