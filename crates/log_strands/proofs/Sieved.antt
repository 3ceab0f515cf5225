-- The acts of some letters, line by line.
use Rattle.log_strands.proofs.Common.{◌≡◌, ◌++◌, ◌∷◌, ◌∙◌, ℕ, true, false, List, [], refl, sym, ap, Option, Some, None, MatchOption, filter, filter-append, lines_of, Act, line_of, begins_with, act_said, acts_in, said_of, line_more, line_last, is_by, acts_by}

-- A LINE

-- a line that begins with one of the letters keeps its act
pub line_kept : (letters line : List ℕ) → begins_with letters line ≡ true → act_said (line_of line) ≡ filter (is_by letters) (act_said (line_of line))
line_kept letters line e = said_of (λ (all : List Act). all ≡ filter (is_by letters) all) letters line true e refl (λ act h. rw h refl)

pub line_left_out : (letters line : List ℕ) → begins_with letters line ≡ false → [] ≡ filter (is_by letters) (act_said (line_of line))
line_left_out letters line e = said_of (λ (all : List Act). [] ≡ filter (is_by letters) all) letters line false e refl (λ act h. rw h refl)

-- A TEXT

by_more : (letters left line rest : List ℕ) → lines_of left ≡ line ∷ lines_of rest → acts_by letters left ≡ filter (is_by letters) (act_said (line_of line)) ++ acts_by letters rest
by_more letters left line rest e = ap (filter (is_by letters)) (line_more left line rest e) ∙ filter-append (is_by letters) (act_said (line_of line)) (acts_in rest)

by_last : (letters left line : List ℕ) → lines_of left ≡ line ∷ [] → acts_by letters left ≡ filter (is_by letters) (act_said (line_of line))
by_last letters left line e = ap (filter (is_by letters)) (line_last left line e)

module _ {X : Type 0} (now : X → List ℕ) (letters left line : List ℕ) where
  -- the first line has the first of these acts
  pub found_first : (o : Option X) (behind : List ℕ) (act : Act) → MatchOption o (lines_of left ≡ line ∷ []) (λ r. lines_of left ≡ line ∷ lines_of (now r)) → MatchOption o (behind ≡ []) (λ r. behind ≡ now r)
      → act ∷ [] ≡ filter (is_by letters) (act_said (line_of line)) → acts_by letters left ≡ act ∷ acts_by letters behind
  found_first None behind act e f g = by_last letters left line e ∙ sym g ∙ ap (λ (text : List ℕ). act ∷ acts_by letters text) (sym f)
  found_first (Some r) behind act e f g =
      by_more letters left line (now r) e ∙ ap (λ (acts : List Act). acts ++ acts_by letters (now r)) (sym g) ∙ ap (λ (text : List ℕ). act ∷ acts_by letters text) (sym f)

-- it has none
pub found_later : (letters left line rest : List ℕ) → lines_of left ≡ line ∷ lines_of rest → [] ≡ filter (is_by letters) (act_said (line_of line)) → acts_by letters rest ≡ acts_by letters left
found_later letters left line rest e f = sym (by_more letters left line rest e ∙ ap (λ (acts : List Act). acts ++ acts_by letters rest) (sym f))

pub found_none : (letters left line : List ℕ) → lines_of left ≡ line ∷ [] → [] ≡ filter (is_by letters) (act_said (line_of line)) → acts_by letters left ≡ []
found_none letters left line e f = by_last letters left line e ∙ sym f
