-- The lines of a text that are acts, one after the other.
use Rattle.act_lines.proofs.Common.{◌≡◌, ◌<◌, ◌+◌, ◌++◌, ◌∷◌, ◌∙◌, ℕ, false, Option, Some, None, List, [], length, drop, get_or, refl, sym, ap, subst, MatchOption, false≢true, append_assoc, append-nil, drop_more, lines_of, is_last, some_line, line_of, lines_in, all_but_last, ActLine, act_line_at, act_lines_from, act_lines_behind}

but_last : (line : List ℕ) (ls : List (List ℕ)) → is_last ls ≡ false → all_but_last (line ∷ ls) ≡ line ∷ all_but_last ls
but_last line [] e = absurd (false≢true (sym e))
but_last line (l ∷ ls) e = refl

pub lines_next : {X : Type 0} (now : X → List ℕ) (o : Option X) (left line : List ℕ) (r : X) → o ≡ Some r → MatchOption o (lines_of left ≡ line ∷ []) (λ x. lines_of left ≡ line ∷ lines_of (now x))
    → lines_in left ≡ line ∷ lines_in (now r)
lines_next now o left line r e h =
    ap all_but_last (subst (λ p. MatchOption p (lines_of left ≡ line ∷ []) (λ x. lines_of left ≡ line ∷ lines_of (now x))) e h) ∙ but_last line (lines_of (now r)) (some_line (now r))

pub lines_end : {X : Type 0} (now : X → List ℕ) (o : Option X) (left line : List ℕ) → o ≡ None → MatchOption o (lines_of left ≡ line ∷ []) (λ x. lines_of left ≡ line ∷ lines_of (now x))
    → lines_in left ≡ []
lines_end now o left line e h = ap all_but_last (subst (λ p. MatchOption p (lines_of left ≡ line ∷ []) (λ x. lines_of left ≡ line ∷ lines_of (now x))) e h)

pub acts_next : (file line : ℕ) (total done : List ActLine) (left : List (List ℕ)) (said : List ℕ) (rest : List (List ℕ)) → left ≡ said ∷ rest → done ++ act_lines_from file line left ≡ total
    → (done ++ act_line_at (record { file = file; line = line }) (line_of said)) ++ act_lines_from file (line + 1) rest ≡ total
acts_next file line total done left said rest e all =
    append_assoc done (act_line_at (record { file = file; line = line }) (line_of said)) (act_lines_from file (line + 1) rest)
    ∙ (ap (λ l. done ++ act_lines_from file line l) (sym e) ∙ all)

pub acts_end : (file line : ℕ) (total done : List ActLine) (left : List (List ℕ)) → left ≡ [] → done ++ act_lines_from file line left ≡ total → done ≡ total
acts_end file line total done left e all = sym (append-nil done) ∙ (ap (λ l. done ++ act_lines_from file line l) (sym e) ∙ all)

-- one file more
pub files_next : (file : ℕ) (total done : List ActLine) (texts : List (List ℕ)) (text : List ℕ) → file < length texts → text ≡ get_or texts file [] → done ++ act_lines_behind file (drop file texts) ≡ total
    → (done ++ act_lines_from file 1 (lines_in text)) ++ act_lines_behind (file + 1) (drop (file + 1) texts) ≡ total
files_next file total done texts text lt is all =
    append_assoc done (act_lines_from file 1 (lines_in text)) (act_lines_behind (file + 1) (drop (file + 1) texts))
    ∙ (ap (λ t. done ++ act_lines_behind file (t ∷ drop (file + 1) texts)) is ∙ (ap (λ ts. done ++ act_lines_behind file ts) (sym (drop_more texts file [] lt)) ∙ all))
