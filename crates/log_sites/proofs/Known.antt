-- The names that are known, line by line.
use Rattle.log_sites.proofs.Common.{◌≡◌, ◌∙◌, ◌<◌, ◌+◌, ◌==◌, ℕ, suc, Bool, true, false, cond, List, [], ◌∷◌, ◌++◌, length, drop, drop-cons, add-one, get_or, refl, ap, sym, subst, Option, Some, None, arith, nat_eq, MatchOption, is_some, flat_map, nat_tests, drop_all, is_last, lines_of, some_line, all_but_last, lines_in, or_name, name_in, first_name, given, Result, Ok, Err, IfOk, codes, LogCause, LogLine, line_of, begins_with, HasOneOf, letters_tell, site_of_said, site_in}
use Rattle.log_lines.specs.declared.line.LogLine.TheVariants as lines

or_assoc : (a b c : Option (List ℕ)) → or_name (or_name a b) c ≡ or_name a (or_name b c)
or_assoc None b c = refl
or_assoc (Some n) b c = refl

pub or_none : (a : Option (List ℕ)) → a ≡ or_name a None
or_none None = refl
or_none (Some n) = refl

first_append : (s : ℕ) (xs ys : List (List ℕ)) → first_name s (xs ++ ys) ≡ or_name (first_name s xs) (first_name s ys)
first_append s [] ys = refl
first_append s (x ∷ xs) ys = ap (or_name (name_in s x)) (first_append s xs ys) ∙ sym (or_assoc (name_in s x) (first_name s xs) (first_name s ys))

-- LINES OF A TEXT

but_last : (x : List ℕ) (xs : List (List ℕ)) → is_last xs ≡ false → all_but_last (x ∷ xs) ≡ x ∷ all_but_last xs
but_last x [] e = absurd cc
but_last x (y ∷ ys) e = refl

line_more : (left line rest : List ℕ) → lines_of left ≡ line ∷ lines_of rest → lines_in left ≡ line ∷ lines_in rest
line_more left line rest e = ap all_but_last e ∙ but_last line (lines_of rest) (some_line rest)

line_last : (left line : List ℕ) → lines_of left ≡ line ∷ [] → lines_in left ≡ []
line_last left line e = ap all_but_last e

pub at_some : {X : Type 0} (now : X → List ℕ) (o : Option X) (left line : List ℕ) (r : X) → o ≡ Some r → MatchOption o (lines_of left ≡ line ∷ []) (λ x. lines_of left ≡ line ∷ lines_of (now x)) → lines_of left ≡ line ∷ lines_of (now r)
at_some now o left line r e h = subst (λ p. MatchOption p (lines_of left ≡ line ∷ []) (λ x. lines_of left ≡ line ∷ lines_of (now x))) e h

pub at_none : {X : Type 0} (now : X → List ℕ) (o : Option X) (left line : List ℕ) → o ≡ None → MatchOption o (lines_of left ≡ line ∷ []) (λ x. lines_of left ≡ line ∷ lines_of (now x)) → lines_of left ≡ line ∷ []
at_none now o left line e h = subst (λ p. MatchOption p (lines_of left ≡ line ∷ []) (λ x. lines_of left ≡ line ∷ lines_of (now x))) e h

-- behind a line more
pub named_next : (s : ℕ) (left line rest : List ℕ) (old new : Option (List ℕ)) → lines_of left ≡ line ∷ lines_of rest → new ≡ or_name old (name_in s line) → or_name new (first_name s (lines_in rest)) ≡ or_name old (first_name s (lines_in left))
named_next s left line rest old new e f =
    ap (λ n. or_name n (first_name s (lines_in rest))) f ∙ or_assoc old (name_in s line) (first_name s (lines_in rest)) ∙ ap (λ ls. or_name old (first_name s ls)) (sym (line_more left line rest e))

pub named_last : (s : ℕ) (left line : List ℕ) (old : Option (List ℕ)) → lines_of left ≡ line ∷ [] → old ≡ or_name old (first_name s (lines_in left))
named_last s left line old e = or_none old ∙ ap (λ ls. or_name old (first_name s ls)) (sym (line_last left line e))

-- FILES

-- the lines of the files from one on
abbrev pub lines_from : List (List ℕ) → ℕ → List (List ℕ)
lines_from texts i = flat_map lines_in (drop i texts)

lines_more : (texts : List (List ℕ)) (i : ℕ) (item : List ℕ) → i < length texts → item ≡ get_or texts i item → lines_from texts i ≡ lines_in item ++ lines_from texts (i + 1)
lines_more texts i item lt e = ap (flat_map lines_in) (drop-cons texts i item lt ∙ ap (λ (t : List ℕ). t ∷ drop (suc i) texts) (sym e)) ∙ rw add-one refl

pub file_next : (s : ℕ) (texts : List (List ℕ)) (i : ℕ) (item text : List ℕ) (old new : Option (List ℕ)) → i < length texts → item ≡ get_or texts i item → text ≡ item → new ≡ or_name old (first_name s (lines_in text))
    → or_name new (first_name s (lines_from texts (i + 1))) ≡ or_name old (first_name s (lines_from texts i))
file_next s texts i item text old new lt e t f =
    ap (λ n. or_name n (first_name s (lines_from texts (i + 1)))) (f ∙ ap (λ x. or_name old (first_name s (lines_in x))) t)
    ∙ or_assoc old (first_name s (lines_in item)) (first_name s (lines_from texts (i + 1)))
    ∙ ap (or_name old) (sym (first_append s (lines_in item) (lines_from texts (i + 1))) ∙ ap (first_name s) (sym (lines_more texts i item lt e)))

pub files_last : (s : ℕ) (texts : List (List ℕ)) (i : ℕ) (old : Option (List ℕ)) → length texts ≡ i → old ≡ or_name old (first_name s (lines_from texts i))
files_last s texts i old e = or_none old ∙ ap (λ ts. or_name old (first_name s (flat_map lines_in ts))) (sym (drop_all i texts (omega arith)))

-- ONE NAME

same_number : (a b : ℕ) → (a == b) ≡ true → a ≡ b
same_number a b e = grind (arith, nat_tests, e)

module _ (F : ℕ → Option (List ℕ)) (site : ℕ) (name : List ℕ) where
  -- a site that has a name keeps it
  pub name_kept : is_some (F site) ≡ true → (s : ℕ) → F s ≡ or_name (F s) (given site name s)
  name_kept some s = name_kept_by_cases (site == s) refl
    where
      kept : (o : Option (List ℕ)) (later : Option (List ℕ)) → is_some o ≡ true → o ≡ or_name o later
      kept (Some n) later e = refl
      kept None later e = absurd (let z : false ≡ true = e in cc)

      name_kept_by_cases : (b : Bool) → (site == s) ≡ b → F s ≡ or_name (F s) (cond b (Some name) None)
      name_kept_by_cases true e = kept (F s) (Some name) (ap (λ t. is_some (F t)) (sym (same_number site s e)) ∙ some)
      name_kept_by_cases false e = or_none (F s)

  pub name_put : is_some (F site) ≡ false → (s : ℕ) → cond (site == s) (Some name) (F s) ≡ or_name (F s) (given site name s)
  name_put none s = name_put_by_cases (site == s) refl
    where
      put : (o : Option (List ℕ)) → is_some o ≡ false → Some name ≡ or_name o (Some name)
      put None e = refl
      put (Some n) e = absurd (let z : true ≡ false = e in cc)

      name_put_by_cases : (b : Bool) → (site == s) ≡ b → cond b (Some name) (F s) ≡ or_name (F s) (cond b (Some name) None)
      name_put_by_cases true e = put (F s) (ap (λ t. is_some (F t)) (sym (same_number site s e)) ∙ none)
      name_put_by_cases false e = or_none (F s)

-- NO NAME

no_site : (said : Result LogLine LogCause) → IfOk said (HasOneOf (codes "@") false) → None ≡ site_of_said said
no_site (Err cause) h = refl
no_site (Ok lines.Version) h = refl
no_site (Ok (lines.Strand t i)) h = refl
no_site (Ok (lines.Act act)) h = refl
no_site (Ok (lines.Name site)) h = absurd (let z : true ≡ false = h in cc)
no_site (Ok lines.Comment) h = refl
no_site (Ok lines.End) h = refl

-- a line that begins otherwise names no site
pub other_line : (line : List ℕ) → begins_with (codes "@") line ≡ false → None ≡ site_in line
other_line line e = no_site (line_of line) (subst (λ (b : Bool). IfOk (line_of line) (HasOneOf (codes "@") b)) e (letters_tell (codes "@") line))
