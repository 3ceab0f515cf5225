-- A line that is read begins with the letter of what it says.
use Rattle.log_lines.proofs.Common.{◌≡◌, ◌==◌, ℕ, Bool, true, false, List, [], ◌∷◌, codes, cond, arith, refl, ap, ◌∙◌, Option, Some, None, Result, Ok, Err, IfOk, IfSome, nat_tests, onto_first, bytes_eq, LogCause, LogLine, LogVerb, ActVerb, is_space, words_of, number_at, has_word, nothing_left, site_at, place_at, reference_of, number_alone, below, task_alone, line_of_strand, letter_is, letter_verb, long_verb, act_by, line_by, line_behind, line_of_words, line_of, task_limit, strand_limit, is_among, begins_with, letter_of_kind, letter_of, HasOneOf}
use Rattle.log_lines.specs.declared.cause.LogCause.TheVariants as causes
use Rattle.log_lines.specs.declared.line.AccessKind.TheVariants as kinds
use Rattle.log_lines.specs.declared.line.LogLine.TheVariants as lines
use Rattle.log_lines.specs.declared.verb.LogVerb.TheVariants as verbs
use Rattle.log_lines.specs.declared.verb.ActVerb.TheVariants as act_verbs
use Rattle.log_lines.proofs.Within.{bind_ok, any_ok, if_ok, guard_ok}

-- VERBS

abbrev verb_letter : ActVerb → ℕ
verb_letter (act_verbs.Access kind) = letter_of_kind kind
verb_letter act_verbs.Yield = 103
verb_letter act_verbs.Store = 112
verb_letter act_verbs.Birth = 97
verb_letter act_verbs.Release = 102
verb_letter act_verbs.Work = 107
verb_letter act_verbs.Spawn = 43
verb_letter act_verbs.Join = 45
verb_letter act_verbs.Finish = 46

-- the letter may announce the verb
abbrev Announces : ℕ → LogVerb → Type 0
Announces c (verbs.Act verb) = verb_letter verb ≡ c
Announces c verbs.Name = 64 ≡ c
Announces c verbs.Strand = Unit {0}
Announces c verbs.Version = Unit {0}
Announces c verbs.End = Unit {0}

same_letter : (c d : ℕ) → (c == d) ≡ true → d ≡ c
same_letter c d e = grind (arith, nat_tests, e)

verb_if : (c : ℕ) (b : Bool) (verb : LogVerb) (otherwise : Option LogVerb) → (b ≡ true → Announces c verb) → IfSome otherwise (Announces c) → IfSome (cond b (Some verb) otherwise) (Announces c)
verb_if c true verb otherwise h g = h refl
verb_if c false verb otherwise h g = g

act_if : (c d : ℕ) (verb : ActVerb) (otherwise : Option LogVerb) → verb_letter verb ≡ d → IfSome otherwise (Announces c) → IfSome (cond (c == d) (Some (verbs.Act verb)) otherwise) (Announces c)
act_if c d verb otherwise is g = verb_if c (c == d) (verbs.Act verb) otherwise (λ e. is ∙ same_letter c d e) g

abbrev from_name : ℕ → Option LogVerb
from_name c = letter_is c (codes "@") verbs.Name None

abbrev from_finish : ℕ → Option LogVerb
from_finish c = letter_is c (codes ".") (verbs.Act act_verbs.Finish) (from_name c)

abbrev from_join : ℕ → Option LogVerb
from_join c = letter_is c (codes "-") (verbs.Act act_verbs.Join) (from_finish c)

abbrev from_spawn : ℕ → Option LogVerb
from_spawn c = letter_is c (codes "+") (verbs.Act act_verbs.Spawn) (from_join c)

abbrev from_strand : ℕ → Option LogVerb
from_strand c = letter_is c (codes "s") verbs.Strand (from_spawn c)

abbrev from_work : ℕ → Option LogVerb
from_work c = letter_is c (codes "k") (verbs.Act act_verbs.Work) (from_strand c)

abbrev from_release : ℕ → Option LogVerb
from_release c = letter_is c (codes "f") (verbs.Act act_verbs.Release) (from_work c)

abbrev from_birth : ℕ → Option LogVerb
from_birth c = letter_is c (codes "a") (verbs.Act act_verbs.Birth) (from_release c)

abbrev from_store : ℕ → Option LogVerb
from_store c = letter_is c (codes "p") (verbs.Act act_verbs.Store) (from_birth c)

abbrev from_yield : ℕ → Option LogVerb
from_yield c = letter_is c (codes "g") (verbs.Act act_verbs.Yield) (from_store c)

abbrev from_atomic_write : ℕ → Option LogVerb
from_atomic_write c = letter_is c (codes "W") (verbs.Act (act_verbs.Access kinds.AtomicWrite)) (from_yield c)

abbrev from_atomic_read : ℕ → Option LogVerb
from_atomic_read c = letter_is c (codes "R") (verbs.Act (act_verbs.Access kinds.AtomicRead)) (from_atomic_write c)

abbrev from_write : ℕ → Option LogVerb
from_write c = letter_is c (codes "w") (verbs.Act (act_verbs.Access kinds.Write)) (from_atomic_read c)

letter_announces : (c : ℕ) → IfSome (letter_verb c) (Announces c)
letter_announces c =
    act_if c 114 (act_verbs.Access kinds.Read) (from_write c) refl
    (act_if c 119 (act_verbs.Access kinds.Write) (from_atomic_read c) refl
    (act_if c 82 (act_verbs.Access kinds.AtomicRead) (from_atomic_write c) refl
    (act_if c 87 (act_verbs.Access kinds.AtomicWrite) (from_yield c) refl
    (act_if c 103 act_verbs.Yield (from_store c) refl
    (act_if c 112 act_verbs.Store (from_birth c) refl
    (act_if c 97 act_verbs.Birth (from_release c) refl
    (act_if c 102 act_verbs.Release (from_work c) refl
    (act_if c 107 act_verbs.Work (from_strand c) refl
    (verb_if c (c == 115) verbs.Strand (from_spawn c) (λ e. tt)
    (act_if c 43 act_verbs.Spawn (from_join c) refl
    (act_if c 45 act_verbs.Join (from_finish c) refl
    (act_if c 46 act_verbs.Finish (from_name c) refl
    (verb_if c (c == 64) verbs.Name None (same_letter c 64) tt)))))))))))))

long_announces : (c : ℕ) (w : List ℕ) → IfSome (long_verb w) (Announces c)
long_announces c w =
    verb_if c (bytes_eq w (codes "end")) verbs.End (cond (bytes_eq w (codes "hhlog")) (Some verbs.Version) None) (λ e. tt)
    (verb_if c (bytes_eq w (codes "hhlog")) verbs.Version None (λ e. tt) tt)

-- WHAT LINES SAY

-- the letter may begin the line
abbrev Begins : ℕ → LogLine → Type 0
Begins c (lines.Act act) = letter_of act ≡ c
Begins c (lines.Name site) = 64 ≡ c
Begins c lines.Version = Unit {0}
Begins c (lines.Strand task strand) = Unit {0}
Begins c lines.Comment = Unit {0}
Begins c lines.End = Unit {0}

act_begins : (verb : ActVerb) (ws : List (List ℕ)) → IfOk (act_by verb ws) (λ a. letter_of a ≡ verb_letter verb)
act_begins (act_verbs.Access kind) ws =
    bind_ok (λ x. Unit {0}) (λ a. letter_of a ≡ letter_of_kind kind) (place_at ws) _ (any_ok (place_at ws))
    (λ p h. bind_ok (λ x. Unit {0}) (λ a. letter_of a ≡ letter_of_kind kind) (site_at p.1) _ (any_ok (site_at p.1)) (λ s g. refl))
act_begins act_verbs.Yield ws = bind_ok (λ x. Unit {0}) (λ a. letter_of a ≡ 103) (reference_of ws) _ (any_ok (reference_of ws)) (λ r h. refl)
act_begins act_verbs.Store ws = bind_ok (λ x. Unit {0}) (λ a. letter_of a ≡ 112) (reference_of ws) _ (any_ok (reference_of ws)) (λ r h. refl)
act_begins act_verbs.Birth ws =
    bind_ok (λ x. Unit {0}) (λ a. letter_of a ≡ 97) (number_at ws) _ (any_ok (number_at ws))
    (λ b h. bind_ok (λ x. Unit {0}) (λ a. letter_of a ≡ 97) (number_at b.1) _ (any_ok (number_at b.1))
    (λ l g. bind_ok (λ x. Unit {0}) (λ a. letter_of a ≡ 97) (nothing_left l.1) _ (any_ok (nothing_left l.1)) (λ none f. refl)))
act_begins act_verbs.Release ws = bind_ok (λ x. Unit {0}) (λ a. letter_of a ≡ 102) (number_alone ws) _ (any_ok (number_alone ws)) (λ n h. refl)
act_begins act_verbs.Work ws = bind_ok (λ x. Unit {0}) (λ a. letter_of a ≡ 107) (number_alone ws) _ (any_ok (number_alone ws)) (λ n h. refl)
act_begins act_verbs.Spawn ws = bind_ok (λ x. Unit {0}) (λ a. letter_of a ≡ 43) (task_alone ws) _ (any_ok (task_alone ws)) (λ n h. refl)
act_begins act_verbs.Join ws = bind_ok (λ x. Unit {0}) (λ a. letter_of a ≡ 45) (task_alone ws) _ (any_ok (task_alone ws)) (λ n h. refl)
act_begins act_verbs.Finish ws = bind_ok (λ x. Unit {0}) (λ a. letter_of a ≡ 46) (nothing_left ws) _ (any_ok (nothing_left ws)) (λ none h. refl)

strand_begins : (c : ℕ) (ws : List (List ℕ)) → IfOk (line_of_strand ws) (Begins c)
strand_begins c ws =
    bind_ok (λ x. Unit {0}) (Begins c) (number_at ws) _ (any_ok (number_at ws))
    (λ t h. bind_ok (λ x. Unit {0}) (Begins c) (number_alone t.1) _ (any_ok (number_alone t.1))
    (λ s g. bind_ok (λ x. Unit {0}) (Begins c) (below task_limit t.0) _ (any_ok (below task_limit t.0))
    (λ u f. bind_ok (λ x. Unit {0}) (Begins c) (below strand_limit s) _ (any_ok (below strand_limit s)) (λ v e. tt))))

verb_begins : (c : ℕ) (verb : LogVerb) (ws : List (List ℕ)) → Announces c verb → IfOk (line_by verb ws) (Begins c)
verb_begins c (verbs.Act verb) ws e = bind_ok (λ a. letter_of a ≡ verb_letter verb) (Begins c) (act_by verb ws) _ (act_begins verb ws) (λ a h. h ∙ e)
verb_begins c verbs.Strand ws e = strand_begins c ws
verb_begins c verbs.Name ws e =
    bind_ok (λ x. Unit {0}) (Begins c) (number_at ws) _ (any_ok (number_at ws)) (λ s h. guard_ok (Begins c) (has_word s.1) (lines.Name s.0) causes.WrongCount (λ some. e))
verb_begins c verbs.End ws e = bind_ok (λ x. Unit {0}) (Begins c) (nothing_left ws) _ (any_ok (nothing_left ws)) (λ none h. tt)
verb_begins c verbs.Version ws e =
    bind_ok (λ x. Unit {0}) (Begins c) (number_alone ws) _ (any_ok (number_alone ws)) (λ n h. guard_ok (Begins c) (n == 1) lines.Version causes.UnknownVersion (λ one. tt))

behind_begins : (c : ℕ) (verb : Option LogVerb) (ws : List (List ℕ)) → IfSome verb (Announces c) → IfOk (line_behind verb ws) (Begins c)
behind_begins c None ws h = tt
behind_begins c (Some verb) ws h = verb_begins c verb ws h

words_begin : (c : ℕ) (b : Bool) (ps : List (List ℕ)) → IfOk (line_of_words (cond b ([] ∷ ps) (onto_first c ps))) (Begins c)
words_begin c true ps = tt
words_begin c false [] = behind_begins c (letter_verb c) [] (letter_announces c)
words_begin c false ([] ∷ ps) = behind_begins c (letter_verb c) ps (letter_announces c)
words_begin c false ((d ∷ ds) ∷ ps) = behind_begins c (long_verb (c ∷ d ∷ ds)) ps (long_announces c (c ∷ d ∷ ds))

line_begins : (c : ℕ) (cs : List ℕ) → IfOk (line_of (c ∷ cs)) (Begins c)
line_begins c cs = if_ok (Begins c) (c == 35) (Ok lines.Comment) (line_of_words (words_of (c ∷ cs))) tt (words_begin c (is_space c) (words_of cs))

-- SOME LETTERS

has_one : (letters : List ℕ) (c : ℕ) (l : LogLine) → Begins c l → HasOneOf letters (is_among letters c) l
has_one letters c (lines.Act act) e = ap (is_among letters) e
has_one letters c (lines.Name site) e = ap (is_among letters) e
has_one letters c lines.Version e = tt
has_one letters c (lines.Strand task strand) e = tt
has_one letters c lines.Comment e = tt
has_one letters c lines.End e = tt

one_said : (letters : List ℕ) (c : ℕ) (said : Result LogLine LogCause) → IfOk said (Begins c) → IfOk said (HasOneOf letters (is_among letters c))
one_said letters c (Err cause) h = tt
one_said letters c (Ok l) h = has_one letters c l h

-- what a line says has one of the letters just if the line begins with one
pub letters_tell : (letters line : List ℕ) → IfOk (line_of line) (HasOneOf letters (begins_with letters line))
letters_tell letters [] = tt
letters_tell letters (c ∷ cs) = one_said letters c (line_of (c ∷ cs)) (line_begins c cs)
