-- What is read is within the limits.
use Rattle.log_lines.proofs.Common.{◌≡◌, ◌<◌, ◌≤◌, ◌*◌, ◌^◌, ◌==◌, ℕ, Bool, true, false, List, [], ◌∷◌, length, drop, not, cond, arith, refl, Option, Some, None, Result, Ok, Err, IfOk, IfSome, nat_lt, nat_le, ◌&&◌, is_ascii_digit, all_ascii_digits, AllDigits, digits_value, and_parts, nat_tests, digits_value-lt, LogCause, LogPlace, AccessKind, LogVerb, ActVerb, ◌>>=◌, words_of, has_length, has_leading_zero, digits_number, numeral_value, or_bad, number_at, has_word, nothing_left, is_site, site_at, goes_on, IsLogNumber, IsLogPlace, IsSite, IsLogReference, IsAct, IsLine, task_limit, strand_limit, access_limit, location_limit, place_end, is_small, checked_place, place_of_runs, place_of_run, place_of_length, place_at, act_of_access, reference_of, act_of_birth, number_alone, below, task_alone, line_of_strand, line_of_name, line_of_version, verb_of, act_by, line_by, line_behind, line_of_words, line_of}
use Rattle.log_lines.specs.declared.cause.LogCause.TheVariants as causes
use Rattle.log_lines.specs.declared.line.LogLine.TheVariants as lines
use Rattle.log_lines.specs.declared.verb.LogVerb.TheVariants as verbs
use Rattle.log_lines.specs.declared.verb.ActVerb.TheVariants as act_verbs
use Rattle.log_lines.proofs.Digits.{longer_is_more}

-- STEPS

pub bind_ok : {A B : Type 0} (P : A → Type 0) (Q : B → Type 0) (r : Result A LogCause) (f : A → Result B LogCause) → IfOk r P → ((x : A) → P x → IfOk (f x) Q) → IfOk (r >>= f) Q
bind_ok P Q (Ok x) f h g = g x h
bind_ok P Q (Err e) f h g = tt

pub any_ok : {A : Type 0} (r : Result A LogCause) → IfOk r (λ x. Unit {0})
any_ok (Ok x) = tt
any_ok (Err e) = tt

pub if_ok : {A : Type 0} (P : A → Type 0) (b : Bool) (r s : Result A LogCause) → IfOk r P → IfOk s P → IfOk (cond b r s) P
if_ok P true r s h g = h
if_ok P false r s h g = g

-- where a test passed
pub guard_ok : {A : Type 0} (P : A → Type 0) (b : Bool) (x : A) (e : LogCause) → (b ≡ true → P x) → IfOk (cond b (Ok x) (Err e)) P
guard_ok P true x e h = h refl
guard_ok P false x e h = tt

-- NUMBERS

are_digits : (ds : List ℕ) → all_ascii_digits ds ≡ true → AllDigits 10 ds
are_digits [] e = tt
are_digits (c ∷ cs) e = let both = and_parts (is_ascii_digit c) (all_ascii_digits cs) e in (let a = both.0 in grind (arith, nat_tests, a), are_digits cs both.1)

few_digits : (ds : List ℕ) → has_length ds ≡ true → length ds ≤ 18
few_digits [] e = omega arith
few_digits (c ∷ cs) e = grind (arith, nat_tests, e)

digits_below : (ds : List ℕ) (b : Bool) → all_ascii_digits ds ≡ b → has_length ds ≡ true → IfSome (cond b (Some (digits_value 10 ds)) None) IsLogNumber
digits_below ds true e few = let a = digits_value-lt 10 ds (are_digits ds e) in let b = longer_is_more (length ds) (few_digits ds few) in let n : digits_value 10 ds < 10 ^ 18 = omega (arith, a, b) in n
digits_below ds false e few = tt

number_by : (w : List ℕ) (b : Bool) → (has_length w && not (has_leading_zero w)) ≡ b → IfSome (cond b (digits_number w) None) IsLogNumber
number_by w true e = digits_below w (all_ascii_digits w) refl (and_parts (has_length w) (not (has_leading_zero w)) e).0
number_by w false e = tt

number_below : (w : List ℕ) → IfSome (numeral_value w) IsLogNumber
number_below w = number_by w (has_length w && not (has_leading_zero w)) refl

bad_below : (n : Option ℕ) → IfSome n IsLogNumber → IfOk (or_bad n) IsLogNumber
bad_below (Some n) h = h
bad_below None h = tt

word_below : (w : List ℕ) → IfOk (or_bad (numeral_value w)) IsLogNumber
word_below w = bad_below (numeral_value w) (number_below w)

-- the number of the next word
abbrev IsFirst : ℕ × List (List ℕ) → Type 0
IsFirst x = IsLogNumber x.0

next_below : (ws : List (List ℕ)) → IfOk (number_at ws) IsFirst
next_below [] = tt
next_below (w ∷ ws) = bind_ok IsLogNumber IsFirst (or_bad (numeral_value w)) (λ n. Ok (n, ws)) (word_below w) (λ n h. h)

site_below : (ws : List (List ℕ)) → IfOk (site_at ws) IsSite
site_below [] = tt
site_below (w ∷ ws) =
    if_ok IsSite (is_site w) (or_bad (numeral_value (drop 1 w)) >>= λ site. nothing_left ws >>= λ none. Ok (Some site)) (Err causes.WrongCount)
    (bind_ok IsLogNumber IsSite (or_bad (numeral_value (drop 1 w))) (λ site. nothing_left ws >>= λ none. Ok (Some site)) (word_below (drop 1 w))
    (λ site h. bind_ok (λ x. Unit {0}) IsSite (nothing_left ws) (λ none. Ok (Some site)) (any_ok (nothing_left ws)) (λ none g. h)))
    tt

-- POSITIONS

abbrev IsFirstPlace : LogPlace × List (List ℕ) → Type 0
IsFirstPlace x = IsLogPlace x.0

record Small (p : LogPlace) : Type 0 where
  pub length : 1 ≤ p.length
  pub runs : 1 ≤ p.runs
  pub few : p.length * p.runs ≤ access_limit
  pub within : place_end p ≤ location_limit

small_place : (p : LogPlace) → is_small p ≡ true → Small p
small_place p e =
    let a = and_parts (nat_le 1 p.length && nat_le 1 p.runs && nat_le (p.length * p.runs) access_limit) (nat_le (place_end p) location_limit) e in
    let b = and_parts (nat_le 1 p.length && nat_le 1 p.runs) (nat_le (p.length * p.runs) access_limit) a.0 in
    let c = and_parts (nat_le 1 p.length) (nat_le 1 p.runs) b.0 in
    let c0 = c.0 in let c1 = c.1 in let b1 = b.1 in let a1 = a.1 in
    record { length = grind (arith, nat_tests, c0); runs = grind (arith, nat_tests, c1); few = grind (arith, nat_tests, b1); within = grind (arith, nat_tests, a1) }

place_passes : (p : LogPlace) → IsLogNumber p.block → IsLogNumber p.offset → IsLogNumber p.apart → is_small p ≡ true → nat_le p.length p.apart ≡ true → IsLogPlace p
place_passes p b o a e f =
    let s = small_place p e in
    record { block = b; offset = o; length = s.length; runs = s.runs; apart = a; few = s.few; within = s.within; distinct = grind (arith, nat_tests, f) }

place_by : (p : LogPlace) → IsLogNumber p.block → IsLogNumber p.offset → IsLogNumber p.apart → (b : Bool) → is_small p ≡ b → IfOk (cond b (cond (nat_le p.length p.apart) (Ok p) (Err causes.RunsOverlap)) (Err causes.OverLimit)) IsLogPlace
place_by p b o a true e = guard_ok IsLogPlace (nat_le p.length p.apart) p causes.RunsOverlap (place_passes p b o a e)
place_by p b o a false e = tt

checked_below : (p : LogPlace) → IsLogNumber p.block → IsLogNumber p.offset → IsLogNumber p.apart → IfOk (checked_place p) IsLogPlace
checked_below p b o a = place_by p b o a (is_small p) refl

runs_below : (block offset length : ℕ) (ws : List (List ℕ)) → IsLogNumber block → IsLogNumber offset → IfOk (place_of_runs block offset length ws) IsFirstPlace
runs_below block offset length ws b o =
    bind_ok IsFirst IsFirstPlace (number_at ws) _ (next_below ws)
    (λ runs h. bind_ok IsFirst IsFirstPlace (number_at runs.1) _ (next_below runs.1)
    (λ apart g. bind_ok IsLogPlace IsFirstPlace (checked_place (record { block = block; offset = offset; length = length; runs = runs.0; apart = apart.0 })) _ (checked_below (record { block = block; offset = offset; length = length; runs = runs.0; apart = apart.0 }) b o g) (λ p f. f)))

run_below : (block offset length : ℕ) (ws : List (List ℕ)) → IsLogNumber block → IsLogNumber offset → IsLogNumber length → IfOk (place_of_run block offset length ws) IsFirstPlace
run_below block offset length ws b o l =
    bind_ok IsLogPlace IsFirstPlace (checked_place (record { block = block; offset = offset; length = length; runs = 1; apart = length })) _
    (checked_below (record { block = block; offset = offset; length = length; runs = 1; apart = length }) b o l) (λ p f. f)

length_below : (block offset : ℕ) (ws : List (List ℕ)) → IsLogNumber block → IsLogNumber offset → IfOk (place_of_length block offset ws) IsFirstPlace
length_below block offset ws b o =
    bind_ok IsFirst IsFirstPlace (number_at ws) _ (next_below ws)
    (λ x l. if_ok IsFirstPlace (goes_on x.1) (place_of_runs block offset x.0 x.1) (place_of_run block offset x.0 x.1) (runs_below block offset x.0 x.1 b o) (run_below block offset x.0 x.1 b o l))

pub one_below : IsLogNumber 1
one_below = omega arith

place_below : (ws : List (List ℕ)) → IfOk (place_at ws) IsFirstPlace
place_below ws =
    bind_ok IsFirst IsFirstPlace (number_at ws) _ (next_below ws)
    (λ b hb. bind_ok IsFirst IsFirstPlace (number_at b.1) _ (next_below b.1)
    (λ o ho. if_ok IsFirstPlace (goes_on o.1) (place_of_length b.0 o.0 o.1) (place_of_run b.0 o.0 1 o.1) (length_below b.0 o.0 o.1 hb ho) (run_below b.0 o.0 1 o.1 hb ho one_below)))

-- ACTS

access_below : (kind : AccessKind) (ws : List (List ℕ)) → IfOk (act_of_access kind ws) IsAct
access_below kind ws =
    bind_ok IsFirstPlace IsAct (place_at ws) _ (place_below ws)
    (λ p hp. bind_ok IsSite IsAct (site_at p.1) _ (site_below p.1) (λ s hs. record { place = hp; site = hs }))

reference_below : (ws : List (List ℕ)) → IfOk (reference_of ws) IsLogReference
reference_below ws =
    bind_ok IsFirst IsLogReference (number_at ws) _ (next_below ws)
    (λ b hb. bind_ok IsFirst IsLogReference (number_at b.1) _ (next_below b.1)
    (λ o ho. bind_ok IsFirst IsLogReference (number_at o.1) _ (next_below o.1)
    (λ t ht. bind_ok IsSite IsLogReference (site_at t.1) _ (site_below t.1) (λ s hs. record { block = hb; offset = ho; target = ht; site = hs }))))

birth_below : (ws : List (List ℕ)) → IfOk (act_of_birth ws) IsAct
birth_below ws =
    bind_ok IsFirst IsAct (number_at ws) _ (next_below ws)
    (λ b hb. bind_ok IsFirst IsAct (number_at b.1) _ (next_below b.1)
    (λ l hl. bind_ok (λ x. Unit {0}) IsAct (nothing_left l.1) _ (any_ok (nothing_left l.1)) (λ none g. (hb, hl))))

alone_below : (ws : List (List ℕ)) → IfOk (number_alone ws) IsLogNumber
alone_below ws =
    bind_ok IsFirst IsLogNumber (number_at ws) _ (next_below ws)
    (λ n h. bind_ok (λ x. Unit {0}) IsLogNumber (nothing_left n.1) _ (any_ok (nothing_left n.1)) (λ none g. h))

limited : (limit n : ℕ) → IfOk (below limit n) (λ m. m < limit)
limited limit n = guard_ok (λ m. m < limit) (nat_lt n limit) n causes.OverLimit (λ e. grind (arith, nat_tests, e))

task_below : (ws : List (List ℕ)) → IfOk (task_alone ws) (λ t. t < task_limit)
task_below ws = bind_ok IsLogNumber (λ t. t < task_limit) (number_alone ws) (below task_limit) (alone_below ws) (λ n h. limited task_limit n)

act_below : (verb : ActVerb) (ws : List (List ℕ)) → IfOk (act_by verb ws) IsAct
act_below (act_verbs.Access kind) ws = access_below kind ws
act_below act_verbs.Yield ws = bind_ok IsLogReference IsAct (reference_of ws) _ (reference_below ws) (λ r h. h)
act_below act_verbs.Store ws = bind_ok IsLogReference IsAct (reference_of ws) _ (reference_below ws) (λ r h. h)
act_below act_verbs.Birth ws = birth_below ws
act_below act_verbs.Release ws = bind_ok IsLogNumber IsAct (number_alone ws) _ (alone_below ws) (λ n h. h)
act_below act_verbs.Work ws = bind_ok IsLogNumber IsAct (number_alone ws) _ (alone_below ws) (λ n h. h)
act_below act_verbs.Spawn ws = bind_ok (λ t. t < task_limit) IsAct (task_alone ws) _ (task_below ws) (λ n h. h)
act_below act_verbs.Join ws = bind_ok (λ t. t < task_limit) IsAct (task_alone ws) _ (task_below ws) (λ n h. h)
act_below act_verbs.Finish ws = bind_ok (λ x. Unit {0}) IsAct (nothing_left ws) _ (any_ok (nothing_left ws)) (λ none g. tt)

-- LINES

strand_below : (ws : List (List ℕ)) → IfOk (line_of_strand ws) IsLine
strand_below ws =
    bind_ok IsFirst IsLine (number_at ws) _ (next_below ws)
    (λ t ht. bind_ok IsLogNumber IsLine (number_alone t.1) _ (alone_below t.1)
    (λ s hs. bind_ok (λ n. n < task_limit) IsLine (below task_limit t.0) _ (limited task_limit t.0)
    (λ u hu. bind_ok (λ n. n < strand_limit) IsLine (below strand_limit s) _ (limited strand_limit s) (λ v hv. (hu, hv)))))

name_below : (ws : List (List ℕ)) → IfOk (line_of_name ws) IsLine
name_below ws =
    bind_ok IsFirst IsLine (number_at ws) _ (next_below ws)
    (λ s hs. guard_ok IsLine (has_word s.1) (lines.Name s.0) causes.WrongCount (λ e. hs))

version_below : (ws : List (List ℕ)) → IfOk (line_of_version ws) IsLine
version_below ws =
    bind_ok IsLogNumber IsLine (number_alone ws) _ (alone_below ws)
    (λ n h. guard_ok IsLine (n == 1) lines.Version causes.UnknownVersion (λ e. tt))

verb_below : (verb : LogVerb) (ws : List (List ℕ)) → IfOk (line_by verb ws) IsLine
verb_below (verbs.Act verb) ws = bind_ok IsAct IsLine (act_by verb ws) _ (act_below verb ws) (λ a h. h)
verb_below verbs.Strand ws = strand_below ws
verb_below verbs.Name ws = name_below ws
verb_below verbs.End ws = bind_ok (λ x. Unit {0}) IsLine (nothing_left ws) _ (any_ok (nothing_left ws)) (λ none g. tt)
verb_below verbs.Version ws = version_below ws

behind_below : (verb : Option LogVerb) (ws : List (List ℕ)) → IfOk (line_behind verb ws) IsLine
behind_below None ws = tt
behind_below (Some verb) ws = verb_below verb ws

words_below : (ws : List (List ℕ)) → IfOk (line_of_words ws) IsLine
words_below [] = tt
words_below (w ∷ ws) = behind_below (verb_of w) ws

-- what is read is within the limits
pub lines_within : (line : List ℕ) → IfOk (line_of line) IsLine
lines_within [] = tt
lines_within (c ∷ cs) = if_ok IsLine (c == 35) (Ok lines.Comment) (line_of_words (words_of (c ∷ cs))) tt (words_below (words_of (c ∷ cs)))
