-- What a command line without a fault has.
use Rattle.command_line.proofs.Common.{◌≡◌, ◌∙◌, ◌||◌, ◌⊎◌, ℕ, Bool, cond, codes, true, false, not, refl, sym, ap, inl, inr, List, [], ◌∷◌, length, Option, Some, None, is_some, true≢false, find, option_and_then, option_map_or, bytes_eq, bytes_eq-Decides, Row, Text, answers_to, finished, is_empty, nothing_held, one_of, has_row, rows_after, settled, stop_after, walk, Shape, entered, is_simple, label_of, names_of, rows_at, subcommand_of, is_given, IsAmong, Kinds, check_fault, entered_fault, fault_of, is_simple_and_free, level_fault, ErrorKind, accepts-Accepts, accepts, app, asked_command, command_line, FitsCommand, FitsFound, HasFlag, ArgumentIsNumber, HasOptions, HasSettings}
use Rattle.std.specs.Prelude.{option_map}
use Rattle.clap.specs.Simple.{App}
use Rattle.clap.specs.declared.builder.value_parser.ValueParser.TheVariants as vp
use Rattle.clap.specs.declared.error.kind.ErrorKind.TheVariants as kind
use Rattle.command_line.specs.declared.line.CommandLine.{CommandLine}
use Rattle.command_line.proofs.Shapes.{check_shape, limited_shape, make_shape, plain_limited, plain_make, plain_runner, runner_shape, verify_shape, whole}
use Rattle.command_line.proofs.Rows.{IsPassed, Passes, default_row, each, found, given_row, level_passed, never_zero, text_in, some_kind}

pub is_good : is_simple_and_free app ≡ true
is_good = refl

pub is_plain_app : is_simple app ≡ true
is_plain_app = refl

-- ---- one level

abbrev PassedRows : Shape → List Row → Type 0
PassedRows s rows = each (IsPassed s.rules) rows

number_has : (s : Shape) (rows : List Row) (id : Text) (least most : ℕ) → PassedRows s rows → ((t : Text) → Passes s.rules id t → accepts false (vp.Unsigned least most) t ≡ true)
    → has_row id rows ≡ true → ArgumentIsNumber id least most rows
number_has s rows id least most h is has =
    let t = text_in id s.rules rows h has in
    (t.0, t.1, accepts-Accepts false (vp.Unsigned least most) t.0 (is t.0 t.2))

flag_has : (s : Shape) (rows : List Row) (id : Text) → PassedRows s rows → ((t : Text) → Passes s.rules id t → (bytes_eq t (codes "true") || bytes_eq t (codes "false")) ≡ true)
    → has_row id rows ≡ true → HasFlag id rows
flag_has s rows id h is has =
    let t = text_in id s.rules rows h has in
    flag_has_by_cases t.0 t.1 (bytes_eq t.0 (codes "true")) refl (is t.0 t.2)
  where
    flag_has_by_cases : (t : Text) → one_of id rows ≡ Some t → (b : Bool) → bytes_eq t (codes "true") ≡ b → (b || bytes_eq t (codes "false")) ≡ true → HasFlag id rows
    flag_has_by_cases t at true e f = inl (at ∙ ap Some ((bytes_eq-Decides t (codes "true")).0 e))
    flag_has_by_cases t at false e f = inr (at ∙ ap Some ((bytes_eq-Decides t (codes "false")).0 f))

record Fits (s : Shape) (words : List Text) : Type 0 where
  fits : FitsCommand s.name (rows_after s.rules [] words)
  is_asked : is_some (asked_command s.name (rows_after s.rules [] words)) ≡ true

abbrev FitsAll : Shape → Type 0
FitsAll s = (words : List Text) → level_fault s [] nothing_held words false [] ≡ [] → Fits s words

other_name : (a b : Text) → bytes_eq b b ≡ true → bytes_eq a b ≡ false → a ≡ b → ⊥
other_name a b same other e = true≢false (sym same ∙ ap (λ t. bytes_eq t b) (sym e) ∙ other)

-- not a command that runs a program
record IsOther (name : Text) : Type 0 where
  run : bytes_eq name (codes "run") ≡ false
  replay : bytes_eq name (codes "replay") ≡ false
  model : bytes_eq name (codes "model") ≡ false

-- neither `races` nor `image`
record HasNoLimits (name : Text) : Type 0 where
  races : bytes_eq name (codes "races") ≡ false
  image : bytes_eq name (codes "image") ≡ false

fits_alone : (name : Text) (rows : List Row) → IsOther name → HasNoLimits name → bytes_eq name (codes "make") ≡ false → FitsCommand name rows
fits_alone name rows other none make = record {
  run = λ n. absurd (other_name name (codes "run") refl other.run n);
  replay = λ n. absurd (other_name name (codes "replay") refl other.replay n);
  model = λ n. absurd (other_name name (codes "model") refl other.model n);
  races = λ n. absurd (other_name name (codes "races") refl none.races n);
  image = λ n. absurd (other_name name (codes "image") refl none.image n);
  make = λ n. absurd (other_name name (codes "make") refl make n);
}

fits_check : FitsAll check_shape
fits_check words e = record {
  fits = fits_alone (codes "check") (rows_after check_shape.rules [] words) (record { run = refl; replay = refl; model = refl }) (record { races = refl; image = refl }) refl;
  is_asked = refl;
}

-- the matches of a command that runs a program
runner_options : (name : Text) (words : List Text) → level_fault (runner_shape name) [] nothing_held words false [] ≡ [] → HasOptions (rows_after (runner_shape name).rules [] words)
runner_options name words e =
    let s = runner_shape name in
    let held = (walk s.rules [] nothing_held words).held in
    let rows = rows_after s.rules [] words in
    let h = (level_passed s (plain_runner name) [] nothing_held words false [] tt e).0 in
    let start = (settled s.rules held).rows in
    record {
      settings = record {
        workers = number_has s rows (codes "workers") 1 64 h (λ t p. p _ refl) (default_row (codes "workers") s.rules refl start);
        fuel = number_has s rows (codes "fuel") 1 1000000000 h (λ t p. p _ refl) (default_row (codes "fuel") s.rules refl start);
        chunks = number_has s rows (codes "chunks") 2 65536 h (λ t p. p _ refl) (default_row (codes "chunks") s.rules refl start);
        leaf = number_has s rows (codes "leaf") 16 1000000 h (λ t p. p _ refl) (default_row (codes "leaf") s.rules refl start);
        inner = number_has s rows (codes "inner") 16 1000000 h (λ t p. p _ refl) (default_row (codes "inner") s.rules refl start);
      };
      report = flag_has s rows (codes "report") h (λ t p. p _ refl) (default_row (codes "report") s.rules refl start);
      trace = flag_has s rows (codes "trace") h (λ t p. p _ refl) (default_row (codes "trace") s.rules refl start);
    }

fits_runner : (name : Text) → HasNoLimits name → bytes_eq name (codes "make") ≡ false → ((rows : List Row) → is_some (asked_command name rows) ≡ true)
    → FitsAll (runner_shape name)
fits_runner name none make known words e =
    let options = runner_options name words e in
    record {
      fits = record {
        run = λ n. options;
        replay = λ n. options;
        model = λ n. options;
        races = λ n. absurd (other_name name (codes "races") refl none.races n);
        image = λ n. absurd (other_name name (codes "image") refl none.image n);
        make = λ n. absurd (other_name name (codes "make") refl make n);
      };
      is_asked = known (rows_after (runner_shape name).rules [] words);
    }

-- the matches of a command that only has limits
limited_limits : (name : Text) (words : List Text) → level_fault (limited_shape name) [] nothing_held words false [] ≡ [] → HasSettings (rows_after (limited_shape name).rules [] words)
limited_limits name words e =
    let s = limited_shape name in
    let held = (walk s.rules [] nothing_held words).held in
    let rows = rows_after s.rules [] words in
    let h = (level_passed s (plain_limited name) [] nothing_held words false [] tt e).0 in
    let start = (settled s.rules held).rows in
    record {
      workers = number_has s rows (codes "workers") 1 64 h (λ t p. p _ refl) (default_row (codes "workers") s.rules refl start);
      fuel = number_has s rows (codes "fuel") 1 1000000000 h (λ t p. p _ refl) (default_row (codes "fuel") s.rules refl start);
      chunks = number_has s rows (codes "chunks") 2 65536 h (λ t p. p _ refl) (default_row (codes "chunks") s.rules refl start);
      leaf = number_has s rows (codes "leaf") 16 1000000 h (λ t p. p _ refl) (default_row (codes "leaf") s.rules refl start);
      inner = number_has s rows (codes "inner") 16 1000000 h (λ t p. p _ refl) (default_row (codes "inner") s.rules refl start);
    }

fits_limited : (name : Text) → IsOther name → bytes_eq name (codes "make") ≡ false → ((rows : List Row) → is_some (asked_command name rows) ≡ true)
    → FitsAll (limited_shape name)
fits_limited name other make known words e =
    let limits = limited_limits name words e in
    record {
      fits = record {
        run = λ n. absurd (other_name name (codes "run") refl other.run n);
        replay = λ n. absurd (other_name name (codes "replay") refl other.replay n);
        model = λ n. absurd (other_name name (codes "model") refl other.model n);
        races = λ n. limits;
        image = λ n. limits;
        make = λ n. absurd (other_name name (codes "make") refl make n);
      };
      is_asked = known (rows_after (limited_shape name).rules [] words);
    }

fits_verify : FitsAll verify_shape
fits_verify words e = record {
  fits = fits_alone (codes "verify") (rows_after verify_shape.rules [] words) (record { run = refl; replay = refl; model = refl }) (record { races = refl; image = refl }) refl;
  is_asked = refl;
}

-- both are given if neither is missing
both_given : (a b : Bool) → cond (not a || (not b || false)) (kind.MissingRequiredArgument ∷ []) [] ≡ [] → (a ≡ true) × (b ≡ true)
both_given true true e = (refl, refl)
both_given true false e = absurd (some_kind kind.MissingRequiredArgument [] e)
both_given false b e = absurd (some_kind kind.MissingRequiredArgument [] e)

fits_make : FitsAll make_shape
fits_make words e =
    let s = make_shape in
    let held = (walk s.rules [] nothing_held words).held in
    let rows = rows_after s.rules [] words in
    let passed = level_passed s plain_make [] nothing_held words false [] tt e in
    let given = both_given (is_given (codes "SEED") rows) (is_given (codes "SIZE") rows) passed.2 in
    let start = (settled s.rules held).rows in
    record {
      fits = record {
        run = λ n. absurd (other_name (codes "make") (codes "run") refl refl n);
        replay = λ n. absurd (other_name (codes "make") (codes "replay") refl refl n);
        model = λ n. absurd (other_name (codes "make") (codes "model") refl refl n);
        races = λ n. absurd (other_name (codes "make") (codes "races") refl refl n);
        image = λ n. absurd (other_name (codes "make") (codes "image") refl refl n);
        make = λ n. record {
          seed = number_has s rows (codes "SEED") 0 4294967295 passed.0 (λ t p. p _ refl) (given_row (codes "SEED") rows given.0);
          size = number_has s rows (codes "SIZE") 1 1000 passed.0 (λ t p. p _ refl) (given_row (codes "SIZE") rows given.1);
          run = flag_has s rows (codes "run") passed.0 (λ t p. p _ refl) (default_row (codes "run") s.rules refl start);
        };
      };
      is_asked = refl;
    }

-- ---- the whole

abbrev IsFound : Option (Text × List Row) → Type 0
IsFound o = FitsFound o × (is_some o ≡ true → is_some (option_and_then (λ p. asked_command p.0 p.1) o) ≡ true)

entered_fits : (a : App) → each FitsAll a.subs → (stop : Option (Text × List Text)) → entered_fault a stop ≡ [] → IsFound (entered a stop)
entered_fits a h None e = (tt, λ s. s)
entered_fits a h (Some p) e = entered_fits_by_cases (find (λ s. answers_to p.0 (label_of s)) a.subs) refl e
  where
    entered_fits_by_cases : (o : Option Shape) → find (λ s. answers_to p.0 (label_of s)) a.subs ≡ o → option_map_or (λ s. level_fault s [] nothing_held p.1 false []) o [] ≡ []
        → IsFound (option_map (λ s. rows_at s p.1) o)
    entered_fits_by_cases None at f = (tt, λ s. s)
    entered_fits_by_cases (Some s) at f =
        let fit = (found FitsAll (λ x. answers_to p.0 (label_of x)) a.subs s h at).0 p.1 f in
        (fit.fits, λ _. fit.is_asked)

each_fits : each FitsAll whole.subs
each_fits =
    let none : (name : Text) → bytes_eq name (codes "races") ≡ false → bytes_eq name (codes "image") ≡ false → HasNoLimits name = λ name r i. record { races = r; image = i } in
    let runs_none : (name : Text) → bytes_eq name (codes "run") ≡ false → bytes_eq name (codes "replay") ≡ false → bytes_eq name (codes "model") ≡ false → IsOther name =
    λ name r p m. record { run = r; replay = p; model = m } in
    let races_fits : FitsAll (limited_shape (codes "races")) = fits_limited (codes "races") (runs_none _ refl refl refl) refl (λ rows. refl) in
    let image_fits : FitsAll (limited_shape (codes "image")) = fits_limited (codes "image") (runs_none _ refl refl refl) refl (λ rows. refl) in (
      fits_check,
      (
        fits_runner (codes "run") (none _ refl refl) refl (λ rows. refl),
        (
          fits_runner (codes "replay") (none _ refl refl) refl (λ rows. refl),
          (
            fits_runner (codes "model") (none _ refl refl) refl (λ rows. refl),
            (races_fits, (image_fits, (fits_make, (fits_verify, tt)))),
          ),
        ),
      ),
    )

pub record IsTaken (words : List Text) : Type 0 where
  pub fits : FitsFound (subcommand_of app words)
  pub met : is_some (subcommand_of app words) ≡ true
  pub is_asked : is_some (option_and_then (λ p. asked_command p.0 p.1) (subcommand_of app words)) ≡ true

pub taken : (words : List Text) → fault_of app words ≡ [] → IsTaken words
taken words e =
    let stop = stop_after whole.top.rules (names_of whole) words in
    let level = level_passed whole.top tt (names_of whole) nothing_held words (is_some (entered whole stop)) (entered_fault whole stop) tt e in
    let all = entered_fits whole each_fits stop level.1 in
    let some = check_met (is_some (entered whole stop)) level.2 in
    record { fits = all.0; met = some; is_asked = all.1 some }
  where
    check_met : (b : Bool) → check_fault whole.top (finished whole.top.rules (walk whole.top.rules (names_of whole) nothing_held words).held) b ≡ [] → b ≡ true
    check_met true f = refl
    check_met false f = absurd (some_kind kind.MissingSubcommand [] f)

-- ---- the answer

abbrev pub asked_at : Option (Text × List Row) → Option CommandLine
asked_at = option_and_then (λ p. asked_command p.0 p.1)

pub line_of : (words : List Text) → fault_of app words ≡ [] → asked_at (subcommand_of app words) ≡ command_line words
line_of words e = ap (λ (k : Kinds). cond (is_empty k) (asked_at (subcommand_of app words)) None) (sym e)

pub among : (k : ErrorKind) (ks : Kinds) → IsAmong k ks → is_empty ks ≡ false
among k [] h = absurd h
among k (x ∷ xs) h = never_zero (length xs)

pub no_line : (words : List Text) (k : ErrorKind) → (k ≡ kind.OutOfMemory → ⊥) → (k ≡ kind.OutOfMemory) ⊎ IsAmong k (fault_of app words)
    → (None ≡ command_line words) × (false ≡ is_empty (fault_of app words))
no_line words k other (inl is) = absurd (other is)
no_line words k other (inr h) =
    let some : is_empty (fault_of app words) ≡ false = among k (fault_of app words) h in
    (ap (λ b. cond b (asked_at (subcommand_of app words)) None) (sym some), sym some)
