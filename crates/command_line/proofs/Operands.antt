-- Words without a leading hyphen are positional arguments.
use Rattle.command_line.proofs.Common.{◌≡◌, ◌∙◌, ◌&&◌, ℕ, Bool, cond, codes, true, false, refl, sym, ap, ap₂, List, [], ◌∷◌, Option, Some, None, true≢false, bytes_eq-Decides, option_and_then, is_some, fold, option_map_or, bytes_eq, long_of, long_of_rest, short_of, short_of_rest, strip_byte, Held, Row, Step, Text, Walk, after_step, arg_by_index, finished, idle, is_empty, long_or_other, nothing_held, rows_after, settled, short_or_plain, to_positional, trailing, value, word_met, Shape, Kinds, or_else, check_fault, flag_word_fault, level_fault, positional_fault, settle_fault, step_fault, stray_fault, turn_fault, word_fault, bundle_fault, is_unsigned_in, SettingsValue, digits_value, without_leading_plus, asked_command, command_line, file_in, options_in, settings_in, IsOperand, AsksForMake, Check, Run, Replay, Model, Races, Image, Make, Verify, Options}
use Rattle.clap.specs.Walk.{walked}
use Rattle.clap.specs.Faults.{defaults_fault, walk_fault}
use Rattle.clap.specs.declared.error.kind.ErrorKind.TheVariants as kind
use Rattle.clap.proofs.OnLiterals.{clap_on_literals}
use Rattle.command_line.specs.declared.line.CommandLine.{CommandLine}
use Rattle.command_line.proofs.Shapes.{check_shape, limited_shape, make_shape, runner_shape, verify_shape}

pub no_dashes : (word : Text) → IsOperand word → bytes_eq word (45 ∷ 45 ∷ []) ≡ false
no_dashes word h = no_dashes_by_cases (bytes_eq word (45 ∷ 45 ∷ [])) refl
  where
    no_dashes_by_cases : (b : Bool) → bytes_eq word (45 ∷ 45 ∷ []) ≡ b → b ≡ false
    no_dashes_by_cases false e = refl
    no_dashes_by_cases true e =
        let is : word ≡ 45 ∷ 45 ∷ [] = (bytes_eq-Decides word (45 ∷ 45 ∷ [])).0 e in
        absurd (true≢false (ap is_some (ap (strip_byte 45) (sym is) ∙ h)))

pub no_long : (word : Text) → IsOperand word → long_of word ≡ None
no_long word h = ap (λ (o : Option Text). option_and_then long_of_rest (option_and_then (strip_byte 45) o)) h

pub no_short : (word : Text) → IsOperand word → short_of word ≡ None
no_short word h = ap (λ (o : Option Text). option_and_then short_of_rest o) h

-- the walk between two words, when no option waits for a value
abbrev pub walk_at : Held → ℕ → Walk
walk_at h position = record { held = h; waiting = idle; position = position; is_trailing = false; stopped = None }

module _ (s : Shape) (word : Text) (operand : IsOperand word) where
  met_is : (h : Held) (position : ℕ) → word_met s.rules [] false idle position word h ≡ (h, value)
  met_is h position =
      let first : word_met s.rules [] false idle position word h ≡ long_or_other s.rules idle word None h =
      ap₂ (λ (b : Bool) (l : Option (Text × Option Text)). cond b (h, trailing position) (long_or_other s.rules idle word l h)) (no_dashes word operand) (no_long word operand) in
      first ∙ ap (λ (o : Option Text). short_or_plain s.rules idle word o h) (no_short word operand)

  walked_is : (h : Held) (position : ℕ) → walked s.rules [] (walk_at h position) word ≡ to_positional s.rules (arg_by_index s.rules position) word (walk_at h position) h
  unfolding walked
  walked_is h position = ap (λ (m : Held × Step). after_step s.rules word (walk_at h position) m.0 m.1) (met_is h position)

  turn_is : (h : Held) (position : ℕ) → turn_fault s [] (walk_at h position) word
      ≡ option_map_or (λ a. positional_fault s.rules s.args_override_self a h) (arg_by_index s.rules position) (stray_fault s)
  turn_is h position =
      let none : word_fault s [] false idle word h ≡ [] =
      ap₂ (λ (b : Bool) (l : Option (Text × Option Text)). cond b [] (flag_word_fault s.rules s.args_override_self l word h)) (no_dashes word operand) (no_long word operand)
      ∙ ap (λ (o : Option Text). option_map_or (λ flags. bundle_fault s.rules s.args_override_self flags h) o []) (no_short word operand) in
      ap₂ (λ (k : Kinds) (m : Held × Step). or_else k (step_fault s position m.0 m.1)) none (met_is h position)

-- one level, by its walk
abbrev pub level : Shape → Kinds → Walk → Kinds
level s walk_kinds w = or_else walk_kinds
    (or_else (settle_fault s.rules s.args_override_self w.held)
    (or_else (defaults_fault (settled s.rules w.held).rows s.rules) (check_fault s (finished s.rules w.held) false)))

-- the line of a command, by the faults of its own level and its matches
abbrev pub line_by : Text → Kinds → List Row → Option CommandLine
line_by name kinds rows = cond (is_empty (or_else kinds [])) (asked_command name rows) None

module _ (s : Shape) (file : Text) (operand : IsOperand file) where
  file_level : level_fault s [] nothing_held (file ∷ []) false []
      ≡ level s (or_else (option_map_or (λ a. positional_fault s.rules s.args_override_self a nothing_held) (arg_by_index s.rules 1) (stray_fault s)) [])
      (to_positional s.rules (arg_by_index s.rules 1) file (walk_at nothing_held 1) nothing_held)
  unfolding walk_fault
  file_level = ap₂ (λ (k : Kinds) (w : Walk). level s (or_else k []) w) (turn_is s file operand nothing_held 1) (walked_is s file operand nothing_held 1)

  file_rows : rows_after s.rules [] (file ∷ []) ≡ finished s.rules (to_positional s.rules (arg_by_index s.rules 1) file (walk_at nothing_held 1) nothing_held).held
  file_rows = ap (λ (w : Walk). finished s.rules w.held) (walked_is s file operand nothing_held 1)

-- a command of this name has this shape, and asks for this
pub record IsCommand (name : Text) (s : Shape) (line : List Row → CommandLine) : Type 0 where
  pub one : (word : Text) → command_line (name ∷ word ∷ []) ≡ line_by name (level_fault s [] nothing_held (word ∷ []) false []) (rows_after s.rules [] (word ∷ []))
  pub two : (first second : Text) → command_line (name ∷ first ∷ second ∷ [])
      ≡ line_by name (level_fault s [] nothing_held (first ∷ second ∷ []) false []) (rows_after s.rules [] (first ∷ second ∷ []))
  pub asks : (rows : List Row) → asked_command name rows ≡ Some (line rows)

abbrev pub IsRunner : Text → (Option Text → Options → CommandLine) → Type 0
IsRunner name line = IsCommand name (runner_shape name) (λ rows. line (file_in rows) (options_in rows))

check_is : IsCommand (codes "check") check_shape (λ rows. Check (file_in rows))
unfolding clap_on_literals
check_is = record { one = λ word. refl; two = λ first second. refl; asks = λ rows. refl }

pub run_is : IsRunner (codes "run") Run
unfolding clap_on_literals
run_is = record { one = λ word. refl; two = λ first second. refl; asks = λ rows. refl }

pub replay_is : IsRunner (codes "replay") Replay
unfolding clap_on_literals
replay_is = record { one = λ word. refl; two = λ first second. refl; asks = λ rows. refl }

pub model_is : IsRunner (codes "model") Model
unfolding clap_on_literals
model_is = record { one = λ word. refl; two = λ first second. refl; asks = λ rows. refl }

abbrev IsLimited : Text → (Option Text → SettingsValue → CommandLine) → Type 0
IsLimited name line = IsCommand name (limited_shape name) (λ rows. line (file_in rows) (settings_in rows))

races_is : IsLimited (codes "races") Races
unfolding clap_on_literals
races_is = record { one = λ word. refl; two = λ first second. refl; asks = λ rows. refl }

image_is : IsLimited (codes "image") Image
unfolding clap_on_literals
image_is = record { one = λ word. refl; two = λ first second. refl; asks = λ rows. refl }

verify_is : IsCommand (codes "verify") verify_shape (λ rows. Verify (file_in rows))
unfolding clap_on_literals
verify_is = record { one = λ word. refl; two = λ first second. refl; asks = λ rows. refl }

-- the walk over a word that is the file, if the first argument is one
abbrev file_walk : Shape → Text → Walk
file_walk s file = to_positional s.rules (arg_by_index s.rules 1) file (walk_at nothing_held 1) nothing_held

abbrev file_kinds : Shape → Kinds
file_kinds s = or_else (option_map_or (λ a. positional_fault s.rules s.args_override_self a nothing_held) (arg_by_index s.rules 1) (stray_fault s)) []

named : (name : Text) (s : Shape) (line : List Row → CommandLine) → IsCommand name s line → (file : Text) → IsOperand file
    → level s (file_kinds s) (file_walk s file) ≡ [] → command_line (name ∷ file ∷ []) ≡ Some (line (finished s.rules (file_walk s file).held))
named name s line is file h none =
    is.one file ∙ ap₂ (line_by name) (file_level s file h ∙ none) (file_rows s file h) ∙ is.asks (finished s.rules (file_walk s file).held)

runner_none : (name file : Text) → level (runner_shape name) (file_kinds (runner_shape name)) (file_walk (runner_shape name) file) ≡ []
unfolding defaults_fault
runner_none name file = refl

check_none : (file : Text) → level check_shape (file_kinds check_shape) (file_walk check_shape file) ≡ []
unfolding defaults_fault
check_none file = refl

limited_none : (name file : Text) → level (limited_shape name) (file_kinds (limited_shape name)) (file_walk (limited_shape name) file) ≡ []
unfolding defaults_fault
limited_none name file = refl

verify_none : (file : Text) → level verify_shape (file_kinds verify_shape) (file_walk verify_shape file) ≡ []
unfolding defaults_fault
verify_none file = refl

-- ---- `make`

abbrev run_flag : List Text
run_flag = codes "--run" ∷ []

module _ (seed size : Text) (h1 : IsOperand seed) (h2 : IsOperand size) where
  -- the seed waits to be used
  abbrev seed_held : Held
  seed_held = (to_positional make_shape.rules (arg_by_index make_shape.rules 1) seed (walk_at nothing_held 1) nothing_held).held

  abbrev size_walk : Walk
  size_walk = to_positional make_shape.rules (arg_by_index make_shape.rules 2) size (walk_at seed_held 2) seed_held

  abbrev turn_at : ℕ → Held → Kinds
  turn_at position h = option_map_or (λ a. positional_fault make_shape.rules false a h) (arg_by_index make_shape.rules position) (stray_fault make_shape)

  -- of both words, and of what follows them
  abbrev make_kinds : List Text → Kinds
  make_kinds rest = or_else (turn_at 1 nothing_held) (or_else (turn_at 2 seed_held) (walk_fault make_shape [] size_walk rest))

  make_level : (rest : List Text) → level_fault make_shape [] nothing_held (seed ∷ size ∷ rest) false [] ≡ level make_shape (make_kinds rest) (fold (walked make_shape.rules []) size_walk rest)
  unfolding walk_fault
  make_level rest =
      let after : Walk → Kinds = λ w. walk_fault make_shape [] w rest in
      let then : Walk → Walk = λ w. fold (walked make_shape.rules []) w rest in
      ap₂ (λ (k : Kinds) (w : Walk). level make_shape (or_else k (or_else (turn_fault make_shape [] w size) (after (walked make_shape.rules [] w size)))) (then (walked make_shape.rules [] w size)))
      (turn_is make_shape seed h1 nothing_held 1) (walked_is make_shape seed h1 nothing_held 1)
      ∙ ap₂ (λ (k : Kinds) (w : Walk). level make_shape (or_else (turn_at 1 nothing_held) (or_else k (after w))) (then w)) (turn_is make_shape size h2 seed_held 2) (walked_is make_shape size h2 seed_held 2)

  make_rows : (rest : List Text) → rows_after make_shape.rules [] (seed ∷ size ∷ rest) ≡ finished make_shape.rules (fold (walked make_shape.rules []) size_walk rest).held
  make_rows rest =
      ap (λ (w : Walk). finished make_shape.rules (fold (walked make_shape.rules []) (walked make_shape.rules [] w size) rest).held) (walked_is make_shape seed h1 nothing_held 1)
      ∙ ap (λ (w : Walk). finished make_shape.rules (fold (walked make_shape.rules []) w rest).held) (walked_is make_shape size h2 seed_held 2)

abbrev pub value_kinds_by : Bool → Kinds
value_kinds_by b = or_else (cond b [] (kind.ValueValidation ∷ [])) []

abbrev both_kinds : Bool → Bool → Kinds
both_kinds a b = or_else (or_else (value_kinds_by a) []) (or_else (value_kinds_by b) [])

both_level : (seed size : Text) (h1 : IsOperand seed) (h2 : IsOperand size)
    → level make_shape (make_kinds seed size h1 h2 []) (size_walk seed size h1 h2)
    ≡ both_kinds (is_unsigned_in 0 4294967295 seed) (is_unsigned_in 1 1000 size)
unfolding walk_fault defaults_fault
both_level seed size h1 h2 = refl

abbrev flagged_kinds : Bool → Bool → Kinds
flagged_kinds a b = or_else (or_else (value_kinds_by a) (or_else (or_else (or_else (value_kinds_by b) []) []) [])) []

flagged_level : (seed size : Text) (h1 : IsOperand seed) (h2 : IsOperand size)
    → level make_shape (make_kinds seed size h1 h2 run_flag) (walked make_shape.rules [] (size_walk seed size h1 h2) (codes "--run"))
    ≡ flagged_kinds (is_unsigned_in 0 4294967295 seed) (is_unsigned_in 1 1000 size)
unfolding clap_on_literals
flagged_level seed size h1 h2 = refl

line_of_make : (seed size : Text) → command_line (codes "make" ∷ seed ∷ size ∷ [])
    ≡ line_by (codes "make") (level_fault make_shape [] nothing_held (seed ∷ size ∷ []) false []) (rows_after make_shape.rules [] (seed ∷ size ∷ []))
unfolding clap_on_literals
line_of_make seed size = refl

line_of_flagged : (seed size : Text) → command_line (codes "make" ∷ seed ∷ size ∷ run_flag)
    ≡ line_by (codes "make") (level_fault make_shape [] nothing_held (seed ∷ size ∷ run_flag) false []) (rows_after make_shape.rules [] (seed ∷ size ∷ run_flag))
unfolding clap_on_literals
line_of_flagged seed size = refl

asked_flagged : (seed size : Text) (h1 : IsOperand seed) (h2 : IsOperand size)
    → asked_command (codes "make") (finished make_shape.rules (walked make_shape.rules [] (size_walk seed size h1 h2) (codes "--run")).held)
    ≡ Some (Make (digits_value 10 (without_leading_plus seed)) (digits_value 10 (without_leading_plus size)) true)
unfolding clap_on_literals
asked_flagged seed size h1 h2 = refl

by_both : {X : Type 0} (a b : Bool) (x : Option X) → cond (is_empty (or_else (both_kinds a b) [])) x None ≡ cond (a && b) x None
by_both true true x = refl
by_both true false x = refl
by_both false true x = refl
by_both false false x = refl

made : AsksForMake [] false
made seed size h1 h2 =
    line_of_make seed size
    ∙ ap₂ (line_by (codes "make")) (make_level seed size h1 h2 [] ∙ both_level seed size h1 h2) (make_rows seed size h1 h2 [])
    ∙ by_both (is_unsigned_in 0 4294967295 seed) (is_unsigned_in 1 1000 size) _
