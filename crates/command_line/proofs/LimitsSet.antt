-- An option and its value set one limit.
use Rattle.command_line.proofs.Common.{◌≡◌, ◌∙◌, ℕ, Bool, cond, codes, true, false, refl, ap, ap₂, List, [], ◌∷◌, Option, Some, None, option_map_or, digits_value, without_leading_plus, Held, Rule, Step, Text, Walk, after_step, finished, is_empty, long_or_other, nothing_held, option, plain_word, rows_after, short_or_plain, trailing, walk_from, word_met, Kinds, or_else, bundle_fault, flag_word_fault, level_fault, step_fault, turn_fault, word_fault, is_unsigned_in, SettingsValue, usual_settings, file_in, options_in, usual_options, IsOperand, Sets, Options}
use Rattle.clap.specs.Walk.{walked}
use Rattle.clap.specs.Faults.{walk_fault}
use Rattle.clap.proofs.OnLiterals.{clap_on_literals}
use Rattle.command_line.specs.declared.line.CommandLine.{CommandLine}
use Rattle.command_line.proofs.Operands.{IsRunner, level, line_by, no_dashes, no_long, no_short, value_kinds_by}
use Rattle.command_line.proofs.Shapes.{runner_shape}

-- the rules are those of any name
abbrev rules : List Rule
rules = (runner_shape []).rules

-- the option waits for its value
abbrev waiting_held : Text → Held
waiting_held id = record { rows = []; pending = Some (id, []); skip = 0 }

abbrev waiting_at : Text → Walk
waiting_at id = record { held = waiting_held id; waiting = option id; position = 1; is_trailing = false; stopped = None }

-- and gets it
abbrev taken_word : Text → Text → Held × Step
taken_word id word = plain_word rules (option id) word (waiting_held id)

abbrev taken_at : Text → Text → Walk
taken_at id word = after_step rules word (waiting_at id) (taken_word id word).0 (taken_word id word).1

module _ (name id word : Text) (operand : IsOperand word) where
  value_met : word_met rules [] false (option id) 1 word (waiting_held id) ≡ taken_word id word
  value_met =
      let first : word_met rules [] false (option id) 1 word (waiting_held id) ≡ long_or_other rules (option id) word None (waiting_held id) =
      ap₂ (λ (b : Bool) (l : Option (Text × Option Text)). cond b (waiting_held id, trailing 1) (long_or_other rules (option id) word l (waiting_held id))) (no_dashes word operand) (no_long word operand) in
      first ∙ ap (λ (o : Option Text). short_or_plain rules (option id) word o (waiting_held id)) (no_short word operand)

  value_walked : walked rules [] (waiting_at id) word ≡ taken_at id word
  unfolding walked
  value_walked = ap (λ (m : Held × Step). after_step rules word (waiting_at id) m.0 m.1) value_met

  value_turn : turn_fault (runner_shape name) [] (waiting_at id) word ≡ step_fault (runner_shape name) 1 (taken_word id word).0 (taken_word id word).1
  value_turn =
      let none : word_fault (runner_shape name) [] false (option id) word (waiting_held id) ≡ [] =
      ap₂ (λ (b : Bool) (l : Option (Text × Option Text)). cond b [] (flag_word_fault rules false l word (waiting_held id))) (no_dashes word operand) (no_long word operand)
      ∙ ap (λ (o : Option Text). option_map_or (λ flags. bundle_fault rules false flags (waiting_held id)) o []) (no_short word operand) in
      ap₂ (λ (k : Kinds) (m : Held × Step). or_else k (step_fault (runner_shape name) 1 m.0 m.1)) none value_met

abbrev value_kinds_then : Bool → Kinds
value_kinds_then b = or_else (value_kinds_by b) []

by_value : {X : Type 0} (b : Bool) (x : Option X) → cond (is_empty (or_else (value_kinds_then b) [])) x None ≡ cond b x None
by_value true x = refl
by_value false x = refl

-- what an option and its value do in any command that runs a program
record IsLimit (flag id : Text) (least most : ℕ) (limits : ℕ → SettingsValue) : Type 0 where
  waits : walked rules [] (walk_from nothing_held) flag ≡ waiting_at id
  none : (name : Text) → turn_fault (runner_shape name) [] (walk_from nothing_held) flag ≡ []
  kinds : (name word : Text) → level (runner_shape name) (or_else [] (or_else (step_fault (runner_shape name) 1 (taken_word id word).0 (taken_word id word).1) [])) (taken_at id word) ≡ value_kinds_then (is_unsigned_in least most word)
  file : (word : Text) → file_in (finished rules (taken_at id word).held) ≡ None
  options : (word : Text) → options_in (finished rules (taken_at id word).held) ≡ record usual_options { settings = limits (digits_value 10 (without_leading_plus word)) }

sets : (flag id : Text) (least most : ℕ) (limits : ℕ → SettingsValue) → IsLimit flag id least most limits → (name : Text) (line : Option Text → Options → CommandLine) → IsRunner name line
    → Sets name line flag least most limits
unfolding walk_fault
sets flag id least most limits is name line runner word h =
    let s = runner_shape name in
    let given : Options = record usual_options { settings = limits (digits_value 10 (without_leading_plus word)) } in
    let level_is : level_fault s [] nothing_held (flag ∷ word ∷ []) false [] ≡ value_kinds_then (is_unsigned_in least most word) =
    ap₂ (λ (k : Kinds) (w : Walk). level s (or_else k (or_else (turn_fault s [] w word) [])) (walked rules [] w word)) (is.none name) is.waits
    ∙ ap₂ (λ (k : Kinds) (w : Walk). level s (or_else [] (or_else k [])) w) (value_turn name id word h) (value_walked name id word h)
    ∙ is.kinds name word in
    let rows_are : rows_after rules [] (flag ∷ word ∷ []) ≡ finished rules (taken_at id word).held =
    ap (λ (w : Walk). finished rules (walked rules [] w word).held) is.waits ∙ ap (λ (w : Walk). finished rules w.held) (value_walked name id word h) in
    runner.two flag word ∙ ap₂ (line_by name) level_is rows_are
    ∙ ap (λ (x : Option CommandLine). cond (is_empty (or_else (value_kinds_then (is_unsigned_in least most word)) [])) x None)
    (runner.asks (finished rules (taken_at id word).held) ∙ ap₂ (λ f o. Some (line f o)) (is.file word) (is.options word))
    ∙ by_value (is_unsigned_in least most word) (Some (line None given))

workers_is : IsLimit (codes "--workers") (codes "workers") 1 64 (λ n. record usual_settings { workers = n })
unfolding clap_on_literals
workers_is = record { waits = refl; none = λ name. refl; kinds = λ name word. refl; file = λ word. refl; options = λ word. refl }

fuel_is : IsLimit (codes "--fuel") (codes "fuel") 1 1000000000 (λ n. record usual_settings { fuel = n })
unfolding clap_on_literals
fuel_is = record { waits = refl; none = λ name. refl; kinds = λ name word. refl; file = λ word. refl; options = λ word. refl }

chunks_is : IsLimit (codes "--chunks") (codes "chunks") 2 65536 (λ n. record usual_settings { chunks = n })
unfolding clap_on_literals
chunks_is = record { waits = refl; none = λ name. refl; kinds = λ name word. refl; file = λ word. refl; options = λ word. refl }

leaf_is : IsLimit (codes "--leaf") (codes "leaf") 16 1000000 (λ n. record usual_settings { leaf = n })
unfolding clap_on_literals
leaf_is = record { waits = refl; none = λ name. refl; kinds = λ name word. refl; file = λ word. refl; options = λ word. refl }

inner_is : IsLimit (codes "--inner") (codes "inner") 16 1000000 (λ n. record usual_settings { inner = n })
unfolding clap_on_literals
inner_is = record { waits = refl; none = λ name. refl; kinds = λ name word. refl; file = λ word. refl; options = λ word. refl }
