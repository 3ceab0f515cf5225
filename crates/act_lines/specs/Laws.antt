-- What the lines of acts are right about.
use Rattle.std.specs.Prelude.{◌≡◌, ℕ, None, List, map}
use Rattle.log_form.specs.Events.{events_of}
use Rattle.log_form.specs.Faults.{log_fault}
use Rattle.act_lines.specs.ActLines.{act_lines}

-- in a log without a faulty line, they say just what happens, act by act
abbrev pub LinesSayWhatHappens : Type 0
LinesSayWhatHappens = (texts : List (List ℕ)) → log_fault texts ≡ None → map (λ l. l.act) (act_lines texts) ≡ map (λ e. e.act) (events_of texts)
