-- The races of a log, by its report and by the accesses that it tells.
use Rattle.std.specs.Prelude.{◌≡◌, ◌↔◌, ℕ, List}
use Rattle.plain_vec.specs.Members.{In}
use Rattle.log_races.specs.Touches.{touches_of}
use Rattle.log_verdict.specs.Verdict.{IsRacing}
use Rattle.log_walk.specs.Value.{WalkValue, IsWalked}
use Rattle.run_race_laws.specs.Accesses.{ToldAccess, accesses_told}
use Rattle.run_race_laws.specs.Races.{ToldRaceAt}
use Rattle.told_graph_laws.specs.ToldGraph.{AreToldInOrder}
use Rattle.told_graph_laws.specs.below.fork_graph.{Extent}
use Rattle.told_graph_laws.specs.below.log_form.{Event}
use Rattle.told_graph_laws.specs.below.log_tasks.{IsLog, LogTasks}
use Rattle.told_graph_laws.specs.below.run_log_laws.{IsCutRun}
use Rattle.told_graph_laws.specs.below.run_turn_laws.{turns_told}
use Rattle.told_graph_laws.specs.below.run_turn_laws as acts

-- no block is released
abbrev pub IsUnreleased : List Event → Type 0
IsUnreleased events = (e : Event) → In events e → (block : ℕ) → e.act ≡ acts.Release block → ⊥

-- two accesses that are told race at the location
abbrev pub IsToldRacing : List Event → ℕ → ℕ → Type 0
IsToldRacing events block x = (a : ToldAccess) × (b : ToldAccess) × ToldRaceAt (turns_told events) (accesses_told events) block x a b

abbrev pub LogRacesAreTold : Type 0
LogRacesAreTold =
    (n : ℕ) (events : List Event) (extent : Extent) (log : LogTasks) (walk : WalkValue)
    → AreToldInOrder n events → IsUnreleased events → IsCutRun (turns_told events) n → IsLog events extent log → IsWalked walk → walk.tasks ≡ log.turns
    → (block x : ℕ) → IsRacing walk (touches_of events log walk.order) block x ↔ IsToldRacing events block x
