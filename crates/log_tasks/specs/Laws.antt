-- What holds of all logs.
use Rattle.std.specs.Prelude.{◌≡◌, ◌⊎◌, ℕ, List, [], ◌∷◌, ◌++◌}
use Rattle.log_tasks.specs.Common.{GraphTurn, GraphStrand, Event, acts_on, events_of}
use Rattle.log_tasks.specs.Numbers.{AreNumbers}
use Rattle.log_tasks.specs.Rows.{AreRows}

-- each strand does the same in both logs
abbrev pub DoTheSame : List Event → List Event → Type 0
DoTheSame events others = (u : GraphStrand) → acts_on events u ≡ acts_on others u

-- logs whose strands do the same have one graph
abbrev pub FileOrderIsNothing : Type 0
FileOrderIsNothing =
    (events others : List Event) (numbers numbers' : List ℕ) (rows rows' : List (List GraphTurn))
    → DoTheSame events others → AreNumbers events numbers → AreRows events numbers rows → AreNumbers others numbers' → AreRows others numbers' rows'
    → (numbers ≡ numbers') × (rows ≡ rows')

-- no strand does something in both files
abbrev pub ShareNoStrand : List ℕ → List ℕ → Type 0
ShareNoStrand one other = (u : GraphStrand) → (acts_on (events_of (one ∷ [])) u ≡ []) ⊎ (acts_on (events_of (other ∷ [])) u ≡ [])

-- two files that have no strand in common may change places
abbrev pub FilesMayChangePlaces : Type 0
FilesMayChangePlaces =
    (before after : List (List ℕ)) (one other : List ℕ) → ShareNoStrand one other
    → DoTheSame (events_of (before ++ one ∷ (other ∷ after))) (events_of (before ++ other ∷ (one ∷ after)))
