-- What is known of births and releases.
use Rattle.std.specs.Prelude.{◌≡◌, ◌<◌, ◌++◌, ℕ, Option, Some, None, List, length, slice_get, nat_eq, MatchOption, if◌then◌else◌}
use Rattle.std.specs.HashMap.{get}
use Rattle.log_births.specs.Common.{option_is, GraphStrand, on_strand, LogTasks, StrandStandsAt, Act, Event}
use Rattle.log_births.specs.declared.lines.LineAt.{LineAt}
use Rattle.log_births.specs.declared.lines.BlockLines.{BlockLines}
use Rattle.log_births.specs.declared.lines.Lifetimes.{Lifetimes}
use Rattle.log_births.specs.Blocks.{born, released}

abbrev pub line_told : BlockLines → ℕ → Option LineAt
line_told known b = get nat_eq known.lines b

-- what is known of block b after an act that does something to a block
abbrev pub birth_noted : Option ℕ → Option ℕ → ℕ → ℕ → Option LineAt → Option LineAt
birth_noted block None line b before = before
birth_noted block (Some place) line b before = if option_is block b then Some (record { place = place; line = line }) else before

-- these acts of strand s are those of the log from one on
pub record IsPart (events : List Event) (first : ℕ) (s : GraphStrand) (acts : List Act) : Type 0 where
  pub before : List Event
  pub after : List Event
  pub whole : events ≡ before ++ (on_strand s acts ++ after)
  pub count : length before ≡ first

-- act n does something to block b, and its strand stands at a place of the order
pub record DoesToBlockAt (does : Act → Option ℕ) (tasks : LogTasks) (order : List GraphStrand) (events : List Event) (b n place : ℕ) : Type 0 where
  pub event : Event
  pub at : slice_get events n ≡ Some event
  pub block : does event.act ≡ Some b
  pub stands : StrandStandsAt tasks order event.strand place

-- of the acts below n one that does something to the block, if there is one
abbrev pub IsLineOf : (Act → Option ℕ) → LogTasks → List GraphStrand → List Event → ℕ → ℕ → Option LineAt → Type 0
IsLineOf does tasks order events n b line =
    MatchOption line ((m place : ℕ) → m < n → DoesToBlockAt does tasks order events b m place → ⊥) (λ at. DoesToBlockAt does tasks order events b at.line at.place)

abbrev pub Know : (Act → Option ℕ) → LogTasks → List GraphStrand → List Event → ℕ → BlockLines → Type 0
Know does tasks order events n known = (b : ℕ) → IsLineOf does tasks order events n b (line_told known b)

-- the births and releases among the acts below n
pub record KnowAll (tasks : LogTasks) (order : List GraphStrand) (events : List Event) (n : ℕ) (known : Lifetimes) : Type 0 where
  pub births : Know born tasks order events n known.births
  pub releases : Know released tasks order events n known.releases
