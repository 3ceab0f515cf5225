-- What is known of the places of a log's strands.
use Rattle.std.specs.Prelude.{ℕ, Bool, true, false, Option, Some, List, if◌then◌else◌}
use Rattle.std.specs.HashMap.{get}
use Rattle.fork_graph.specs.declared.graph.GraphStrand.{GraphStrand}
use Rattle.fork_graph.specs.Graph.{strand}
use Rattle.log_pieces.specs.Claims.{is_pair, is_that}
use Rattle.log_tasks.specs.declared.tasks.LogTasks.{LogTasks}
use Rattle.log_strands.specs.declared.places.PlaceTable.{PlaceTable}
use Rattle.log_strands.specs.Places.{IsPlaceOf}

abbrev pub place_told : PlaceTable → ℕ → ℕ → Option ℕ
place_told table t i = get is_pair table.places (t, i)

-- when strand s of the log was found at a place
abbrev pub noted_place : PlaceTable → GraphStrand → ℕ → ℕ → ℕ → Option ℕ
noted_place table s place t i = if is_that s t i then Some place else place_told table t i

abbrev pub noted_if : Bool → PlaceTable → GraphStrand → ℕ → ℕ → ℕ → Option ℕ
noted_if true table s place t i = noted_place table s place t i
noted_if false table s place t i = place_told table t i

-- all places are known
abbrev pub KnowsPlaces : PlaceTable → LogTasks → List GraphStrand → Type 0
KnowsPlaces table log order = (t i : ℕ) → IsPlaceOf log order (strand t i) (place_told table t i)
