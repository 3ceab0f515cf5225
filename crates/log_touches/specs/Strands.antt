-- The accesses of the strands of a log.
use Rattle.std.specs.Prelude.{ℕ, ◌+◌, List, [], ◌∷◌, filter}
use Rattle.std.specs.List.{flat_map}
use Rattle.fork_graph.specs.declared.graph.GraphStrand.{GraphStrand}
use Rattle.log_form.specs.Events.{Event, is_on}
use Rattle.race_scan.specs.declared.touch.Touch.{Touch}
use Rattle.log_places.specs.declared.region.Region.{Region}
use Rattle.log_touches.specs.Accesses.{touches_of_act, regions_of_act}

-- the locations that are accessed, whoever does it
abbrev pub regions_of_events : List Event → List Region
regions_of_events events = flat_map (λ e. regions_of_act e.act) events

-- what happens, each act with its number
abbrev pub numbered_from : ℕ → List Event → List (ℕ × Event)
numbered_from n [] = []
numbered_from n (e ∷ es) = (n, e) ∷ numbered_from (n + 1) es

-- of the events from number n on, the accesses of strand u, whose serial number is s, in a log that accesses these regions
abbrev pub touches_behind : List Region → GraphStrand → ℕ → ℕ → List Event → List Touch
touches_behind regions u s n events = flat_map (λ p. touches_of_act regions s p.0 p.1.act) (filter (λ p. is_on u p.1) (numbered_from n events))

-- the accesses of a strand, in the order of the log
abbrev pub touches_on : List Event → GraphStrand → ℕ → List Touch
touches_on events u s = touches_behind (regions_of_events events) u s 0 events
