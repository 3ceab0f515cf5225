-- How far a search for the lines of a strand has come.
use Rattle.std.specs.Prelude.{◌≤◌, ℕ, ◌==◌, ◌&&◌, Bool, Option, IfSome}
use Rattle.fork_graph.specs.declared.graph.GraphStrand.{GraphStrand}
use Rattle.fork_graph.specs.Graph.{strand}
use Rattle.log_refusals.specs.declared.search.Open.{Open}

abbrev pub open_strand : Open → GraphStrand
open_strand o = strand o.task o.index

abbrev pub is_here : GraphStrand → GraphStrand → Bool
is_here u v = (v.task == u.task) && (v.index == u.index)

-- the open strand's number is at most this
abbrev pub IsUpTo : ℕ → Option Open → Type 0
IsUpTo n here = IfSome here (λ o. o.index ≤ n)
