-- What is known of the work of a log's strands.
use Rattle.std.specs.Prelude.{◌≡◌, ℕ, Option, Some, None, List}
use Rattle.std.specs.HashMap.{get}
use Rattle.fork_graph.specs.Graph.{strand}
use Rattle.log_pieces.specs.Claims.{is_pair}
use Rattle.log_strands.specs.below.log_form.{Event, acts_on}
use Rattle.log_weights.specs.declared.units.StrandWork.{StrandWork}
use Rattle.log_weights.specs.Weights.{work_of}
use Rattle.log_weights.specs.Sums.{fitting}

-- a strand of which nothing is known has none
abbrev pub or_none : Option (Option ℕ) → Option ℕ
or_none None = Some 0
or_none (Some work) = work

abbrev pub work_known : StrandWork → ℕ → ℕ → Option ℕ
work_known work t i = or_none (get is_pair work.units (t, i))

-- the work of each strand is known
abbrev pub KnowsWork : StrandWork → List Event → Type 0
KnowsWork work events = (t i : ℕ) → work_known work t i ≡ fitting (work_of (acts_on events (strand t i)))
