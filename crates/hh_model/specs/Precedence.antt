-- Which strand happens before which: a walk along the edges of the graph of forks and joins, and a test for it.
use Rattle.std.specs.Prelude.{◌≡◌, ◌==◌, ◌&&◌, ◌||◌, Bool, true, false, List, [], ◌∷◌, Contains}
use Rattle.hh_model.specs.declared.data.Strand.{Strand}
use Rattle.hh_model.specs.declared.data.Edge.{Edge}

-- these edges, each one of the graph, lead from u to v
abbrev pub IsEdgeWalk : List Edge → Strand → List Edge → Strand → Type 0
IsEdgeWalk edges u [] v = u ≡ v
IsEdgeWalk edges u (e ∷ es) v = (e.source ≡ u) × Contains edges e × IsEdgeWalk edges e.target es v

-- u happens before v, or is v: edges, perhaps none, lead from u to v
abbrev pub Precedes : List Edge → Strand → Strand → Type 0
Precedes edges u v = (es : List Edge) × IsEdgeWalk edges u es v

abbrev pub same_strand : Strand → Strand → Bool
same_strand u v = (u.task == v.task) && (u.joins == v.joins)

abbrev pub holds_strand : List Strand → Strand → Bool
holds_strand [] v = false
holds_strand (u ∷ us) v = holds_strand us v || same_strand u v

abbrev pub with_target : List Strand → Edge → Bool → List Strand
with_target found e true = e.target ∷ found
with_target found e false = found

-- the strands found from those found so far, over the edges in their order
abbrev pub found_from : List Edge → List Strand → List Strand
found_from [] found = found
found_from (e ∷ es) found = found_from es (with_target found e (holds_strand found e.source))

-- whether u happens before v, or is v. In a run, an edge into a strand is older than the edges out of it; so one pass
-- over the edges, oldest first, finds all that u happens before. The law of walks says that this is `Precedes`
abbrev pub precedes : List Edge → Strand → Strand → Bool
precedes edges u v = holds_strand (found_from edges (u ∷ [])) v
