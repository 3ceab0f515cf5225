-- What is told stays in the log's graph.
use Rattle.told_graph_laws.proofs.Common.{◌≡◌, ◌≤◌, ◌+◌, ℕ, zero, suc, List, [], ◌∷◌, ◌++◌, length, map, inl, inr, ap, sym, subst, arith, length-append, append_assoc, In, IsWalk, unjoined, TaskTurns, HasStrand, StrandPrecedes, IsAncestor, IsParent, Extent, Whole, Cut, GraphStrand, Spawn, Join, completed_front, Event, IsCutRun, turns_by, turns_told, FollowTurns, told_both, graph_told, ◌↔◌}

pub kept_strand : (x : Extent) (tasks : TaskTurns) (u : GraphStrand) → HasStrand tasks u → HasStrand (graph_told x tasks) u
kept_strand Whole tasks u st = st
kept_strand Cut tasks u st = omega (arith, st, length-append (tasks u.task) (map Join (unjoined (tasks u.task))))

above_in : (tasks : TaskTurns) (k t : ℕ) → IsWalk (λ x. x ≡ 0) (IsParent tasks) k t → IsWalk (λ x. x ≡ 0) (IsParent (graph_told Cut tasks)) k t
above_in tasks zero t e = e
above_in tasks (suc k) t w = (w.0, above_in tasks k w.0 w.1, (w.2.0, completed_front (tasks w.0) w.2.0 (Spawn t) w.2.1))

pub kept_above : (x : Extent) (tasks : TaskTurns) (t : ℕ) → IsAncestor tasks 0 t → IsAncestor (graph_told x tasks) 0 t
kept_above Whole tasks t w = w
kept_above Cut tasks t w = (w.0, above_in tasks w.0 t w.1)

-- and told strands are ordered in it as by the turns told
pub kept_order : (x : Extent) (tasks : TaskTurns) (n : ℕ) → IsCutRun tasks n → (u v : GraphStrand) → HasStrand tasks v → (StrandPrecedes tasks u v ↔ StrandPrecedes (graph_told x tasks) u v)
kept_order Whole tasks n cut u v st = (λ w. w, λ w. w)
kept_order Cut tasks n cut u v st = cut.same u v st

told_within : (before rest : List Event) (e : Event) → FollowTurns before rest → In rest e → e.strand.index ≤ length (turns_told (before ++ rest) e.strand.task)
told_within before [] e order i = absurd i
told_within before (d ∷ rest) e order (inl same) =
    subst (λ (x : Event). x.strand.index ≤ length (turns_told (before ++ d ∷ rest) x.strand.task)) same
    (let a = order.0 in
    let b = ap length (told_both before (d ∷ rest) d.strand.task) in
    let c = length-append (turns_told before d.strand.task) (turns_told (d ∷ rest) d.strand.task) in
    omega (arith, a, b, c))
told_within before (d ∷ rest) e order (inr more) =
    subst (λ events. e.strand.index ≤ length (turns_told events e.strand.task)) (append_assoc before (d ∷ []) rest) (told_within (before ++ d ∷ []) rest e order.1 more)

-- each event is on a strand that its task's turns lead to
pub event_stands : (events : List Event) (e : Event) → FollowTurns [] events → In events e → HasStrand (turns_told events) e.strand
event_stands events e order i = told_within [] events e order i
