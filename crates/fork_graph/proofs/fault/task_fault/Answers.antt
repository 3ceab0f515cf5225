use Rattle.fork_graph.proofs.Common.{ℕ, ◌+◌, length, sym, subst, Option, Some, None, MatchOption, List, GraphTurn, ChildState, StrandFault, Extent, Whole, tasks_in, strand, last_of, HasNoEarlier, IsFirstFault, AreStates}
use Rattle.fork_graph.proofs.States.{states_next}
use Rattle.fork_graph.proofs.Ends.{clean_cut}
use Rattle.fork_graph.proofs.fault.task_fault.Goals as goal

with_states : (rows : List (List GraphTurn)) (extent : Extent) (t : ℕ) (states : List ChildState) (o : Option StrandFault)
    → AreStates (tasks_in rows) (length rows) (strand (t + 1) 0) states
    → MatchOption o (HasNoEarlier rows extent (strand (t + 1) 0)) (IsFirstFault rows extent)
    → MatchOption o (AreStates (tasks_in rows) (length rows) (strand (t + 1) 0) states × HasNoEarlier rows extent (strand (t + 1) 0)) (IsFirstFault rows extent)
with_states rows extent t states None f m = (f, m)
with_states rows extent t states (Some fault) f m = m

pub returns-in-Whole : goal.returns-in-Whole
returns-in-Whole c =
    let rows = c.args.tasks.now in
    let states = c.turn_fault.new.states in
    let after = states_next (tasks_in rows) c.args.task (length rows) states c.in_default.ensures.0 in
    subst (λ (extent : Extent). MatchOption c.end_fault.result
    (AreStates (tasks_in rows) (length rows) (strand (c.args.task + 1) 0) states × HasNoEarlier rows extent (strand (c.args.task + 1) 0)) (IsFirstFault rows extent))
    (sym c.in-Whole.is)
    (with_states rows Whole c.args.task states c.end_fault.result after c.end_fault.ensures)

pub returns-in-Cut : goal.returns-in-Cut
returns-in-Cut c =
    let rows = c.args.tasks.now in
    let states = c.turn_fault.new.states in (
      states_next (tasks_in rows) c.args.task (length rows) states c.in_default.ensures.0,
      subst (λ (extent : Extent). HasNoEarlier rows extent (strand (c.args.task + 1) 0)) (sym c.in-Cut.is)
          (clean_cut rows c.args.task (subst (λ (extent : Extent). HasNoEarlier rows extent (last_of (tasks_in rows) c.args.task)) c.in-Cut.is c.in_default.ensures.1)),
    )
