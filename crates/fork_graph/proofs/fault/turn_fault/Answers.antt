use Rattle.fork_graph.proofs.Common.{◌≡◌, ◌<◌, ◌^◌, ◌∙◌, Some, None, length, slice_get, ap, sym, subst, rules, arith, List, GraphTurn, StrandCause, tasks_in, strand, Does, HasNoEarlier, IsFirstFault, AreStates, after_turn}
use Rattle.fork_graph.proofs.SpawnSearch.{row_is}
use Rattle.fork_graph.proofs.States.{turn_taken}
use Rattle.fork_graph.proofs.Ends.{refused_first}
use Rattle.fork_graph.proofs.fault.turn_fault.Goals as goal

pub loop-index-init : goal.loop-index-init
loop-index-init c = record { states = c.requires.states; none = c.requires.none }

pub overflow_cast-result : goal.overflow_cast-result
overflow_cast-result c =
    let rows = c.args.tasks.now in
    let row : tasks_in rows c.args.task ≡ c.at-turns.result.now = row_is rows c.args.task c.at-turns.result.now c.at-turns.ensures in
    let size : length (tasks_in rows c.args.task) ≡ c.len-index-end.result = ap length row ∙ sym c.len-index-end.ensures in
    let small : length (tasks_in rows c.args.task) < 2 ^ 32 = c.requires.small.turns c.args.task in
    let fits : c.loop-index.index < 2 ^ 32 = omega arith in
    search (rules, fits)

pub returns-then-not-take_turn : goal.returns-then-not-take_turn
returns-then-not-take_turn c =
    let rows = c.args.tasks.now in
    let row = row_is rows c.args.task c.at-turns.result.now c.at-turns.ensures in
    let does : Does (tasks_in rows) c.args.task c.loop-index.index c.at-turn.result.now =
    ap (λ (turns : List GraphTurn). slice_get turns c.loop-index.index) row ∙ c.at-turn.ensures in
    let refused : after_turn c.loop-index.states c.args.task c.at-turn.result.now ≡ None = c.if-not-take_turn.ensures.0 in
    subst (λ (cause : StrandCause). IsFirstFault rows c.args.extent (record { strand = strand c.args.task c.loop-index.index; cause = cause })) (sym c.cause_of_turn.ensures)
    (refused_first rows c.args.extent c.args.task c.loop-index.index c.at-turn.result.now c.loop-index.states c.requires.there
    c.loop-index.invariant.states c.loop-index.invariant.none does refused)

pub loop-index-preserved : goal.loop-index-preserved
loop-index-preserved c =
    let rows = c.args.tasks.now in
    let row = row_is rows c.args.task c.at-turns.result.now c.at-turns.ensures in
    let does : Does (tasks_in rows) c.args.task c.loop-index.index c.at-turn.result.now =
    ap (λ (turns : List GraphTurn). slice_get turns c.loop-index.index) row ∙ c.at-turn.ensures in
    let taken : after_turn c.loop-index.states c.args.task c.at-turn.result.now ≡ Some c.take_turn.new.states = c.if-not-take_turn.ensures in
    let next = turn_taken rows c.args.extent c.args.task c.loop-index.index c.loop-index.states
    c.loop-index.invariant.states c.loop-index.invariant.none c.at-turn.result.now c.take_turn.new.states does taken in
    record { states = next.0; none = next.1 }

pub returns : goal.returns
returns c =
    let rows = c.args.tasks.now in
    let row : tasks_in rows c.args.task ≡ c.at-turns.result.now = row_is rows c.args.task c.at-turns.result.now c.at-turns.ensures in
    let size : length (tasks_in rows c.args.task) ≡ c.len-index-end.result = ap length row ∙ sym c.len-index-end.ensures in
    let end : c.loop-index.index ≡ length (tasks_in rows c.args.task) = omega arith in (
      subst (λ i. AreStates (tasks_in rows) (length rows) (strand c.args.task i) c.loop-index.states) end c.loop-index.invariant.states,
      subst (λ i. HasNoEarlier rows c.args.extent (strand c.args.task i)) end c.loop-index.invariant.none,
    )
