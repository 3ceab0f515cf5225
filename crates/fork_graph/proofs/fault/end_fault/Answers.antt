use Rattle.fork_graph.proofs.Common.{◌≡◌, ◌∙◌, Bool, length, slice_get, ap, sym, List, ℕ, Some, false≢true, list_any, GraphTurn, tasks_in, strand, last_of, spawns_open}
use Rattle.fork_graph.proofs.SpawnSearch.{row_is}
use Rattle.fork_graph.proofs.Ends.{unjoined_first, unreached_first, clean_whole}
use Rattle.fork_graph.proofs.fault.end_fault.Goals as goal

left_by : (rows : List (List GraphTurn)) (t : ℕ) (row turns : List GraphTurn) (test : GraphTurn → Bool) (b : Bool) → slice_get rows t ≡ Some row → turns ≡ row
    → b ≡ list_any test turns → list_any test (tasks_in rows t) ≡ b
left_by rows t row turns test b h e is = ap (λ (ts : List GraphTurn). list_any test ts) (row_is rows t row h ∙ sym e) ∙ sym is

end_of : (rows : List (List GraphTurn)) (t i : ℕ) (row : List GraphTurn) → slice_get rows t ≡ Some row → i ≡ length row → strand t i ≡ last_of (tasks_in rows) t
end_of rows t i row h e = ap (strand t) (e ∙ ap length (sym (row_is rows t row h)))

pub returns-then-leaves_open : goal.returns-then-leaves_open
returns-then-leaves_open c =
    let rows = c.args.tasks.now in
    let any = left_by rows c.args.task c.at-turns.result.now c.as_slice.result.now (spawns_open c.args.states.now) c.leaves_open.result
    c.at-turns.ensures c.as_slice.ensures c.leaves_open.ensures in
    unjoined_first rows c.args.task c.args.states.now c.requires.states (strand c.args.task c.len.result)
    (end_of rows c.args.task c.len.result c.at-turns.result.now c.at-turns.ensures c.len.ensures) c.requires.there c.requires.none
    (any ∙ c.if-leaves_open.true)

pub returns-then-not-is_reached : goal.returns-then-not-is_reached
returns-then-not-is_reached c =
    let rows = c.args.tasks.now in
    let any = left_by rows c.args.task c.at-turns.result.now c.as_slice.result.now (spawns_open c.args.states.now) c.leaves_open.result
    c.at-turns.ensures c.as_slice.ensures c.leaves_open.ensures in
    unreached_first rows c.args.task c.args.states.now c.requires.states (strand c.args.task c.len.result)
    (end_of rows c.args.task c.len.result c.at-turns.result.now c.at-turns.ensures c.len.ensures) c.requires.there c.requires.none
    (any ∙ c.if-leaves_open.false) (λ up. false≢true (sym c.if-not-is_reached.true ∙ c.requires.reached.1 up))

pub returns : goal.returns
returns c =
    let rows = c.args.tasks.now in
    let any = left_by rows c.args.task c.at-turns.result.now c.as_slice.result.now (spawns_open c.args.states.now) c.leaves_open.result
    c.at-turns.ensures c.as_slice.ensures c.leaves_open.ensures in
    clean_whole rows c.args.task c.args.states.now c.requires.states c.requires.none (any ∙ c.if-leaves_open.false) (c.requires.reached.0 c.if-not-is_reached.false)
