use Rattle.worker_run.proofs.Common.{rules, ◌≡◌, ◌++◌, List, take, drop, length, sym, subst, identity, WorkerState, AreAllWorkerStates, HasOfEach, HaveSeen, AllGoRound}
use Rattle.worker_run.proofs.Rows.{is_run, lent_worker_states, was_given, whole_written}
use Rattle.worker_run.proofs.workers.run_all.Goals as goal

pub all_work-requires-clause-all : goal.all_work-requires-clause-all
all_work-requires-clause-all g c κs within =
    let was : c.as_mut_slice.result.now ≡ c.args.worker_states.items = search rules in
    (c.requires.all.0, subst (AreAllWorkerStates (identity c.args.turn) c.args.program.now c.requires.all.0) (sym was) c.requires.all.1)

pub close-shared-requires-clause-all : goal.close-shared-requires-clause-all
close-shared-requires-clause-all g c =
    let worker_states : List (WorkerState g.row.P.Denot) = c.all_work.new.worker_states in
    let opened : List (WorkerState g.row.P.Denot) = c.args.worker_states.items in
    let many : c.args.worker_states.len ≡ length opened = search rules in
    let same : length worker_states ≡ length opened = search rules in
    let was : c.as_mut_slice.result.now ≡ opened = search rules in (
      c.args.program.now,
      c.requires.all.0,
      (lent_worker_states (identity c.args.turn) c.args.program.now c.requires.all.0 c.args.worker_states.len opened c.as_mut_slice.result.now worker_states was same many c.requires.all.1 c.all_work.ensures.all).1,
    )

pub returns-clause-run : goal.returns-clause-run
returns-clause-run g c s first =
    let worker_states : List (WorkerState g.row.P.Denot) = c.all_work.new.worker_states in
    let opened : List (WorkerState g.row.P.Denot) = c.args.worker_states.items in
    let many : c.args.worker_states.len ≡ length opened = search rules in
    let same : length worker_states ≡ length opened = search rules in
    let was : c.as_mut_slice.result.now ≡ opened = search rules in
    let all = lent_worker_states (identity c.args.turn) c.args.program.now s c.args.worker_states.len opened c.as_mut_slice.result.now worker_states was same many first c.all_work.ensures.all in
    let setup = c.close-shared.ensures.setup c.args.program.now s all.1 in
    is_run c.args.program.now s (g.P.EntryCalls.value c.close-shared.result) c.stands.ensures.stands setup.0 setup.1 c.stands.ensures.paced

pub returns-clause-gave : goal.returns-clause-gave
returns-clause-gave g c s first new =
    let worker_states : List (WorkerState g.row.P.Denot) = c.all_work.new.worker_states in
    let opened : List (WorkerState g.row.P.Denot) = c.args.worker_states.items in
    let many : c.args.worker_states.len ≡ length opened = search rules in
    let same : length worker_states ≡ length opened = search rules in
    let whole : take c.args.worker_states.len (worker_states ++ drop (length worker_states) opened) ≡ worker_states = whole_written c.args.worker_states.len worker_states opened same many in
    let was : c.as_mut_slice.result.now ≡ opened = search rules in
    let all = lent_worker_states (identity c.args.turn) c.args.program.now s c.args.worker_states.len opened c.as_mut_slice.result.now worker_states was same many first c.all_work.ensures.all in
    was_given g.P.EntryCalls.value (identity c.args.turn) c.args.program.now s opened worker_states (g.P.EntryCalls.value c.close-shared.result) first new all.0 (subst (λ (ds : List (WorkerState g.row.P.Denot)). AllGoRound g.P.EntryCalls.value c.args.program.now ds worker_states) was c.all_work.ensures.rounds) c.all_work.ensures.over
    (subst (HaveSeen (g.P.EntryCalls.value c.close-shared.result).journal.items) whole c.close-shared.ensures.seen) (subst (HasOfEach (g.P.EntryCalls.value c.close-shared.result).journal.items) whole c.close-shared.ensures.of_each)
