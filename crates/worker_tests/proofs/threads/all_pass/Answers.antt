use denote.Param.Send.{given_sync, sendable}
use mir.Syntax.{given}
use Rattle.std.proofs.Common.{refl}
use Rattle.std.proofs.Crossing as std
use Rattle.std.proofs.lemmas.Option.{slice_get_read}
use Rattle.gc_pacer.specs.contracts.calls.PacedEntryCalls.TheImpl.{ghosts}
use Rattle.gc_pacer.proofs.Sent.{paced_send}
use Rattle.worker_run.proofs.Sent.{turn_sync}
use Rattle.worker_run.proofs.worker_state.WorkerState.TheSendSync as worker_state
use Rattle.worker_tests.proofs.threads.Watch.TheSendSync as watch
use Rattle.worker_tests.proofs.threads.all_pass.Goals as goal

pub for_each_mut-requires-clause-accepts : goal.for_each_mut-requires-clause-accepts
for_each_mut-requires-clause-accepts g c κs within = λ i p inside at. c.requires i p.now (slice_get_read c.args.worker_states.now _ i p.now refl inside at)

pub for_each_mut-requires-send-T : goal.for_each_mut-requires-send-T
for_each_mut-requires-send-T g c κs within = search (worker_state.the_send, worker_state.the_field_send, paced_send, sendable, std.crosses) depth 300 fits 1000000

-- what its threads share: the host, the turn and the watch
pub for_each_mut-requires-sync-F : goal.for_each_mut-requires-sync-F
for_each_mut-requires-sync-F g c κs within =
    let host = given_sync 0 g.row.R c.type_bounds.sync-R in
    let turn = turn_sync _ paced_send ghosts (given 0) in
    record { shared = λ x b o κ. ((((λ q. tt), host.shared x.0.now x.0.ref_ptr.0 x.0.ref_ptr.1 _), (((λ q. tt), turn.shared x.1.now x.1.ref_ptr.0 x.1.ref_ptr.1 _), (((λ q. tt), watch.the_sync.shared x.2.now x.2.ref_ptr.0 x.2.ref_ptr.1 _), tt))), λ q. tt) }
