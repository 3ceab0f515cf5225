use denote.Param.Send.{given_send, given_sync}
use Rattle.copied_part_laws.proofs.below.hh_lang.ProgramSendSync as program
use Rattle.worker_run.proofs.parking.Parker.TheSendSync as parker
use Rattle.worker_run.proofs.Common.{rules, ◌≡◌, ◌<◌, length, refl, ◌∙◌, subst, slice_get_read, get_or_from_slice_get, slice_get_within, identity, Idle, Stop, WorkerState, HasStopped, IsWorkerState, SameWorkerState, GoesRound}
use Rattle.worker_run.proofs.Rows.{kept_worker_states}
use Rattle.worker_run.proofs.Sent.{turn_sync}
use Rattle.worker_run.proofs.workers.all_work.Goals as goal

pub for_each_mut-requires-clause-accepts : goal.for_each_mut-requires-clause-accepts
for_each_mut-requires-clause-accepts g c κs within = λ i p inside at. ((c.requires.all.1.each_worker_state i p.now (slice_get_read c.args.worker_states.now _ i p.now refl inside at)).0, search rules)

pub returns-clause-all : goal.returns-clause-all
returns-clause-all g c = let before = c.args.worker_states.now in let after = c.for_each_mut.new.s in let z = identity c.args.shop.now.turn.now in let text = c.args.shop.now.program.now in
    λ s all. kept_worker_states z text s before after all (search rules) (λ k d e was at. let did = (c.for_each_mut.ensures k e (slice_get_within before k d was)).1 in
    let from : did.argument.now ≡ d = did.argument_is ∙ get_or_from_slice_get before k d e was in let to : did.after_call.now ≡ e = did.left ∙ get_or_from_slice_get after k e e at in
    (subst (IsWorkerState z text) to did.call.0, subst (SameWorkerState d) to (subst (λ (x : WorkerState g.row.P.Denot). SameWorkerState x did.after_call.now) from did.call.1)))

pub returns-clause-rounds : goal.returns-clause-rounds
returns-clause-rounds g c = let before = c.args.worker_states.now in let after = c.for_each_mut.new.s in let text = c.args.shop.now.program.now in
    λ k d e was at. (let did = (c.for_each_mut.ensures k e (slice_get_within before k d was)).1 in
    let from : did.argument.now ≡ d = did.argument_is ∙ get_or_from_slice_get before k d e was in let to : did.after_call.now ≡ e = did.left ∙ get_or_from_slice_get after k e e at in
    subst (λ (y : WorkerState g.row.P.Denot). GoesRound g.P.EntryCalls.value text d Idle y Stop) to (subst (λ (x : WorkerState g.row.P.Denot). GoesRound g.P.EntryCalls.value text x Idle did.after_call.now Stop) from did.call.2))

pub returns-clause-over : goal.returns-clause-over
returns-clause-over g c = let before = c.args.worker_states.now in let after = c.for_each_mut.new.s in
    λ k e at. (let many : length after ≡ length before = search rules in let did = (c.for_each_mut.ensures k e (subst (λ n. k < n) many (slice_get_within after k e at))).1 in
    let to : did.after_call.now ≡ e = did.left ∙ get_or_from_slice_get after k e e at in
    subst (HasStopped g.P.EntryCalls.value) to did.call.3)

-- what its threads share: the host, and what workers borrow
pub for_each_mut-requires-sync-F : goal.for_each_mut-requires-sync-F
for_each_mut-requires-sync-F g c κs within =
    let host = given_sync 0 g.row.R c.type_bounds.sync-R in
    let gate = given_sync 2 g.row.G c.type_bounds.sync-G in
    let value = given_send 1 _ g.row.P c.type_bounds.send-P in
    let shared = turn_sync _ value g.P.EntryCalls g.P.EntryCalls-dict in
    record { shared = λ x b o κ. ((((λ q. tt), host.shared x.0.now x.0.ref_ptr.0 x.0.ref_ptr.1 _), (((λ q. tt), ((((λ q. tt), shared.shared x.1.now.turn.now x.1.now.turn.ref_ptr.0 x.1.now.turn.ref_ptr.1 _), (((λ q. tt), parker.the_sync.shared x.1.now.parker.now x.1.now.parker.ref_ptr.0 x.1.now.parker.ref_ptr.1 _), (((λ q. tt), gate.shared x.1.now.gate.now x.1.now.gate.ref_ptr.0 x.1.now.gate.ref_ptr.1 _), (((λ q. tt), program.the_sync.shared x.1.now.program.now x.1.now.program.ref_ptr.0 x.1.now.program.ref_ptr.1 _), tt)))), λ q. tt)), tt)), λ q. tt) }
