use Rattle.worker_run.proofs.Common.{rules, List, suc, ◌≡◌, ◌+◌, ◌<◌, ◌++◌, ◌∷◌, [], ap, ◌∙◌, refl, map, length, length-append, subst, slice_get, Some, sym, arith, vec_len, ◌^◌, append-nil, replicate, emptied, Hand, thefts, WorkerState, AreNewWorkerStates}
use Rattle.worker_run.proofs.Rows.{Chair, all_more, first_of, moved_on, none_new, rest_of}
use Rattle.worker_run.proofs.workers.worker_states_of.Goals as goal

pub loop-alloc-init : goal.loop-alloc-init
loop-alloc-init g c = record {
  seats = ap (λ (l : List (WorkerState g.row.P.Denot)). map (λ (d : WorkerState g.row.P.Denot). d.seat) l ++ c.args.seats.items) c.new-worker_states.ensures.items;
  new = subst (AreNewWorkerStates c.args.settings) (sym c.new-worker_states.ensures.items) (none_new g.row.P.Denot c.args.settings);
  held = ap (λ (l : List (WorkerState g.row.P.Denot)). map (λ (d : WorkerState g.row.P.Denot). d.hand) l ++ c.args.hands.items) c.new-worker_states.ensures.items;
  hands = λ k h at. c.requires.hands.1 k h at ∙ c.requires.workers;
  worker = sym (ap length c.new-worker_states.ensures.items);
  room = (let e = c.requires.hands.0 in search (rules, e));
  few = search rules;
}

pub remove-hand-requires : goal.remove-hand-requires
remove-hand-requires g c = let inv = c.loop-alloc.invariant in let room = inv.room in let some : 0 < length c.loop-alloc.seats.items = search rules in let goal : 0 < vec_len c.loop-alloc.hands = search (rules, room, some) in goal

pub overflow_add-worker : goal.overflow_add-worker
overflow_add-worker g c =
    let inv = c.loop-alloc.invariant in
    let few = inv.few in
    let some : 0 < length c.loop-alloc.seats.items = search rules in
    let left : vec_len c.loop-alloc.seats ≡ length c.loop-alloc.seats.items = search rules in
    let limit = c.requires.few in
    let goal : c.loop-alloc.worker + 1 < 2 ^ 32 = omega (arith, few, some, left, limit) in
    search (rules, goal)

pub loop-alloc-smaller : goal.loop-alloc-smaller
loop-alloc-smaller g c = search rules

pub loop-alloc-preserved : goal.loop-alloc-preserved
loop-alloc-preserved g c =
    let inv = c.loop-alloc.invariant in
    let hand : Hand = c.remove-hand.result in
    let worker_state : WorkerState g.row.P.Denot = record { seat = c.remove-seat.result; hand = hand; worker = c.loop-alloc.worker; alloc = c.args.alloc; settings = c.args.settings; given = 0; signals = c.new-signals.result; apart = replicate 16 0 } in
    let some : 0 < length c.loop-alloc.seats.items = search rules in
    let more : 0 < length c.loop-alloc.hands.items = search rules in
    let made : c.push.new.self.items ≡ c.loop-alloc.worker_states.items ++ worker_state ∷ [] = c.in_ok-push.ensures.items in
    record {
      seats = ap (λ (l : List (WorkerState g.row.P.Denot)). map (λ (d : WorkerState g.row.P.Denot). d.seat) l ++ c.remove-seat.new.self.items) made ∙ (ap (λ (l : List (Chair g.row.P.Denot)). map (λ (d : WorkerState g.row.P.Denot). d.seat) (c.loop-alloc.worker_states.items ++ worker_state ∷ []) ++ l) c.remove-seat.ensures.items
          ∙ (moved_on (λ (d : WorkerState g.row.P.Denot). d.seat) c.loop-alloc.worker_states.items c.loop-alloc.seats.items worker_state c.remove-seat.result refl some c.remove-seat.ensures.value ∙ inv.seats));
      held = ap (λ (l : List (WorkerState g.row.P.Denot)). map (λ (d : WorkerState g.row.P.Denot). d.hand) l ++ c.remove-hand.new.self.items) made ∙ (ap (λ (l : List Hand). map (λ (d : WorkerState g.row.P.Denot). d.hand) (c.loop-alloc.worker_states.items ++ worker_state ∷ []) ++ l) c.remove-hand.ensures.items
          ∙ (moved_on (λ (d : WorkerState g.row.P.Denot). d.hand) c.loop-alloc.worker_states.items c.loop-alloc.hands.items worker_state hand refl more c.remove-hand.ensures.value ∙ inv.held));
      new = subst (AreNewWorkerStates c.args.settings) (sym made)
          (all_more (λ k (d : WorkerState g.row.P.Denot). (d.worker ≡ k) × (d.settings ≡ c.args.settings) × (d.given ≡ 0) × (length (thefts d.hand) ≡ c.args.settings.workers)) c.loop-alloc.worker_states.items worker_state inv.new
          (inv.worker, refl, refl, inv.hands 0 hand (first_of c.loop-alloc.hands.items hand more c.remove-hand.ensures.value)));
      hands = λ k h at. inv.hands (suc k) h (rest_of c.loop-alloc.hands.items hand more c.remove-hand.ensures.value k h (subst (λ (l : List Hand). slice_get l k ≡ Some h) c.remove-hand.ensures.items at));
      worker = (let a = inv.worker in let b = ap length made in let d = length-append c.loop-alloc.worker_states.items (worker_state ∷ []) in omega (arith, a, b, d));
      room = search rules;
      few = search rules;
    }

pub returns-clause-hands : goal.returns-clause-hands
returns-clause-hands g c =
    let inv = c.loop-alloc.invariant in
    let room = inv.room in
    let none : length c.loop-alloc.hands.items ≡ 0 = search (rules, room) in
    sym (append-nil (map (λ (d : WorkerState g.row.P.Denot). d.hand) c.loop-alloc.worker_states.items)) ∙ (ap (λ (l : List Hand). map (λ (d : WorkerState g.row.P.Denot). d.hand) c.loop-alloc.worker_states.items ++ l) (sym (emptied c.loop-alloc.hands.items none)) ∙ inv.held)

pub returns-clause-new : goal.returns-clause-new
returns-clause-new g c = c.loop-alloc.invariant.new
