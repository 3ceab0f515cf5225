-- The causes that the shared value gives are those of the accounts.
use Rattle.core_invariant.proofs.Common.{◌≡◌, ℕ, ◌<◌, ◌&&◌, not, Bool, true, false, Option, Some, None, slice_get, option_map, is_some, is_none, nat_le, nat_lt, refl, ap, ap₂, sym, ◌∙◌, ltb-true, none_of, TaskStatus, Running, Waiting, Ended, Joined, is_running, runs, Took, EntryValue, Ledger, Refused, Over, Spent, NoWorker, NotReady, heap_of, kind_refusal, is_fuel, refused_if, refused_unless, refused_holding, TaskNode, state_by, SharedValue, accounts, IsSharedValue, first_cause, or_else, is_state_ready, took_cause, refused}
use Rattle.core_invariant.proofs.BeforeTheEnd.{by_node, end_now, task_out_now, stands_now, steps_now}

in_turn : (a b c : Bool) (x y z : Refused) (rest : Option Refused) → refused_if a x (refused_if b y (refused_unless c z rest)) ≡ or_else (refused_if a x (refused_if b y (refused_unless c z None))) rest
in_turn true b c x y z rest = refl
in_turn false true c x y z rest = refl
in_turn false false true x y z rest = refl
in_turn false false false x y z rest = refl

pub refused_is : (w : SharedValue) → IsSharedValue w → (e : EntryValue) → refused w e ≡ or_else (first_cause w.end w.steps w.settings e.worker (is_fuel e.kind)) (kind_refusal w.program w.settings (accounts w) e.worker e.kind)
refused_is w I e =
    let l : Ledger = accounts w in
    in_turn (is_some l.end) (nat_le w.settings.fuel l.steps && not (is_fuel e.kind)) (nat_lt e.worker w.settings.workers) Over (Spent l.steps) NoWorker (kind_refusal w.program w.settings l e.worker e.kind)
    ∙ ap₂ (λ end steps. or_else (first_cause end steps w.settings e.worker (is_fuel e.kind)) (kind_refusal w.program w.settings l e.worker e.kind)) (sym (end_now w I)) (sym (steps_now w I))

-- FUEL

-- TOOK

by_status : (s : TaskStatus) (o : Option ℕ) → is_state_ready (Some (state_by s o)) ≡ (runs s && is_none o)
by_status Running None = refl
by_status Running (Some w) = refl
by_status Waiting o = refl
by_status (Ended n r) o = refl
by_status Joined o = refl

took_is : (w : SharedValue) → IsSharedValue w → (accounts w).end ≡ None → (k t : ℕ) → k < w.settings.workers → kind_refusal w.program w.settings (accounts w) k (Took t) ≡ took_cause w k t
took_is w I on k t lt =
    let worker : Option ℕ = (heap_of (accounts w) t).worker in
    ap₂ (λ b o. refused_unless b NotReady (refused_holding o None))
    (sym (by_node (λ n x. is_state_ready (option_map (λ (m : TaskNode). m.state) n) ≡ (is_running x && is_none worker)) worker refl (λ x. by_status x.status worker) (slice_get w.tree t) (slice_get (accounts w).machine.tasks t) ((stands_now w I on).tree_counts.node t)))
    (sym (task_out_now w I on k))

worker_by : (a b c : Bool) (x y z : Refused) → is_some (refused_if a x (refused_if b y (refused_unless c z None))) ≡ false → c ≡ true
worker_by true b c x y z h = absurd cc
worker_by false true c x y z h = absurd cc
worker_by false false true x y z h = refl
worker_by false false false x y z h = absurd cc

pub worker_is : (w : SharedValue) (k : ℕ) (fuel : Bool) → is_some (first_cause w.end w.steps w.settings k fuel) ≡ false → k < w.settings.workers
worker_is w k fuel h = ltb-true k w.settings.workers (worker_by (is_some w.end) (nat_le w.settings.fuel w.steps && not fuel) (nat_lt k w.settings.workers) Over (Spent w.steps) NoWorker h)

-- and the run goes on
end_by : (a b c : Bool) (x y z : Refused) → is_some (refused_if a x (refused_if b y (refused_unless c z None))) ≡ false → a ≡ false
end_by true b c x y z h = absurd cc
end_by false b c x y z h = refl

pub on_is : (w : SharedValue) → IsSharedValue w → (k : ℕ) (fuel : Bool) → is_some (first_cause w.end w.steps w.settings k fuel) ≡ false → (accounts w).end ≡ None
on_is w I k fuel h = sym (end_now w I) ∙ none_of w.end (end_by (is_some w.end) (nat_le w.settings.fuel w.steps && not fuel) (nat_lt k w.settings.workers) Over (Spent w.steps) NoWorker h)

pub took_answer : (w : SharedValue) → IsSharedValue w → (k t : ℕ) → is_some (first_cause w.end w.steps w.settings k false) ≡ false → refused w (record { worker = k; kind = Took t }) ≡ took_cause w k t
took_answer w I k t h =
    refused_is w I (record { worker = k; kind = Took t })
    ∙ (ap (λ o. or_else o (kind_refusal w.program w.settings (accounts w) k (Took t))) (none_of (first_cause w.end w.steps w.settings k false) h) ∙ took_is w I (on_is w I k false h) k t (worker_is w k false h))
