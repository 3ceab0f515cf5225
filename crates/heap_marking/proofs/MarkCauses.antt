-- Entries that mark and sweep are refused as the shared value says.
use Rattle.heap_marking.proofs.Common.{◌≡◌, ℕ, ◌==◌, ◌&&◌, not, Bool, true, false, Option, Some, None, is_some, nat_le, option_map, slice_get, refl, ap, sym, ◌∙◌, TaskStatus, Running, Waiting, Ended, Joined, is_waiting, waits, Ledger, Refused, Left, Marked, Marking, NotDue, NotMarking, NotWaiting, Swept, refused_if, refused_unless, heap_of, left_in, marked_in, sweep_number, words_in, TaskNode, state_of, MarkingValue, MarkedBy, Memory, StandsFor, state_by, or_else, SharedValue, accounts, marks_at, noted_in, tree_counts_of, value_of, IsSharedValue, node_now, stands_now, MarksRefuse, is_state_waiting, unless_wrong_number}

-- WAITING TASKS

by_status : (s : TaskStatus) (o : Option ℕ) → is_state_waiting (Some (state_by s o)) ≡ waits s
by_status Running None = refl
by_status Running (Some w) = refl
by_status Waiting o = refl
by_status (Ended n r) o = refl
by_status Joined o = refl

pub waits_told : (w : SharedValue) → IsSharedValue w → (t : ℕ) → is_state_waiting (state_of w.tree t) ≡ is_waiting (slice_get (accounts w).machine.tasks t)
waits_told w I t = node_now w I (λ n x. is_state_waiting (option_map (λ (m : TaskNode). m.state) n) ≡ is_waiting x) refl (λ x worker. by_status x.status worker) t

-- WHAT IS MARKED
pub marked_by : (v : Memory) (l : Ledger) (t : ℕ) (o : Option MarkingValue) → MarkedBy v l t o → is_some (heap_of l t).marked ≡ is_some o
marked_by v l t None M = ap is_some M
marked_by v l t (Some m) M = ap is_some M.0.count

marking_is : (a s k b c : Bool) (rest : Option Refused) → k ≡ (a && not s) → (k ≡ true → b ≡ c)
    → refused_unless a NotWaiting (refused_if s Swept (refused_unless b NotMarking rest)) ≡ or_else (or_else (refused_unless a NotWaiting (refused_unless k Swept None)) (refused_unless c NotMarking None)) rest
marking_is false s k b c rest e f = refl
marking_is true true false b c rest e f = refl
marking_is true true true b c rest e f = absurd cc
marking_is true false false b c rest e f = absurd cc
marking_is true false true b c rest e f = marking_is_by_cases b c (f refl)
  where
    marking_is_by_cases : (b c : Bool) → b ≡ c → refused_unless b NotMarking rest ≡ or_else (refused_unless c NotMarking None) rest
    marking_is_by_cases true true q = refl
    marking_is_by_cases true false q = absurd cc
    marking_is_by_cases false true q = absurd cc
    marking_is_by_cases false false q = refl

begins_is : (a s k b c : Bool) (rest : Option Refused) → k ≡ (a && not s) → (k ≡ true → b ≡ c)
    → refused_unless a NotWaiting (refused_if s Swept (refused_if b Marking rest)) ≡ or_else (refused_unless a NotWaiting (refused_unless k Swept None)) (refused_if c Marking rest)
begins_is false s k b c rest e f = refl
begins_is true true false b c rest e f = refl
begins_is true true true b c rest e f = absurd cc
begins_is true false false b c rest e f = absurd cc
begins_is true false true b c rest e f = ap (λ z. refused_if z Marking rest) (f refl)

pub marks_refuse : MarksRefuse
marks_refuse w k t I on =
    let l : Ledger = accounts w in
    let S : StandsFor (value_of w) (tree_counts_of w) l = stands_now w I on in
    let waits : is_state_waiting (option_map (λ m. m.state) (slice_get w.tree t)) ≡ is_waiting (slice_get l.machine.tasks t) = waits_told w I t in
    let keeps : (noted_in (slice_get w.sets t)).keeps ≡ (is_waiting (slice_get l.machine.tasks t) && not (heap_of l t).swept) = S.keeps t in
    let marked : (noted_in (slice_get w.sets t)).keeps ≡ true → is_some (heap_of l t).marked ≡ is_some (marks_at w.marks t) = λ e. marked_by (value_of w) l t (marks_at w.marks t) (S.marks t e) in
    record {
      mark = begins_is (is_waiting (slice_get l.machine.tasks t)) (heap_of l t).swept (noted_in (slice_get w.sets t)).keeps (is_some (heap_of l t).marked) (is_some (marks_at w.marks t))
          (refused_unless (nat_le w.settings.inner (words_in l.machine (heap_of l t))) (NotDue (words_in l.machine (heap_of l t))) None) keeps marked
          ∙ ap (λ b. or_else (refused_unless b NotWaiting (refused_unless (noted_in (slice_get w.sets t)).keeps Swept None)) (refused_if (is_some (marks_at w.marks t)) Marking (
          refused_unless (nat_le w.settings.inner (words_in l.machine (heap_of l t))) (NotDue (words_in l.machine (heap_of l t))) None))) (sym waits);
      more = λ n.
          marking_is (is_waiting (slice_get l.machine.tasks t)) (heap_of l t).swept (noted_in (slice_get w.sets t)).keeps (is_some (heap_of l t).marked) (is_some (marks_at w.marks t)) (refused_if (left_in (heap_of l t) == 0) Marked None) keeps marked
          ∙ ap (λ b. or_else (or_else (refused_unless b NotWaiting (refused_unless (noted_in (slice_get w.sets t)).keeps Swept None)) (refused_unless (is_some (marks_at w.marks t)) NotMarking None)) (refused_if (left_in (heap_of l t) == 0) Marked None)) (sym waits);
      sweep = λ given.
          marking_is (is_waiting (slice_get l.machine.tasks t)) (heap_of l t).swept (noted_in (slice_get w.sets t)).keeps (is_some (heap_of l t).marked) (is_some (marks_at w.marks t))
          (refused_unless (left_in (heap_of l t) == 0) (Left (marked_in (heap_of l t))) (unless_wrong_number given (sweep_number l.machine (heap_of l t)) None)) keeps marked
          ∙ ap (λ b. or_else (or_else (refused_unless b NotWaiting (refused_unless (noted_in (slice_get w.sets t)).keeps Swept None)) (refused_unless (is_some (marks_at w.marks t)) NotMarking None)) (
          refused_unless (left_in (heap_of l t) == 0) (Left (marked_in (heap_of l t))) (unless_wrong_number given (sweep_number l.machine (heap_of l t)) None))) (sym waits);
    }
