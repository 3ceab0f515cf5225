-- Why the heap of a task is neither marked nor swept, in terms of the shared value.
use Rattle.std.specs.Prelude.{◌≡◌, ◌==◌, ℕ, Bool, true, false, Option, Some, None, List, is_some, nat_le, slice_get}
use Rattle.heap_marking.specs.Common.{Mark, More, Sweep, SettingsValue, Refused, Left, Marked, Marking, NotDue, NotMarking, NotWaiting, Swept, unless_wrong_number, kind_refusal, refused_if, refused_unless, heap_of, left_in, marked_in, sweep_number, words_in, TaskState, Ready, Out, Waiting, Ended, Joined, TaskNode, state_of, SetOf, MarkingValue, or_else, SharedValue, accounts, marks_at, noted_in, IsSharedValue}

abbrev pub is_state_waiting : Option TaskState → Bool
is_state_waiting None = false
is_state_waiting (Some Ready) = false
is_state_waiting (Some Out) = false
is_state_waiting (Some Waiting) = true
is_state_waiting (Some Ended) = false
is_state_waiting (Some Joined) = false

-- because of its task's state, or because it was swept, by the tree and the sets
abbrev pub waiting_cause_in : List TaskNode → List SetOf → ℕ → Option Refused
waiting_cause_in tree sets t = refused_unless (is_state_waiting (state_of tree t)) NotWaiting (refused_unless (noted_in (slice_get sets t)).keeps Swept None)

abbrev pub waiting_cause : SharedValue → ℕ → Option Refused
waiting_cause w t = waiting_cause_in w.tree w.sets t

-- or because it isn't being marked
abbrev pub marking_cause_in : List TaskNode → List SetOf → List (Option MarkingValue) → ℕ → Option Refused
marking_cause_in tree sets marks t = or_else (waiting_cause_in tree sets t) (refused_unless (is_some (marks_at marks t)) NotMarking None)

abbrev pub marking_cause : SharedValue → ℕ → Option Refused
marking_cause w t = marking_cause_in w.tree w.sets w.marks t

-- or because it has too few words
abbrev pub words_cause : SettingsValue → ℕ → Option Refused
words_cause s words = refused_unless (nat_le s.inner words) (NotDue words) None

-- THE LAW: entries that mark and sweep are refused for these causes
pub record MarksAreRefused (w : SharedValue) (k t : ℕ) : Type 0 where
  pub mark : kind_refusal w.program w.settings (accounts w) k (Mark t)
      ≡ or_else (waiting_cause w t) (refused_if (is_some (marks_at w.marks t)) Marking (words_cause w.settings (words_in (accounts w).machine (heap_of (accounts w) t))))
  pub more : (n : ℕ) → kind_refusal w.program w.settings (accounts w) k (More t n) ≡ or_else (marking_cause w t) (refused_if (left_in (heap_of (accounts w) t) == 0) Marked None)
  pub sweep : (given : ℕ) → kind_refusal w.program w.settings (accounts w) k (Sweep t given)
      ≡ or_else (marking_cause w t) (
      refused_unless (left_in (heap_of (accounts w) t) == 0) (Left (marked_in (heap_of (accounts w) t))) (unless_wrong_number given (sweep_number (accounts w).machine (heap_of (accounts w) t)) None))

abbrev pub MarksRefuse : Type 0
MarksRefuse = (w : SharedValue) (k t : ℕ) → IsSharedValue w → (accounts w).end ≡ None → MarksAreRefused w k t
