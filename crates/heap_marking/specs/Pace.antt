-- The record of a worker's own entries, and how it determines what the pace asks for.
use Rattle.std.specs.Prelude.{◌≡◌, ◌⊎◌, ◌&&◌, ◌++◌, ◌∷◌, ◌<◌, ℕ, not, Bool, true, false, Option, Some, None, List, [], is_some, nat_le, slice_get}
use Rattle.heap_marking.specs.Common.{Strand, Task, is_waiting, joined, parents, strand_of, waits, EntryValue, SettingsValue, Ledger, Previous, Other as OtherEntry, Ran as RanEntry, Forked as ForkedEntry, WorkerPace, heap_of, words_in, is_unmarked, waits_on, TaskState, Ready, Out, Waiting, Ended, Joined, TaskNode, parent_of, state_of, refused, Enters, IsSharedValue, SharedValue, accounts, option_is}
use Rattle.heap_marking.specs.declared.pace.Fork.{Fork}
use Rattle.heap_marking.specs.declared.pace.Pace.{Pace}
use Rattle.heap_marking.specs.declared.pace.PreviousKind.{PreviousKind}
use Rattle.heap_marking.specs.declared.pace.PreviousKind.TheVariants.{Other, Ran, Forked}
use Rattle.heap_marking.specs.MarkCauses.{is_state_waiting}

-- ---- FORKS

-- the task has joined since that fork
abbrev pub HasGoneOn : Ledger → Strand → Type 0
HasGoneOn l s = (x : Task) × (slice_get l.machine.tasks s.task ≡ Some x) × (s.joins < x.joins)

-- a fork given by its task and a child is the one that ended this strand: the task waits on it as long as the child
-- hasn't joined, and has gone on since if it has
pub record TellsFork (l : Ledger) (f : Fork) (s : Strand) : Type 0 where
  pub task : f.task ≡ s.task
  pub child : parents l.machine.tasks f.left ≡ Some s.task
  pub waits : joined l.machine.tasks f.left ≡ false → waits_on l s ≡ true
  pub past : joined l.machine.tasks f.left ≡ true → HasGoneOn l s

-- the fork on which the task t waits, or none if it doesn't wait
abbrev pub IsForkOf : Ledger → ℕ → Option Fork → Option Task → Type 0
IsForkOf l t None o = is_waiting o ≡ false
IsForkOf l t (Some f) None = ⊥
IsForkOf l t (Some f) (Some x) = (waits x.status ≡ true) × TellsFork l f (strand_of t x)

-- the state of a task that has joined
abbrev pub is_state_joined : Option TaskState → Bool
is_state_joined None = false
is_state_joined (Some Ready) = false
is_state_joined (Some Out) = false
is_state_joined (Some Waiting) = false
is_state_joined (Some Ended) = false
is_state_joined (Some Joined) = true

-- a child of t that hasn't joined, by the tree
abbrev pub is_live_child : List TaskNode → ℕ → ℕ → Bool
is_live_child tree t c = option_is (parent_of tree c) t && not (is_state_joined (state_of tree c))

abbrev pub IsLiveChild : List TaskNode → ℕ → Option ℕ → Type 0
IsLiveChild tree t (Some c) = is_live_child tree t c ≡ true
IsLiveChild tree t None = (c : ℕ) → is_live_child tree t c ≡ false

-- a fork of t, given by a child that hasn't joined; or none, if t doesn't wait or has no such child
abbrev pub IsForkIn : List TaskNode → ℕ → Option Fork → Type 0
IsForkIn tree t (Some f) = (f.task ≡ t) × IsLiveChild tree t (Some f.left)
IsForkIn tree t None = is_state_waiting (state_of tree t) ≡ true → IsLiveChild tree t None

-- ---- MARKINGS

-- a marking that is over for good: its task has gone on, or its heap was swept
abbrev pub IsOver : Ledger → Strand → Type 0
IsOver l s = HasGoneOn l s ⊎ ((waits_on l s ≡ true) × ((heap_of l s.task).swept ≡ true))

-- a fork after which the heap was marked
pub record TellsMark (l : Ledger) (f : Fork) (s : Strand) : Type 0 where
  pub fork : TellsFork l f s
  pub marked : waits_on l s ≡ true → (is_some (heap_of l s.task).marked ≡ true) ⊎ ((heap_of l s.task).swept ≡ true)

-- the code has the last one at the end, the definition at the beginning; those that are over may be missing
abbrev pub KeepsMarks : Ledger → List Fork → List Strand → Type 0
KeepsMarks l forks [] = forks ≡ []
KeepsMarks l forks (s ∷ ss) =
    (IsOver l s × KeepsMarks l forks ss)
    ⊎ ((front : List Fork) × (f : Fork) × (forks ≡ front ++ f ∷ []) × TellsMark l f s × KeepsMarks l front ss)

-- a marking is under way, by its fork
abbrev pub is_going : Ledger → Fork → Bool
is_going l f = not (joined l.machine.tasks f.left) && (is_waiting (slice_get l.machine.tasks f.task) && not (heap_of l f.task).swept)

-- a heap is to be marked, by the fork of its task
abbrev pub is_to_begin : SettingsValue → Ledger → Fork → Bool
is_to_begin s l f =
    not (joined l.machine.tasks f.left)
    && (is_waiting (slice_get l.machine.tasks f.task) && (is_unmarked (heap_of l f.task) && nat_le s.inner (words_in l.machine (heap_of l f.task))))

-- the last of these markings that is under way
abbrev pub IsLastGoing : Ledger → List Fork → Option Fork → Type 0
IsLastGoing l forks None = (k : ℕ) (f : Fork) → slice_get forks k ≡ Some f → is_going l f ≡ false
IsLastGoing l forks (Some f) =
    (k : ℕ) × (slice_get forks k ≡ Some f) × (is_going l f ≡ true) × ((j : ℕ) (g : Fork) → k < j → slice_get forks j ≡ Some g → is_going l g ≡ false)

-- ---- A WORKER'S ENTRIES

abbrev pub KeepsPrevious : Ledger → PreviousKind → Previous → Type 0
KeepsPrevious l Other OtherEntry = Unit {0}
KeepsPrevious l Other RanEntry = ⊥
KeepsPrevious l Other (ForkedEntry s) = ⊥
KeepsPrevious l Ran OtherEntry = ⊥
KeepsPrevious l Ran RanEntry = Unit {0}
KeepsPrevious l Ran (ForkedEntry s) = ⊥
KeepsPrevious l (Forked f) OtherEntry = ⊥
KeepsPrevious l (Forked f) RanEntry = ⊥
KeepsPrevious l (Forked f) (ForkedEntry s) = TellsFork l f s

-- after steps, which ended with this fork or with none
abbrev pub previous_of : Option Fork → PreviousKind
previous_of None = Ran
previous_of (Some f) = Forked f

-- the record has the same forks as the definition
pub record KeepsPace (l : Ledger) (q : Pace) (x : WorkerPace) : Type 0 where
  pub previous : KeepsPrevious l q.previous x.previous
  pub marks : KeepsMarks l q.marks.items x.marks

-- THE LAW: an accepted entry keeps the record right
abbrev pub PacesStay : Type 0
PacesStay =
    (w after : SharedValue) (e : EntryValue) (q : Pace) (x : WorkerPace) → IsSharedValue w → Enters w after e → refused w e ≡ None
    → KeepsPace (accounts w) q x → KeepsPace (accounts after) q x
