-- The law of the parallel loop: its nest calls the body once for each number.
use Rattle.std.specs.Prelude.{◌≡◌, ℕ, true, suc, ℤ, pos, negsuc, ◌+ℤ◌, ◌-ℤ◌, ◌+◌, ◌-◌, ◌^◌, ◌<◌, ◌≤◌, ◌⊎◌, Option, Some, None, List, [], ◌∷◌, length, slice_get, Contains, FitsSigned}
use Rattle.std.specs.Int.{int_wrapping_add, w64}
use Rattle.loop_nest_laws.specs.Common.{Call, Line, ProgramText, Name, Frame, Task, int_in, with_int, with_ref, onward, is_running, IsNext, after, IsTurn, Loop, IsLoop}
use Rattle.loop_nest_laws.specs.Frames.{Activation, StandsAt, called_frame, ReturnsBy}
use Rattle.loop_nest_laws.specs.Nest.{InNest, CallsBody, ForksIn}

-- the wrapping sum of 64-bit numbers
abbrev pub wrapping_sum : List ℤ → ℤ
wrapping_sum [] = pos 0
wrapping_sum (k ∷ []) = k
wrapping_sum (k ∷ l ∷ ks) = int_wrapping_add w64 k (wrapping_sum (l ∷ ks))

-- no negative count
abbrev pub count_of : ℤ → ℕ
count_of (pos n) = n
count_of (negsuc n) = 0

-- the number of numbers from a to b - 1
abbrev pub numbers_between : ℤ → ℤ → ℕ
numbers_between a b = count_of (b -ℤ a)

-- the registers of a loop's frame: 64-bit numbers whose difference fits in 64 bits too
pub record IsInRange (first last : ℤ) : Type 0 where
  pub first_fits : FitsSigned w64 first
  pub last_fits : FitsSigned w64 last
  pub difference : FitsSigned w64 (last -ℤ first)

-- a register that the functions of a loop use
abbrev pub IsUsed : ℕ → Type 0
IsUsed k = ((k ≡ 0) ⊎ (k ≡ 1)) ⊎ ((k ≡ 13) ⊎ (k ≡ 14))

-- the registers that the body gets for a number, if the loop's frame has these: i0 is the number, i1 is one more, i13
-- and i14 are 1, and all else is as at the loop
pub record BodyFinds (at_loop found : Frame) (number : ℤ) : Type 0 where
  pub i0 : int_in found 0 ≡ number
  pub i1 : int_in found 1 ≡ number +ℤ pos 1
  pub i13 : int_in found 13 ≡ pos 1
  pub i14 : int_in found 14 ≡ pos 1
  pub ints : (k : ℕ) → (IsUsed k → ⊥) → int_in found k ≡ int_in at_loop k
  pub refs : found.refs ≡ at_loop.refs

module _ (p : ProgramText) (limit : ℕ) (ts : List ℕ) (loop : Loop) where
  -- the step after the first i is a loop's: a running task calls the function that implements it
  pub record IsLoopStep (i : ℕ) : Type 0 where
    pub t : ℕ
    pub task : Task
    pub line : Line
    pub turn : IsTurn p limit ts i t
    pub next : IsNext p (after p limit ts i) t task line
    pub calls : line.instr ≡ Call loop.whole

  -- the frame that it begins
  abbrev pub loop_frame : (i : ℕ) → IsLoopStep i → Activation
  loop_frame i s = record { task = s.t; since = suc i; height = length s.task.below + 1 }

  -- it loops over n numbers from this one on
  abbrev pub first_number : (i : ℕ) → IsLoopStep i → ℤ
  first_number i s = int_in s.task.top 0

  abbrev pub how_many : (i : ℕ) → IsLoopStep i → ℕ
  how_many i s = numbers_between (int_in s.task.top 0) (int_in s.task.top 1)

  -- the step after the first i is the nest's call of the body for a number, and this is what the call returned
  pub record IsCallFor (a : Activation) (at_loop : Frame) (number : ℤ) (i : ℕ) (handed : ℤ) : Type 0 where
    pub call : CallsBody p limit ts loop a i
    -- the body begins, with these registers
    pub begun : Task
    pub is : slice_get (after p limit ts (suc i)).tasks call.frame.task ≡ Some begun
    pub function : begun.top.function ≡ loop.body
    pub place : begun.top.next ≡ 0
    pub finds : BodyFinds at_loop begun.top number
    -- it returns
    pub end : ℕ
    pub ref : Option Name
    pub back : ReturnsBy p limit ts (called_frame call.frame i) end handed ref

  -- the frame of a loop step has returned by step `now`: it was there after the loop step, which didn't trap, and no
  -- longer is
  pub record HasReturned (i : ℕ) (s : IsLoopStep i) (now : ℕ) : Type 0 where
    pub later : suc i ≤ now
    pub began : StandsAt p limit ts (loop_frame i s) (suc i)
    pub gone : StandsAt p limit ts (loop_frame i s) now → ⊥

  -- these are the steps by which the nest of a frame calls the body, one for each of n numbers from the first one, in
  -- the order of the numbers; and what these calls returned
  pub record AreCalls (a : Activation) (at_loop : Frame) (first : ℤ) (n : ℕ) (calls : List ℕ) (results : List ℤ) : Type 0 where
    pub count : length calls ≡ n
    pub as_many : length results ≡ n
    pub one_each : (j i : ℕ) (h : ℤ) → slice_get calls j ≡ Some i → slice_get results j ≡ Some h → IsCallFor a at_loop (first +ℤ pos j) i h
    pub no_other : (i : ℕ) → CallsBody p limit ts loop a i → Contains calls i

  -- these are the steps by which the nest of a frame forks, each once
  pub record AreForks (a : Activation) (forks : List ℕ) : Type 0 where
    pub each : (j i : ℕ) → slice_get forks j ≡ Some i → ForksIn p limit ts loop a i
    pub once : (j h i : ℕ) → slice_get forks j ≡ Some i → slice_get forks h ≡ Some i → j ≡ h
    pub no_other : (i : ℕ) → ForksIn p limit ts loop a i → Contains forks i

  -- the loop's task continues after the loop: i0 is k and r0 is nil, and all else is as at the loop
  pub record GoesOn (i : ℕ) (s : IsLoopStep i) (end : ℕ) (k : ℤ) : Type 0 where
    pub task : Task
    pub is : slice_get (after p limit ts (suc end)).tasks s.t ≡ Some task
    pub run : is_running (Some task) ≡ true
    pub top : task.top ≡ onward (with_ref (with_int s.task.top 0 k) 0 None)
    pub below : task.below ≡ s.task.below

  -- how a loop runs over the numbers from i0 up to i1 - 1, until it has returned
  pub record CallsEachNumber (i : ℕ) (s : IsLoopStep i) (now : ℕ) : Type 0 where
    -- the steps that call the body, what these calls returned, the steps that fork, and the step that returns
    pub calls : List ℕ
    pub results : List ℤ
    pub forks : List ℕ
    pub end : ℕ
    pub before : end < now
    -- the body is called for each number once
    pub each : AreCalls (loop_frame i s) s.task.top (first_number i s) (how_many i s) calls results
    -- the loop returns the sum of what these calls returned, and nil
    pub sum : ReturnsBy p limit ts (loop_frame i s) end (wrapping_sum results) None
    pub goes_on : GoesOn i s end (wrapping_sum results)
    -- it forks once less than it calls
    pub nest_forks : AreForks (loop_frame i s) forks
    pub one_less : length forks ≡ how_many i s - 1
    -- if h halvings leave at most one number, its tasks lie at most h levels below
    pub levels : (h : ℕ) → how_many i s ≤ 2 ^ h → (b : Activation) (x : Task) → InNest p limit ts loop (loop_frame i s) b
        → slice_get (after p limit ts b.since).tasks b.task ≡ Some x → x.depth ≤ s.task.depth + h

-- LOOPS CALL EACH NUMBER: for every program with a loop, every list of steps and every loop step whose frame has
-- returned
abbrev pub LoopsCallEachNumber : Type 0
LoopsCallEachNumber =
    (p : ProgramText) (limit : ℕ) (ts : List ℕ) (loop : Loop) (i now : ℕ) (s : IsLoopStep p limit ts loop i)
    → IsLoop p loop → IsInRange (int_in s.task.top 0) (int_in s.task.top 1) → HasReturned p limit ts loop i s now
    → CallsEachNumber p limit ts loop i s now

-- SOME LOOP RETURNS: the law isn't vacuous. There is a run with a loop over two numbers whose frame has returned
abbrev pub SomeLoopReturns : Type 0
SomeLoopReturns =
    (p : ProgramText) × (limit : ℕ) × (ts : List ℕ) × (loop : Loop) × (i : ℕ) × (now : ℕ) × (s : IsLoopStep p limit ts loop i)
    × IsLoop p loop × IsInRange (int_in s.task.top 0) (int_in s.task.top 1) × HasReturned p limit ts loop i s now × (how_many p limit ts loop i s ≡ 2)
