-- What is known of the homes of blocks, by the places of strands.
use Rattle.std.specs.Prelude.{◌≡◌, ◌==◌, ℕ, Bool, false, Option, Some, None, List, nat_lt, if◌then◌else◌}
use Rattle.log_heaps.specs.Common.{IsDepthAt, IsExitAt, task_at, WalkValue, GraphStrand, tasks_in, LineAt, BlockLines, PrecedesAt, line_told}

-- the depth of the lowest common ancestor of the tasks at two places
pub record MeetAtDepth (walk : WalkValue) (p q depth : ℕ) : Type 0 where
  pub exit : ℕ
  pub meet : IsExitAt (tasks_in walk.tasks) walk.order p q exit
  pub depth_is : IsDepthAt (tasks_in walk.tasks) walk.order exit depth

-- of a block born at place p: none, if that doesn't happen before what is at place q
abbrev pub IsHomeAfter : WalkValue → ℕ → ℕ → Option ℕ → Type 0
IsHomeAfter walk p q None = PrecedesAt walk p q → ⊥
IsHomeAfter walk p q (Some depth) = PrecedesAt walk p q × MeetAtDepth walk p q depth

abbrev pub IsHomeBy : WalkValue → Option LineAt → ℕ → Option ℕ → Type 0
IsHomeBy walk None q home = home ≡ Some 0
IsHomeBy walk (Some birth) q home = IsHomeAfter walk birth.place q home

-- the depth of the heap in which a block is at place q
abbrev pub IsHomeAt : WalkValue → BlockLines → ℕ → ℕ → Option ℕ → Type 0
IsHomeAt walk births b q home = IsHomeBy walk (line_told births b) q home

abbrev pub is_higher : Option ℕ → Option ℕ → Bool
is_higher None lower = false
is_higher (Some upper) None = false
is_higher (Some upper) (Some lower) = nat_lt upper lower

-- whether a reference from one block to another leads down, at place q
pub record LeadsDownIf (walk : WalkValue) (births : BlockLines) (block target q : ℕ) (down : Bool) : Type 0 where
  pub upper : Option ℕ
  pub lower : Option ℕ
  pub block_home : IsHomeAt walk births block q upper
  pub target_home : IsHomeAt walk births target q lower
  pub is : down ≡ is_higher upper lower

-- NAMES

-- the block, if it was born by another task than that at place q
abbrev pub foreign_by : List GraphStrand → ℕ → ℕ → Option LineAt → Option ℕ
foreign_by order q b None = None
foreign_by order q b (Some birth) = if task_at order birth.place == task_at order q then None else Some b

abbrev pub foreign : List GraphStrand → BlockLines → ℕ → Option ℕ → Option ℕ
foreign order births q None = None
foreign order births q (Some b) = foreign_by order q b (line_told births b)
