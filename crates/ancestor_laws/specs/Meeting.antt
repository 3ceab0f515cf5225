-- Where the ways of two strands meet: at the lowest common ancestor of their tasks.
use Rattle.std.specs.Prelude.{◌≡◌, ◌⊎◌, ◌↔◌, ◌+◌, ◌≤◌, ℕ}
use Rattle.ancestor_laws.specs.Common.{Spawn, Join, GraphStrand, TaskTurns, Does, StrandPrecedes, IsAttached, IsAncestor, IsNested}

-- task q is an ancestor of both a and b, and each other one is an ancestor of q
pub record IsLowestCommon (tasks : TaskTurns) (q a b : ℕ) : Type 0 where
  pub above_first : IsAncestor tasks q a
  pub above_second : IsAncestor tasks q b
  pub lowest : (p : ℕ) → IsAncestor tasks p a → IsAncestor tasks p b → IsAncestor tasks p q

-- u is strand i of q
abbrev pub IsStrandOf : ℕ → GraphStrand → ℕ → Type 0
IsStrandOf q u i = (u.task ≡ q) × (u.index ≡ i)

-- strand i of q is u, or follows the join of the child of q that is an ancestor of u's task
abbrev pub IsExit : TaskTurns → ℕ → GraphStrand → ℕ → Type 0
IsExit tasks q u i = IsStrandOf q u i ⊎ ((c j : ℕ) × IsAncestor tasks c u.task × Does tasks q j (Join c) × (i ≡ j + 1))

-- strand i of q is v, or spawns the child of q that is an ancestor of v's task
abbrev pub IsEntryStrand : TaskTurns → ℕ → GraphStrand → ℕ → Type 0
IsEntryStrand tasks q v i = IsStrandOf q v i ⊎ ((c : ℕ) × IsAncestor tasks c v.task × Does tasks q i (Spawn c))

-- the ways of u and v meet at q: u's comes in at strand i, and v's goes out at strand j
pub record IsMeeting (tasks : TaskTurns) (u v : GraphStrand) (q i j : ℕ) : Type 0 where
  pub lowest : IsLowestCommon tasks q u.task v.task
  pub exit : IsExit tasks q u i
  pub entry : IsEntryStrand tasks q v j

-- the ways of two attached strands meet, and u precedes v exactly where its way comes in before v's goes out
abbrev pub AncestorsTellPrecedence : Type 0
AncestorsTellPrecedence =
    (tasks : TaskTurns) → IsNested tasks → (u v : GraphStrand) → IsAttached tasks u → IsAttached tasks v
    → ((q i j : ℕ) × IsMeeting tasks u v q i j)
    × ((q i j : ℕ) → IsMeeting tasks u v q i j → (StrandPrecedes tasks u v ↔ (i ≤ j)))
