-- What is found at one act.
use Rattle.std.specs.Prelude.{◌≡◌, ◌≢◌, ◌<◌, ◌++◌, ℕ, Option, Some, None, List, length, option_to_list}
use Rattle.log_births.specs.Common.{tasks_in, StrandPrecedes, strand_at, WalkValue, Act}
use Rattle.log_births.specs.declared.findings.Finding.{Finding}
use Rattle.log_births.specs.declared.findings.Findings.{Findings}
use Rattle.log_births.specs.declared.lines.LineAt.{LineAt}
use Rattle.log_births.specs.declared.lines.BlockLines.{BlockLines}
use Rattle.log_births.specs.declared.lines.Lifetimes.{Lifetimes}
use Rattle.log_births.specs.Blocks.{yielded, used}
use Rattle.log_births.specs.Lines.{line_told}

-- all acts that are known are of strands of the walk
abbrev pub LinesAreWithin : WalkValue → BlockLines → Type 0
LinesAreWithin walk known = (b : ℕ) (at : LineAt) → line_told known b ≡ Some at → at.place < length walk.order

pub record AreBothWithin (walk : WalkValue) (known : Lifetimes) : Type 0 where
  pub births : LinesAreWithin walk known.births
  pub releases : LinesAreWithin walk known.releases

-- the strand at one place happens before that at another
abbrev pub PrecedesAt : WalkValue → ℕ → ℕ → Type 0
PrecedesAt walk p q = StrandPrecedes (tasks_in walk.tasks) (strand_at walk.order p) (strand_at walk.order q)

-- what happens at place q comes too early for a birth at place p
abbrev pub IsEarly : WalkValue → ℕ → ℕ → Type 0
IsEarly walk p q = PrecedesAt walk p q → ⊥

-- it comes too late for a release at place p
abbrev pub IsLate : WalkValue → ℕ → ℕ → Type 0
IsLate walk p q = (p ≢ q) × PrecedesAt walk p q

-- what is found at an act that does something to a block
abbrev pub IsFindingAt : (ℕ → ℕ → Type 0) → (ℕ → Option LineAt) → Option ℕ → LineAt → Option Finding → Type 0
IsFindingAt Bad told block at None = (b : ℕ) (other : LineAt) → block ≡ Some b → told b ≡ Some other → Bad other.place at.place → ⊥
IsFindingAt Bad told block at (Some f) =
    (other : LineAt) × (block ≡ Some f.block) × (told f.block ≡ Some other) × (f.line ≡ at.line) × (f.other ≡ other.line) × Bad other.place at.place

-- and it is added
abbrev pub IsAdded : (ℕ → ℕ → Type 0) → (ℕ → Option LineAt) → Option ℕ → LineAt → List Finding → List Finding → Type 0
IsAdded Bad told block at before after = (finding : Option Finding) × IsFindingAt Bad told block at finding × (after ≡ before ++ option_to_list finding)

-- all that is found at an act, if its strand has a place
pub record AreAddedAt (walk : WalkValue) (known : Lifetimes) (act : Act) (at : LineAt) (before after : Findings) : Type 0 where
  pub reads : IsAdded (IsEarly walk) (line_told known.births) (yielded act) at before.reads after.reads
  pub uses : IsAdded (IsEarly walk) (line_told known.births) (used act) at before.uses after.uses
  pub stale : IsAdded (IsLate walk) (line_told known.releases) (used act) at before.stale after.stale

abbrev pub AreAdded : WalkValue → Lifetimes → Act → Option ℕ → ℕ → Findings → Findings → Type 0
AreAdded walk known act None line before after = after ≡ before
AreAdded walk known act (Some place) line before after = AreAddedAt walk known act (record { place = place; line = line }) before after
