-- All parts together: with the belongings of each part that a worker holds put into it, the shared value stands for the
-- accounts.
use Rattle.std.specs.Prelude.{◌≡◌, ℕ, Some, List, slice_get}
use Rattle.heap_reading.specs.below.run_ledger.{Ledger}
use Rattle.heap_reading.specs.below.copying_gc.{Moved}
use Rattle.heap_reading.specs.below.ledger_step_laws.{Rests, aside}
use Rattle.heap_reading.specs.below.refinement.{Part as PartOf, all_ahead, with_all_belongings, MemoryStands, In, handed}
use Rattle.heap_reading.specs.below.task_machine.{Private}
use Rattle.heap_reading.specs.below.core_invariant.{part_of, SharedValue, accounts, value_of}
use Rattle.copied_part_laws.specs.below.leaf_collections.{FitsCopied}
use Rattle.journal_replay.specs.declared.out_part.OutPart.{OutPart}
use Rattle.journal_replay.specs.declared.out_part.OutPart.TheVariants.{Nothing, Part, Copied}
use Rattle.journal_replay.specs.WorldValue.{HoldsCopy, WorldValue}

-- the part that a worker holds; for one that was copied, what it was before
abbrev pub IsPartIn : SharedValue → ℕ → OutPart → PartOf → Type 0
IsPartIn w k Nothing q = ⊥
IsPartIn w k (Part p) q = q ≡ part_of w.settings p
IsPartIn w k (Copied p moved) q = (H : HoldsCopy w k p moved) × (q ≡ part_of w.settings H.before)

-- a worker holds it
pub record IsWith (x : WorldValue) (k : ℕ) (q : PartOf) : Type 0 where
  pub holding : OutPart
  pub is : slice_get x.holdings k ≡ Some holding
  pub part : IsPartIn x.shared k holding q

-- a worker that holds something holds one of these
abbrev pub HoldsOneOf : SharedValue → ℕ → OutPart → List PartOf → Type 0
HoldsOneOf w k Nothing qs = Unit {0}
HoldsOneOf w k h qs = (q : PartOf) × In qs q × IsPartIn w k h q

-- these are the parts that workers hold
pub record AreParts (x : WorldValue) (qs : List PartOf) : Type 0 where
  pub each : (q : PartOf) → In qs q → (k : ℕ) × IsWith x k q
  pub all : (k : ℕ) (h : OutPart) → slice_get x.holdings k ≡ Some h → HoldsOneOf x.shared k h qs

-- the accounts with the fresh steps of all parts, their tasks at rest: without the machine's end, and with the root
-- returned after the run is done
abbrev pub with_parts : SharedValue → List PartOf → Ledger
with_parts w qs = all_ahead w.program qs (aside (handed (accounts w)))

pub record PartsStand (x : WorldValue) : Type 0 where
  pub parts : List PartOf
  pub are : AreParts x parts
  -- with all their belongings
  pub stands : MemoryStands (with_all_belongings (value_of x.shared) parts) (with_parts x.shared parts)
  -- then no heap and no frame is missing
  pub rest : (t : ℕ) → Rests (with_parts x.shared parts) t

-- the parts stand together, and the copy of each heap between the beginning and the end of its collection is a copy of
-- it
pub record StandsTogether (x : WorldValue) : Type 0 where
  pub parts : PartsStand x
  pub copies : (k : ℕ) (p : Private) (moved : Moved) → slice_get x.holdings k ≡ Some (Copied p moved) → FitsCopied x.shared k p moved
