-- Runs whose accesses are in order: of two that clash, the strand of the earlier one happens before that of the later
-- one.
use Rattle.std.specs.Prelude.{◌≡◌, ◌↔◌, ◌<◌, ℕ, true, Some, List, slice_get}
use Rattle.schedule_laws.specs.Common.{ProgramText, Edge, Precedes, run, FieldAccess, accesses, HasNoRace}
use Rattle.schedule_laws.specs.Clashes.{Clash}

abbrev pub AreOrdered : List Edge → List FieldAccess → Type 0
AreOrdered edges all = (i j : ℕ) (u v : FieldAccess) → i < j → slice_get all i ≡ Some u → slice_get all j ≡ Some v → Clash u v → Precedes edges u.strand v.strand

-- the steps of a run are in order
abbrev pub IsOrdered : ProgramText → ℕ → List ℕ → Type 0
IsOrdered p limit ts = AreOrdered (run p limit ts).edges (accesses p limit ts)

-- two compare and swaps clash, and are unordered
abbrev pub SwapsContend : List Edge → List FieldAccess → Type 0
SwapsContend edges all =
    (i : ℕ) × (j : ℕ) × (u : FieldAccess) × (v : FieldAccess) × (i < j) × (slice_get all i ≡ Some u) × (slice_get all j ≡ Some v) × Clash u v × (u.swaps ≡ true) × (v.swaps ≡ true)
    × (Precedes edges u.strand v.strand → ⊥)

-- a run is in order if and only if it has no race and no compare and swaps contend
abbrev pub OrderedIsRaceFree : Type 0
OrderedIsRaceFree =
    (p : ProgramText) (limit : ℕ) (ts : List ℕ)
    → let edges = (run p limit ts).edges in
    let all = accesses p limit ts in IsOrdered p limit ts ↔ (HasNoRace edges all × (SwapsContend edges all → ⊥))
