-- What the scan of a location is right about.
use Rattle.std.specs.Prelude.{◌≡◌, ◌<◌, ◌≤◌, ◌+◌, ℕ, true, false, Option, Some, None, is_none, is_some, List, [], ◌∷◌, ◌++◌, length, All, AllPairs}
use Rattle.std.specs.Option.{option_or}
use Rattle.plain_vec.specs.Members.{In}
use Rattle.race_cells.specs.declared.access.CellAccessKind.{CellAccessKind}
use Rattle.race_cells.specs.declared.access.CellAccess.{CellAccess}
use Rattle.race_cells.specs.declared.access.CellRace.{CellRace}
use Rattle.race_cells.specs.declared.stacks.Stacks.{Stacks}
use Rattle.race_cells.specs.CellAccess.{clash}
use Rattle.race_cells.specs.Order.{StrandOrder, ExtendsPrecedence, MeetsAsInTree}
use Rattle.race_cells.specs.Scan.{after, race_at, reported, scanned, stack_of}

-- two accesses of a location race: their kinds clash, and neither strand happens before the other
pub record Races (o : StrandOrder) (u v : CellAccess) : Type 0 where
  pub clashing : clash u.kind v.kind ≡ true
  pub not_before : o.before u.strand v.strand ≡ false
  pub not_after : o.before v.strand u.strand ≡ false

-- no two of them race
abbrev pub RaceFree : StrandOrder → List CellAccess → Type 0
RaceFree o accesses = (u v : CellAccess) → In accesses u → In accesses v → Races o u v → ⊥

-- the accesses come in the serial order
pub record AreStrandsInOrder (o : StrandOrder) (accesses : List CellAccess) : Type 0 where
  pub known : All (λ v. v.strand < o.strands) accesses
  pub serial : AllPairs (λ u v. u.strand ≤ v.strand) accesses

-- the second is the first that races with one before it, and the first is such a one
pub record IsFirstRace (o : StrandOrder) (accesses : List CellAccess) (race : CellRace) : Type 0 where
  pub earlier : List CellAccess
  pub later : List CellAccess
  pub apart : accesses ≡ earlier ++ race.second ∷ later
  pub free : RaceFree o earlier
  pub among : In earlier race.first
  pub races : Races o race.first race.second

-- what is reported of a location: its first race, or nothing if it has none
abbrev pub IsExact : StrandOrder → List CellAccess → Option CellRace → Type 0
IsExact o accesses None = RaceFree o accesses
IsExact o accesses (Some race) = IsFirstRace o accesses race

abbrev pub ScanIsExact : Type 0
ScanIsExact =
    (o : StrandOrder) → ExtendsPrecedence o → MeetsAsInTree o → (accesses : List CellAccess) → AreStrandsInOrder o accesses
    → IsExact o accesses (reported o accesses)

-- what is reported of the access after these: whether it makes the location's first race, and with which of them
abbrev pub IsExactNext : StrandOrder → List CellAccess → CellAccess → Option CellRace → Type 0
IsExactNext o past v None = RaceFree o past → RaceFree o (past ++ v ∷ [])
IsExactNext o past v (Some race) = RaceFree o past × (race.second ≡ v) × In past race.first × Races o race.first v

-- the scan goes on access by access; a cell is done once a race was reported
pub record ScanGoesOn (o : StrandOrder) (past : List CellAccess) (v : CellAccess) : Type 0 where
  pub cell : scanned o (past ++ v ∷ []) ≡ after o (scanned o past) v
  pub race : reported o (past ++ v ∷ []) ≡ option_or (reported o past) (race_at o (scanned o past) v)
  pub done : is_none (scanned o past) ≡ is_some (reported o past)

abbrev pub ScansGoOn : Type 0
ScansGoOn = (o : StrandOrder) (past : List CellAccess) (v : CellAccess) → ScanGoesOn o past v

-- each stack of a cell has at most so many entries
abbrev pub StacksAreWithin : ℕ → Option Stacks → Type 0
StacksAreWithin most None = Unit {0}
StacksAreWithin most (Some s) = (kind : CellAccessKind) → length (stack_of s kind) ≤ most

-- however many strands access a location, its stacks are no longer than tasks are deep, and two more
abbrev pub StacksAreLow : Type 0
StacksAreLow =
    (o : StrandOrder) → ExtendsPrecedence o → MeetsAsInTree o
    → (depth : ℕ) → ((u v : ℕ) → u ≤ v → v < o.strands → o.meeting u v ≤ depth)
    → (accesses : List CellAccess) → AreStrandsInOrder o accesses → StacksAreWithin (depth + 2) (scanned o accesses)

-- two accesses of one strand never race
abbrev pub OwnAccessesNeverRace : Type 0
OwnAccessesNeverRace =
    (o : StrandOrder) → ExtendsPrecedence o → (u v : CellAccess) → u.strand < o.strands → u.strand ≡ v.strand → Races o u v → ⊥
