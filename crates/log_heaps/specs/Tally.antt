-- What is counted of the acts of a log, by the places of their strands.
use Rattle.std.specs.Prelude.{◌≡◌, ◌≢◌, ◌⊎◌, ◌↔◌, ◌≤◌, ◌<◌, ◌+◌, ◌++◌, ◌||◌, ℕ, Bool, true, false, not, IsTrue, Option, Some, None, List, nat_eq, is_some, option_to_list}
use Rattle.std.specs.HashSet.{contains}
use Rattle.log_heaps.specs.Common.{option_is, IsDepthAt, WalkValue, LogTasks, Event, Act, GraphStrand, tasks_in, BlockLines, born, released, used, DoesToBlock, HeapDepth, LogHeaps}
use Rattle.log_heaps.specs.declared.births.BlockBirth.{BlockBirth}
use Rattle.log_heaps.specs.declared.shared.SharedBlocks.{SharedBlocks}
use Rattle.log_heaps.specs.declared.tally.Tally.{Tally}
use Rattle.log_heaps.specs.Acts.{referred, stored, stored_into, words_born}
use Rattle.log_heaps.specs.Heaps.{AreThose, CountsActs, IsBirth, StoresReference, IsDownPointer, IsDepthRow}
use Rattle.log_heaps.specs.Homes.{LeadsDownIf, foreign}

-- ONE ACT

-- the birth that an act is
abbrev pub IsBirthAt : WalkValue → Act → ℕ → ℕ → Option BlockBirth → Type 0
IsBirthAt walk act place line None = born act ≡ None
IsBirthAt walk act place line (Some birth) =
    (born act ≡ Some birth.block) × (words_born act ≡ birth.words) × (birth.line ≡ line) × IsDepthAt (tasks_in walk.tasks) walk.order place birth.depth

abbrev pub IsDownBy : WalkValue → BlockLines → ℕ → Option ℕ → Option ℕ → Bool → Type 0
IsDownBy walk births place None target down = down ≡ false
IsDownBy walk births place (Some block) None down = down ≡ false
IsDownBy walk births place (Some block) (Some target) down = LeadsDownIf walk births block target place down

-- whether an act stores a reference that leads down
abbrev pub IsDownIf : WalkValue → BlockLines → ℕ → Act → Bool → Type 0
IsDownIf walk births place act down = IsDownBy walk births place (stored_into act) (stored act) down

abbrev pub counted : ℕ → Bool → ℕ
counted n true = n + 1
counted n false = n

abbrev pub is_shared : SharedBlocks → ℕ → Bool
is_shared shared b = contains nat_eq shared.blocks b

-- the blocks that are shared after an act that names some of another task
abbrev pub shared_after : (Option ℕ → Option ℕ) → Act → SharedBlocks → ℕ → Bool
shared_after alien act shared b = option_is (alien (released act)) b || (option_is (alien (referred act)) b || (option_is (alien (used act)) b || is_shared shared b))

-- after an act of a strand that has a place
pub record AreTakenAt (walk : WalkValue) (births : BlockLines) (act : Act) (place line : ℕ) (before after : Tally) : Type 0 where
  pub birth : Option BlockBirth
  pub is_birth : IsBirthAt walk act place line birth
  pub births_are : after.births ≡ before.births ++ option_to_list birth
  pub shared_are : (b : ℕ) → is_shared after.shared b ≡ shared_after (foreign walk.order births place) act before.shared b
  pub stores_are : after.stores ≡ counted before.stores (is_some (stored act))
  pub is_down : Bool
  pub leads_down : IsDownIf walk births place act is_down
  pub down_are : after.down ≡ counted before.down is_down

abbrev pub AreTaken : WalkValue → BlockLines → Act → Option ℕ → ℕ → Tally → Tally → Type 0
AreTaken walk births act None line before after = after ≡ before
AreTaken walk births act (Some place) line before after = AreTakenAt walk births act place line before after

-- counts that n acts can reach
pub record HasFew (tally : Tally) (n : ℕ) : Type 0 where
  pub stores : tally.stores ≤ n
  pub down : tally.down ≤ n

-- THE FIRST ACTS

-- act n names a block that another task bears
pub record NamesForeign (events : List Event) (tasks : LogTasks) (b n : ℕ) : Type 0 where
  pub line : ℕ
  pub birth : GraphStrand
  pub born_there : DoesToBlock born events tasks b line birth
  pub strand : GraphStrand
  pub names : DoesToBlock used events tasks b n strand ⊎ (DoesToBlock referred events tasks b n strand ⊎ DoesToBlock released events tasks b n strand)
  pub apart : birth.task ≢ strand.task

abbrev pub AreSharedBelow : List Event → LogTasks → ℕ → (ℕ → Bool) → Type 0
AreSharedBelow events tasks n shared = (b : ℕ) → IsTrue (shared b) ↔ ((k : ℕ) × (k < n) × NamesForeign events tasks b k)

-- what is so of an act below n
abbrev pub IsBelow : {A : Type 0} → (A → ℕ) → (A → Type 0) → ℕ → A → Type 0
IsBelow key Is n x = (key x < n) × Is x

-- the acts below n are taken
pub record AreTallied (events : List Event) (tasks : LogTasks) (n : ℕ) (tally : Tally) : Type 0 where
  pub births : AreThose (λ (b : BlockBirth). b.line) (IsBelow (λ (b : BlockBirth). b.line) (IsBirth events tasks) n) tally.births
  pub shared : AreSharedBelow events tasks n (is_shared tally.shared)
  pub stores : CountsActs (IsBelow (λ (k : ℕ). k) (StoresReference events tasks) n) tally.stores
  pub down : CountsActs (IsBelow (λ (k : ℕ). k) (IsDownPointer events tasks) n) tally.down

-- WHAT IS TOLD

pub record IsToldOf (tally : Tally) (heaps : LogHeaps) : Type 0 where
  pub depths : AreThose (λ (row : HeapDepth). row.depth) (IsDepthRow tally.births (λ b. not (is_shared tally.shared b))) heaps.depths
  pub stores : heaps.stores ≡ tally.stores
  pub down : heaps.down ≡ tally.down
