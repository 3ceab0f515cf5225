-- A leaf collection begins: what its roots and the registers reach, by addresses.
use Rattle.std.specs.Prelude.{◌≡◌, ◌⊎◌, ◌↔◌, ℕ, Some, List, slice_get}
use Rattle.refinement.specs.Common.{IsReached, Addr, Located, Ledger, CallFrame, RefField, Rests}
use Rattle.refinement.specs.Memory.{Belongings, Memory, In, objects, objects_of_chunks, sources}

abbrev pub HoldsAt : Belongings → Addr → Located → Type 0
HoldsAt h a o = In (objects_of_chunks h.chunks) o × (o.at ≡ a)

-- a walk starts at an object that a register or a root names
abbrev pub StartsAt : Belongings → List Addr → Addr → Type 0
StartsAt h roots a = (o : Located) × HoldsAt h a o × (((f : CallFrame) × In h.frames f × In f.refs (Some a)) ⊎ In roots a)

-- and goes on along a reference to an object of the heap
abbrev pub LeadsAt : Belongings → Addr → Addr → Type 0
LeadsAt h a b = (o : Located) × (q : Located) × HoldsAt h a o × In o.refs (Some b) × HoldsAt h b q

abbrev pub IsReachedAt : Belongings → List Addr → Addr → Type 0
IsReachedAt h roots a = IsReached (StartsAt h roots) (LeadsAt h) a

-- a remembered field refers to the address now, in a chunk of the task
pub record IsRememberedRoot (v : Memory) (l : Ledger) (t : ℕ) (a : Addr) : Type 0 where
  pub source : RefField
  pub task : ℕ
  pub object : Located
  pub rests : Rests l task
  pub noted : In (sources v t) source
  pub there : In (objects v task) object
  pub at : object.at ≡ source.object
  pub holds : slice_get object.refs source.field ≡ Some (Some a)
  pub into : v.owner a.chunk ≡ Some t

-- the roots are exactly these
abbrev pub AreRoots : Memory → Ledger → ℕ → List Addr → Type 0
AreRoots v l t roots = (a : Addr) → In roots a ↔ IsRememberedRoot v l t a
