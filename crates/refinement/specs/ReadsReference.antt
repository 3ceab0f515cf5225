-- A value of the model, read through an address map.
use Rattle.std.specs.Prelude.{◌≡◌, Option, Some, None, List, [], ◌∷◌}
use Rattle.refinement.specs.Common.{Addr, Located, Name, Object, Frame as ModelFrame, TaskStatus, Running, Ended, Task, CallFrame}
use Rattle.hh_model.specs.declared.data.TaskStatus.TheVariants.{Waiting, Joined}
use Rattle.refinement.specs.Memory.{Belongings}

-- nil for nil, and for a name an address that the map has for it
abbrev pub ReadsReference : (Name → Addr → Type 0) → Option Addr → Option Name → Type 0
ReadsReference at None None = Unit {0}
ReadsReference at None (Some n) = ⊥
ReadsReference at (Some a) None = ⊥
ReadsReference at (Some a) (Some n) = at n a

abbrev pub AllRead : (Name → Addr → Type 0) → List (Option Addr) → List (Option Name) → Type 0
AllRead at [] [] = Unit {0}
AllRead at [] (x ∷ xs) = ⊥
AllRead at (r ∷ rs) [] = ⊥
AllRead at (r ∷ rs) (x ∷ xs) = ReadsReference at r x × AllRead at rs xs

-- the object is that of the model
pub record IsModelObject (at : Name → Addr → Type 0) (o : Located) (x : Object) : Type 0 where
  pub mutable : o.mutable ≡ x.mutable
  pub refs : AllRead at o.refs x.refs
  pub ints : o.ints ≡ x.ints

pub record FrameIsRead (at : Name → Addr → Type 0) (f : CallFrame) (x : ModelFrame) : Type 0 where
  pub function : f.function ≡ x.function
  pub next : f.next ≡ x.next
  pub ints : f.ints ≡ x.ints
  pub refs : AllRead at f.refs x.refs

abbrev pub FramesAreRead : (Name → Addr → Type 0) → List CallFrame → List ModelFrame → Type 0
FramesAreRead at [] [] = Unit {0}
FramesAreRead at [] (x ∷ xs) = ⊥
FramesAreRead at (f ∷ fs) [] = ⊥
FramesAreRead at (f ∷ fs) (x ∷ xs) = FrameIsRead at f x × FramesAreRead at fs xs

-- what a task holds: its frames while it runs or waits, its result once it has ended
abbrev pub HoldsRead : (Name → Addr → Type 0) → Belongings → Task → TaskStatus → Type 0
HoldsRead at h x Running = FramesAreRead at h.frames (x.top ∷ x.below)
HoldsRead at h x Waiting = FramesAreRead at h.frames (x.top ∷ x.below)
HoldsRead at h x (Ended k r) = (h.result.0 ≡ k) × ReadsReference at h.result.1 r
HoldsRead at h x Joined = Unit {0}

abbrev pub TaskIsRead : (Name → Addr → Type 0) → Belongings → Task → Type 0
TaskIsRead at h x = HoldsRead at h x x.status
