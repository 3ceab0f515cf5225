-- A task's frames as callers see them.
use Rattle.std.specs.Prelude.{◌≡◌, ℕ, zero, suc, ◌+◌, ℤ, pos, Option, None, List, [], ◌∷◌, ◌++◌, length, map, slice_get, slice_set, unwrap_or}
use Rattle.object_layout.specs.declared.word.Addr.{Addr}
use Rattle.task_frames.specs.declared.frames.CallFrame.{CallFrame}

-- the frame that runs, and those that wait for a return, the oldest first
pub record FramesValue : Type 0 where
  pub below : List CallFrame
  pub top : CallFrame

-- how many frames there are
abbrev pub frame_depth : FramesValue → ℕ
frame_depth s = length s.below + 1

-- all frames, the oldest first
abbrev pub frames_of : FramesValue → List CallFrame
frames_of s = s.below ++ s.top ∷ []

-- what a register of a frame holds; 0 or nil if there is no such register
abbrev pub int_of : CallFrame → ℕ → ℤ
int_of f i = unwrap_or (slice_get f.ints i) (pos 0)

abbrev pub ref_of : CallFrame → ℕ → Option Addr
ref_of f i = unwrap_or (slice_get f.refs i) None

-- ---- how calls change a stack

-- a call: the caller waits, and the new frame has its registers
abbrev pub pushed : FramesValue → ℕ → FramesValue
pushed s fun = record { below = s.below ++ s.top ∷ []; top = record s.top { function = fun; next = 0 } }

-- a fork: a child has one frame, with the registers of the top frame
abbrev pub branched : FramesValue → ℕ → FramesValue
branched s fun = record { below = []; top = record s.top { function = fun; next = 0 } }

-- a return: the frame that was pushed last is on top
abbrev pub IsPopped : FramesValue → FramesValue → Type 0
IsPopped old new = old.below ≡ frames_of new

abbrev pub with_next : FramesValue → ℕ → FramesValue
with_next s next = record s { top = record s.top { next = next } }

abbrev pub int_written : CallFrame → ℕ → ℤ → CallFrame
int_written f i value = record f { ints = slice_set f.ints i value }

abbrev pub frames_with_int : FramesValue → ℕ → ℤ → FramesValue
frames_with_int s i value = record s { top = int_written s.top i value }

abbrev pub ref_written : CallFrame → ℕ → Option Addr → CallFrame
ref_written f i value = record f { refs = slice_set f.refs i value }

abbrev pub with_reference : FramesValue → ℕ → Option Addr → FramesValue
with_reference s i value = record s { top = ref_written s.top i value }

-- ---- all reference registers of one frame

-- those of the frame at a position of the list; none past its end
abbrev pub references_of : List CallFrame → ℕ → List (Option Addr)
references_of [] i = []
references_of (f ∷ fs) zero = f.refs
references_of (f ∷ fs) (suc i) = references_of fs i

-- the frames with other reference registers in the frame at a position
abbrev pub references_written : List CallFrame → ℕ → List (Option Addr) → List CallFrame
references_written [] i refs = []
references_written (f ∷ fs) zero refs = record f { refs = refs } ∷ fs
references_written (f ∷ fs) (suc i) refs = f ∷ references_written fs i refs

-- a frame with each reference updated, and nothing else changed
abbrev pub led_frame : (Option Addr → Option Addr) → CallFrame → CallFrame
led_frame f x = record x { refs = map f x.refs }
