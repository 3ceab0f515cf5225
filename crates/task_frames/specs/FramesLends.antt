-- The final value of the frames of which a `&mut` to the top one is returned.
use Rattle.std.specs.Borrow.{Fml, Lends, MutBor}
use Rattle.task_frames.specs.declared.frames.CallFrame.{CallFrame}
use Rattle.task_frames.specs.contracts.frames.CallFrame.{the_row as frame_row}
use Rattle.task_frames.specs.contracts.frames.Frames.{the_row}
use Rattle.task_frames.specs.FramesValue.{FramesValue}

-- once the borrow r ends, the top frame is the last one written through r
abbrev pub lends_top : MutBor FramesValue → MutBor CallFrame → Fml
lends_top s r = Lends the_row frame_row s r (λ f. record s.now { top = f })
