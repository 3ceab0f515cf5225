-- The root before its first step.
use Rattle.std.specs.Prelude.{None, [], pos, replicate}
use Rattle.hh_lang.specs.Form.{ProgramText}
use Rattle.task_frames.specs.FramesValue.{FramesValue}
use Rattle.task_machine.specs.Place.{Places}

-- no name has an address: the root has no ancestors
abbrev pub nowhere : Places
nowhere n = None

-- its frames: one, whose registers are empty
abbrev pub first_frames : ProgramText → FramesValue
first_frames p = record { below = []; top = record { function = p.main; next = 0; ints = replicate 16 (pos 0); refs = replicate 16 None } }
