-- Limits of programs, of calls and forks, and of objects.
use Rattle.std.specs.Prelude.{ℕ}

-- the most bytes of a program's text
abbrev pub program_limit : ℕ
program_limit = 1048576

-- the most frames of a task, and the most forks above it
abbrev pub frame_limit : ℕ
frame_limit = 1000

abbrev pub depth_limit : ℕ
depth_limit = 1000

-- the most fields of an object
abbrev pub most_fields : ℕ
most_fields = 1000000
