-- The limits of the numbers of a line.
use Rattle.std.specs.Prelude.{ℕ, ◌+◌, ◌-◌, ◌*◌, ◌^◌, ◌<◌, ◌≤◌, Option, Some, None}
use Rattle.log_lines.specs.declared.line.LogPlace.{LogPlace}
use Rattle.log_lines.specs.declared.line.Access.{Access}
use Rattle.log_lines.specs.declared.line.Reference.{Reference}
use Rattle.log_lines.specs.declared.line.Act.{Act}
use Rattle.log_lines.specs.declared.line.Act.TheVariants as acts
use Rattle.log_lines.specs.declared.line.LogLine.{LogLine}
use Rattle.log_lines.specs.declared.line.LogLine.TheVariants as lines

-- each number of a log is below this
abbrev pub IsLogNumber : ℕ → Type 0
IsLogNumber n = n < 10 ^ 18

-- tasks, and the strands of a task
abbrev pub task_limit : ℕ
task_limit = 2 ^ 32

abbrev pub strand_limit : ℕ
strand_limit = 2 ^ 31

-- an access touches at most so many locations
abbrev pub access_limit : ℕ
access_limit = 2 ^ 28

-- each location of a block is below this
abbrev pub location_limit : ℕ
location_limit = 2 ^ 60

-- the location behind the last one of a place
abbrev pub place_end : LogPlace → ℕ
place_end p = p.offset + (p.runs - 1) * p.apart + p.length

pub record IsLogPlace (p : LogPlace) : Type 0 where
  pub block : IsLogNumber p.block
  pub offset : IsLogNumber p.offset
  pub length : 1 ≤ p.length
  pub runs : 1 ≤ p.runs
  pub apart : IsLogNumber p.apart
  pub few : p.length * p.runs ≤ access_limit
  pub within : place_end p ≤ location_limit
  pub distinct : p.length ≤ p.apart

abbrev pub IsSite : Option ℕ → Type 0
IsSite None = Unit {0}
IsSite (Some n) = IsLogNumber n

pub record IsAccess (a : Access) : Type 0 where
  pub place : IsLogPlace a.place
  pub site : IsSite a.site

pub record IsLogReference (r : Reference) : Type 0 where
  pub block : IsLogNumber r.block
  pub offset : IsLogNumber r.offset
  pub target : IsLogNumber r.target
  pub site : IsSite r.site

abbrev pub IsAct : Act → Type 0
IsAct (acts.Access a) = IsAccess a
IsAct (acts.Yield r) = IsLogReference r
IsAct (acts.Store r) = IsLogReference r
IsAct (acts.Birth block length) = IsLogNumber block × IsLogNumber length
IsAct (acts.Release block) = IsLogNumber block
IsAct (acts.Work units) = IsLogNumber units
IsAct (acts.Spawn task) = task < task_limit
IsAct (acts.Join task) = task < task_limit
IsAct acts.Finish = Unit {0}

abbrev pub IsLine : LogLine → Type 0
IsLine lines.Version = Unit {0}
IsLine (lines.Strand task strand) = (task < task_limit) × (strand < strand_limit)
IsLine (lines.Act a) = IsAct a
IsLine (lines.Name site) = IsLogNumber site
IsLine lines.Comment = Unit {0}
IsLine lines.End = Unit {0}
