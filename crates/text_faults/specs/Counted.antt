-- Counts that don't overflow.
use Rattle.std.specs.Prelude.{ℕ, ◌<◌, ◌^◌}
use Rattle.text_faults.specs.declared.walk.LinesAbove.{LinesAbove}

-- the counts are those of a text
pub record CountsLinesAbove (w : LinesAbove) : Type 0 where
  pub begun : w.begun < 2 ^ 62
  pub orders : w.orders < 2 ^ 62
