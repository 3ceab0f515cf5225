-- Sources and sinks in memory, as contracts see them.
use Rattle.std.specs.Prelude.{ℕ, List}

-- the bytes still to come, those of every named file, the most bytes per call, the calls so far, the numbers of the
-- calls that fail (from 1), the faults so far
pub record MemSourceValue : Type 0 where
  pub left : List ℕ
  pub named : List ℕ
  pub most : ℕ
  pub calls : ℕ
  pub failing : List ℕ
  pub faults : ℕ

-- the bytes written so far, and the rest as above
pub record MemSinkValue : Type 0 where
  pub written : List ℕ
  pub most : ℕ
  pub calls : ℕ
  pub failing : List ℕ
  pub faults : ℕ

-- a source that never fails: the bytes still to come, and those of every named file
pub record SureSourceValue : Type 0 where
  pub left : List ℕ
  pub named : List ℕ
