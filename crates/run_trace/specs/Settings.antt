-- The settings of a run, in their ranges.
use Rattle.std.specs.Prelude.{ℕ, ◌≤◌}
use Rattle.hh_lang.specs.Limits.{most_fields}
use Rattle.run_trace.specs.declared.settings.Version.{Version}
use Rattle.run_trace.specs.declared.settings.Version.TheVariants.{One, Two}

-- the most workers, steps and chunks of a run, and the most words for the limits of collections
abbrev pub worker_limit : ℕ
worker_limit = 64

abbrev pub fuel_limit : ℕ
fuel_limit = 1000000000

abbrev pub chunk_limit : ℕ
chunk_limit = 65536

abbrev pub words_limit : ℕ
words_limit = 1000000

pub record SettingsValue : Type 0 where
  pub version : Version
  -- how many workers there are
  pub workers : ℕ
  -- the steps after which the run ends
  pub fuel : ℕ
  -- the most chunks in use
  pub chunks : ℕ
  -- the words allocated since the last collection at which a leaf heap is due for one
  pub leaf : ℕ
  -- the least words at which a waiting heap may be marked
  pub inner : ℕ

pub record AreSettings (s : SettingsValue) : Type 0 where
  pub workers : (1 ≤ s.workers) × (s.workers ≤ worker_limit)
  pub fuel : (1 ≤ s.fuel) × (s.fuel ≤ fuel_limit)
  pub chunks : (2 ≤ s.chunks) × (s.chunks ≤ chunk_limit)
  pub leaf : (16 ≤ s.leaf) × (s.leaf ≤ words_limit)
  pub inner : (16 ≤ s.inner) × (s.inner ≤ words_limit)

-- the default settings
abbrev pub usual_settings : SettingsValue
usual_settings = record { version = Two; workers = 1; fuel = 1000000; chunks = 4096; leaf = 4096; inner = 8192 }

-- the most fields of an object: in version 1 one chunk holds it, in version 2 an object may be large
abbrev pub field_limit : Version → ℕ
field_limit One = 1022
field_limit Two = most_fields

-- the number of a version in a trace text
abbrev pub version_number : Version → ℕ
version_number One = 1
version_number Two = 2
