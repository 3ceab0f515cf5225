-- Entries of journals, with their numbers in range.
use Rattle.std.specs.Prelude.{ℕ, ◌+◌, ◌<◌, ◌≤◌, ◌^◌}
use Rattle.run_trace.specs.declared.entry.Kind.{Kind}
use Rattle.run_trace.specs.declared.entry.Kind.TheVariants.{Took, Ran, Chunk, Begin, End, PutOff, Mark, More, Sweep, Fuel}
use Rattle.run_trace.specs.Settings.{worker_limit}

-- an entry: its worker, and its kind
pub record EntryValue : Type 0 where
  pub worker : ℕ
  pub kind : Kind

-- a number of 32 bits
abbrev pub IsWord : ℕ → Type 0
IsWord n = n < 2 ^ 32

-- the most private steps of one entry
abbrev pub private_limit : ℕ
private_limit = 256

-- at least one step, and at most 256 private ones and one after them
abbrev pub IsStepCount : ℕ → Type 0
IsStepCount k = (1 ≤ k) × (k ≤ private_limit + 1)

-- the most objects that one entry marks
abbrev pub mark_limit : ℕ
mark_limit = 1024

abbrev pub IsMarkCount : ℕ → Type 0
IsMarkCount n = (1 ≤ n) × (n ≤ mark_limit)

abbrev pub IsKind : Kind → Type 0
IsKind (Took t) = IsWord t
IsKind (Ran t k) = IsWord t × IsStepCount k
IsKind (Chunk t) = IsWord t
IsKind (Begin t) = IsWord t
IsKind (End t taken given left) = IsWord t × IsWord taken × IsWord given × IsWord left
IsKind (PutOff t) = IsWord t
IsKind (Mark t) = IsWord t
IsKind (More t n) = IsWord t × IsMarkCount n
IsKind (Sweep t given) = IsWord t × IsWord given
IsKind Fuel = Unit {0}

-- workers are numbered from 0 on
abbrev pub IsEntry : EntryValue → Type 0
IsEntry e = (e.worker < worker_limit) × IsKind e.kind
