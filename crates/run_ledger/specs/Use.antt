-- How the chunks in use change, and what they are used for.
use Rattle.std.specs.Prelude.{◌≡◌, ℕ, ◌+◌, ◌<◌, ◌≤◌, Bool, true, false, None, Some, List, length, nat_lt, slice_get}
use Rattle.run_ledger.specs.Common.{Kind, Chunk, Begin, End, Sweep, EntryValue, SettingsValue, ProgramText, IsProgram, asked, is_running}
use Rattle.run_ledger.specs.declared.data.Ledger.{Ledger}
use Rattle.run_ledger.specs.declared.data.RunEnd.TheVariants.{Pool}
use Rattle.run_ledger.specs.Heaps.{heap_of, in_use, is_small_size, take_of, units}
use Rattle.run_ledger.specs.Entries.{refusal, after, chunk_units}
use Rattle.run_ledger.specs.Journals.{ledger_of, is_legal}

-- CHUNKS IN USE

-- a chunk of n units is asked for: too few are free, or it is given
abbrev pub ChunkGoes : Bool → Ledger → Ledger → ℕ → Type 0
ChunkGoes true l l' asks = l' ≡ record l { end = Some (Pool (in_use l)) }
ChunkGoes false l l' asks = (l'.end ≡ l.end) × (in_use l' ≡ in_use l + asks)

-- up by the units of a chunk that is given, unless the run ends because too few are free; up by what a leaf collection
-- takes as it begins; down by the number that its end or a sweep reports as released; and by nothing else
abbrev pub UseGoes : ProgramText → SettingsValue → Ledger → Ledger → Kind → Type 0
UseGoes p s l l' (Chunk t) = let asks : ℕ = chunk_units (asked p l.machine t) in ChunkGoes (nat_lt s.chunks (in_use l + asks)) l l' asks
UseGoes p s l l' (Begin t) = in_use l' ≡ in_use l + take_of l.machine (heap_of l t)
UseGoes p s l l' (End t taken given left) = in_use l' + given ≡ in_use l
UseGoes p s l l' (Sweep t given) = in_use l' + given ≡ in_use l
UseGoes p s l l' _ = in_use l' ≡ in_use l

-- how each accepted entry changes them
abbrev pub EntriesUse : Type 0
EntriesUse =
    (p : ProgramText) (s : SettingsValue) (journal : List EntryValue) (e : EntryValue) → IsProgram p → is_legal p s journal ≡ true
    → let l = ledger_of p s journal in refusal p s l e ≡ None → UseGoes p s l (after p s l e) e.kind

-- WHAT CHUNKS ARE USED FOR

-- t runs, and its next step allocates a large object that its reserved chunk fits, and isn't due
pub record ReservesFor (p : ProgramText) (s : SettingsValue) (l : Ledger) (t : ℕ) : Type 0 where
  pub runs : is_running (slice_get l.machine.tasks t) ≡ true
  pub words : ℕ
  pub asks : asked p l.machine t ≡ Some words
  pub large : is_small_size words ≡ false
  pub fits : (heap_of l t).reserved ≡ units words
  pub early : (heap_of l t).since < s.leaf

-- a heap without a chunk has no room; only a running task reserves a chunk, for the object that it allocates next; and
-- a leaf collection holds the chunks that it takes, with none reserved
pub record UsesChunks (p : ProgramText) (s : SettingsValue) (l : Ledger) : Type 0 where
  pub room : (t : ℕ) → 0 < (heap_of l t).room → 0 < length (heap_of l t).chunks
  pub reserved : (t : ℕ) → 0 < (heap_of l t).reserved → ReservesFor p s l t
  pub begun : (t taken : ℕ) → (heap_of l t).begun ≡ Some taken → (taken ≡ take_of l.machine (heap_of l t)) × ((heap_of l t).reserved ≡ 0)

abbrev pub ChunksAreUsed : Type 0
ChunksAreUsed = (p : ProgramText) (s : SettingsValue) (journal : List EntryValue) → is_legal p s journal ≡ true → UsesChunks p s (ledger_of p s journal)
