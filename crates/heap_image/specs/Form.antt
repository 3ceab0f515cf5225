-- What the lines of an image can say: numbers within their ranges.
use Rattle.std.specs.Prelude.{◌≡◌, ◌<◌, ◌≤◌, ◌+◌, ◌^◌, ◌%◌, ℕ, ℤ, true, Option, Some, None, length}
use Rattle.hh_lang.specs.Number.{fits_i64}
use Rattle.plain_vec.specs.Members.{In}
use Rattle.chunk_sizes.specs.Sizes.{chunk_words}
use Rattle.run_trace.specs.Entry.{IsWord}
use Rattle.image_check.specs.declared.line.ImageTask.{ImageTask}
use Rattle.image_check.specs.declared.line.ImageChunk.{ImageChunk}
use Rattle.image_check.specs.declared.line.ImageRemembered.{ImageRemembered}
use Rattle.image_check.specs.Line.{most_chunk_words, most_fields}
use Rattle.heap_image.specs.declared.picture.Picked.{Picked}
use Rattle.heap_image.specs.declared.picture.ImageData.{ImageData}

-- an address or an offset; tasks, chunks and births have 32-bit numbers
abbrev pub IsLong : ℕ → Type 0
IsLong n = n < 2 ^ 64

-- only task 0 has no parent
abbrev pub HasFitParent : ℕ → Option ℕ → Type 0
HasFitParent t None = t ≡ 0
HasFitParent t (Some p) = (0 < t) × IsWord p

pub record IsTaskForm (t : ImageTask) : Type 0 where
  pub number : IsWord t.number
  pub parent : HasFitParent t.number t.parent

-- a chunk's words are a multiple of a unit's, up to the largest chunk
pub record IsChunkForm (c : ImageChunk) : Type 0 where
  pub number : IsWord c.number
  pub owner : IsWord c.owner
  pub whole : c.words % chunk_words ≡ 0
  pub least : chunk_words ≤ c.words
  pub most : c.words ≤ most_chunk_words

-- an object has at most a million fields
pub record IsObjectForm (o : Picked) : Type 0 where
  pub address : IsLong o.address
  pub task : IsWord o.birth.task
  pub count : IsWord o.birth.count
  pub sized : length o.references + length o.numbers ≤ most_fields
  pub references : (v : ℕ) → In o.references v → IsLong v
  pub numbers : (n : ℤ) → In o.numbers n → fits_i64 n ≡ true

pub record IsFieldForm (f : ImageRemembered) : Type 0 where
  pub task : IsWord f.task
  pub address : IsLong f.address
  pub place : IsLong f.place

-- all numbers of a picture are within their ranges
pub record IsInForm (p : ImageData) : Type 0 where
  pub tasks : (t : ImageTask) → In p.tasks t → IsTaskForm t
  pub chunks : (c : ImageChunk) → In p.chunks c → IsChunkForm c
  pub objects : (o : Picked) → In p.objects o → IsObjectForm o
  pub fields : (f : ImageRemembered) → In p.fields f → IsFieldForm f
