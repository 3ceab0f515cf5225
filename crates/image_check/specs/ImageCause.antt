-- Causes as they are printed.
use Rattle.std.specs.Prelude.{ℕ, List, codes}
use Rattle.image_check.specs.declared.cause.ImageCause.{ImageCause}
use Rattle.image_check.specs.declared.cause.ImageCause.TheVariants.{TooLong, Line, Twice, NoTask, NoChunk, Place, Running, Ref, Cross, Down, Field, Count}

abbrev pub image_cause_text : ImageCause → List ℕ
image_cause_text TooLong = codes "toolong"
image_cause_text Line = codes "line"
image_cause_text Twice = codes "twice"
image_cause_text NoTask = codes "notask"
image_cause_text NoChunk = codes "nochunk"
image_cause_text Place = codes "place"
image_cause_text Running = codes "running"
image_cause_text Ref = codes "ref"
image_cause_text Cross = codes "cross"
image_cause_text Down = codes "down"
image_cause_text Field = codes "field"
image_cause_text Count = codes "count"
