-- A heap and its frames after an evacuation.
use Rattle.std.specs.Prelude.{◌≡◌, ◌+◌, ◌*◌, ◌≤◌, List, [], length, map}
use Rattle.copying_gc.specs.Common.{Addr, units, FramesValue, frames_of}
use Rattle.copying_gc.specs.Survivors.{olds, outside, with_chunks}
use Rattle.copying_gc.specs.Laid.{AreNew, small_words}
use Rattle.copying_gc.specs.Redirected.{led_chunk, led_frame}
use Rattle.copying_gc.specs.CollectorValue.{CollectorValue}
use Rattle.copying_gc.specs.Collected.{AreSurvivors, IsVacated, laying_of, moves_of, redirection}

-- nothing is found, laid or moved yet, and the new chunks are enough for the small objects
pub record CollectorBegins (c : CollectorValue) : Type 0 where
  pub found : c.found ≡ []
  pub laid : c.laying.laid ≡ []
  pub moved : c.moved ≡ []
  pub new : AreNew c.laying.spare
  pub enough : 2 * units (small_words c.heap.chunks) ≤ length c.laying.spare + 1

-- the survivors are found, the small ones laid into new chunks, and all references updated to there; the old chunks are
-- left with the new addresses in them
pub record IsEvacuated (c : CollectorValue) (s : FramesValue) (roots : List Addr) (d : CollectorValue) (t : FramesValue) : Type 0 where
  pub survivors : AreSurvivors c.heap.chunks (outside s roots) d.found
  pub moved : d.moved ≡ moves_of c.heap.chunks d.found c.laying.spare
  pub laid : d.laying.laid ≡ map (led_chunk (redirection c.heap.chunks d.found c.laying.spare)) (laying_of c.heap.chunks d.found c.laying.spare).laid
  pub spare : d.laying.spare ≡ (laying_of c.heap.chunks d.found c.laying.spare).spare
  pub frames : frames_of t ≡ map (led_frame (redirection c.heap.chunks d.found c.laying.spare)) (frames_of s)
  pub vacated : IsVacated c.heap.chunks d.heap.chunks (olds d.found) (redirection c.heap.chunks d.found c.laying.spare)
  pub heap : d.heap ≡ with_chunks c.heap d.heap.chunks
