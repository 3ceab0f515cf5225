-- The small survivors are objects of the heap, and new chunks that are enough for its small words have room for them.
use Rattle.copying_gc.proofs.Common.{◌≡◌, ◌+◌, ◌*◌, ◌/◌, ◌≤◌, true, List, length, arith, leb-true, Addr, size_of, ChunkValue, cell_of, HasObjectAt, Once, In, Survivor, olds, HaveNames, nothing_laid, is_moved, smalls, AreNew, HaveRoom}
use Rattle.copying_gc.specs.Laid.{small_words}
use Rattle.copying_gc.proofs.Moves as moves
use Rattle.copying_gc.proofs.Naming.{lives}
use Rattle.copying_gc.proofs.Rooms as rooms

module _ (h : List ChunkValue) (ss : List Survivor) (names : HaveNames h ss) where
  pub small_lives : (a : Addr) → In (smalls h (olds ss)) a → HasObjectAt h a × (is_moved h a ≡ true)
  small_lives a i = let p = moves.in_smalls h (olds ss) a i in (lives h ss names a p.0, p.1)

  pub small_room : (spare : List ChunkValue) → Once (olds ss) → AreNew spare → 2 * ((small_words h + 1023) / 1024) ≤ length spare + 1 → HaveRoom (nothing_laid spare) h (smalls h (olds ss))
  small_room spare once new enough =
      let most = rooms.sizes_most h (smalls h (olds ss)) (moves.once_smalls h (olds ss) once) small_lives in
      let up : small_words h ≤ 1024 * ((small_words h + 1023) / 1024) = omega arith in
      rooms.enough_room h ((small_words h + 1023) / 1024) spare (smalls h (olds ss)) new (omega arith) enough (λ a i. leb-true (size_of (cell_of h a)) 1024 (small_lives a i).1)
