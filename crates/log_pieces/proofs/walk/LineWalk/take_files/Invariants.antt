use Rattle.log_pieces.proofs.OverFiles.{Has}
use Rattle.log_pieces.proofs.walk.LineWalk.take_files.Given as goal

abbrev pub invariant-loop-file : goal.invariant-loop-file
invariant-loop-file l = Has l.self l.cut l.texts l.file
