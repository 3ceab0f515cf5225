use Rattle.std.proofs.Common.{◌<◌, length, arith}
use Rattle.copying_gc.proofs.LastChunk as last
use Rattle.copying_gc.proofs.copying.room_left.Goals as goal

pub returns : goal.returns
returns c =
    let some : 0 < length c.args.laid.now = omega arith in
    let room = last.read_room c.args.laid.now c.index-laid-count.result some c.index-laid-count.is in
    omega arith
