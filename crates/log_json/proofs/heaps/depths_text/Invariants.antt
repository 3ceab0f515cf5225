use Rattle.log_json.proofs.Common.{◌≡◌, take, flat_map, depth_piece}
use Rattle.log_json.proofs.heaps.depths_text.Given as goal

abbrev pub invariant-loop-row : goal.invariant-loop-row
invariant-loop-row l = l.text.items ≡ flat_map depth_piece (take l.row-index l.rows)
