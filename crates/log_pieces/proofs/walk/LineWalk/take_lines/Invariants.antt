use Rattle.log_pieces.proofs.Common.{◌≡◌, ◌≤◌, ◌+◌, ◌-◌, ℕ, List, drop, length, lines_in, Spot, spot_behind_all, fault_from, IsAtSpot, OpenStrandIsSmall, cut_of, text_at, Cuts}
use Rattle.log_pieces.proofs.Along.{Reaches}
use Rattle.log_pieces.proofs.walk.LineWalk.take_lines.Given as goal

abbrev pub invariant-loop-end : goal.invariant-loop-end
invariant-loop-end l = record {
  small : OpenStrandIsSmall l.self.here;
  within : l.at ≤ length l.text;
  few : l.line ≤ l.at + 1;
  file : l.self.file ≡ l.fn.self.file;
  reaches : (spot : Spot) → IsAtSpot l.fn.self spot → Reaches l.fn.self l.self l.text l.fn.from l.at spot l.line;
}

abbrev pub decreases-loop-end : goal.decreases-loop-end
decreases-loop-end l = length l.text - l.at
