use Rattle.log_command.proofs.Common.{◌≡◌, ◌≤◌, ℕ, List, map, string_bytes, Global, HasReadFirst}
use Rattle.log_command.proofs.read.read_texts.Given as goal

abbrev pub invariant-loop-name : goal.invariant-loop-name
invariant-loop-name g l = record {
  texts : HasReadFirst (map (string_bytes {Z = Global}) l.names) l.name-index (record { left = g.S.Source.left l.fn.source; named = g.S.Source.named l.fn.source; faults = g.S.Source.faults l.fn.source }) (record { left = g.S.Source.left l.source; named = g.S.Source.named l.source; faults = g.S.Source.faults l.source }) l.texts;
  named : (n : List ℕ) → g.S.Source.named l.source n ≡ g.S.Source.named l.fn.source n;
  faults : g.S.Source.faults l.fn.source ≤ g.S.Source.faults l.source;
}
