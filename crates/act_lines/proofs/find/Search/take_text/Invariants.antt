use Rattle.act_lines.proofs.Common.{◌≡◌, ◌≤◌, ◌+◌, ◌++◌, List, length, lines_in, ActLine, act_lines_from, HasFound, IsSearch}
use Rattle.act_lines.proofs.find.Search.take_text.Given as goal

abbrev pub invariant-lines : goal.invariant-lines
invariant-lines l = record {
  search : IsSearch l.numbers l.self;
  few : l.line + length l.left ≤ 1 + length l.fn.text;
  done : (ls : List ActLine) × (ls ++ act_lines_from l.file l.line (lines_in l.left) ≡ act_lines_from l.file 1 (lines_in l.fn.text))
      × ((seen : List ActLine) → HasFound l.numbers seen l.fn.self → HasFound l.numbers (seen ++ ls) l.self);
}

abbrev pub decreases-lines : goal.decreases-lines
decreases-lines l = length l.left
