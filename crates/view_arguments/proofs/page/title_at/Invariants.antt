use Rattle.view_arguments.proofs.Common.{◌≡◌, map, drop, string_bytes, Global, title_at, title_from}
use Rattle.view_arguments.proofs.page.title_at.Given as goal

abbrev pub invariant-loop-word : goal.invariant-loop-word
invariant-loop-word l = record {
  index : l.at ≡ l.word-index;
  place : title_at (map (string_bytes {Z = Global}) l.words) ≡ title_from l.word-index (map (string_bytes {Z = Global}) (drop l.word-index l.words));
}
