use Rattle.std.proofs.Common.{◌≡◌, ◌++◌, map, take, string_bytes, Global}
use Rattle.view_arguments.proofs.read.add_words.Given as goal

abbrev pub invariant-loop-word : goal.invariant-loop-word
invariant-loop-word l = map (string_bytes {Z = Global}) l.all.items ≡ map (string_bytes {Z = Global}) l.fn.all.items ++ map (string_bytes {Z = Global}) (take l.word-index l.words)
