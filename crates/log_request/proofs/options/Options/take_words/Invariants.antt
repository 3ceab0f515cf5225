use Rattle.std.proofs.Common.{◌≡◌, map, drop, string_bytes, Global}
use Rattle.log_request.specs.Options.{leading}
use Rattle.log_request.proofs.options.Options.take_words.Given as goal

abbrev pub invariant-loop-i : goal.invariant-loop-i
invariant-loop-i l = leading l.initial.self (map (string_bytes {Z = Global}) l.words) ≡ leading l.self (drop l.i (map (string_bytes {Z = Global}) l.words))
