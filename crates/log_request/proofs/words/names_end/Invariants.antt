use Rattle.std.proofs.Common.{◌≡◌, ℕ, ◌<◌, map, get_or, string_bytes, Global, false, []}
use Rattle.log_request.specs.Request.{is_other}
use Rattle.log_request.proofs.words.names_end.Given as goal

abbrev pub invariant-loop-i : goal.invariant-loop-i
invariant-loop-i l = (k : ℕ) → k < l.i → is_other (get_or (map (string_bytes {Z = Global}) l.words) k []) ≡ false
