use Rattle.quoted_text.proofs.Common.{◌≡◌, ◌++◌, take, flat_map, guarded_byte}
use Rattle.quoted_text.proofs.guard.add_guarded_bytes.Given as goal

abbrev pub invariant-loop-byte : goal.invariant-loop-byte
invariant-loop-byte l = l.text.items ≡ l.fn.text.items ++ flat_map guarded_byte (take l.byte-index l.word)
