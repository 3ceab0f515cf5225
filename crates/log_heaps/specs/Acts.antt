-- What acts do to references.
use Rattle.std.specs.Prelude.{ℕ, Option, Some, None}
use Rattle.log_heaps.specs.Common.{Act, Yield, Store, Birth, if_some}

-- the block to which a reference is read or stored
abbrev pub referred : Act → Option ℕ
referred (Yield reference) = if_some reference.target
referred (Store reference) = if_some reference.target
referred _ = None

-- the block to which a reference is stored
abbrev pub stored : Act → Option ℕ
stored (Store reference) = if_some reference.target
stored _ = None

-- the block into which a reference is stored
abbrev pub stored_into : Act → Option ℕ
stored_into (Store reference) = Some reference.block
stored_into _ = None

-- the words of the block that is born
abbrev pub words_born : Act → ℕ
words_born (Birth block length) = length
words_born _ = 0
