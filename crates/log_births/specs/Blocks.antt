-- What acts do to blocks.
use Rattle.std.specs.Prelude.{ℕ, ◌==◌, Bool, true, false, Option, Some, None, if◌then◌else◌}
use Rattle.log_strands.specs.below.log_lines.{Act, Access, Yield, Store, Birth, Release}

-- the block that is born
abbrev pub born : Act → Option ℕ
born (Birth block length) = Some block
born _ = None

-- the block that is released
abbrev pub released : Act → Option ℕ
released (Release block) = Some block
released _ = None

-- a block is born or released
abbrev pub is_lifetime : Act → Bool
is_lifetime (Birth block length) = true
is_lifetime (Release block) = true
is_lifetime _ = false

-- 0 stands for no block
abbrev pub if_some : ℕ → Option ℕ
if_some block = if block == 0 then None else Some block

-- the block to which a read yields a reference
abbrev pub yielded : Act → Option ℕ
yielded (Yield reference) = if_some reference.target
yielded _ = None

-- the block that is accessed
abbrev pub used : Act → Option ℕ
used (Access access) = Some access.place.block
used (Yield reference) = Some reference.block
used (Store reference) = Some reference.block
used _ = None
