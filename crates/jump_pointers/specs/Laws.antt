-- Links stay well formed, and climbs along them are short.
use Rattle.std.specs.Prelude.{ℕ, suc, ◌+◌, ◌*◌, ◌^◌, ◌<◌, Option}
use Rattle.jump_pointers.specs.Links.{AreLinked, HasOneMore, Within}

-- adding a place keeps the links well formed
abbrev pub LinksGoOn : Type 0
LinksGoOn =
    (n : ℕ) (parent parent' : ℕ → Option ℕ) (depth depth' far far' : ℕ → ℕ)
    → AreLinked n parent depth far → HasOneMore n parent parent' depth depth' far far' → AreLinked (suc n) parent' depth' far'

-- a climb follows at most 3 ⌊log₂(depth + 1)⌋ links
abbrev pub ClimbsAreShort : Type 0
ClimbsAreShort =
    (n : ℕ) (parent : ℕ → Option ℕ) (depth far : ℕ → ℕ) → AreLinked n parent depth far
    → (least log t : ℕ) → t < n → depth t + 1 < 2 ^ (log + 1) → Within parent depth far least (3 * log) t
