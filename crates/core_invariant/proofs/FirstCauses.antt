-- The first of two causes, if there is one.
use Rattle.core_invariant.proofs.Common.{◌≡◌, true, false, Option, Some, None, is_some, refl, sym, false≢true, Refused, or_else}

-- the first of two causes
pub found_first : (o rest : Option Refused) → is_some o ≡ true → o ≡ or_else o rest
found_first None rest h = absurd (false≢true h)
found_first (Some c) rest h = refl

pub nothing_first : (o rest : Option Refused) → is_some o ≡ false → rest ≡ or_else o rest
nothing_first None rest h = refl
nothing_first (Some c) rest h = absurd (false≢true (sym h))
