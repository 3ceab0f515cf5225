-- The chunks that a heap keeps, and those that it releases.
use Rattle.copying_gc.proofs.Common.{◌≡◌, ℕ, zero, suc, ◌+◌, ◌<◌, List, [], ◌∷◌, length, get_or, take, ap, arith, ChunkValue, units, counted32, unit_count}

pub unit_more : (ks : List ChunkValue) (i : ℕ) (k : ChunkValue) → i < length ks → k ≡ get_or ks i k → unit_count (take (i + 1) ks) ≡ unit_count (take i ks) + units k.size
unit_more [] i k l e = absurd (omega arith)
unit_more (x ∷ xs) zero k l e = let s = ap (λ (c : ChunkValue). units c.size) e in omega arith
unit_more (x ∷ xs) (suc i) k l e =
    let n : suc i + 1 ≡ suc (i + 1) = omega arith in
    let ih = unit_more xs i k (omega arith) e in
    rw n (omega arith)

pub counted_more : (a b : ℕ) → counted32 (counted32 a + b) ≡ counted32 (a + b)
counted_more a b = omega arith
