-- Levels without chunks in front of others.
use Rattle.chunk_list.proofs.Common.{◌≡◌, ℕ, ◌+◌, zero, suc, List, [], ◌∷◌, ◌++◌, refl, arith, replicate, Level, nearest}

-- they have nothing
pub nearest_behind : (n : ℕ) (ls : List Level) (number : ℕ) → nearest (replicate n [] ++ ls) number ≡ nearest ls number
nearest_behind zero ls number = refl
nearest_behind (suc n) ls number = nearest_behind n ls number

-- one more of them
pub one_more : (n : ℕ) (ls : List Level) → replicate (n + 1) [] ++ ls ≡ [] ∷ (replicate n [] ++ ls)
one_more n ls = let e : n + 1 ≡ suc n = omega arith in rw e refl
