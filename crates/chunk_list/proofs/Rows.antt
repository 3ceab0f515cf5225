-- Lists without their first items.
use Rattle.std.proofs.Common.{◌≡◌, ℕ, zero, suc, ◌+◌, List, [], ◌∷◌, ◌++◌, drop, get_or, length, set, refl, ap, ◌∙◌, arith}

-- an item after those is written, or read
pub drop_set : {X : Type 0} (xs : List X) (n i j : ℕ) (y : X) → j ≡ n + i → drop n (set xs j y) ≡ set (drop n xs) i y
drop_set [] zero i j y e = refl
drop_set [] (suc n) i j y e = refl
drop_set (x ∷ xs) zero i j y e = let same : j ≡ i = omega arith in rw same refl
drop_set (x ∷ xs) (suc n) i zero y e = absurd (omega arith)
drop_set (x ∷ xs) (suc n) i (suc j) y e = drop_set xs n i j y (omega arith)

pub drop_read : {X : Type 0} (xs : List X) (n i j : ℕ) (x : X) → j ≡ n + i → x ≡ get_or xs j x → x ≡ get_or (drop n xs) i x
drop_read [] zero i j x e read = refl
drop_read [] (suc n) i j x e read = refl
drop_read (y ∷ xs) zero i j x e read = let same : j ≡ i = omega arith in read ∙ ap (λ (k : ℕ). get_or (y ∷ xs) k x) same
drop_read (y ∷ xs) (suc n) i zero x e read = absurd (omega arith)
drop_read (y ∷ xs) (suc n) i (suc j) x e read = drop_read xs n i j x (omega arith) read

-- more items in front, which are dropped too
pub drop_behind : {X : Type 0} (zs xs : List X) (n k : ℕ) → k ≡ length zs → drop (n + k) (zs ++ xs) ≡ drop n xs
drop_behind [] xs n k e = let same : n + k ≡ n = omega arith in rw same refl
drop_behind (z ∷ zs) xs n k e =
    let more : n + k ≡ suc (n + length zs) = omega arith in
    rw more (drop_behind zs xs n (length zs) refl)
