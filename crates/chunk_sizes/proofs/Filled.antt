-- How full chunks are if any two neighbours together have more than a chunk's words.
use Rattle.std.proofs.Common.{◌≡◌, ℕ, ◌+◌, ◌*◌, ◌<◌, ◌≤◌, ◌⊎◌, inl, inr, arith}

-- lists with u words in the last one and these words in all: any two neighbours together have more than a chunk's words
abbrev pub Filled : ℕ → ℕ → ℕ → Type 0
Filled lists u words = (j : ℕ) × (((lists ≡ 2 * j) × (1025 * j ≤ words)) ⊎ ((lists ≡ 2 * j + 1) × (1025 * j + u ≤ words)))

-- more words in the last list
pub filled_more : (k u w t : ℕ) → Filled k u t → Filled k (u + w) (t + w)
filled_more k u w t (j, inl f) = (j, inl (f.0, let q : 1025 * j ≤ t = f.1 in omega arith))
filled_more k u w t (j, inr f) = (j, inr (f.0, let q : 1025 * j + u ≤ t = f.1 in omega arith))

-- one more list, of words that didn't fit into the last one
pub filled_next : (k u w t : ℕ) → Filled k u t → (0 < k → 1024 < u + w) → Filled (k + 1) w (t + w)
filled_next k u w t (j, inl f) over = (j, inr (let a : k ≡ 2 * j = f.0 in omega arith, let q : 1025 * j ≤ t = f.1 in omega arith))
filled_next k u w t (j, inr f) over =
    let a : k ≡ 2 * j + 1 = f.0 in
    let q : 1025 * j + u ≤ t = f.1 in
    let o : 1024 < u + w = over (omega arith) in
    (j + 1, inl (omega arith, omega arith))
