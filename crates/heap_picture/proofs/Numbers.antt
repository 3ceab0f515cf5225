-- Addresses as numbers, sizes of chunks, and numbers of 64 bits.
use Rattle.heap_picture.proofs.Common.{◌≡◌, ℕ, zero, suc, ◌+◌, ◌-◌, ◌*◌, ◌/◌, ◌%◌, ◌^◌, ◌<◌, arith, Some, List, [], ◌∷◌, refl, subst, same_Some, got_in, Addr, word_of_ref, Rises, chunk_number, offset}
use Rattle.heap_image.specs.ImageData.{RisesByPlace as RisesAt}

-- ADDRESSES
chunk_by : (c o n : ℕ) → o < 1024 → n ≡ c * 1024 + o + 1 → (n - 1) / 1024 ≡ c
chunk_by c o n lt e = let f : n - 1 ≡ c * 1024 + o = omega (arith, e) in omega (arith, f, lt)

offset_by : (c o n : ℕ) → o < 1024 → n ≡ c * 1024 + o + 1 → (n - 1) % 1024 ≡ o
offset_by c o n lt e = let f : n - 1 ≡ c * 1024 + o = omega (arith, e) in omega (arith, f, lt)

pub chunk_of_word : (a : Addr) → a.offset < 1024 → chunk_number (word_of_ref (Some a)) ≡ a.chunk
chunk_of_word a lt = chunk_by a.chunk a.offset (word_of_ref (Some a)) lt refl

pub offset_of_word : (a : Addr) → a.offset < 1024 → offset (word_of_ref (Some a)) ≡ a.offset
offset_of_word a lt = offset_by a.chunk a.offset (word_of_ref (Some a)) lt refl

pub word_some : (a : Addr) → 0 < word_of_ref (Some a)
word_some a = let f : 0 < a.chunk * 1024 + a.offset + 1 = omega arith in f

pub word_long : (a : Addr) → a.offset < 1024 → a.chunk < 2 ^ 32 → word_of_ref (Some a) < 2 ^ 43
word_long a lt short = let f : a.chunk * 1024 + a.offset + 1 < 2 ^ 43 = omega (arith, lt, short) in f

pub before_offset : (a b : Addr) → a.chunk ≡ b.chunk → word_of_ref (Some a) < word_of_ref (Some b) → a.offset < b.offset
before_offset a b e lt = let f : a.chunk * 1024 + a.offset + 1 < b.chunk * 1024 + b.offset + 1 = lt in omega (arith, e, f)

-- LISTS
-- pairwise order of later items is order by places
pub rises_at : {A : Type 0} (before : A → A → Type 0) (xs : List A) → Rises before xs → RisesAt before xs
rises_at before [] up i j x y lt e f = absurd cc
rises_at before (z ∷ zs) up zero zero x y lt e f = absurd (omega arith)
rises_at before (z ∷ zs) up (suc i) zero x y lt e f = absurd (omega arith)
rises_at before (z ∷ zs) up zero (suc j) x y lt e f = subst (λ k. before k y) (same_Some z x e) (up.0 y (got_in zs j y f))
rises_at before (z ∷ zs) up (suc i) (suc j) x y lt e f = rises_at before zs up.1 i j x y (omega (arith, lt)) e f
