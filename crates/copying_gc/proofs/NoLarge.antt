-- Heaps that hold only small objects, by their counts.
use Rattle.copying_gc.proofs.Common.{◌≡◌, ℕ, zero, suc, ◌-◌, ◌≤◌, List, [], ◌∷◌, fold, refl, subst, arith, inl, inr, eqb, cases_Bool, cases_lt, le-leb, lt-leb, Addr, Born, Cell, Hole, IsObject, Mark, Moved, size_of, ChunkValue, cell_at, cell_of, object_words_in, held_size, held_words, small_part, small_words, sum_in, Survivor, followed_large, CanBeFollowed}

part_le : (n : ℕ) → small_part n ≤ n
part_le n =
    elim (cases_lt 1024 n) [
      | inl above ↦ rw (lt-leb n 1024 above) (omega arith)
      | inr within ↦ rw (le-leb n 1024 within) (omega arith)
    ]

part_small : (n : ℕ) → small_part n ≡ n → n ≤ 1024
part_small n e =
    elim (cases_lt 1024 n) [
      | inl above ↦ let z : 0 ≡ n = rw (lt-leb n 1024 above) at e in absurd (omega arith)
      | inr within ↦ within
    ]

size_le : (m : Mark) (n : ℕ) → held_size m (small_part n) ≤ held_size m n
size_le (Born b) n = part_le n
size_le (Moved to) n = part_le n
size_le Hole n = omega arith

size_small : (m : Mark) (n : ℕ) → IsObject m → held_size m (small_part n) ≡ held_size m n → n ≤ 1024
size_small (Born b) n o e = part_small n e
size_small (Moved to) n o e = part_small n e
size_small Hole n o e = absurd o

in_le : (cs : List Cell) → sum_in small_part cs ≤ object_words_in cs
in_le [] = omega arith
in_le (c ∷ cs) = let a = size_le c.mark (size_of c) in let b = in_le cs in omega arith

all_le : (ks : List ChunkValue) → small_words ks ≤ held_words ks
all_le [] = omega arith
all_le (k ∷ ks) = let a = in_le k.cells in let b = all_le ks in omega arith

small_in : (cs : List Cell) (at : ℕ) → sum_in small_part cs ≡ object_words_in cs → IsObject (cell_at cs at).mark → size_of (cell_at cs at) ≤ 1024
small_in [] at e o = absurd o
small_in (c ∷ cs) zero e o =
    let a = size_le c.mark (size_of c) in
    let b = in_le cs in
    size_small c.mark (size_of c) o (omega arith)
small_in (c ∷ cs) (suc n) e o =
    let a = size_le c.mark (size_of c) in
    let b = in_le cs in
    elim (cases_lt (suc n) (size_of c)) [
      | inl above ↦ let z = rw (lt-leb (size_of c) (suc n) above) at o in absurd z
      | inr within ↦
          let t = le-leb (size_of c) (suc n) within in
          rw t (small_in cs (suc n - size_of c) (omega arith) (rw t at o))
    ]

small_at : (ks : List ChunkValue) (a : Addr) → small_words ks ≡ held_words ks → IsObject (cell_of ks a).mark → size_of (cell_of ks a) ≤ 1024
small_at [] a e o = absurd o
small_at (k ∷ ks) a e o =
    let x = in_le k.cells in
    let y = all_le ks in
    elim (cases_Bool (eqb k.number a.chunk)) [
      | inl t ↦ rw t (small_in k.cells a.offset (omega arith) (rw t at o))
      | inr t ↦ rw t (small_at ks a (omega arith) (rw t at o))
    ]

-- without large objects, none is updated in place
pub none_led : (ks : List ChunkValue) (ss : List Survivor) → small_words ks ≡ held_words ks → CanBeFollowed ks ss → fold followed_large ks ss ≡ ks
none_led ks [] e h = refl
none_led ks (s ∷ ss) e h =
    let small = le-leb (size_of (cell_of ks s.old)) 1024 (small_at ks s.old e h.0.0) in
    let same : followed_large ks s ≡ ks = rw small refl in
    rw same (none_led ks ss e (subst (λ (g : List ChunkValue). CanBeFollowed g ss) same h.1))
