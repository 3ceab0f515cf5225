-- The old heap after the survivors are copied and all references are updated.
use Rattle.copying_gc.proofs.Common.{◌≡◌, ℕ, ◌+◌, ◌<◌, ◌≤◌, Bool, true, false, cond, List, [], ◌∷◌, ◌++◌, length, fold, refl, sym, ap, ◌∙◌, subst, arith, inl, inr, Option, Contains, ◌↔◌, All, take, drop, nat_le, IsPermutation, take_all, drop_all, append-nil, sum_by, sum_by-cons, IsPermutation-map, IsPermutation-sym, Contains-permutation, sum_by-IsPermutation, Addr, Cell, Moved, IsObject, size_of, with_mark, ChunkValue, cell_of, HeapIsClosed, IsSoundReference, addr_cases, Once, is_same, same_address, In, in_from_contains, contains_from_in, HaveSameShape, Survivor, IsSurvivor, olds, old_of, HaveNames, all_found, found_in, nothing_laid, is_moved, smalls, relocations, AreNew, laid_at, CollectorValue, copied, copied_one, followed_ref, followed_large, redirected, led_cell, IsVacated}
use Rattle.copying_gc.proofs.Moves as moves
use Rattle.copying_gc.proofs.Larges as larges
use Rattle.copying_gc.proofs.Leading as leading

alike_found : (h : List ChunkValue) (xs : List Addr) → HaveSameShape h (all_found h xs)
alike_found h [] = larges.alike_itself h
alike_found h (x ∷ xs) = larges.alike_then h (found_in h x) (all_found (found_in h x) xs) (larges.alike_put h x (with_mark (cell_of h x) (Moved x)) refl) (alike_found (found_in h x) xs)

alike_step : (k : CollectorValue) (s : Survivor) (b : Bool) → HaveSameShape k.heap.chunks (cond b (copied_one k s) k).heap.chunks
alike_step k s true = larges.alike_put k.heap.chunks s.old (with_mark (cell_of k.heap.chunks s.old) (Moved (laid_at k.laying (size_of (cell_of k.heap.chunks s.old))))) refl
alike_step k s false = larges.alike_itself k.heap.chunks

alike_copied : (k : CollectorValue) (ss : List Survivor) → HaveSameShape k.heap.chunks (fold copied k ss).heap.chunks
alike_copied k [] = larges.alike_itself k.heap.chunks
alike_copied k (s ∷ ss) = larges.alike_then k.heap.chunks (copied k s).heap.chunks (fold copied (copied k s) ss).heap.chunks (alike_step k s (is_moved k.heap.chunks s.old)) (alike_copied (copied k s) ss)

module _ (h : List ChunkValue) (from : List (Option Addr)) (closed : HeapIsClosed h) (sound : All (IsSoundReference h) from)
    (ss : List Survivor) (found : List Addr) (spare : List ChunkValue)
    (kept : (a : Addr) → Contains (olds ss) a ↔ IsSurvivor h from a) (once : Once (olds ss))
    (all : (a : Addr) → In (olds ss) a → In found a) (back : (a : Addr) → In found a → In (olds ss) a)
    (names : HaveNames h ss)
    (k : CollectorValue) (k_old : k.heap.chunks ≡ all_found h found) (k_laying : k.laying ≡ nothing_laid spare) (k_moved : k.moved ≡ [])
    (new : AreNew spare) (t : CollectorValue) (is : t ≡ fold copied k ss) where
  alike : HaveSameShape h (fold followed_large t.heap.chunks ss)
  alike =
      larges.alike_then h t.heap.chunks (fold followed_large t.heap.chunks ss)
      (subst (λ (z : CollectorValue). HaveSameShape h z.heap.chunks) (sym is) (larges.alike_then h k.heap.chunks (fold copied k ss).heap.chunks (subst (HaveSameShape h) (sym k_old) (alike_found h found)) (alike_copied k ss)))
      (larges.alike_larges t.heap.chunks ss)

  large : (a : Addr) → Contains (olds ss) a → is_moved h a ≡ false → cell_of (fold followed_large t.heap.chunks ss) a ≡ led_cell (redirected (relocations (nothing_laid spare) h (smalls h (olds ss)))) (with_mark (cell_of h a) (Moved a))
  large a c s =
      let i = in_from_contains (olds ss) a c in
      let marked = leading.large_marked h from closed sound ss found spare kept once all names k k_old k_laying k_moved new t is a i s in
      let object : IsObject (cell_of t.heap.chunks a).mark = subst (λ (d : Cell). IsObject d.mark) (sym marked) tt in
      let small : is_moved t.heap.chunks a ≡ false = ap (λ (d : Cell). nat_le (size_of d) 1024) marked ∙ s in
      let refs = leading.refs_same t.heap.chunks (relocations (nothing_laid spare) h (smalls h (olds ss))) (cell_of h a).refs (leading.leads_refs h from closed sound ss found spare kept once all names k k_old k_laying k_moved new t is a i) in
      larges.larges_led t.heap.chunks ss (followed_ref t.heap.chunks) once (λ r. refl) a i object small
      ∙ (ap (led_cell (followed_ref t.heap.chunks)) marked
      ∙ ap (λ (rs : List (Option Addr)). let d : Cell = record (with_mark (cell_of h a) (Moved a)) { refs = rs } in d) refs)

  others : (a : Addr) → (Contains (olds ss) a → ⊥) → cell_of (fold followed_large t.heap.chunks ss) a ≡ cell_of h a
  others a n =
      let out : In (olds ss) a → ⊥ = λ i. n (contains_from_in (olds ss) a i) in
      larges.larges_other t.heap.chunks ss a out
      ∙ leading.dead_stays h from closed sound ss found spare kept once all names k k_old k_laying k_moved new t is a out (back a)

  pub vacated : IsVacated h (fold followed_large t.heap.chunks ss) (olds ss) (redirected (relocations (nothing_laid spare) h (smalls h (olds ss))))
  vacated = record { alike = alike; large = large; others = others }

-- ---- a sort keeps the survivors, each once

pub kept_sorted : (P : Addr → Type 0) (xs ys : List Survivor) → IsPermutation xs ys → ((a : Addr) → Contains (olds xs) a ↔ P a) → (a : Addr) → Contains (olds ys) a ↔ P a
kept_sorted P xs ys p k a = (
  λ c. (k a).0 (Contains-permutation (olds ys) (olds xs) a (IsPermutation-sym (olds xs) (olds ys) (IsPermutation-map old_of xs ys p)) c),
  λ w. Contains-permutation (olds xs) (olds ys) a (IsPermutation-map old_of xs ys p) ((k a).1 w),
)

pub in_sorted : (xs ys : List Survivor) → IsPermutation xs ys → (a : Addr) → In (olds xs) a → In (olds ys) a
in_sorted xs ys p a i = in_from_contains (olds ys) a (Contains-permutation (olds xs) (olds ys) a (IsPermutation-map old_of xs ys p) (contains_from_in (olds xs) a i))

pub in_unsorted : (xs ys : List Survivor) → IsPermutation xs ys → (a : Addr) → In (olds ys) a → In (olds xs) a
in_unsorted xs ys p a i = in_from_contains (olds xs) a (Contains-permutation (olds ys) (olds xs) a (IsPermutation-sym (olds xs) (olds ys) (IsPermutation-map old_of xs ys p)) (contains_from_in (olds ys) a i))

counted : Addr → Addr → ℕ
counted a x = cond (same_address x a) 1 0

count : Addr → List Addr → ℕ
count a [] = 0
count a (x ∷ xs) = cond (same_address x a) 1 0 + count a xs

counts : (a : Addr) (xs : List Addr) → sum_by (counted a) xs ≡ count a xs
unfolding counted count
counts a [] = refl
counts a (x ∷ xs) = sum_by-cons (counted a) x xs ∙ ap (λ n. cond (same_address x a) 1 0 + n) (counts a xs)

count_none : (xs : List Addr) (a : Addr) → (In xs a → ⊥) → count a xs ≡ 0
unfolding count
count_none [] a n = refl
count_none (x ∷ xs) a n = let ih = count_none xs a (λ i. n (inr i)) in rw (moves.addr_other x a (λ e. n (inl e))) (omega arith)

count_in : (xs : List Addr) (a : Addr) → In xs a → 0 < count a xs
unfolding count
count_in [] a i = absurd i
count_in (x ∷ xs) a (inl e) = rw (is_same x a e) (omega arith)
count_in (x ∷ xs) a (inr i) = let ih = count_in xs a i in omega arith

count_once : (xs : List Addr) → Once xs → (a : Addr) → count a xs ≤ 1
unfolding count
count_once [] o a = omega arith
count_once (x ∷ xs) o a =
    elim (addr_cases x a) [
      | inl e ↦
          let none = count_none xs a (λ i. o.0 (contains_from_in xs x (subst (In xs) (sym e) i))) in
          rw (is_same x a e) (omega arith)
      | inr n ↦ let ih = count_once xs o.1 a in rw (moves.addr_other x a n) (omega arith)
    ]

count_head : (xs : List Addr) (x : Addr) → count x (x ∷ xs) ≡ 1 + count x xs
unfolding count
count_head xs x = rw (is_same x x refl) refl

count_tail : (xs : List Addr) (x a : Addr) → count a xs ≤ count a (x ∷ xs)
unfolding count
count_tail xs x a = omega arith

once_count : (xs : List Addr) → ((a : Addr) → count a xs ≤ 1) → Once xs
once_count [] h = tt
once_count (x ∷ xs) h = (
  λ c. let i = count_in xs x (in_from_contains xs x c) in let two = h x in let e = count_head xs x in omega arith,
  once_count xs (λ a. let z = count_tail xs x a in let w = h a in omega arith),
)

pub once_sorted : (xs ys : List Addr) → IsPermutation xs ys → Once xs → Once ys
once_sorted xs ys p o = once_count ys (λ a. let e = sum_by-IsPermutation (counted a) xs ys p in let h = count_once xs o a in let c = counts a xs in let d = counts a ys in omega arith)

pub once_kept : (xs ys : List Survivor) → IsPermutation xs ys → Once (olds xs) → Once (olds ys)
once_kept xs ys p o = once_sorted (olds xs) (olds ys) (IsPermutation-map old_of xs ys p) o

-- a slice of a whole vector put back
pub put_back : {X : Type 0} (n : ℕ) (xs ys : List X) → length xs ≡ n → length ys ≡ n → take n (xs ++ drop (length xs) ys) ≡ xs
put_back n xs ys e f =
    ap (λ zs. take n (xs ++ zs)) (drop_all (length xs) ys (omega arith))
    ∙ (ap (take n) (append-nil xs) ∙ take_all n xs (omega arith))
