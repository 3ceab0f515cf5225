-- New chunks with distinct numbers, and the waiting tasks while one of them is taken.
use Rattle.leaf_collections.proofs.Common.{◌≡◌, ℕ, suc, ◌==◌, arith, true, false, Option, Some, None, List, [], ◌∷◌, map, All, slice_get, inl, inr, refl, sym, ◌∙◌, ne_eqb, AllByRecursion, false≢true, Task, is_running, heap_of, tasks_are_out_once, ChunkValue, number_of, IsBlank, HaveDistinctNumbers, AreNew, Rests, IdleRest, In, SharedValue, accounts, IsSharedValue, fresh_off}
use Rattle.std.specs.List.{IsDistinct}

-- LISTS

-- chunks with distinct numbers
numbers_off : (n : ℕ) (xs : List ChunkValue) → ((c : ChunkValue) → In xs c → c.number ≡ n → ⊥) → AllByRecursion (λ y. (n == y) ≡ false) (map number_of xs)
numbers_off n [] f = tt
numbers_off n (x ∷ xs) f = (ne_eqb n x.number (λ e. f x (inl refl) (sym e)), numbers_off n xs (λ c i. f c (inr i)))

pub distinct_numbers : (ks : List ChunkValue) → HaveDistinctNumbers ks → IsDistinct (λ j k. j == k) (map number_of ks)
unfolding IsDistinct
distinct_numbers [] a = tt
distinct_numbers (k ∷ ks) a = (numbers_off k.number ks (λ c i e. fresh_off ks c k.number a.0 i e), distinct_numbers ks a.1)

pub new_of : (xs : List ChunkValue) → All IsBlank xs → AreNew xs
new_of [] a = tt
new_of (x ∷ xs) a = let z : IsBlank x = a 0 x (omega arith) in ((z.cells, z.size), new_of xs (λ i d lt. a (suc i) d (omega (arith, lt))))

-- WAITING TASKS REST
idle_by : (o : Option Task) → is_running o ≡ false → is_running o ≡ true → ⊥
idle_by o a b = false≢true (sym a ∙ b)

pub idle_rest : (w : SharedValue) → IsSharedValue w → (accounts w).end ≡ None → IdleRest (accounts w)
idle_rest w I on u stops = idle_rest_by_cases (heap_of (accounts w) u).worker refl
  where
    idle_rest_by_cases : (o : Option ℕ) → (heap_of (accounts w) u).worker ≡ o → Rests (accounts w) u
    idle_rest_by_cases None e = e
    idle_rest_by_cases (Some k) e = absurd (idle_by (slice_get (accounts w).machine.tasks u) stops ((tasks_are_out_once w.program w.settings w.journal.items I.legal).runs on u k e))
