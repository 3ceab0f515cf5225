-- A heap with some objects marked as found.
use Rattle.copying_gc.proofs.Common.{◌≡◌, ℕ, List, [], ◌∷◌, ◌++◌, length, refl, sym, ap, ◌∙◌, subst, arith, inl, inr, Option, Some, None, get_or, All, fold, Addr, Birth, Cell, Mark, Born, Moved, Hole, IsBorn, IsObject, with_mark, ChunkValue, cell_of, place_in, chunk_position, HasObjectAt, IsSoundReference, In, addr_cases, length-put, place_of-put, CollectorValue, found_in, all_found, birth_in, visited_reference, visited_at, IsTarget}
use Rattle.object_layout.proofs.ChunkLaws as laws
use Rattle.address_laws.proofs.Puts as puts

pub found_other : (h : List ChunkValue) (x a : Addr) → (x ≡ a → ⊥) → cell_of (found_in h x) a ≡ cell_of h a
found_other h x a ne = puts.mark_other h x (Moved x) a ne

pub found_same : (h : List ChunkValue) (a : Addr) → HasObjectAt (found_in h a) a → ⊥
found_same h a l = puts.mark_dead h a (Moved a) (λ b. b) l

pub found_refs : (h : List ChunkValue) (x a : Addr) → (cell_of (found_in h x) a).refs ≡ (cell_of h a).refs
found_refs h x a = ap (λ (c : Cell). c.refs) (puts.mark_alone h x (Moved x) a Hole)

-- ---- all of a list marked

pub found_kept : (h : List ChunkValue) (xs : List Addr) (a : Addr) → (In xs a → ⊥) → cell_of (all_found h xs) a ≡ cell_of h a
found_kept h [] a n = refl
found_kept h (x ∷ xs) a n = found_kept (found_in h x) xs a (λ i. n (inr i)) ∙ found_other h x a (λ e. n (inl e))

pub all_found_refs : (h : List ChunkValue) (xs : List Addr) (a : Addr) → (cell_of (all_found h xs) a).refs ≡ (cell_of h a).refs
all_found_refs h [] a = refl
all_found_refs h (x ∷ xs) a = all_found_refs (found_in h x) xs a ∙ found_refs h x a

-- only marks changed
pub all_found_alone : (h : List ChunkValue) (xs : List Addr) (a : Addr) (m : Mark) → with_mark (cell_of (all_found h xs) a) m ≡ with_mark (cell_of h a) m
all_found_alone h [] a m = refl
all_found_alone h (x ∷ xs) a m = all_found_alone (found_in h x) xs a m ∙ puts.mark_alone h x (Moved x) a m

-- what has its birth name afterwards had it before, and isn't marked
pub found_live : (h : List ChunkValue) (xs : List Addr) (a : Addr) → HasObjectAt (all_found h xs) a → HasObjectAt h a × (In xs a → ⊥)
found_live h [] a l = (l, λ i. i)
found_live h (x ∷ xs) a l =
    let r = found_live (found_in h x) xs a l in
    elim (addr_cases x a) [
      | inl e ↦ absurd (found_same h a (subst (λ (y : Addr). HasObjectAt (found_in h y) a) e r.0))
      | inr n ↦ (subst (λ (c : Cell). IsBorn c.mark) (found_other h x a n) r.0, λ i. elim i [ inl e ↦ n e | inr j ↦ r.1 j ])
    ]

pub found_push : (h : List ChunkValue) (xs : List Addr) (a : Addr) → all_found h (xs ++ a ∷ []) ≡ found_in (all_found h xs) a
found_push h [] a = refl
found_push h (x ∷ xs) a = found_push (found_in h x) xs a

pub found_place : (h : List ChunkValue) (xs : List Addr) (n : ℕ) → chunk_position (all_found h xs) n ≡ chunk_position h n
found_place h [] n = refl
found_place h (x ∷ xs) n = found_place (found_in h x) xs n ∙ place_of-put h x (with_mark (cell_of h x) (Moved x)) n

pub found_length : (h : List ChunkValue) (xs : List Addr) → length (all_found h xs) ≡ length h
found_length h [] = refl
found_length h (x ∷ xs) = found_length (found_in h x) xs ∙ length-put h x (with_mark (cell_of h x) (Moved x))

-- ---- objects stay objects

target_stays : (h : List ChunkValue) (x : Addr) (r : Option Addr) → IsTarget h r → IsTarget (found_in h x) r
target_stays h x None t = t
target_stays h x (Some a) t =
    λ l.
    let p = place_of-put h x (with_mark (cell_of h x) (Moved x)) a.chunk in
    let n = length-put h x (with_mark (cell_of h x) (Moved x)) in
    let w = t (omega arith) in
    (puts.mark_object h x (Moved x) tt a w.0, w.1)

pub found_target : (h : List ChunkValue) (xs : List Addr) (r : Option Addr) → IsTarget h r → IsTarget (all_found h xs) r
found_target h [] r t = t
found_target h (x ∷ xs) r t = found_target (found_in h x) xs r (target_stays h x r t)

pub sound_target : (h : List ChunkValue) (r : Option Addr) → IsSoundReference h r → IsTarget h r
sound_target h None t = tt
sound_target h (Some a) t = λ l. let w = t l in (laws.born_object h a w.0, w.1)

at_targets : (s : CollectorValue) (x : Addr) (b : Option Birth) (r : Option Addr) → IsTarget s.heap.chunks r → IsTarget (visited_at s x b).heap.chunks r
at_targets s x None r t = t
at_targets s x (Some b) r t = target_stays s.heap.chunks x r t

pub visited_targets : (s : CollectorValue) (v : Option Addr) (r : Option Addr) → IsTarget s.heap.chunks r → IsTarget (visited_reference s v).heap.chunks r
visited_targets s None r t = t
visited_targets s (Some x) r t = at_targets s x (birth_in (cell_of s.heap.chunks x).mark) r t

-- ---- what a mark means

pub birth_live : (m : Mark) (b : Birth) → birth_in m ≡ Some b → m ≡ Born b
birth_live (Born c) b e = let q : c ≡ b = cc in ap Born q
birth_live (Moved to) b e = absurd cc
birth_live Hole b e = absurd cc

pub live_birth : (m : Mark) → IsBorn m → birth_in m ≡ None → ⊥
live_birth (Born c) l e = absurd cc
live_birth (Moved to) l e = l
live_birth Hole l e = l

pub born_live : (m : Mark) (b : Birth) → m ≡ Born b → IsBorn m
born_live m b e = subst IsBorn (sym e) tt

pub visit_live : (h : List ChunkValue) (a : Addr) (b : Birth) (r : Option Birth) → r ≡ birth_in (cell_of h a).mark → r ≡ Some b → HasObjectAt h a
visit_live h a b r e f = born_live (cell_of h a).mark b (birth_live (cell_of h a).mark b (sym e ∙ f))

pub visited_all_targets : (s : CollectorValue) (v : Option Addr) (k : List ChunkValue) → k ≡ (visited_reference s v).heap.chunks → (rs : List (Option Addr)) → All (IsTarget s.heap.chunks) rs → All (IsTarget k) rs
visited_all_targets s v k e rs all = λ i r l. subst (λ (h : List ChunkValue). IsTarget h (get_or rs i r)) (sym e) (visited_targets s v (get_or rs i r) (all i r l))

at_place : (s : CollectorValue) (x : Addr) (b : Option Birth) (n : ℕ) → place_in (visited_at s x b).heap.chunks n ≡ place_in s.heap.chunks n
at_place s x None n = refl
at_place s x (Some b) n = laws.place_in-put s.heap.chunks x (with_mark (cell_of s.heap.chunks x) (Moved x)) n

-- no chunk moves
pub visited_place : (s : CollectorValue) (v : Option Addr) (n : ℕ) → place_in (visited_reference s v).heap.chunks n ≡ place_in s.heap.chunks n
visited_place s None n = refl
visited_place s (Some x) n = at_place s x (birth_in (cell_of s.heap.chunks x).mark) n

at_refs : (s : CollectorValue) (x : Addr) (b : Option Birth) (a : Addr) → (cell_of (visited_at s x b).heap.chunks a).refs ≡ (cell_of s.heap.chunks a).refs
at_refs s x None a = refl
at_refs s x (Some b) a = found_refs s.heap.chunks x a

pub visited_refs : (s : CollectorValue) (v : Option Addr) (a : Addr) → (cell_of (visited_reference s v).heap.chunks a).refs ≡ (cell_of s.heap.chunks a).refs
visited_refs s None a = refl
visited_refs s (Some x) a = at_refs s x (birth_in (cell_of s.heap.chunks x).mark) a

at_object : (s : CollectorValue) (x : Addr) (b : Option Birth) (a : Addr) → IsObject (cell_of s.heap.chunks a).mark → IsObject (cell_of (visited_at s x b).heap.chunks a).mark
at_object s x None a o = o
at_object s x (Some b) a o = puts.mark_object s.heap.chunks x (Moved x) tt a o

pub visited_object : (s : CollectorValue) (v : Option Addr) (a : Addr) → IsObject (cell_of s.heap.chunks a).mark → IsObject (cell_of (visited_reference s v).heap.chunks a).mark
visited_object s None a o = o
visited_object s (Some x) a o = at_object s x (birth_in (cell_of s.heap.chunks x).mark) a o

fold_targets : (s : CollectorValue) (vs : List (Option Addr)) (r : Option Addr) → IsTarget s.heap.chunks r → IsTarget (fold visited_reference s vs).heap.chunks r
fold_targets s [] r t = t
fold_targets s (v ∷ vs) r t = fold_targets (visited_reference s v) vs r (visited_targets s v r t)

pub fold_all_targets : (s : CollectorValue) (vs : List (Option Addr)) (k : List ChunkValue) → k ≡ (fold visited_reference s vs).heap.chunks → (rs : List (Option Addr)) → All (IsTarget s.heap.chunks) rs → All (IsTarget k) rs
fold_all_targets s vs k e rs all = λ i r l. subst (λ (h : List ChunkValue). IsTarget h (get_or rs i r)) (sym e) (fold_targets s vs (get_or rs i r) (all i r l))

pub all_found_object : (h : List ChunkValue) (xs : List Addr) (a : Addr) → IsObject (cell_of h a).mark → IsObject (cell_of (all_found h xs) a).mark
all_found_object h [] a o = o
all_found_object h (x ∷ xs) a o = all_found_object (found_in h x) xs a (puts.mark_object h x (Moved x) tt a o)
