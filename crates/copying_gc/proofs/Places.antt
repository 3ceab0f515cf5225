-- The capacity that the lists of a collection need.
use Rattle.copying_gc.proofs.Common.{◌≡◌, ℕ, zero, suc, ◌+◌, ◌-◌, ◌<◌, ◌≤◌, Bool, true, false, cond, List, [], ◌∷◌, length, fold, refl, ap, ◌∙◌, arith, ⊎_elim, eqb, Option, Some, None, length-append, nat_lt, cases_Bool, cases_lt, le-leb, lt-leb, Addr, Birth, Cell, Moved, size_of, with_mark, ChunkValue, cell_at, put_cell, cell_of, place_in, put_object, length-put, LeafHeapValue, Survivor, born_in, born_of, live_count, with_chunks, CollectorValue, birth_in, visited_reference, visited_at, Laying, is_moved, laid_all, laid_one, next_place, open_next, opened, room_in, copied, copied_one, followed_at, followed_large, followed_ref, led_cell}
use Rattle.object_layout.proofs.ChunkLaws as laws
use Rattle.copying_gc.proofs.FoundLemmas as marks
use Rattle.copying_gc.proofs.FoundCounts as counts
use Rattle.copying_gc.proofs.Rooms as rooms

-- ---- objects with their birth names: no more than before, after one was replaced

fewer_cells : (cs : List Cell) (at : ℕ) (d : Cell) → born_of d.mark ≤ born_of (cell_at cs at).mark → born_in (put_cell cs at d) ≤ born_in cs
fewer_cells [] at d l = omega arith
fewer_cells (c ∷ cs) zero d l = omega arith
fewer_cells (c ∷ cs) (suc n) d l =
    ⊎_elim
    (λ (above : suc n < size_of c). let t = lt-leb (size_of c) (suc n) above in rw t (omega arith))
    (λ (within : size_of c ≤ suc n).
    let t = le-leb (size_of c) (suc n) within in
    let ih = fewer_cells cs (suc n - size_of c) d (rw t at l) in
    rw t (omega arith))
    (cases_lt (suc n) (size_of c))

pub fewer : (h : List ChunkValue) (a : Addr) (d : Cell) → born_of d.mark ≤ born_of (cell_of h a).mark → live_count (put_object h a d) ≤ live_count h
fewer [] a d l = omega arith
fewer (k ∷ ks) a d l =
    ⊎_elim
    (λ (e : eqb k.number a.chunk ≡ true). let ih = fewer_cells k.cells a.offset d (rw e at l) in rw e (omega arith))
    (λ (e : eqb k.number a.chunk ≡ false). let ih = fewer ks a d (rw e at l) in rw e (omega arith))
    (cases_Bool (eqb k.number a.chunk))

-- one is marked as moved
pub fewer_moved : (h : List ChunkValue) (a to : Addr) → live_count (put_object h a (with_mark (cell_of h a) (Moved to))) ≤ live_count h
fewer_moved h a to = fewer h a (with_mark (cell_of h a) (Moved to)) (omega arith)

fewer_at : (h : List ChunkValue) (s : Survivor) (b : Bool) → live_count (cond b h (followed_at h s.old)) ≤ live_count h
fewer_at h s true = omega arith
fewer_at h s false = fewer h s.old _ (omega arith)

-- references are updated
pub fewer_led : (h : List ChunkValue) (ss : List Survivor) → live_count (fold followed_large h ss) ≤ live_count h
fewer_led h [] = omega arith
fewer_led h (s ∷ ss) = let a = fewer_at h s (is_moved h s.old) in let ih = fewer_led (followed_large h s) ss in omega arith

length_at : (h : List ChunkValue) (s : Survivor) (b : Bool) → length (cond b h (followed_at h s.old)) ≡ length h
length_at h s true = refl
length_at h s false = length-put h s.old _

pub length_led : (h : List ChunkValue) (ss : List Survivor) → length (fold followed_large h ss) ≡ length h
length_led h [] = refl
length_led h (s ∷ ss) = length_led (followed_large h s) ss ∙ length_at h s (is_moved h s.old)

place_at : (h : List ChunkValue) (s : Survivor) (b : Bool) (n : ℕ) → place_in (cond b h (followed_at h s.old)) n ≡ place_in h n
place_at h s true n = refl
place_at h s false n = laws.place_in-put h s.old (led_cell (followed_ref h) (cell_of h s.old)) n

-- and each chunk keeps its position
pub place_led : (h : List ChunkValue) (ss : List Survivor) (n : ℕ) → place_in (fold followed_large h ss) n ≡ place_in h n
place_led h [] n = refl
place_led h (s ∷ ss) n = place_led (followed_large h s) ss n ∙ place_at h s (is_moved h s.old) n

-- ---- a search: found and unfound objects together are as many as before

count_at : (s : CollectorValue) (a : Addr) (b : Option Birth) → birth_in (cell_of s.heap.chunks a).mark ≡ b
    → length (visited_at s a b).found + live_count (visited_at s a b).heap.chunks ≡ length s.found + live_count s.heap.chunks
count_at s a None e = refl
count_at s a (Some b) e =
    let live = marks.visit_live s.heap.chunks a b (birth_in (cell_of s.heap.chunks a).mark) refl e in
    let count = counts.count_found s.heap.chunks a a live in
    let more = length-append s.found (record { birth = b; old = a } ∷ []) in
    omega arith

count_one : (s : CollectorValue) (r : Option Addr) → length (visited_reference s r).found + live_count (visited_reference s r).heap.chunks ≡ length s.found + live_count s.heap.chunks
count_one s None = refl
count_one s (Some a) = count_at s a (birth_in (cell_of s.heap.chunks a).mark) refl

pub count_all : (s : CollectorValue) (rs : List (Option Addr)) → length (fold visited_reference s rs).found + live_count (fold visited_reference s rs).heap.chunks ≡ length s.found + live_count s.heap.chunks
count_all s [] = refl
count_all s (r ∷ rs) = count_all (visited_reference s r) rs ∙ count_one s r

-- ---- copying: the found objects stay, and no more are moved

found_at : (s : CollectorValue) (x : Survivor) (b : Bool) → (cond b (copied_one s x) s).found ≡ s.found
found_at s x true = refl
found_at s x false = refl

pub found_stay : (s : CollectorValue) (x : Survivor) → (copied s x).found ≡ s.found
found_stay s x = found_at s x (is_moved s.heap.chunks x.old)

pub all_stay : (s : CollectorValue) (xs : List Survivor) → (fold copied s xs).found ≡ s.found
all_stay s [] = refl
all_stay s (x ∷ xs) = all_stay (copied s x) xs ∙ found_stay s x

few_at : (s : CollectorValue) (x : Survivor) (b : Bool) → length (cond b (copied_one s x) s).moved ≤ length s.moved + 1
few_at s x true = let e = length-append s.moved ((x.old, next_place (opened s.laying (size_of (cell_of s.heap.chunks x.old))).laid) ∷ []) in omega arith
few_at s x false = omega arith

heap_at : (s : CollectorValue) (x : Survivor) (b : Bool) → (cond b (copied_one s x) s).heap ≡ with_chunks s.heap (cond b (copied_one s x) s).heap.chunks
heap_at s x true = refl
heap_at s x false = refl

-- of the heap, only the objects change
pub heap_after : (s : CollectorValue) (xs : List Survivor) → (fold copied s xs).heap ≡ with_chunks s.heap (fold copied s xs).heap.chunks
heap_after s [] = refl
heap_after s (x ∷ xs) = heap_after (copied s x) xs ∙ ap (λ (g : LeafHeapValue). with_chunks g (fold copied (copied s x) xs).heap.chunks) (heap_at s x (is_moved s.heap.chunks x.old))

-- ---- the new chunks, laid or not

open_count : (laid spare : List ChunkValue) → length (open_next laid spare).laid + length (open_next laid spare).spare ≡ length laid + length spare
open_count laid [] = refl
open_count laid (k ∷ ks) = let e = length-append laid (k ∷ []) in omega arith

count_opened_at : (y : Laying) (b : Bool) → length (cond b (open_next y.laid y.spare) y).laid + length (cond b (open_next y.laid y.spare) y).spare ≡ length y.laid + length y.spare
count_opened_at y true = open_count y.laid y.spare
count_opened_at y false = refl

pub count_opened : (y : Laying) (n : ℕ) → length (opened y n).laid + length (opened y n).spare ≡ length y.laid + length y.spare
count_opened y n = count_opened_at y (nat_lt (room_in y.laid) n)

pub count_laid : (y : Laying) (h : List ChunkValue) (xs : List Addr) → length (laid_all y h xs).laid + length (laid_all y h xs).spare ≡ length y.laid + length y.spare
count_laid y h [] = refl
count_laid y h (a ∷ xs) =
    let ih = count_laid (laid_one y (cell_of h a)) h xs in
    let step = count_opened y (size_of (cell_of h a)) in
    let same = rooms.length_placed (opened y (size_of (cell_of h a))).laid (cell_of h a) in
    omega arith

-- ---- collections with equal parts are equal

pub same_collection : (found : List Survivor) (spare : List ChunkValue) (h g : LeafHeapValue) (ks ls : List ChunkValue) (ps qs : List (Addr × Addr)) → h ≡ g → ks ≡ ls → ps ≡ qs
    → ◌≡◌ {A = CollectorValue} (record { heap = h; found = found; laying = record { laid = ks; spare = spare }; moved = ps }) (record { heap = g; found = found; laying = record { laid = ls; spare = spare }; moved = qs })
same_collection found spare h g ks ls ps qs heap laid moved = λ i. record { heap = heap i; found = found; laying = record { laid = laid i; spare = spare }; moved = moved i }
