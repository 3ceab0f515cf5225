-- How many objects have their birth names, after one is marked as found.
use Rattle.copying_gc.proofs.Common.{◌≡◌, ℕ, zero, suc, ◌+◌, ◌-◌, ◌<◌, ◌≤◌, true, false, List, [], ◌∷◌, refl, arith, ⊎_elim, eqb, cases_Bool, cases_lt, le-leb, lt-leb, Addr, Cell, Mark, Born, Moved, Hole, IsBorn, size_of, with_mark, ChunkValue, cell_at, put_cell, cell_of, put_object, HasObjectAt, born_of, born_in, live_count}

born_one : (m : Mark) → IsBorn m → born_of m ≡ 1
born_one (Born b) l = refl
born_one (Moved to) l = absurd l
born_one Hole l = absurd l

count_cells : (cs : List Cell) (at : ℕ) (to : Addr) → IsBorn (cell_at cs at).mark → born_in cs ≡ born_in (put_cell cs at (with_mark (cell_at cs at) (Moved to))) + 1
count_cells [] at to l = absurd l
count_cells (c ∷ cs) zero to l = let e = born_one c.mark l in omega arith
count_cells (c ∷ cs) (suc n) to l =
    ⊎_elim
    (λ (above : suc n < size_of c). let m = rw (lt-leb (size_of c) (suc n) above) at l in absurd m)
    (λ (within : size_of c ≤ suc n).
    let t = le-leb (size_of c) (suc n) within in
    let ih = count_cells cs (suc n - size_of c) to (rw t at l) in
    rw t (omega arith))
    (cases_lt (suc n) (size_of c))

pub count_found : (h : List ChunkValue) (a to : Addr) → HasObjectAt h a → live_count h ≡ live_count (put_object h a (with_mark (cell_of h a) (Moved to))) + 1
count_found [] a to l = absurd l
count_found (k ∷ ks) a to l =
    ⊎_elim
    (λ (e : eqb k.number a.chunk ≡ true). let ih = count_cells k.cells a.offset to (rw e at l) in rw e (omega arith))
    (λ (e : eqb k.number a.chunk ≡ false). let ih = count_found ks a to (rw e at l) in rw e (omega arith))
    (cases_Bool (eqb k.number a.chunk))
