-- How many objects a heap has, and that no more can be found.
use Rattle.mark_sweep_gc.proofs.Common.{◌≡◌, ℕ, zero, suc, ◌+◌, ◌-◌, ◌≤◌, ◌==◌, Bool, true, false, cond, List, [], ◌∷◌, ◌++◌, length, refl, ◌∙◌, subst, arith, inl, nat_le, length-append, IsDistinct, Addr, Born, Cell, Hole, IsObject, Mark, Moved, no_cell, size_of, ChunkValue, cell_of, same_address, held_size, one_each, sum_in, cell_at, HasObjectAt, once_from, In, in_append_left, in_append_right, object_count}
use Rattle.object_layout.proofs.ChunkLaws as laws
use Rattle.mark_sweep_gc.proofs.Addresses.{once_within}

-- the addresses of the objects of a chunk, whose cells begin at an offset, and of a heap
abbrev address_if : Mark → ℕ → ℕ → List Addr
address_if (Born b) number at = record { chunk = number; offset = at } ∷ []
address_if (Moved to) number at = record { chunk = number; offset = at } ∷ []
address_if Hole number at = []

abbrev cells_at : List Cell → ℕ → ℕ → List Addr
cells_at [] number at = []
cells_at (c ∷ cs) number at = address_if c.mark number at ++ cells_at cs number (at + size_of c)

abbrev pub addresses : List ChunkValue → List Addr
addresses [] = []
addresses (k ∷ ks) = cells_at k.cells k.number 0 ++ addresses ks

address_count : (m : Mark) (number at : ℕ) → length (address_if m number at) ≡ held_size m 1
address_count (Born b) number at = refl
address_count (Moved to) number at = refl
address_count Hole number at = refl

cells_count : (cs : List Cell) (number at : ℕ) → length (cells_at cs number at) ≡ sum_in one_each cs
cells_count [] number at = refl
cells_count (c ∷ cs) number at =
    let ih : length (cells_at cs number (at + size_of c)) ≡ sum_in one_each cs = cells_count cs number (at + size_of c) in
    let one : length (address_if c.mark number at) ≡ held_size c.mark 1 = address_count c.mark number at in
    length-append (address_if c.mark number at) (cells_at cs number (at + size_of c)) ∙ (omega arith)

addresses_count : (ks : List ChunkValue) → length (addresses ks) ≡ object_count ks
addresses_count [] = refl
addresses_count (k ∷ ks) =
    let ih : length (addresses ks) ≡ object_count ks = addresses_count ks in
    let one : length (cells_at k.cells k.number 0) ≡ sum_in one_each k.cells = cells_count k.cells k.number 0 in
    length-append (cells_at k.cells k.number 0) (addresses ks) ∙ (omega arith)

address_there : (m : Mark) (number at : ℕ) → IsObject m → In (address_if m number at) (record { chunk = number; offset = at })
address_there (Born b) number at o = inl refl
address_there (Moved to) number at o = inl refl
address_there Hole number at o = absurd o

in_cells : (cs : List Cell) (number start at : ℕ) → IsObject (cell_at cs at).mark → In (cells_at cs number start) (record { chunk = number; offset = start + at })
in_cells [] number start at o = absurd o
in_cells (c ∷ cs) number start zero o =
    let e : start + 0 ≡ start = omega arith in
    rw e (in_append_left (address_if c.mark number start) _ _ (address_there c.mark number start o))
in_cells (c ∷ cs) number start (suc n) o = in_cells_by_cases (λ p. in_cells cs number (start + size_of c) (suc n - size_of c) p) (nat_le (size_of c) (suc n)) refl o
  where
    in_cells_by_cases : (IsObject (cell_at cs (suc n - size_of c)).mark → In (cells_at cs number (start + size_of c)) (record { chunk = number; offset = start + size_of c + (suc n - size_of c) }))
        → (b : Bool) → nat_le (size_of c) (suc n) ≡ b → IsObject (cond b (cell_at cs (suc n - size_of c)) no_cell).mark → In (cells_at (c ∷ cs) number start) (record { chunk = number; offset = start + suc n })
    in_cells_by_cases rest true e o =
        let le : size_of c ≤ suc n = grind arith in
        let s : start + size_of c + (suc n - size_of c) ≡ start + suc n = omega arith in
        in_append_right (address_if c.mark number start) _ _ (subst (λ (m : ℕ). In (cells_at cs number (start + size_of c)) (record { chunk = number; offset = m })) s (rest o))
    in_cells_by_cases rest false e o = absurd o

in_addresses : (ks : List ChunkValue) (a : Addr) → IsObject (cell_of ks a).mark → In (addresses ks) a
in_addresses [] a o = absurd o
in_addresses (k ∷ ks) a o = in_addresses_by_cases (in_addresses ks a) (k.number == a.chunk) refl o
  where
    in_addresses_by_cases : (IsObject (cell_of ks a).mark → In (addresses ks) a) → (b : Bool) → (k.number == a.chunk) ≡ b → IsObject (cond b (cell_at k.cells a.offset) (cell_of ks a)).mark → In (addresses (k ∷ ks)) a
    in_addresses_by_cases rest true e o =
        let n : k.number ≡ a.chunk = grind arith in
        let i = in_cells k.cells k.number 0 a.offset o in
        let z : 0 + a.offset ≡ a.offset = omega arith in
        let j = subst (λ (m : ℕ). In (cells_at k.cells k.number 0) (record { chunk = k.number; offset = m })) z i in
        in_append_left (cells_at k.cells k.number 0) _ _ (subst (λ (m : ℕ). In (cells_at k.cells k.number 0) (record { chunk = m; offset = a.offset })) n j)
    in_addresses_by_cases rest false e o = in_append_right (cells_at k.cells k.number 0) _ _ (rest o)

-- distinct objects that are found are at most as many as there are
pub found_within : (ks : List ChunkValue) (xs : List Addr) → IsDistinct same_address xs → ((a : Addr) → In xs a → HasObjectAt ks a) → length xs ≤ object_count ks
found_within ks xs o h = let le = once_within xs (addresses ks) (once_from xs o) (λ a i. in_addresses ks a (laws.born_object ks a (h a i))) in subst (λ (n : ℕ). length xs ≤ n) (addresses_count ks) le
