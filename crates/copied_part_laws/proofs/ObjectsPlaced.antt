-- Objects that are laid into new chunks, as they are read there.
use Rattle.copied_part_laws.proofs.Common.{◌≡◌, ◌⊎◌, ℕ, ◌+◌, arith, Bool, true, false, cond, List, [], ◌∷◌, ◌++◌, inl, inr, refl, subst, nat_lt, in_append_cases, in_append_left, in_append_right, Addr, Birth, Born, Cell, Hole, Mark, Moved, size_of, ChunkValue, words_in, cell_of, Located, located, located_by, objects_from, objects_appended, AreNew, Laying, laid_all, laid_at, laid_one, next_place, open_next, opened, placed_behind, relocations, room_in, In, objects_of_chunks, chunks_of}

-- ---- OBJECTS LAID INTO NEW CHUNKS

pub seen_only : (number at : ℕ) (c : Cell) (m : Mark) (q : Located) → In (located_by number at c m []) q → (b : Birth) × (m ≡ Born b) × (located number at b c ≡ q)
seen_only number at c (Born b) q (inl e) = (b, refl, e)
seen_only number at c (Born b) q (inr i) = absurd i
seen_only number at c (Moved to) q i = absurd i
seen_only number at c Hole q i = absurd i

-- an object placed comes after those of the last chunk
placed_objects : (ks : List ChunkValue) (c : Cell) (q : Located) → In (objects_of_chunks (chunks_of (placed_behind ks c))) q → In (objects_of_chunks (chunks_of ks)) q ⊎ In (located_by (next_place ks).chunk (next_place ks).offset c c.mark []) q
placed_objects [] c q i = inl i
placed_objects (k ∷ []) c q i = elim (in_append_cases (objects_from k.number 0 (k.cells ++ c ∷ [])) [] q i) [
  | inl j ↦ elim (in_append_cases (objects_from k.number 0 k.cells) (located_by k.number (0 + words_in k.cells) c c.mark []) q (subst (λ os. In os q) (objects_appended k.cells k.number 0 c) j)) [
    | inl a ↦ inl (in_append_left (objects_from k.number 0 k.cells) [] q a)
    | inr b ↦ inr (subst (λ n. In (located_by k.number n c c.mark []) q) (let e : 0 + words_in k.cells ≡ words_in k.cells = omega arith in e) b)
  ]
  | inr z ↦ absurd z
]
placed_objects (k ∷ (l ∷ ks)) c q i = elim (in_append_cases (objects_from k.number 0 k.cells) (objects_of_chunks (chunks_of (placed_behind (l ∷ ks) c))) q i) [
  | inl j ↦ inl (in_append_left (objects_from k.number 0 k.cells) (objects_of_chunks (chunks_of (l ∷ ks))) q j)
  | inr j ↦ elim (placed_objects (l ∷ ks) c q j) [
    | inl a ↦ inl (in_append_right (objects_from k.number 0 k.cells) (objects_of_chunks (chunks_of (l ∷ ks))) q a)
    | inr b ↦ inr b
  ]
]

pushed_objects : (ks : List ChunkValue) (k : ChunkValue) (q : Located) → k.cells ≡ [] → In (objects_of_chunks (chunks_of (ks ++ k ∷ []))) q → In (objects_of_chunks (chunks_of ks)) q
pushed_objects [] k q e i = subst (λ cs. In (objects_from k.number 0 cs ++ []) q) e i
pushed_objects (x ∷ ks) k q e i = elim (in_append_cases (objects_from x.number 0 x.cells) (objects_of_chunks (chunks_of (ks ++ k ∷ []))) q i) [
  | inl j ↦ in_append_left (objects_from x.number 0 x.cells) (objects_of_chunks (chunks_of ks)) q j
  | inr j ↦ in_append_right (objects_from x.number 0 x.cells) (objects_of_chunks (chunks_of ks)) q (pushed_objects ks k q e j)
]

open_objects : (laid spare : List ChunkValue) (q : Located) → AreNew spare → In (objects_of_chunks (chunks_of (open_next laid spare).laid)) q → In (objects_of_chunks (chunks_of laid)) q
open_objects laid [] q n i = i
open_objects laid (k ∷ ks) q n i = pushed_objects laid k q n.0.0 i

opened_objects : (y : Laying) (b : Bool) (q : Located) → AreNew y.spare → In (objects_of_chunks (chunks_of (cond b (open_next y.laid y.spare) y).laid)) q → In (objects_of_chunks (chunks_of y.laid)) q
opened_objects y true q n i = open_objects y.laid y.spare q n i
opened_objects y false q n i = i

open_new : (laid spare : List ChunkValue) → AreNew spare → AreNew (open_next laid spare).spare
open_new laid [] n = n
open_new laid (k ∷ ks) n = n.1

pub opened_new : (y : Laying) (b : Bool) → AreNew y.spare → AreNew (cond b (open_next y.laid y.spare) y).spare
opened_new y true n = open_new y.laid y.spare n
opened_new y false n = n

pub laid_objects : (y : Laying) (h : List ChunkValue) (xs : List Addr) (q : Located) → AreNew y.spare → In (objects_of_chunks (chunks_of (laid_all y h xs).laid)) q
    → In (objects_of_chunks (chunks_of y.laid)) q ⊎ ((m : Addr × Addr) × In (relocations y h xs) m × In (located_by m.1.chunk m.1.offset (cell_of h m.0) (cell_of h m.0).mark []) q)
laid_objects y h [] q n i = inl i
laid_objects y h (a ∷ xs) q n i =
    let c : Cell = cell_of h a in
    elim (laid_objects (laid_one y (cell_of h a)) h xs q (opened_new y (nat_lt (room_in y.laid) (size_of (cell_of h a))) n) i) [
      | inl j ↦ elim (placed_objects (opened y (size_of (cell_of h a))).laid (cell_of h a) q j) [
        | inl p ↦ inl (opened_objects y (nat_lt (room_in y.laid) (size_of (cell_of h a))) q n p)
        | inr p ↦ inr ((a, laid_at y (size_of (cell_of h a))), inl refl, p)
      ]
      | inr r ↦ inr (r.0, inr r.1, r.2)
    ]
