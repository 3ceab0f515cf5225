-- The last of the chunks laid so far.
use Rattle.copying_gc.proofs.Common.{◌≡◌, suc, ◌-◌, ◌<◌, ◌≤◌, List, [], ◌∷◌, ◌++◌, length, get_or, set, refl, sym, ap, ◌∙◌, arith, Addr, Cell, size_of, ChunkValue, words_in, room_in, placed_behind, next_place}

module _ (ks : List ChunkValue) (d : ChunkValue) (some : 0 < length ks) where
  room_in-last : room_in ks ≡ (get_or ks (length ks - 1) d).size - words_in (get_or ks (length ks - 1) d).cells
  room_in-last = last_room ks some
    where
      last_room : (xs : List ChunkValue) → 0 < length xs → room_in xs ≡ (get_or xs (length xs - 1) d).size - words_in (get_or xs (length xs - 1) d).cells
      last_room [] l = absurd (omega arith)
      last_room (k ∷ []) l = refl
      last_room (k ∷ (x ∷ xs)) l =
          let e : suc (suc (length xs)) - 1 ≡ suc (suc (length xs) - 1) = omega arith in
          rw e (last_room (x ∷ xs) (omega arith))

  next_place-last : next_place ks ≡ record { chunk = (get_or ks (length ks - 1) d).number; offset = words_in (get_or ks (length ks - 1) d).cells }
  next_place-last = last_place ks some
    where
      last_place : (xs : List ChunkValue) → 0 < length xs → next_place xs ≡ record { chunk = (get_or xs (length xs - 1) d).number; offset = words_in (get_or xs (length xs - 1) d).cells }
      last_place [] l = absurd (omega arith)
      last_place (k ∷ []) l = refl
      last_place (k ∷ (x ∷ xs)) l =
          let e : suc (suc (length xs)) - 1 ≡ suc (suc (length xs) - 1) = omega arith in
          rw e (last_place (x ∷ xs) (omega arith))

  placed-last : (c : Cell) → placed_behind ks c ≡ set ks (length ks - 1) (record (get_or ks (length ks - 1) d) { cells = (get_or ks (length ks - 1) d).cells ++ c ∷ [] })
  placed-last c = last_placed ks some
    where
      last_placed : (xs : List ChunkValue) → 0 < length xs → placed_behind xs c ≡ set xs (length xs - 1) (record (get_or xs (length xs - 1) d) { cells = (get_or xs (length xs - 1) d).cells ++ c ∷ [] })
      last_placed [] l = absurd (omega arith)
      last_placed (k ∷ []) l = refl
      last_placed (k ∷ (x ∷ xs)) l =
          let e : suc (suc (length xs)) - 1 ≡ suc (suc (length xs) - 1) = omega arith in
          rw e (ap (λ (ys : List ChunkValue). k ∷ ys) (last_placed (x ∷ xs) (omega arith)))

-- the last chunk, as code reads it
module _ (ks : List ChunkValue) (k : ChunkValue) (some : 0 < length ks) (read : k ≡ get_or ks (length ks - 1) k) where
  pub read_room : room_in ks ≡ k.size - words_in k.cells
  read_room = room_in-last ks k some ∙ ap (λ (x : ChunkValue). x.size - words_in x.cells) (sym read)

  pub read_place : next_place ks ≡ record { chunk = k.number; offset = words_in k.cells }
  read_place = next_place-last ks k some ∙ ap (λ (x : ChunkValue). let r : Addr = record { chunk = x.number; offset = words_in x.cells } in r) (sym read)

  pub read_placed : (c : Cell) → placed_behind ks c ≡ set ks (length ks - 1) (record k { cells = k.cells ++ c ∷ [] })
  read_placed c = placed-last ks k some c ∙ ap (λ (x : ChunkValue). set ks (length ks - 1) (record x { cells = x.cells ++ c ∷ [] })) (sym read)

-- if there is room, it is in a chunk
pub some_with_room : (ks : List ChunkValue) → 0 < room_in ks → 0 < length ks
some_with_room [] l = absurd (omega arith)
some_with_room (k ∷ ks) l = omega arith

pub some_room : (ks : List ChunkValue) (c : Cell) → size_of c ≤ room_in ks → 0 < length ks
some_room ks c l = some_with_room ks (omega arith)
