-- The numbers of the reserved chunk and of new ones.
use Rattle.std.proofs.Common.{append_assoc}
use Rattle.copying_gc.proofs.Common.{◌≡◌, ℕ, ◌<◌, Bool, true, false, cond, List, [], ◌∷◌, ◌++◌, length, map, refl, sym, ap, ◌∙◌, subst, arith, inl, inr, Option, Some, None, remove, nat_lt, reverse, Addr, Cell, size_of, ChunkValue, chunk_at, cell_of, IsCurrent, IsReserved, In, numbers, Distinct, numbers_append, in_removed, in_at, removed_at, distinct_removed, reverse_first, Laying, AreNew, laid_all, laid_one, opened, open_next, placed_behind, room_in, last_place, reserved_of, unreserved}

-- the position of the reserved chunk is within the list
abbrev pub Within : List ChunkValue → Option ℕ → Type 0
Within ks None = Unit {0}
Within ks (Some i) = i < length ks

pub within_at : (ks : List ChunkValue) (o : Option ℕ) → IsReserved ks o → Within ks o
within_at ks None w = tt
within_at ks (Some i) w = w.0

module _ (ks : List ChunkValue) (d : Distinct (numbers ks)) where
  pub in_unreserved : (r : Option ℕ) (n : ℕ) → In (numbers (unreserved ks r)) n → In (numbers ks) n
  in_unreserved None n i = i
  in_unreserved (Some j) n i = in_removed ks j n i

  pub in_reserved : (r : Option ℕ) → Within ks r → (n : ℕ) → In (numbers (reserved_of ks r)) n → In (numbers ks) n
  in_reserved None w n i = absurd i
  in_reserved (Some j) w n (inl e) = subst (In (numbers ks)) e (in_at ks j w)
  in_reserved (Some j) w n (inr i) = absurd i

  pub distinct_unreserved : (r : Option ℕ) → Distinct (numbers (unreserved ks r))
  distinct_unreserved None = d
  distinct_unreserved (Some j) = distinct_removed ks j d

  pub distinct_reserved : (r : Option ℕ) → Distinct (numbers (reserved_of ks r))
  distinct_reserved None = tt
  distinct_reserved (Some j) = ((λ i. i), tt)

  pub reserved_apart : (r : Option ℕ) → Within ks r → (n : ℕ) → In (numbers (unreserved ks r)) n → In (numbers (reserved_of ks r)) n → ⊥
  reserved_apart None w n i j = j
  reserved_apart (Some x) w n i (inl e) = removed_at ks x w d (subst (In (numbers (remove ks x))) (sym e) i)
  reserved_apart (Some x) w n i (inr j) = j

-- ---- the new chunks

pub numbers_placed : (ks : List ChunkValue) (c : Cell) → numbers (placed_behind ks c) ≡ numbers ks
numbers_placed [] c = refl
numbers_placed (k ∷ []) c = refl
numbers_placed (k ∷ (l ∷ ks)) c = ap (λ (ns : List ℕ). k.number ∷ ns) (numbers_placed (l ∷ ks) c)

open_numbers : (laid spare : List ChunkValue) → numbers (open_next laid spare).laid ++ numbers (open_next laid spare).spare ≡ numbers laid ++ numbers spare
open_numbers laid [] = refl
open_numbers laid (k ∷ ks) = ap (λ (ns : List ℕ). ns ++ numbers ks) (numbers_append laid (k ∷ [])) ∙ append_assoc (numbers laid) (k.number ∷ []) (numbers ks)

pub opened_numbers : (y : Laying) (b : Bool) → numbers (cond b (open_next y.laid y.spare) y).laid ++ numbers (cond b (open_next y.laid y.spare) y).spare ≡ numbers y.laid ++ numbers y.spare
opened_numbers y true = open_numbers y.laid y.spare
opened_numbers y false = refl

pub laid_numbers : (y : Laying) (h : List ChunkValue) (xs : List Addr) → numbers (laid_all y h xs).laid ++ numbers (laid_all y h xs).spare ≡ numbers y.laid ++ numbers y.spare
laid_numbers y h [] = refl
laid_numbers y h (a ∷ xs) =
    laid_numbers (laid_one y (cell_of h a)) h xs
    ∙ (ap (λ (ns : List ℕ). ns ++ numbers (opened y (size_of (cell_of h a))).spare) (numbers_placed (opened y (size_of (cell_of h a))).laid (cell_of h a))
    ∙ opened_numbers y (nat_lt (room_in y.laid) (size_of (cell_of h a))))

abbrev pub AreSmall : List ChunkValue → Type 0
AreSmall [] = Unit {0}
AreSmall (k ∷ ks) = (k.size ≡ 1024) × AreSmall ks

small_push : (ks : List ChunkValue) (k : ChunkValue) → AreSmall ks → k.size ≡ 1024 → AreSmall (ks ++ k ∷ [])
small_push [] k s e = (e, tt)
small_push (x ∷ ks) k s e = (s.0, small_push ks k s.1 e)

small_placed : (ks : List ChunkValue) (c : Cell) → AreSmall ks → AreSmall (placed_behind ks c)
small_placed [] c s = tt
small_placed (k ∷ []) c s = (s.0, tt)
small_placed (k ∷ (l ∷ ks)) c s = (s.0, small_placed (l ∷ ks) c s.1)

small_open : (laid spare : List ChunkValue) → AreSmall laid → AreNew spare → AreSmall (open_next laid spare).laid × AreNew (open_next laid spare).spare
small_open laid [] s n = (s, n)
small_open laid (k ∷ ks) s n = (small_push laid k s n.0.1, n.1)

small_opened : (y : Laying) (b : Bool) → AreSmall y.laid → AreNew y.spare → AreSmall (cond b (open_next y.laid y.spare) y).laid × AreNew (cond b (open_next y.laid y.spare) y).spare
small_opened y true s n = small_open y.laid y.spare s n
small_opened y false s n = (s, n)

pub laid_small : (y : Laying) (h : List ChunkValue) (xs : List Addr) → AreSmall y.laid → AreNew y.spare → AreSmall (laid_all y h xs).laid
laid_small y h [] s n = s
laid_small y h (a ∷ xs) s n =
    let o = small_opened y (nat_lt (room_in y.laid) (size_of (cell_of h a))) s n in
    laid_small (laid_one y (cell_of h a)) h xs (small_placed (opened y (size_of (cell_of h a))).laid (cell_of h a) o.0) o.1

pub small_of_map : (f : ChunkValue → ChunkValue) → ((k : ChunkValue) → (f k).size ≡ k.size) → (ks : List ChunkValue) → AreSmall ks → AreSmall (map f ks)
small_of_map f e [] s = tt
small_of_map f e (k ∷ ks) s = (e k ∙ s.0, small_of_map f e ks s.1)

last_small : (k : ChunkValue) (ks : List ChunkValue) → AreSmall (k ∷ ks) → (chunk_at (k ∷ ks) (length ks)).size ≡ 1024
last_small k [] s = s.0
last_small k (l ∷ ks) s = last_small l ks s.1

pub current_last : (ks : List ChunkValue) → AreSmall ks → IsCurrent ks (last_place ks)
current_last [] s = tt
current_last (k ∷ ks) s = (omega arith, last_small k ks s)

new_push : (ks : List ChunkValue) (k : ChunkValue) → AreNew ks → (k.cells ≡ []) × (k.size ≡ 1024) → AreNew (ks ++ k ∷ [])
new_push [] k n e = (e, tt)
new_push (x ∷ ks) k n e = (n.0, new_push ks k n.1 e)

pub new_reverse : (ks : List ChunkValue) → AreNew ks → AreNew (reverse ks)
new_reverse [] n = tt
new_reverse (k ∷ ks) n = subst AreNew (sym (reverse_first k ks)) (new_push (reverse ks) k (new_reverse ks n.1) n.0)
