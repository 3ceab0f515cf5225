-- The invariant of a heap after one of its chunks is written or another is added.
use Rattle.leaf_heap.proofs.Common.{◌≡◌, ℕ, zero, suc, ◌+◌, ◌-◌, ◌*◌, ◌/◌, ◌<◌, ◌≤◌, true, false, List, [], ◌∷◌, ◌++◌, length, get_or, set, refl, sym, ap, ◌∙◌, subst, arith, ⊎_elim, inl, inr, ◌⊎◌, eqb, length-set, Option, Some, None, take, All-get_or, All-set, Bor, IfSome, option_copied, option_map, cases_Bool, cases_lt, eqb-true, lt-ltb, le-ltb, le-leb, lt-leb, get_or_read, take_more, Addr, Header, Born, Cell, Hole, IsObject, Mark, Moved, header_of, size_of, ChunkValue, cell_at, object_at, put_cell, words_in, IsObjectAt, cell_of, chunk_at, object_words_in, held_size, held_words, no_chunk, one_each, place_in, chunk_position, put_object, small_part, sum_in, sum_of, with_cell, NotesChanges, PiecesValue, ShowsChunks, written_chunk, total-put_cell, words_in-push, CellsFitInChunks, saturating_words, LeafHeapValue, IsCurrent, AgreesWithChunks, IsReserved, large_place, place_for, room_at, small_place, units}
use Rattle.chunk_list.proofs.below.frozen_views.PieceLists as lists
use Rattle.object_layout.proofs.ChunkLaws as chunks
pub use Rattle.object_layout.proofs.ChunkLaws.{none_there, place_found, place_there}
use Rattle.object_layout.proofs.PlaceLemmas as place

-- ---- the words of objects

pub object_words_in-put : (cs : List Cell) (at : ℕ) (d : Cell) → held_size d.mark (size_of d) ≡ held_size (cell_at cs at).mark (size_of (cell_at cs at)) → object_words_in (put_cell cs at d) ≡ object_words_in cs
object_words_in-put = total-put_cell (λ c. held_size c.mark (size_of c)) object_words_in (λ c cs. refl)

pub object_words_in-push : (cs : List Cell) (d : Cell) → object_words_in (cs ++ d ∷ []) ≡ object_words_in cs + held_size d.mark (size_of d)
object_words_in-push [] d = omega arith
object_words_in-push (c ∷ cs) d = let ih = object_words_in-push cs d in omega arith

pub held_words-set : (ks : List ChunkValue) (i : ℕ) (k : ChunkValue) (d : ChunkValue) → i < length ks →
    held_words (set ks i k) + object_words_in (get_or ks i d).cells ≡ held_words ks + object_words_in k.cells
held_words-set [] i k d l = absurd (omega arith)
held_words-set (x ∷ xs) zero k d l = omega arith
held_words-set (x ∷ xs) (suc i) k d l = let ih = held_words-set xs i k d (omega arith) in omega arith

pub held_words-append : (ks ls : List ChunkValue) → held_words (ks ++ ls) ≡ held_words ks + held_words ls
held_words-append [] ls = omega arith
held_words-append (k ∷ ks) ls = let ih = held_words-append ks ls in omega arith

-- the same, where an object of n words counts for f n
module _ (f : ℕ → ℕ) where
  pub sum_in-put : (cs : List Cell) (at : ℕ) (d : Cell) → ((n : ℕ) → held_size d.mark n ≡ held_size (cell_at cs at).mark n) → size_of d ≡ size_of (cell_at cs at) → sum_in f (put_cell cs at d) ≡ sum_in f cs
  sum_in-put cs at d s z = total-put_cell (λ c. held_size c.mark (f (size_of c))) (sum_in f) (λ c cs. refl) cs at d (s (f (size_of d)) ∙ ap (λ (n : ℕ). held_size (cell_at cs at).mark (f n)) z)

  pub sum_in-push : (cs : List Cell) (d : Cell) → sum_in f (cs ++ d ∷ []) ≡ sum_in f cs + held_size d.mark (f (size_of d))
  sum_in-push [] d = omega arith
  sum_in-push (c ∷ cs) d = let ih = sum_in-push cs d in omega arith

  pub sum_of-set : (ks : List ChunkValue) (i : ℕ) (k : ChunkValue) (d : ChunkValue) → i < length ks →
      sum_of f (set ks i k) + sum_in f (get_or ks i d).cells ≡ sum_of f ks + sum_in f k.cells
  sum_of-set [] i k d l = absurd (omega arith)
  sum_of-set (x ∷ xs) zero k d l = omega arith
  sum_of-set (x ∷ xs) (suc i) k d l = let ih = sum_of-set xs i k d (omega arith) in omega arith

  pub sum_of-append : (ks ls : List ChunkValue) → sum_of f (ks ++ ls) ≡ sum_of f ks + sum_of f ls
  sum_of-append [] ls = omega arith
  sum_of-append (k ∷ ks) ls = let ih = sum_of-append ks ls in omega arith

  -- an object is written or placed; an empty chunk is added; heaps are merged
  pub sum_kept : (ks : List ChunkValue) (i : ℕ) (k : ChunkValue) → k ≡ get_or ks i k → i < length ks → (at : ℕ) (d : Cell) → ((n : ℕ) → held_size d.mark n ≡ held_size (cell_at k.cells at).mark n) → size_of d ≡ size_of (cell_at k.cells at) →
      (n : ℕ) → n ≡ saturating_words (sum_of f ks) → n ≡ saturating_words (sum_of f (set ks i (with_cell k at d)))
  sum_kept ks i k read l at d s z n e =
      let held = sum_in-put k.cells at d s z in
      let sum = sum_of-set ks i (with_cell k at d) k l in
      let same : sum_in f (get_or ks i k).cells ≡ sum_in f k.cells = ap (λ (x : ChunkValue). sum_in f x.cells) (sym read) in
      let all : sum_of f (set ks i (with_cell k at d)) ≡ sum_of f ks = omega arith in
      rw all e

  pub sum_placed : (ks : List ChunkValue) (i : ℕ) (k : ChunkValue) → k ≡ get_or ks i k → i < length ks → (c : Cell) → ((n : ℕ) → held_size c.mark n ≡ n) →
      (n m : ℕ) → n ≡ saturating_words (sum_of f ks) → m ≡ saturating_words (n + f (size_of c)) → m ≡ saturating_words (sum_of f (set ks i (record k { cells = k.cells ++ c ∷ [] })))
  sum_placed ks i k read l c born n m e w =
      let held = sum_in-push k.cells c in
      let size : held_size c.mark (f (size_of c)) ≡ f (size_of c) = born (f (size_of c)) in
      let sum = sum_of-set ks i (record k { cells = k.cells ++ c ∷ [] }) k l in
      let same : sum_in f (get_or ks i k).cells ≡ sum_in f k.cells = ap (λ (x : ChunkValue). sum_in f x.cells) (sym read) in
      let all : sum_of f (set ks i (record k { cells = k.cells ++ c ∷ [] })) ≡ sum_of f ks + f (size_of c) = omega arith in
      w ∙ rw (all, e) (saturates (sum_of f ks) (f (size_of c)))
    where
      saturates : (a b : ℕ) → saturating_words (saturating_words a + b) ≡ saturating_words (a + b)
      saturates a b = omega arith

  pub sum_pushed : (ks : List ChunkValue) (k : ChunkValue) → k.cells ≡ [] → (n : ℕ) → n ≡ saturating_words (sum_of f ks) → n ≡ saturating_words (sum_of f (ks ++ k ∷ []))
  sum_pushed ks k empty n e =
      let none : sum_in f k.cells ≡ 0 = ap (sum_in f) empty in
      let sum : sum_of f (ks ++ k ∷ []) ≡ sum_of f ks = sum_of-append ks (k ∷ []) ∙ omega arith in
      rw sum e

  pub sum_merged : (ls rs ks : List ChunkValue) (a b n m : ℕ) → a ≡ saturating_words (sum_of f ls) → b ≡ saturating_words (sum_of f rs) → n ≡ saturating_words (sum_of f ks) → m ≡ saturating_words (n + saturating_words (a + b)) → m ≡ saturating_words (sum_of f (ls ++ (rs ++ ks)))
  sum_merged ls rs ks a b n m left right own w =
      let all : sum_of f (ls ++ (rs ++ ks)) ≡ sum_of f ls + (sum_of f rs + sum_of f ks) = rw (sum_of-append ls (rs ++ ks), sum_of-append rs ks) refl in
      rw all (w ∙ rw (own, left, right) (three (sum_of f ls) (sum_of f rs) (sum_of f ks)))
    where
      three : (x y z : ℕ) → saturating_words (saturating_words z + saturating_words (saturating_words x + saturating_words y)) ≡ saturating_words (x + (y + z))
      three x y z = omega arith

  pub sum_more : (ks : List ChunkValue) (i : ℕ) (k : ChunkValue) → i < length ks → k ≡ get_or ks i k → (n m : ℕ) → n ≡ saturating_words (sum_of f (take i ks)) → m ≡ saturating_words (n + sum_in f k.cells) → m ≡ saturating_words (sum_of f (take (i + 1) ks))
  sum_more ks i k l read n m e w =
      let more = take_more ks i k l in
      let all : sum_of f (take (i + 1) ks) ≡ sum_of f (take i ks) + sum_in f k.cells = rw (more, ← read, sum_of-append (take i ks) (k ∷ [])) (omega arith) in
      w ∙ rw (all, e) (saturates (sum_of f (take i ks)) (sum_in f k.cells))
    where
      saturates : (a b : ℕ) → saturating_words (saturating_words a + b) ≡ saturating_words (a + b)
      saturates a b = omega arith

-- ---- positions of chunks

pub place_of-set : (ks : List ChunkValue) (i : ℕ) (k : ChunkValue) (d : ChunkValue) → k.number ≡ (get_or ks i d).number → (n : ℕ) → chunk_position (set ks i k) n ≡ chunk_position ks n
place_of-set [] i k d e n = refl
place_of-set (x ∷ xs) zero k d e n = rw e
place_of-set (x ∷ xs) (suc i) k d e n = rw (place_of-set xs i k d e n)

pub place_in-set : (ks : List ChunkValue) (i : ℕ) (k : ChunkValue) (d : ChunkValue) → k.number ≡ (get_or ks i d).number → (n : ℕ) → place_in (set ks i k) n ≡ place_in ks n
place_in-set ks i k d e n = rw (place_of-set ks i k d e n, length-set)

-- a property of the chunks that the new one shares with the old
pub part-set : {X : Type 0} (f : ChunkValue → X) (ks : List ChunkValue) (i j : ℕ) (k d : ChunkValue) → f k ≡ f (get_or ks i d) → f (get_or (set ks i k) j d) ≡ f (get_or ks j d)
part-set f [] i j k d e = refl
part-set f (x ∷ xs) zero zero k d e = e
part-set f (x ∷ xs) zero (suc j) k d e = refl
part-set f (x ∷ xs) (suc i) zero k d e = refl
part-set f (x ∷ xs) (suc i) (suc j) k d e = part-set f xs i j k d e

empty-set : (ks : List ChunkValue) (i j : ℕ) (k d : ChunkValue) → ((get_or ks i d).cells ≡ [] → k.cells ≡ []) → (get_or ks j d).cells ≡ [] → (get_or (set ks i k) j d).cells ≡ []
empty-set [] i j k d e h = h
empty-set (x ∷ xs) zero zero k d e h = e h
empty-set (x ∷ xs) zero (suc j) k d e h = h
empty-set (x ∷ xs) (suc i) zero k d e h = h
empty-set (x ∷ xs) (suc i) (suc j) k d e h = empty-set xs i j k d e h

module _ (ks : List ChunkValue) (i : ℕ) (k : ChunkValue) (size : k.size ≡ (chunk_at ks i).size) where
  pub IsCurrent-set : (o : Option ℕ) → IsCurrent ks o → IsCurrent (set ks i k) o
  IsCurrent-set None h = h
  IsCurrent-set (Some j) h = (rw length-set h.0, part-set (λ (c : ChunkValue). c.size) ks i j k no_chunk size ∙ h.1)

  pub IsReserved-set : ((chunk_at ks i).cells ≡ [] → k.cells ≡ []) → (o : Option ℕ) → IsReserved ks o → IsReserved (set ks i k) o
  IsReserved-set e None h = h
  IsReserved-set e (Some j) h =
      let s = part-set (λ (c : ChunkValue). c.size) ks i j k no_chunk size in
      (rw length-set h.0, (rw s h.1.0, empty-set ks i j k no_chunk e h.1.1))

  -- a chunk that isn't the reserved one
  pub IsReserved-set_other : (o : Option ℕ) → (o ≡ Some i → ⊥) → IsReserved ks o → IsReserved (set ks i k) o
  IsReserved-set_other None ne h = h
  IsReserved-set_other (Some j) ne h =
      let s = part-set (λ (c : ChunkValue). c.size) ks i j k no_chunk size in
      (rw length-set h.0, (rw s h.1.0, apart ks i j (λ e. ne (ap Some e)) h.1.1))
    where
      apart : (xs : List ChunkValue) (a b : ℕ) → (b ≡ a → ⊥) → (get_or xs b no_chunk).cells ≡ [] → (get_or (set xs a k) b no_chunk).cells ≡ []
      apart [] a b n g = g
      apart (x ∷ xs) zero zero n g = absurd (n refl)
      apart (x ∷ xs) zero (suc b) n g = g
      apart (x ∷ xs) (suc a) zero n g = g
      apart (x ∷ xs) (suc a) (suc b) n g = apart xs a b (λ e. n (ap suc e)) g

-- ---- words inside their chunks

module _ (k : ChunkValue) (at : ℕ) (d : Cell) (s : size_of d ≡ size_of (cell_at k.cells at)) where
  within_put : (ks : List ChunkValue) (i : ℕ) → k ≡ get_or ks i k → i < length ks → CellsFitInChunks ks → CellsFitInChunks (set ks i (with_cell k at d))
  within_put ks i read l h =
      let here : words_in k.cells ≤ k.size = subst (λ (x : ChunkValue). words_in x.cells ≤ x.size) (sym read) (All-get_or (λ (x : ChunkValue). words_in x.cells ≤ x.size) ks i k l h) in
      let same = place.words_in-put k.cells at d s in
      All-set (λ (x : ChunkValue). words_in x.cells ≤ x.size) ks i (with_cell k at d) (rw same here) h

-- a chunk that is found has a position
pub place_within : (ks : List ChunkValue) (n i : ℕ) → place_in ks n ≡ Some i → i < length ks
place_within ks n i e = (chunks.place_found ks n i e).1

-- what is at an address, in the chunk that is found
pub found_cell : (ks : List ChunkValue) (a : Addr) (o : Option (Bor ChunkValue)) → option_copied o ≡ option_map (λ i. chunk_at ks i) (place_in ks a.chunk) → IfSome o (λ k. cell_at k.now.cells a.offset ≡ cell_of ks a)
found_cell ks a None e = tt
found_cell ks a (Some k) e =
    ⊎_elim
    (λ (l : chunk_position ks a.chunk < length ks).
    let f : Some k.now ≡ Some (chunk_at ks (chunk_position ks a.chunk)) = rw (lt-ltb (chunk_position ks a.chunk) (length ks) l) at e in
    let g : k.now ≡ chunk_at ks (chunk_position ks a.chunk) = cc in
    ap (λ (x : ChunkValue). cell_at x.cells a.offset) g ∙ sym (chunks.cell_of-found ks a no_chunk l))
    (λ (l : length ks ≤ chunk_position ks a.chunk). let f : Some k.now ≡ None = rw (le-ltb (chunk_position ks a.chunk) (length ks) l) at e in absurd (cc))
    (cases_lt (chunk_position ks a.chunk) (length ks))

-- ---- a cell of the heap's own is written

empty_put : (cs : List Cell) (at : ℕ) (d : Cell) → cs ≡ [] → put_cell cs at d ≡ []
empty_put [] at d e = refl
empty_put (c ∷ cs) at d e = cc

module _ (ks : List ChunkValue) (a : Addr) (i : ℕ) (k : ChunkValue) (o : IsObject (cell_of ks a).mark) (found : i ≡ chunk_position ks a.chunk) (read : k ≡ get_or ks i k) where
  pub own_in : i < length ks
  own_in = let l = chunks.chunk_of_object ks a o in omega arith

  pub own_read : (d : ChunkValue) → k ≡ get_or ks i d
  own_read d = get_or_read ks i k own_in read d

  pub own_cell : cell_of ks a ≡ cell_at k.cells a.offset
  own_cell =
      let l = chunks.chunk_of_object ks a o in
      chunks.cell_of-found ks a k l ∙ ap (λ (n : ℕ). cell_at (get_or ks n k).cells a.offset) (sym found) ∙ ap (λ (x : ChunkValue). cell_at x.cells a.offset) (sym read)

  pub own_put : (d : Cell) → put_object ks a d ≡ set ks i (with_cell k a.offset d)
  own_put d =
      let l = chunks.chunk_of_object ks a o in
      chunks.put_object-found ks a d k l ∙ ap (λ (n : ℕ). set ks n (with_cell (get_or ks n k) a.offset d)) (sym found) ∙ ap (λ (x : ChunkValue). set ks i (with_cell x a.offset d)) (sym read)

  pub own_kept : (pieces : PiecesValue) (filled kept : Option ℕ) (count many part base : ℕ) (place : ℕ → Option ℕ) (entries : ℕ) → AgreesWithChunks ks pieces filled kept count many part base place entries →
      (d : Cell) → ((n : ℕ) → held_size d.mark n ≡ held_size (cell_at k.cells a.offset).mark n) → size_of d ≡ size_of (cell_at k.cells a.offset) →
      (left : PiecesValue) → ShowsChunks left (set ks i (with_cell k a.offset d)) →
      AgreesWithChunks (set ks i (with_cell k a.offset d)) left filled kept count many part base place entries
  own_kept pieces filled kept count many part base place entries h d s z left shown =
      let r = own_read no_chunk in
      let held = object_words_in-put k.cells a.offset d (s (size_of d) ∙ ap (held_size (cell_at k.cells a.offset).mark) z) in
      let sum = held_words-set ks i (with_cell k a.offset d) k own_in in
      let same : object_words_in (get_or ks i k).cells ≡ object_words_in k.cells = ap (λ (x : ChunkValue). object_words_in x.cells) (sym read) in
      let words : held_words (set ks i (with_cell k a.offset d)) ≡ held_words ks = omega arith in
      record {
        current = IsCurrent-set ks i (with_cell k a.offset d) (ap (λ (x : ChunkValue). x.size) r) filled h.current;
        reserved =
            IsReserved-set ks i (with_cell k a.offset d) (ap (λ (x : ChunkValue). x.size) r)
            (λ e. empty_put k.cells a.offset d (ap (λ (x : ChunkValue). x.cells) r ∙ e)) kept h.reserved;
        within = within_put k a.offset d z ks i read own_in h.within;
        words = rw words h.words;
        objects = sum_kept one_each ks i k read own_in a.offset d s z many h.objects;
        small = sum_kept small_part ks i k read own_in a.offset d s z part h.small;
        least = h.least;
        moved = rw length-set h.moved;
        table = λ n. h.table n ∙ ap (option_map (λ j. base - j)) (sym (place_in-set ks i (with_cell k a.offset d) k (ap (λ (x : ChunkValue). x.number) read) n));
        each = rw length-set h.each;
        shown = shown;
      }

  -- the chunk's piece is dropped
  pub own_changed : (pieces : PiecesValue) (filled kept : Option ℕ) (count many part base : ℕ) (place : ℕ → Option ℕ) (entries : ℕ) → AgreesWithChunks ks pieces filled kept count many part base place entries →
      (d : Cell) → ((n : ℕ) → held_size d.mark n ≡ held_size (cell_at k.cells a.offset).mark n) → size_of d ≡ size_of (cell_at k.cells a.offset) →
      (left : PiecesValue) (m : ℕ) → m ≡ k.number → NotesChanges pieces left (m ∷ []) →
      AgreesWithChunks (set ks i (with_cell k a.offset d)) left filled kept count many part base place entries
  own_changed pieces filled kept count many part base place entries h d s z left m number noted =
      own_kept pieces filled kept count many part base place entries h d s z left (lists.changed pieces left ks i m (with_cell k a.offset d) k (ap (λ (x : ChunkValue). x.number) read) number noted h.shown)

  -- or stays, if the object is mutable before and after
  pub own_written : (p : PiecesValue) (filled kept : Option ℕ) (count many part base : ℕ) (table : ℕ → Option ℕ) (entries : ℕ) → AgreesWithChunks ks p filled kept count many part base table entries →
      (d : Cell) → d.mark ≡ (cell_at k.cells a.offset).mark → d.mutable ≡ (cell_at k.cells a.offset).mutable → size_of d ≡ size_of (cell_at k.cells a.offset) →
      (left : PiecesValue) (number : ℕ) → number ≡ k.number → (header : Header) → header ≡ header_of (object_at k.cells a.offset) → NotesChanges p left (written_chunk header.mutable number) →
      AgreesWithChunks (set ks i (with_cell k a.offset d)) left filled kept count many part base table entries
  own_written p filled kept count many part base table entries h d m u z left number same header kind noted =
      let there : IsObjectAt k.cells a.offset = subst (λ (c : Cell). IsObject c.mark) own_cell o in
      let is : object_at k.cells a.offset ≡ cell_at k.cells a.offset = place.object_is k.cells a.offset there in
      let mutable : header.mutable ≡ (cell_at k.cells a.offset).mutable = ap (λ (x : Header). x.mutable) kind ∙ ap (λ (c : Cell). c.mutable) is in
      let here : NotesChanges p left (written_chunk header.mutable k.number) = subst (λ (x : ℕ). NotesChanges p left (written_chunk header.mutable x)) same noted in
      own_kept p filled kept count many part base table entries h d (λ n. ap (λ (x : Mark). held_size x n) m) z left
      (lists.written_shown p left ks h.shown i k (own_read no_chunk) a.offset d header.mutable here (sym mutable) u z)

-- an object's words count
pub held_object : (m : Mark) (n : ℕ) → IsObject m → held_size m n ≡ n
held_object (Born b) n o = refl
held_object (Moved to) n o = refl
held_object Hole n o = absurd o

-- ---- an object is placed

module _ (h : LeafHeapValue) (w i : ℕ) (fits : place_for h w ≡ Some i) where
  small_cases : (at : Option ℕ) → small_place h.chunks at w ≡ Some i → (at ≡ Some i) × (w ≤ room_at h.chunks (Some i))
  small_cases at e =
      ⊎_elim
      (λ (l : w ≤ room_at h.chunks at). let s = rw (le-leb w (room_at h.chunks at) l) at e in (s, rw s at l))
      (λ (l : room_at h.chunks at < w). let s = rw (lt-leb w (room_at h.chunks at) l) at e in cc)
      (order (room_at h.chunks at))
    where
      order : (n : ℕ) → (w ≤ n) ⊎ (n < w)
      order n = ⊎_elim (λ (l : n < w). inr l) (λ (l : w ≤ n). inl l) (cases_lt n w)

  large_cases : (at : Option ℕ) → large_place h.chunks at w ≡ Some i → (at ≡ Some i) × ((chunk_at h.chunks i).size ≡ 1024 * units w)
  large_cases None e = cc
  large_cases (Some j) e =
      ⊎_elim
      (λ (s : eqb (chunk_at h.chunks j).size (1024 * units w) ≡ true).
      let same : j ≡ i = let f = rw s at e in cc in
      (ap Some same, rw (← same) (eqb-true _ _ s)))
      (λ (s : eqb (chunk_at h.chunks j).size (1024 * units w) ≡ false). let f = rw s at e in cc)
      (cases_Bool (eqb (chunk_at h.chunks j).size (1024 * units w)))

  pub fits_small : w ≤ 1024 → (h.current ≡ Some i) × (w ≤ room_at h.chunks (Some i))
  fits_small l = small_cases h.current (rw (le-leb w 1024 l) at fits)

  pub fits_large : 1024 < w → (h.reserved ≡ Some i) × ((chunk_at h.chunks i).size ≡ 1024 * units w)
  fits_large l = large_cases h.reserved (rw (lt-leb w 1024 l) at fits)

-- the chunk into which an object goes is in the list, and has room for it
module _ (h : LeafHeapValue) (pieces : PiecesValue) (count many part base : ℕ) (place : ℕ → Option ℕ) (entries : ℕ) (keeps : AgreesWithChunks h.chunks pieces h.current h.reserved count many part base place entries) where
  pub current_in : (i : ℕ) → h.current ≡ Some i → (i < length h.chunks) × ((chunk_at h.chunks i).size ≡ 1024)
  current_in i e = rw e at keeps.current

  pub reserved_in : (i : ℕ) → h.reserved ≡ Some i → (i < length h.chunks) × ((1024 < (chunk_at h.chunks i).size) × ((chunk_at h.chunks i).cells ≡ []))
  reserved_in i e = rw e at keeps.reserved

  module _ (w i : ℕ) (fits : place_for h w ≡ Some i) (some : 0 < w) where
    pub fits_in : i < length h.chunks
    fits_in =
        ⊎_elim
        (λ (l : 1024 < w). (reserved_in i (fits_large h w i fits l).0).0)
        (λ (l : w ≤ 1024). (current_in i (fits_small h w i fits l).0).0)
        (cases_lt 1024 w)

    pub fits_room : words_in (chunk_at h.chunks i).cells + w ≤ (chunk_at h.chunks i).size
    fits_room =
        ⊎_elim
        (λ (l : 1024 < w).
        let f = fits_large h w i fits l in
        let none : words_in (chunk_at h.chunks i).cells ≡ 0 = ap words_in (reserved_in i f.0).1.1 in
        let size : (chunk_at h.chunks i).size ≡ 1024 * ((w + 1023) / 1024) = f.1 in
        omega arith)
        (λ (l : w ≤ 1024). let r : w ≤ (chunk_at h.chunks i).size - words_in (chunk_at h.chunks i).cells = (fits_small h w i fits l).1 in omega arith)
        (cases_lt 1024 w)

  -- what is kept after the object is placed
  module _ (i : ℕ) (k : ChunkValue) (read : k ≡ get_or h.chunks i k) (c : Cell) (held : (n : ℕ) → held_size c.mark n ≡ n) (fits : place_for h (size_of c) ≡ Some i) where
    pub placed_kept : (r : Option ℕ) → (size_of c ≤ 1024 → r ≡ h.reserved) → (1024 < size_of c → r ≡ None) →
        (n m p : ℕ) → n ≡ saturating_words (count + size_of c) → m ≡ saturating_words (many + 1) → p ≡ saturating_words (part + small_part (size_of c)) →
        (left : PiecesValue) → ShowsChunks left (set h.chunks i (record k { cells = k.cells ++ c ∷ [] })) →
        AgreesWithChunks (set h.chunks i (record k { cells = k.cells ++ c ∷ [] })) left h.current r n m p base place entries
    placed_kept r small large n m p e em ep left shown =
        let in' = fits_in (size_of c) i fits (omega arith) in
        let r' = get_or_read h.chunks i k in' read no_chunk in
        let new : ChunkValue = record k { cells = k.cells ++ c ∷ [] } in
        let push = object_words_in-push k.cells c in
        let size = held (size_of c) in
        let sum = held_words-set h.chunks i (record k { cells = k.cells ++ c ∷ [] }) k in' in
        let same : object_words_in (get_or h.chunks i k).cells ≡ object_words_in k.cells = ap (λ (x : ChunkValue). object_words_in x.cells) (sym read) in
        let words : held_words (set h.chunks i (record k { cells = k.cells ++ c ∷ [] })) ≡ held_words h.chunks + size_of c = omega arith in
        let was = keeps.words in
        record {
          current = IsCurrent-set h.chunks i (record k { cells = k.cells ++ c ∷ [] }) (ap (λ (x : ChunkValue). x.size) r') h.current keeps.current;
          reserved =
              ⊎_elim
              (λ (l : 1024 < size_of c). rw (large l) tt)
              (λ (l : size_of c ≤ 1024).
              rw (small l)
              (IsReserved-set_other h.chunks i (record k { cells = k.cells ++ c ∷ [] }) (ap (λ (x : ChunkValue). x.size) r') h.reserved
              (λ (b : h.reserved ≡ Some i).
              let s = (current_in i (fits_small h (size_of c) i fits l).0).1 in
              let t = (reserved_in i b).1.0 in
              omega arith)
              keeps.reserved))
              (cases_lt 1024 (size_of c));
          within =
              let room = fits_room (size_of c) i fits (omega arith) in
              let same = words_in-push k.cells c in
              let here : words_in k.cells + size_of c ≤ k.size = rw (← r') at room in
              All-set (λ (x : ChunkValue). words_in x.cells ≤ x.size) h.chunks i (record k { cells = k.cells ++ c ∷ [] }) (rw same here) keeps.within;
          words = e ∙ rw (words, was) (saturates (held_words h.chunks) (size_of c));
          objects = sum_placed one_each h.chunks i k read in' c held many m keeps.objects em;
          small = sum_placed small_part h.chunks i k read in' c held part p keeps.small ep;
          least = keeps.least;
          moved = rw length-set keeps.moved;
          table = λ q. keeps.table q ∙ ap (option_map (λ j. base - j)) (sym (place_in-set h.chunks i (record k { cells = k.cells ++ c ∷ [] }) k (ap (λ (x : ChunkValue). x.number) read) q));
          each = rw length-set keeps.each;
          shown = shown;
        }
      where
        saturates : (a b : ℕ) → saturating_words (saturating_words a + b) ≡ saturating_words (a + b)
        saturates a b = omega arith
