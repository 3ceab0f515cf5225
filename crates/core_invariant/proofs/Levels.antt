-- The levels of a view as the relation has them: what a heap's level shows, and what is at an address.
use Rattle.core_invariant.proofs.Common.{◌≡◌, ℕ, ◌+◌, ◌==◌, ◌&&◌, Bool, true, false, not, cond, Option, Some, None, List, [], ◌∷◌, map, filter, refl, ap, ap₂, sym, ◌∙◌, eq-eqb, option_map, option_or, cond-true, cond-false, eqb-true, false≢true, same_Some, Addr, Birth, Born, Cell, Hole, Mark, Moved, size_of, ChunkValue, PieceValue, frozen_at, frozen_from, lasts, Located, located, located_by, objects_from, Level, level_of, nearest, piece_in, seen_at as view_at, seen_in as view_in, Chunk, chunk_among, frozen_chunks, shown_at, birth_in, chunks_of, levels_of, shown, shown_chunk}
use Rattle.refinement_laws.specs.below.refinement.{seen_at, seen_in}

-- ---- THE LEVEL OF A HEAP

abbrev kept : List Located → List Located
kept os = filter (λ o. not o.mutable) os

module _ (n at : ℕ) (c : Cell) (fs : List (ℕ × Cell)) (os : List Located) (more : map (shown n) fs ≡ kept os) where
  born : (b : Birth) → c.mark ≡ Born b → (x : Bool) → c.mutable ≡ x → map (shown n) (cond (not x) ((at, c) ∷ fs) fs) ≡ kept (located n at b c ∷ os)
  born b e true m = more ∙ sym (cond-false (not c.mutable) (located n at b c ∷ kept os) (kept os) (ap not m))
  born b e false m =
      ap₂ (λ (y : Located) ys. y ∷ ys) (ap (λ k. located n at (birth_in k) c) e) more ∙ sym (cond-true (not c.mutable) (located n at b c ∷ kept os) (kept os) (ap not m))

  one_more : (k : Mark) → c.mark ≡ k → map (shown n) (cond (lasts k c.mutable) ((at, c) ∷ fs) fs) ≡ kept (located_by n at c k os)
  one_more (Born b) e = born b e c.mutable refl
  one_more (Moved to) e = more
  one_more Hole e = more

-- it has what is immutable of the heap's objects
objects_same : (n at : ℕ) (cs : List Cell) → map (shown n) (frozen_from at cs) ≡ kept (objects_from n at cs)
objects_same n at [] = refl
objects_same n at (c ∷ cs) = one_more n at c (frozen_from (at + size_of c) cs) (objects_from n (at + size_of c) cs) (objects_same n (at + size_of c) cs) c.mark refl

pub level_is : (ks : List ChunkValue) → map shown_chunk (level_of ks) ≡ frozen_chunks (chunks_of ks)
level_is [] = refl
level_is (k ∷ ks) = ap₂ (λ y ys. let c : Chunk = record { number = k.number; units = 0; large = false; objects = y } in c ∷ ys) (objects_same k.number 0 k.cells) (level_is ks)

-- ---- WHAT IS AT AN ADDRESS

chunk_found : (n : ℕ) (l : Level) → chunk_among (map shown_chunk l) n ≡ option_map shown_chunk (piece_in l n)
chunk_found n [] = refl
chunk_found n (f ∷ fs) = chunk_found_by_cases (f.number == n) (chunk_found n fs)
  where
    chunk_found_by_cases : (b : Bool) → chunk_among (map shown_chunk fs) n ≡ option_map shown_chunk (piece_in fs n) → cond b (Some (shown_chunk f)) (chunk_among (map shown_chunk fs) n) ≡ option_map shown_chunk (cond b (Some f) (piece_in fs n))
    chunk_found_by_cases true more = refl
    chunk_found_by_cases false more = more

number_found : (n : ℕ) (l : Level) (f : PieceValue) → piece_in l n ≡ Some f → f.number ≡ n
number_found n [] f e = absurd cc
number_found n (g ∷ gs) f e = number_found_by_cases (g.number == n) refl e (number_found n gs f)
  where
    number_found_by_cases : (b : Bool) → (g.number == n) ≡ b → cond b (Some g) (piece_in gs n) ≡ Some f → (piece_in gs n ≡ Some f → f.number ≡ n) → f.number ≡ n
    number_found_by_cases true q h more = ap (λ (z : PieceValue). z.number) (sym (same_Some g f h)) ∙ eqb-true g.number n q
    number_found_by_cases false q h more = more h

-- an object of a view, at an address
abbrev pub shown_there : Addr → Cell → Located
shown_there a c = shown a.chunk (a.offset, c)

module _ (n : ℕ) (a : Addr) (e : n ≡ a.chunk) (o : ℕ × Cell) (seen_then : Option Located) (then_ : Option Cell) (more : seen_then ≡ option_map (shown_there a) then_) where
  same_chunk : (x b : Bool) → x ≡ true → cond (x && b) (Some (shown n o)) seen_then ≡ cond b (Some (shown n o)) seen_then
  same_chunk true b q = refl
  same_chunk false b q = absurd (false≢true q)

  one_found : (b : Bool) → (o.0 == a.offset) ≡ b → cond b (Some (shown n o)) seen_then ≡ option_map (shown_there a) (cond b (Some o.1) then_)
  one_found true q = ap₂ (λ m k. Some (located m k (birth_in o.1.mark) o.1)) e (eqb-true o.0 a.offset q)
  one_found false q = more

object_found : (n : ℕ) (a : Addr) (os : List (ℕ × Cell)) → n ≡ a.chunk → seen_at (map (shown n) os) a ≡ option_map (shown_there a) (frozen_at os a.offset)
object_found n a [] e = refl
object_found n a (o ∷ os) e =
    same_chunk n a e o (seen_at (map (shown n) os) a) (frozen_at os a.offset) (object_found n a os e) (n == a.chunk) (o.0 == a.offset) (eq-eqb n a.chunk e)
    ∙ one_found n a e o (seen_at (map (shown n) os) a) (frozen_at os a.offset) (object_found n a os e) (o.0 == a.offset) refl

-- if the nearest level that has the chunk shows an object, so does the view
pub shown_found : (ls : List Level) (a : Addr) → shown_at (levels_of ls) a ≡ option_map (shown_there a) (view_at ls a)
shown_found [] a = refl
shown_found (l ∷ ls) a = ap (λ k. seen_in k a (shown_at (levels_of ls) a)) (chunk_found a.chunk l) ∙ shown_found_by_cases (piece_in l a.chunk) refl (shown_found ls a)
  where
    shown_found_by_cases : (o : Option PieceValue) → piece_in l a.chunk ≡ o → shown_at (levels_of ls) a ≡ option_map (shown_there a) (view_at ls a)
        → seen_in (option_map shown_chunk o) a (shown_at (levels_of ls) a) ≡ option_map (shown_there a) (view_in (option_or o (nearest ls a.chunk)) a.offset)
    shown_found_by_cases None e more = more
    shown_found_by_cases (Some f) e more = object_found f.number a f.objects (number_found a.chunk l f e)
