-- Pieces of chunks by their numbers, as chunks are changed, added and joined.
use Rattle.frozen_views.proofs.Common.{◌≡◌, ℕ, zero, suc, ◌+◌, ◌-◌, ◌<◌, ◌≤◌, Bool, true, false, cond, List, [], ◌∷◌, ◌++◌, length, get_or, set, refl, sym, ap, ◌∙◌, subst, arith, inl, inr, ⊎_elim, eqb, Option, Some, None, length-append, ◌||◌, option_or, map-append, cases_Bool, cases_lt, eqb-true, le-leb, lt-leb, Born, Cell, Hole, Mark, Moved, size_of, ChunkValue, chunk_at, no_chunk, with_cell, cell_at, put_cell, PieceValue, frozen_from, frozen_of, is_frozen, lasts, Level, level_of, nearest, piece_in, is_among, needed, numbers_of, written_chunk, NotesChanges, PiecesValue, ShowsChunks}
use Rattle.frozen_views.proofs.Levels as levels

-- ---- numbers

pub among_both : (xs ys : List ℕ) (n : ℕ) → is_among (xs ++ ys) n ≡ cond (is_among xs n) true (is_among ys n)
among_both [] ys n = refl
among_both (x ∷ xs) ys n =
    elim (cases_Bool (eqb x n)) [
      | inl e ↦ rw e refl
      | inr e ↦ rw (e, among_both xs ys n) refl
    ]

neither : (a b : Bool) → cond a true b ≡ false → (a ≡ false) × (b ≡ false)
neither true b e = cc
neither false b e = (refl, e)

-- a number that isn't among two lists is in neither
pub in_neither : (xs ys : List ℕ) (n : ℕ) → is_among (xs ++ ys) n ≡ false → (is_among xs n ≡ false) × (is_among ys n ≡ false)
in_neither xs ys n e = neither (is_among xs n) (is_among ys n) (sym (among_both xs ys n) ∙ e)

-- the number of a chunk is among these if and only if a piece of it is
pub not_among : (ks : List ChunkValue) (n : ℕ) → is_among (numbers_of ks) n ≡ false → piece_in (level_of ks) n ≡ None
not_among [] n e = refl
not_among (k ∷ ks) n e =
    elim (cases_Bool (eqb k.number n)) [
      | inl b ↦ let f = rw b at e in cc
      | inr b ↦ rw b (not_among ks n (rw b at e))
    ]

-- ---- what counts as changed

-- numbers noted before stay noted
pub known_before : (xs : List ℕ) (m : ℕ) → is_among xs m ≡ true → (n : ℕ) → is_among xs n ≡ is_among (xs ++ m ∷ []) n
known_before xs m known n = sym (among_both xs (m ∷ []) n ∙ known_before_same)
  where
    at_once : (a b : Bool) → (b ≡ true → a ≡ true) → cond a true (b || false) ≡ a
    at_once true b h = refl
    at_once false true h = let f = h refl in cc
    at_once false false h = refl

    known_before_same : cond (is_among xs n) true (eqb m n || false) ≡ is_among xs n
    known_before_same = at_once (is_among xs n) (eqb m n) (λ e. subst (λ (q : ℕ). is_among xs q ≡ true) (eqb-true m n e) known)

-- everything is dropped if there was no capacity
pub none_left : (p q : PiecesValue) (m : ℕ) → q.lost ≡ true → p.places ≡ 0 → NotesChanges p q (m ∷ [])
none_left p q m gone none = record {
  before = λ l. cc;
  layers = λ l. cc;
  stale = λ l n. cc;
  enough = λ l few. absurd (omega arith);
  places = λ l. cc;
}

-- one after the other
pub changes_both : (p q r : PiecesValue) (xs ys : List ℕ) → NotesChanges p q xs → NotesChanges q r ys → NotesChanges p r (xs ++ ys)
changes_both p q r xs ys f g = record {
  before = λ l. f.before (g.before l);
  layers = λ l. g.layers l ∙ f.layers (g.before l);
  stale = λ l n.
      g.stale l n
      ∙ (among_both q.stale ys n
      ∙ (ap (λ (b : Bool). cond b true (is_among ys n)) (f.stale (g.before l) n ∙ among_both p.stale xs n)
      ∙ (three (is_among p.stale n) (is_among xs n) (is_among ys n)
      ∙ (ap (λ (b : Bool). cond (is_among p.stale n) true b) (sym (among_both xs ys n)) ∙ sym (among_both p.stale (xs ++ ys) n)))));
  enough = λ l few.
      let both = length-append xs ys in
      let first : length xs ≤ p.places = omega arith in
      let still = f.enough l first in
      let taken = f.places still in
      let second : length ys ≤ q.places = omega arith in
      g.enough still second;
  places = λ l.
      let both = length-append xs ys in
      let first = f.places (g.before l) in
      let second = g.places l in
      omega arith;
}
  where
    three : (a b c : Bool) → cond (cond a true b) true c ≡ cond a true (cond b true c)
    three true b c = refl
    three false b c = refl

-- ---- what is shown

-- if chunks change whose numbers are noted, the others are shown as before
pub still_shows : (p q : PiecesValue) (ks new : List ChunkValue) (ns : List ℕ) → NotesChanges p q ns →
    ((n : ℕ) → is_among ns n ≡ false → piece_in (level_of new) n ≡ piece_in (level_of ks) n) →
    ((n : ℕ) → piece_in (level_of new) n ≡ None → piece_in (level_of ks) n ≡ None) → ShowsChunks p ks → ShowsChunks q new
still_shows p q ks new ns f same none h = record {
  same = λ l n a.
      let both = in_neither p.stale ns n (sym (f.stale l n) ∙ a) in
      ap (λ (ls : List Level). nearest ls n) (f.layers l) ∙ (h.same (f.before l) n both.0 ∙ sym (same n both.1));
  no_other = λ l n a. ap (λ (ls : List Level). nearest ls n) (f.layers l) ∙ h.no_other (f.before l) n (none n a);
}

-- one chunk changes, and keeps its number
one_number : (k : ChunkValue) (n : ℕ) → is_among (k.number ∷ []) n ≡ false → eqb k.number n ≡ false
one_number k n e =
    elim (cases_Bool (eqb k.number n)) [
      | inl b ↦ let f = rw b at e in cc
      | inr b ↦ b
    ]

set_other : (ks : List ChunkValue) (i : ℕ) (new d : ChunkValue) → new.number ≡ (get_or ks i d).number → (n : ℕ) → eqb new.number n ≡ false → piece_in (level_of (set ks i new)) n ≡ piece_in (level_of ks) n
set_other [] i new d e n other = refl
set_other (k ∷ ks) zero new d e n other = let o = rw e at other in rw (other, o) refl
set_other (k ∷ ks) (suc i) new d e n other = rw (set_other ks i new d e n other) refl

set_none : (ks : List ChunkValue) (i : ℕ) (new d : ChunkValue) → new.number ≡ (get_or ks i d).number → (n : ℕ) → piece_in (level_of (set ks i new)) n ≡ None → piece_in (level_of ks) n ≡ None
set_none [] i new d e n h = h
set_none (k ∷ ks) zero new d e n h =
    elim (cases_Bool (eqb new.number n)) [
      | inl b ↦ let f = rw b at h in cc
      | inr b ↦ let f = rw b at h in let g = rw e at b in rw g f
    ]
set_none (k ∷ ks) (suc i) new d e n h =
    elim (cases_Bool (eqb k.number n)) [
      | inl b ↦ let f = rw b at h in cc
      | inr b ↦ rw b (set_none ks i new d e n (rw b at h))
    ]

pub changed : (p q : PiecesValue) (ks : List ChunkValue) (i m : ℕ) (new d : ChunkValue) → new.number ≡ (get_or ks i d).number → m ≡ new.number → NotesChanges p q (m ∷ []) → ShowsChunks p ks → ShowsChunks q (set ks i new)
changed p q ks i m new d e same f h =
    still_shows p q ks (set ks i new) (new.number ∷ []) (subst (λ (x : ℕ). NotesChanges p q (x ∷ [])) same f)
    (λ n a. set_other ks i new d e n (one_number new n a)) (λ n a. set_none ks i new d e n a) h

-- a chunk is added
pub added : (p q : PiecesValue) (ks : List ChunkValue) (m : ℕ) (k : ChunkValue) → m ≡ k.number → NotesChanges p q (m ∷ []) → ShowsChunks p ks → ShowsChunks q (ks ++ k ∷ [])
added p q ks m k same f h =
    still_shows p q ks (ks ++ k ∷ []) (k.number ∷ []) (subst (λ (x : ℕ). NotesChanges p q (x ∷ [])) same f)
    (λ n a. behind n ∙ (ap (option_or (piece_in (level_of ks) n)) (added_here n (one_number k n a)) ∙ levels.or_none (piece_in (level_of ks) n)))
    (λ n a. first_none (piece_in (level_of ks) n) (piece_in (level_of (k ∷ [])) n) (sym (behind n) ∙ a)) h
  where
    behind : (n : ℕ) → piece_in (level_of (ks ++ k ∷ [])) n ≡ option_or (piece_in (level_of ks) n) (piece_in (level_of (k ∷ [])) n)
    behind n = ap (λ (l : Level). piece_in l n) (map-append frozen_of ks (k ∷ [])) ∙ levels.found_in_both (level_of ks) (level_of (k ∷ [])) n

    added_here : (n : ℕ) → eqb k.number n ≡ false → piece_in (level_of (k ∷ [])) n ≡ None
    added_here n e = rw e refl

    first_none : (o r : Option PieceValue) → option_or o r ≡ None → o ≡ None
    first_none None r e = refl
    first_none (Some f) r e = cc

-- the chunks of other lists come first
pub before : (p q : PiecesValue) (xs ks : List ChunkValue) → NotesChanges p q (numbers_of xs) → ShowsChunks p ks → ShowsChunks q (xs ++ ks)
before p q xs ks f h =
    still_shows p q ks (xs ++ ks) (numbers_of xs) f
    (λ n a. front n ∙ ap (λ (o : Option PieceValue). option_or o (piece_in (level_of ks) n)) (not_among xs n a))
    (λ n a. last_none (piece_in (level_of xs) n) (piece_in (level_of ks) n) (sym (front n) ∙ a)) h
  where
    front : (n : ℕ) → piece_in (level_of (xs ++ ks)) n ≡ option_or (piece_in (level_of xs) n) (piece_in (level_of ks) n)
    front n = ap (λ (l : Level). piece_in l n) (map-append frozen_of xs ks) ∙ levels.found_in_both (level_of xs) (level_of ks) n

    last_none : (o r : Option PieceValue) → option_or o r ≡ None → r ≡ None
    last_none None r e = e
    last_none (Some f) r e = cc

pub three : (p q r : PiecesValue) (ls rs ks : List ChunkValue) → NotesChanges p q (numbers_of rs) → NotesChanges q r (numbers_of ls) → ShowsChunks p ks → ShowsChunks r (ls ++ (rs ++ ks))
three p q r ls rs ks f g h = before q r ls (rs ++ ks) g (before p q rs ks f h)

-- ---- the missing pieces are made

nothing_lost : (p : PiecesValue) (ks : List ChunkValue) → ShowsChunks p ks → (b : Bool) → p.lost ≡ b → (n : ℕ) →
    option_or (cond (cond b true (is_among p.stale n)) (piece_in (level_of ks) n) None) (cond b None (nearest p.layers n)) ≡ piece_in (level_of ks) n
nothing_lost p ks h true l n = levels.or_none (piece_in (level_of ks) n)
nothing_lost p ks h false l n = nothing_lost_by_cases (is_among p.stale n) refl (piece_in (level_of ks) n) refl
  where
    nothing_lost_by_cases : (b : Bool) → is_among p.stale n ≡ b → (o : Option PieceValue) → piece_in (level_of ks) n ≡ o → option_or (cond b o None) (nearest p.layers n) ≡ o
    nothing_lost_by_cases true e (Some f) is = refl
    nothing_lost_by_cases true e None is = h.no_other l n is
    nothing_lost_by_cases false e o is = h.same l n e ∙ is

-- with the missing pieces in front of the layers, each chunk is shown
pub all_shown : (p : PiecesValue) (ks : List ChunkValue) → ShowsChunks p ks → (n : ℕ) → option_or (needed p ks n) (cond p.lost None (nearest p.layers n)) ≡ piece_in (level_of ks) n
all_shown p ks h n = nothing_lost p ks h p.lost refl n

pub shown_again : (q : PiecesValue) (ks : List ChunkValue) → ((n : ℕ) → nearest q.layers n ≡ piece_in (level_of ks) n) → ShowsChunks q ks
shown_again q ks h = record { same = λ l n a. h n; no_other = λ l n a. h n ∙ a }

-- ---- an object that no piece shows is written

-- a mutable object isn't shown, whatever its mark
pub unseen : (m : Mark) → lasts m true ≡ false
unseen (Born b) = refl
unseen (Moved to) = refl
unseen Hole = refl

pub frozen_put : (cs : List Cell) (at n : ℕ) (d : Cell) → is_frozen (cell_at cs at) ≡ false → is_frozen d ≡ false → size_of d ≡ size_of (cell_at cs at) → frozen_from n (put_cell cs at d) ≡ frozen_from n cs
frozen_put [] at n d was is s = refl
frozen_put (c ∷ cs) zero n d was is s = rw (was, is, s) refl
frozen_put (c ∷ cs) (suc m) n d was is s =
    ⊎_elim
    (λ (above : suc m < size_of c). rw (lt-leb (size_of c) (suc m) above) refl)
    (λ (within : size_of c ≤ suc m).
    let t = le-leb (size_of c) (suc m) within in
    rw (t, frozen_put cs (suc m - size_of c) (n + size_of c) d (rw t at was) is (rw t at s)) refl)
    (cases_lt (suc m) (size_of c))

pub same_level : (ks : List ChunkValue) (i : ℕ) (new d : ChunkValue) → frozen_of new ≡ frozen_of (get_or ks i d) → level_of (set ks i new) ≡ level_of ks
same_level [] i new d e = refl
same_level (k ∷ ks) zero new d e = ap (λ (f : PieceValue). f ∷ level_of ks) e
same_level (k ∷ ks) (suc i) new d e = ap (λ (l : Level). frozen_of k ∷ l) (same_level ks i new d e)

-- the pieces of the chunks after a write to an object of the chunk at a position that keeps its mutability
pub written_shown : (p q : PiecesValue) (ks : List ChunkValue) → ShowsChunks p ks → (i : ℕ) (k : ChunkValue) → k ≡ chunk_at ks i → (at : ℕ) (d : Cell) (mutable : Bool) → NotesChanges p q (written_chunk mutable k.number) → (cell_at k.cells at).mutable ≡ mutable → d.mutable ≡ (cell_at k.cells at).mutable →
    size_of d ≡ size_of (cell_at k.cells at) → ShowsChunks q (set ks i (with_cell k at d))
written_shown p q ks h i k read at d false f was is s = changed p q ks i k.number (with_cell k at d) no_chunk (ap (λ (x : ChunkValue). x.number) read) refl f h
written_shown p q ks h i k read at d true f was is s =
    let before : is_frozen (cell_at k.cells at) ≡ false = ap (lasts (cell_at k.cells at).mark) was ∙ unseen (cell_at k.cells at).mark in
    let after : is_frozen d ≡ false = ap (lasts d.mark) (is ∙ was) ∙ unseen d.mark in
    let shows : frozen_from 0 (put_cell k.cells at d) ≡ frozen_from 0 k.cells = frozen_put k.cells at 0 d before after s in
    let level : level_of (set ks i (with_cell k at d)) ≡ level_of ks = same_level ks i (with_cell k at d) no_chunk (ap (λ (os : List (ℕ × Cell)). let r : PieceValue = record { number = k.number; objects = os } in r) shows ∙ ap frozen_of read) in
    still_shows p q ks (set ks i (with_cell k at d)) [] f (λ n a. ap (λ (l : Level). piece_in l n) level) (λ n a. ap (λ (l : Level). piece_in l n) (sym level) ∙ a) h

-- an object that no piece shows is placed
frozen_push : (cs : List Cell) (n : ℕ) (d : Cell) → is_frozen d ≡ false → frozen_from n (cs ++ d ∷ []) ≡ frozen_from n cs
frozen_push [] n d hidden = rw hidden refl
frozen_push (c ∷ cs) n d hidden = rw (frozen_push cs (n + size_of c) d hidden) refl

-- the pieces of the chunks after an object is placed in the chunk at a position
pub placed_shown : (p q : PiecesValue) (ks : List ChunkValue) → ShowsChunks p ks → (i : ℕ) (k : ChunkValue) → k ≡ get_or ks i k → (d : Cell) (number : ℕ) → number ≡ k.number → (mutable : Bool) → NotesChanges p q (written_chunk mutable number) → d.mutable ≡ mutable →
    ShowsChunks q (set ks i (record k { cells = k.cells ++ d ∷ [] }))
placed_shown p q ks h i k read d number same false f is = changed p q ks i number (record k { cells = k.cells ++ d ∷ [] }) k (ap (λ (x : ChunkValue). x.number) read) same f h
placed_shown p q ks h i k read d number same true f is =
    let hidden : is_frozen d ≡ false = ap (lasts d.mark) is ∙ unseen d.mark in
    let shows : frozen_from 0 (k.cells ++ d ∷ []) ≡ frozen_from 0 k.cells = frozen_push k.cells 0 d hidden in
    let level : level_of (set ks i (record k { cells = k.cells ++ d ∷ [] })) ≡ level_of ks = same_level ks i (record k { cells = k.cells ++ d ∷ [] }) k (ap (λ (os : List (ℕ × Cell)). let r : PieceValue = record { number = k.number; objects = os } in r) shows ∙ ap frozen_of read) in
    still_shows p q ks (set ks i (record k { cells = k.cells ++ d ∷ [] })) [] f (λ n a. ap (λ (l : Level). piece_in l n) level) (λ n a. ap (λ (l : Level). piece_in l n) (sym level) ∙ a) h
