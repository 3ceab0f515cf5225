-- Words that hold objects: what is read from them, and what a write leaves unchanged.
use Rattle.std.proofs.Common.{length-set}
use Rattle.object_layout.proofs.Common.{◌≡◌, ℕ, zero, suc, ◌+◌, ◌-◌, ◌<◌, ◌≤◌, ◌^◌, List, [], ◌∷◌, ◌++◌, length, take, drop, get_or, set, refl, sym, ap, ◌∙◌, arith, rules, subst, replicate, map, None, pos, false, FitsSigned, w64, cast_unsigned, append-nil, drop-take, drop_at, get_or-take, length-replicate, length-take-le, replicate-append-replicate, take-take, take_at, All-push, All-replicate, All-nil, flat_map-append, Birth, Header, Cell, IsCell, size_of, new_cell, IsRef, header_word, word_of_birth, word_of_ref, words_in, IsCellAt, cell_at, put_cell, ChunkValue, HoldsCells, cells_in}
use Rattle.object_layout.specs.Layout.{words_of_cell}
use Rattle.object_layout.proofs.WordLemmas.{length-words_of_cell, cells_of_words-words_of_cells}
use Rattle.object_layout.proofs.PlaceLemmas.{length-words_of_cells, cell_ends, get_or-words_of_cells, around, set_middle, All-cell_at, All-put_cell}

pub take-set_within : (n : ℕ) (xs : List ℕ) (i w : ℕ) → i < n → take n (set xs i w) ≡ set (take n xs) i w
take-set_within zero xs i w l = absurd (omega arith)
take-set_within (suc n) [] i w l = refl
take-set_within (suc n) (x ∷ xs) zero w l = refl
take-set_within (suc n) (x ∷ xs) (suc i) w l = ap (λ (ys : List ℕ). x ∷ ys) (take-set_within n xs i w (omega arith))

module _ (ws : List ℕ) (used : ℕ) (cs : List Cell) (h : HoldsCells ws used cs) where
  pub held_used : words_in cs ≡ used
  held_used =
      let within : used ≤ length ws = h.within in
      sym (length-words_of_cells cs) ∙ ap length (sym h.laid) ∙ length-take-le used ws within

  pub held_read : cells_in ws used ≡ cs
  held_read = rw h.laid (cells_of_words-words_of_cells cs h.each)

  pub held_again : HoldsCells ws used (cells_in ws used)
  held_again = rw held_read h

  module _ (at : ℕ) (o : IsCellAt cs at) where
    pub held_cell_ends : (at + size_of (cell_at cs at) ≤ used) × (used ≤ length ws)
    held_cell_ends =
        let e = held_used in
        let ends = cell_ends cs at o in
        (omega arith, h.within)

    pub held_cell : IsCell (cell_at cs at)
    held_cell = All-cell_at IsCell cs at o h.each

    -- the k-th word of an object
    pub held_word : (k d : ℕ) → k < size_of (cell_at cs at) → get_or ws (at + k) d ≡ get_or (words_of_cell (cell_at cs at)) k d
    held_word k d l =
        let ends = held_cell_ends in
        sym (get_or-take used ws (at + k) d (omega arith))
        ∙ ap (λ (xs : List ℕ). get_or xs (at + k) d) h.laid
        ∙ get_or-words_of_cells cs at k d o l

    -- a write of one word of it
    pub held_set : (k w : ℕ) (c : Cell) → k < size_of (cell_at cs at) → IsCell c → words_of_cell c ≡ set (words_of_cell (cell_at cs at)) k w →
        HoldsCells (set ws (at + k) w) used (put_cell cs at c)
    held_set k w c l ok e =
        let ends = held_cell_ends in
        let len = length-words_of_cell (cell_at cs at) in
        let ar = around cs at o in
        let a : List ℕ = ar.0 in
        let b : List ℕ = ar.1.0 in
        let put : set (a ++ (words_of_cell (cell_at cs at) ++ b)) (at + k) w ≡ a ++ (set (words_of_cell (cell_at cs at)) k w ++ b) =
        set_middle a (words_of_cell (cell_at cs at)) b at k w ar.1.1.starts (omega arith) in
        record {
          within = rw length-set h.within;
          laid =
              take-set_within used ws (at + k) w (omega arith)
              ∙ ap (λ (xs : List ℕ). set xs (at + k) w) (h.laid ∙ ar.1.1.holds)
              ∙ put
              ∙ ap (λ (xs : List ℕ). a ++ (xs ++ b)) (sym e)
              ∙ sym (ar.1.1.holds_put c);
          each = All-put_cell IsCell cs at c ok h.each;
          sized = rw length-set h.sized;
        }

    -- a write of its first two words
    pub held_set_two : (v w : ℕ) (c : Cell) → IsCell c → words_of_cell c ≡ set (set (words_of_cell (cell_at cs at)) 0 v) 1 w →
        HoldsCells (set (set ws at v) (at + 1) w) used (put_cell cs at c)
    held_set_two v w c ok e =
        let ends = held_cell_ends in
        let len = length-words_of_cell (cell_at cs at) in
        let ar = around cs at o in
        let a : List ℕ = ar.0 in
        let b : List ℕ = ar.1.0 in
        let mid : List ℕ = words_of_cell (cell_at cs at) in
        let start : at + 0 ≡ at = omega arith in
        let put : set (a ++ (words_of_cell (cell_at cs at) ++ b)) at v ≡ a ++ (set (words_of_cell (cell_at cs at)) 0 v ++ b) =
        rw start at (set_middle a (words_of_cell (cell_at cs at)) b at 0 v ar.1.1.starts (omega arith)) in
        let put_more : set (a ++ (set (words_of_cell (cell_at cs at)) 0 v ++ b)) (at + 1) w ≡ a ++ (set (set (words_of_cell (cell_at cs at)) 0 v) 1 w ++ b) =
        set_middle a (set (words_of_cell (cell_at cs at)) 0 v) b at 1 w ar.1.1.starts (rw length-set (omega arith)) in
        record {
          within = rw (length-set, length-set) h.within;
          laid =
              take-set_within used (set ws at v) (at + 1) w (omega arith)
              ∙ ap (λ (xs : List ℕ). set xs (at + 1) w)
              (take-set_within used ws at v (omega arith) ∙ ap (λ (xs : List ℕ). set xs at v) (h.laid ∙ ar.1.1.holds) ∙ put)
              ∙ put_more
              ∙ ap (λ (xs : List ℕ). a ++ (xs ++ b)) (sym e)
              ∙ sym (ar.1.1.holds_put c);
          each = All-put_cell IsCell cs at c ok h.each;
          sized = rw (length-set, length-set) h.sized;
        }

  -- one more object, if its words are written after the others
  pub held_push : (vs : List ℕ) (c : Cell) → IsCell c → take (used + size_of c) vs ≡ take used ws ++ words_of_cell c → used + size_of c ≤ length vs → length vs < 2 ^ 32 →
      HoldsCells vs (used + size_of c) (cs ++ c ∷ [])
  held_push vs c ok e room sized = record {
    within = room;
    laid = e ∙ rw (h.laid, flat_map-append words_of_cell cs (c ∷ []), append-nil) refl;
    each = All-push IsCell cs c h.each ok;
    sized = sized;
  }

-- the words of a new object
map-replicate : {A B : Type 0} (f : A → B) (n : ℕ) (x : A) → map f (replicate n x) ≡ replicate n (f x)
map-replicate f zero x = refl
map-replicate f (suc n) x = ap (λ ys. f x ∷ ys) (map-replicate f n x)

pub words_of_cell-new : (h : Header) (b : Birth) →
    words_of_cell (new_cell h b) ≡ header_word h.nrefs h.nints h.mutable false ∷ (word_of_birth b ∷ replicate (h.nrefs + h.nints) 0)
unfolding words_of_cell
words_of_cell-new h b =
    rw (length-replicate, length-replicate, map-replicate word_of_ref h.nrefs None, map-replicate (cast_unsigned w64) h.nints (pos 0), replicate-append-replicate)

pub size_of-new : (h : Header) (b : Birth) → size_of (new_cell h b) ≡ 2 + (h.nrefs + h.nints)
size_of-new h b = rw (length-replicate, length-replicate)

-- ---- what callers see

abbrev pub seen : ℕ → List ℕ → ℕ → ChunkValue
seen number ws used = record { number = number; size = length ws; cells = cells_in ws used }

module _ (number : ℕ) (ws : List ℕ) (used : ℕ) (v : ChunkValue) (is : seen number ws used ≡ v) where
  pub seen_cells : cells_in ws used ≡ v.cells
  seen_cells = ap (λ (x : ChunkValue). x.cells) is

  pub seen_size : length ws ≡ v.size
  seen_size = ap (λ (x : ChunkValue). x.size) is

  pub seen_holds : HoldsCells ws used (cells_in ws used) → HoldsCells ws used v.cells
  seen_holds h = subst (λ (cs : List Cell). HoldsCells ws used cs) seen_cells h

  pub seen_again : (vs : List ℕ) (n : ℕ) (cs : List Cell) → HoldsCells vs n cs → length vs ≡ length ws → seen number vs n ≡ record v { cells = cs }
  seen_again vs n cs h len =
      rw (held_read vs n cs h, len, ← is)

-- the words of the objects alone hold them
held_cut : (ws : List ℕ) (used : ℕ) (cs : List Cell) → HoldsCells ws used cs → HoldsCells (take used ws) used cs
held_cut ws used cs h =
    let within : used ≤ length ws = h.within in
    let sized : length ws < 2 ^ 32 = h.sized in
    let len : length (take used ws) ≡ used = length-take-le used ws within in
    record {
      within = omega arith;
      laid = take-take used used ws (omega arith) ∙ h.laid;
      each = h.each;
      sized = omega arith;
    }

pub seen_cut : (number : ℕ) (ws : List ℕ) (used : ℕ) (v : ChunkValue) → seen number ws used ≡ v → HoldsCells ws used (cells_in ws used) →
    (vs : List ℕ) → vs ≡ take used ws → seen number vs used ≡ record v { size = words_in v.cells }
seen_cut number ws used v is inv vs e =
    let h = seen_holds number ws used v is inv in
    let within : used ≤ length ws = h.within in
    let n : number ≡ v.number = ap (λ (x : ChunkValue). x.number) is in
    let k : cells_in vs used ≡ v.cells = rw e (held_read (take used ws) used v.cells (held_cut ws used v.cells h)) in
    let l : length vs ≡ words_in v.cells = rw e (length-take-le used ws within ∙ sym (held_used ws used v.cells h)) in
    rw (k, l, n) refl

-- what is known of an object of a chunk
pub record ObjectIn (ws : List ℕ) (used : ℕ) (v : ChunkValue) (at : ℕ) : Type 0 where
  pub holds : HoldsCells ws used v.cells
  pub used_is : words_in v.cells ≡ used
  pub within : used ≤ length ws
  pub sized : length ws < 2 ^ 32
  pub ends : at + size_of (cell_at v.cells at) ≤ used
  pub cell : IsCell (cell_at v.cells at)

pub object_in : (number : ℕ) (ws : List ℕ) (used : ℕ) (v : ChunkValue) → seen number ws used ≡ v → HoldsCells ws used (cells_in ws used) →
    (at : ℕ) → IsCellAt v.cells at → ObjectIn ws used v at
object_in number ws used v is inv at o =
    let h = seen_holds number ws used v is inv in
    record {
      holds = h;
      used_is = held_used ws used v.cells h;
      within = h.within;
      sized = h.sized;
      ends = (held_cell_ends ws used v.cells h at o).0;
      cell = held_cell ws used v.cells h at o;
    }

-- no object
pub holds_none : (ws : List ℕ) → length ws < 2 ^ 32 → HoldsCells ws 0 []
holds_none ws l = record { within = omega arith; laid = refl; each = All-nil IsCell; sized = l }

pub IsCell-new : (h : Header) (b : Birth) → h.nrefs < 2 ^ 20 → h.nints < 2 ^ 20 → b.task < 2 ^ 32 → b.count < 2 ^ 32 → IsCell (new_cell h b)
IsCell-new h b refs ints task count = record {
  mark = (task, count);
  nrefs = rw length-replicate refs;
  nints = rw length-replicate ints;
  refs = All-replicate IsRef h.nrefs None tt;
  ints = All-replicate (FitsSigned w64) h.nints (pos 0) zero_fits;
}
  where
    zero_fits : FitsSigned w64 (pos 0)
    zero_fits = search rules

-- the words of an object, as a part of all words
pub held_part : (ws : List ℕ) (used : ℕ) (cs : List Cell) (h : HoldsCells ws used cs) (at : ℕ) (o : IsCellAt cs at) →
    take (size_of (cell_at cs at)) (drop at ws) ≡ words_of_cell (cell_at cs at)
held_part ws used cs h at o =
    let ends = held_cell_ends ws used cs h at o in
    let len = length-words_of_cell (cell_at cs at) in
    let ar = around cs at o in
    let a : List ℕ = ar.0 in
    let b : List ℕ = ar.1.0 in
    let e : at + (used - at) ≡ used = omega arith in
    let inner : take (size_of (cell_at cs at)) (drop at ws) ≡ take (size_of (cell_at cs at)) (take (used - at) (drop at ws)) =
    sym (take-take (size_of (cell_at cs at)) (used - at) (drop at ws) (omega arith)) in
    let whole : take (used - at) (drop at ws) ≡ words_of_cell (cell_at cs at) ++ b =
    sym (drop-take at (used - at) ws) ∙ rw e (ap (λ (xs : List ℕ). drop at xs) (h.laid ∙ ar.1.1.holds) ∙ drop_at a (words_of_cell (cell_at cs at) ++ b) at ar.1.1.starts) in
    inner ∙ ap (λ (xs : List ℕ). take (size_of (cell_at cs at)) xs) whole ∙ take_at (words_of_cell (cell_at cs at)) b _ len
