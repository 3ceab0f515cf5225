-- How a write changes the words of an object.
use Rattle.std.proofs.Common.{length-set}
use Rattle.object_layout.proofs.Common.{◌≡◌, ℕ, suc, ◌+◌, ◌-◌, ◌*◌, ◌<◌, ◌≤◌, ◌^◌, Bool, true, false, length, set, refl, ◌∙◌, arith, Option, map, ℤ, FitsSigned, bit_and, bit_or, w64, cast_unsigned, map-set, set-append_left, set-append_right, length-map, All-set, and_block, and_mask, or_block, or_comm, Addr, Cell, IsCell, IsRef, IsMark, Mark, with_ref, cell_with_int, with_mark, frozen, word_of_ref, header_word, bit_of, is_gone, word_of_mark}
use Rattle.object_layout.specs.Layout.{words_of_cell}

pub words_of_cell-with_ref : (c : Cell) (k : ℕ) (r : Option Addr) → k < length c.refs → words_of_cell (with_ref c k r) ≡ set (words_of_cell c) (2 + k) (word_of_ref r)
unfolding words_of_cell
words_of_cell-with_ref c k r l =
    let e : 2 + k ≡ suc (suc k) = omega arith in
    let within : k < length (map word_of_ref c.refs) = rw length-map l in
    let s = set-append_left (map word_of_ref c.refs) (map (cast_unsigned w64) c.ints) k (word_of_ref r) within in
    rw (length-set, map-set, e, s)

pub words_of_cell-with_int : (c : Cell) (k : ℕ) (z : ℤ) → k < length c.ints →
    words_of_cell (cell_with_int c k z) ≡ set (words_of_cell c) (2 + (length c.refs + k)) (cast_unsigned w64 z)
unfolding words_of_cell
words_of_cell-with_int c k z l =
    let e : 2 + (length c.refs + k) ≡ suc (suc (length c.refs + k)) = omega arith in
    let f : length c.refs + k - length c.refs ≡ k = omega arith in
    let s = set-append_right (map word_of_ref c.refs) (map (cast_unsigned w64) c.ints) (length c.refs) (length c.refs + k) (cast_unsigned w64 z) (length-map c.refs word_of_ref) (omega arith) in
    rw (length-set, map-set, e, s, f)

or_gone : (b r : ℕ) → r < 2 ^ 41 → bit_or (b * 2 ^ 41 + r) 2199023255552 ≡ bit_or b 1 * 2 ^ 41 + r
or_gone b r l = or_block 41 b 1 r 0 l (omega arith) ∙ rw (or_comm r 0) refl

-- a header with bit 41 set
pub header_word-gone : (nrefs nints : ℕ) → nrefs < 2 ^ 20 → nints < 2 ^ 20 → (m g : Bool) →
    bit_or (header_word nrefs nints m g) 2199023255552 ≡ header_word nrefs nints m true
header_word-gone nrefs nints p q m false =
    let small : bit_of m ≤ 1 = bit_small m in
    let r : ℕ = nrefs + nints * 2 ^ 20 + bit_of m * 2 ^ 40 in
    let e : header_word nrefs nints m false ≡ 0 * 2 ^ 41 + (nrefs + nints * 2 ^ 20 + bit_of m * 2 ^ 40) = omega arith in
    rw e (or_gone 0 (nrefs + nints * 2 ^ 20 + bit_of m * 2 ^ 40) (omega arith) ∙ omega arith)
  where
    bit_small : (b : Bool) → bit_of b ≤ 1
    bit_small true = omega arith
    bit_small false = omega arith
header_word-gone nrefs nints p q m true =
    let small : bit_of m ≤ 1 = bit_small m in
    let e : header_word nrefs nints m true ≡ 1 * 2 ^ 41 + (nrefs + nints * 2 ^ 20 + bit_of m * 2 ^ 40) = omega arith in
    rw e (or_gone 1 (nrefs + nints * 2 ^ 20 + bit_of m * 2 ^ 40) (omega arith) ∙ omega arith)
  where
    bit_small : (b : Bool) → bit_of b ≤ 1
    bit_small true = omega arith
    bit_small false = omega arith

pub words_of_cell-with_mark : (c : Cell) (m : Mark) → words_of_cell (with_mark c m) ≡
    set (set (words_of_cell c) 0 (header_word (length c.refs) (length c.ints) c.mutable (is_gone m))) 1 (word_of_mark m)
unfolding words_of_cell
words_of_cell-with_mark c m = refl

pub IsCell-with_mark : (c : Cell) (m : Mark) → IsCell c → IsMark m → IsCell (with_mark c m)
IsCell-with_mark c m ok p = record {
  mark = p;
  nrefs = ok.nrefs;
  nints = ok.nints;
  refs = ok.refs;
  ints = ok.ints;
}

-- bit 41 set in the header that was read
pub gone_written : (c : Cell) → IsCell c → (h : ℕ) → h ≡ header_word (length c.refs) (length c.ints) c.mutable (is_gone c.mark) →
    bit_or h 2199023255552 ≡ header_word (length c.refs) (length c.ints) c.mutable true
gone_written c ok h e = rw e (header_word-gone (length c.refs) (length c.ints) ok.nrefs ok.nints c.mutable (is_gone c.mark))

-- what was written can be held
pub IsCell-with_ref : (c : Cell) (k : ℕ) (r : Option Addr) → IsCell c → IsRef r → IsCell (with_ref c k r)
IsCell-with_ref c k r ok p = record {
  mark = ok.mark;
  nrefs = rw length-set ok.nrefs;
  nints = ok.nints;
  refs = All-set IsRef c.refs k r p ok.refs;
  ints = ok.ints;
}

pub IsCell-with_int : (c : Cell) (k : ℕ) (z : ℤ) → IsCell c → FitsSigned w64 z → IsCell (cell_with_int c k z)
IsCell-with_int c k z ok p = record {
  mark = ok.mark;
  nrefs = ok.nrefs;
  nints = rw length-set ok.nints;
  refs = ok.refs;
  ints = All-set (FitsSigned w64) c.ints k z p ok.ints;
}

-- ---- frozen

-- a header with bit 40 cleared
kept_bits : (r : ℕ) → r < 2 ^ 40 → bit_and r (2 ^ 40 - 1) ≡ r
kept_bits r l = and_mask r 40 ∙ omega arith

header_word-frozen : (nrefs nints : ℕ) → nrefs < 2 ^ 20 → nints < 2 ^ 20 → (m g : Bool) →
    bit_and (header_word nrefs nints m g) 18446742974197923839 ≡ header_word nrefs nints false g
header_word-frozen nrefs nints p q m g =
    let low : nrefs + nints * 2 ^ 20 < 2 ^ 40 = omega arith in
    let e : header_word nrefs nints m g ≡ (bit_of m + bit_of g * 2) * 2 ^ 40 + (nrefs + nints * 2 ^ 20) = omega arith in
    rw e (and_block 40 (bit_of m + bit_of g * 2) 16777214 (nrefs + nints * 2 ^ 20) (2 ^ 40 - 1) low (omega arith)
    ∙ rw (kept_bits (nrefs + nints * 2 ^ 20) low, high m g) (omega arith))
  where
    high : (a b : Bool) → bit_and (bit_of a + bit_of b * 2) 16777214 ≡ bit_of b * 2
    high true true = refl
    high true false = refl
    high false true = refl
    high false false = refl

pub frozen_written : (c : Cell) → IsCell c → (h : ℕ) → h ≡ header_word (length c.refs) (length c.ints) c.mutable (is_gone c.mark) →
    bit_and h 18446742974197923839 ≡ header_word (length c.refs) (length c.ints) false (is_gone c.mark)
frozen_written c ok h e = rw e (header_word-frozen (length c.refs) (length c.ints) ok.nrefs ok.nints c.mutable (is_gone c.mark))

pub words_of_cell-frozen : (c : Cell) → words_of_cell (frozen c) ≡ set (words_of_cell c) 0 (header_word (length c.refs) (length c.ints) false (is_gone c.mark))
unfolding words_of_cell
words_of_cell-frozen c = refl

pub IsCell-frozen : (c : Cell) → IsCell c → IsCell (frozen c)
IsCell-frozen c ok = record {
  mark = ok.mark;
  nrefs = ok.nrefs;
  nints = ok.nints;
  refs = ok.refs;
  ints = ok.ints;
}
