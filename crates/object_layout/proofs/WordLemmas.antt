-- What is written as words is read from them.
use Rattle.object_layout.proofs.Common.{◌≡◌, ℕ, ◌+◌, ◌*◌, ◌/◌, ◌%◌, ◌^◌, ◌<◌, ◌≤◌, Bool, true, false, List, [], ◌∷◌, ◌++◌, Option, Some, None, length, map, take, drop, refl, ap, arith, add-one, one-add, length-append, All, FitsSigned, w64, cast_signed, cast_unsigned, append_assoc, take_at, drop_at, length-map, All-head, All-tail, to_z-of_z, Addr, Birth, Cell, Mark, Born, Moved, Hole, IsRef, IsMark, IsCell, size_of, ref_of_word, birth_of_word, mark_of_word, mark_of_ref, nrefs_of, nints_of, mutable_of, gone_of, word_of_ref, word_of_birth, word_of_mark, is_gone, header_word, words_of_cells}
use Rattle.object_layout.specs.Layout.{cell_of_words, cells_of_words, words_of_cell}

-- ---- single words

split_word : (c o : ℕ) → o < 1024 → ((c * 1024 + o) / 1024 ≡ c) × ((c * 1024 + o) % 1024 ≡ o)
split_word c o h = (omega arith, omega arith)

pub ref_of_word-word_of_ref : (r : Option Addr) → IsRef r → ref_of_word (word_of_ref r) ≡ r
ref_of_word-word_of_ref None h = refl
ref_of_word-word_of_ref (Some a) h =
    let at : a.offset < 1024 = h.0 in
    let parts = split_word a.chunk a.offset at in
    rw (add-one, parts.0, parts.1)

pub word_of_ref-lt : (r : Option Addr) → IsRef r → word_of_ref r ≤ 2 ^ 42
word_of_ref-lt None h = omega arith
word_of_ref-lt (Some a) h = let at : a.offset < 1024 = h.0 in let num : a.chunk < 2 ^ 32 = h.1 in omega arith

pub birth_of_word-word_of_birth : (b : Birth) → b.count < 2 ^ 32 → birth_of_word (word_of_birth b) ≡ b
birth_of_word-word_of_birth b h =
    let task : (b.task * 2 ^ 32 + b.count) / 2 ^ 32 ≡ b.task = omega arith in
    let count : (b.task * 2 ^ 32 + b.count) % 2 ^ 32 ≡ b.count = omega arith in
    rw (task, count)

pub mark_of_word-word_of_mark : (m : Mark) → IsMark m → mark_of_word (is_gone m) (word_of_mark m) ≡ m
mark_of_word-word_of_mark (Born b) h = ap Born (birth_of_word-word_of_birth b h.1)
mark_of_word-word_of_mark (Moved to) h = ap mark_of_ref (ref_of_word-word_of_ref (Some to) h)
mark_of_word-word_of_mark Hole h = refl

module _ (nrefs nints : ℕ) (few_refs : nrefs < 2 ^ 20) (few_ints : nints < 2 ^ 20) where
  pub nrefs_of-header_word : (m g : Bool) → nrefs_of (header_word nrefs nints m g) ≡ nrefs
  nrefs_of-header_word true true = omega arith
  nrefs_of-header_word true false = omega arith
  nrefs_of-header_word false true = omega arith
  nrefs_of-header_word false false = omega arith

  pub nints_of-header_word : (m g : Bool) → nints_of (header_word nrefs nints m g) ≡ nints
  nints_of-header_word true true = omega arith
  nints_of-header_word true false = omega arith
  nints_of-header_word false true = omega arith
  nints_of-header_word false false = omega arith

  pub mutable_of-header_word : (m g : Bool) → mutable_of (header_word nrefs nints m g) ≡ m
  mutable_of-header_word true true = let e : header_word nrefs nints true true / 2 ^ 40 % 2 ≡ 1 = omega arith in rw e
  mutable_of-header_word true false = let e : header_word nrefs nints true false / 2 ^ 40 % 2 ≡ 1 = omega arith in rw e
  mutable_of-header_word false true = let e : header_word nrefs nints false true / 2 ^ 40 % 2 ≡ 0 = omega arith in rw e
  mutable_of-header_word false false = let e : header_word nrefs nints false false / 2 ^ 40 % 2 ≡ 0 = omega arith in rw e

  pub gone_of-header_word : (m g : Bool) → gone_of (header_word nrefs nints m g) ≡ g
  gone_of-header_word true true = let e : header_word nrefs nints true true / 2 ^ 41 % 2 ≡ 1 = omega arith in rw e
  gone_of-header_word true false = let e : header_word nrefs nints true false / 2 ^ 41 % 2 ≡ 0 = omega arith in rw e
  gone_of-header_word false true = let e : header_word nrefs nints false true / 2 ^ 41 % 2 ≡ 1 = omega arith in rw e
  gone_of-header_word false false = let e : header_word nrefs nints false false / 2 ^ 41 % 2 ≡ 0 = omega arith in rw e

-- ---- lists of words

module _ {A B : Type 0} (f : A → B) (g : B → A) (P : A → Type 0) (back : (x : A) → P x → g (f x) ≡ x) where
  pub map_back : (xs : List A) → All P xs → map g (map f xs) ≡ xs
  map_back [] h = refl
  map_back (x ∷ xs) h =
      let e = back x (All-head P x xs h) in
      let ih = map_back xs (All-tail P x xs h) in
      cc

pub length-words_of_cell : (c : Cell) → length (words_of_cell c) ≡ size_of c
unfolding words_of_cell
length-words_of_cell c =
    simp (length-append, length-map) (omega arith)

take_within : {A : Type 0} (xs ys zs : List A) (n : ℕ) → length xs ≡ n → take n ((xs ++ ys) ++ zs) ≡ xs
take_within xs ys zs n h = rw append_assoc (take_at xs (ys ++ zs) n h)

take_between : {A : Type 0} (xs ys zs : List A) (n m : ℕ) → length xs ≡ n → length ys ≡ m → take m (drop n ((xs ++ ys) ++ zs)) ≡ ys
take_between xs ys zs n m h k = rw (append_assoc, drop_at xs (ys ++ zs) n h) (take_at ys zs m k)

-- the words of an object read back
module _ (c : Cell) (ok : IsCell c) (rest : List ℕ) where
  header : ℕ
  header = header_word (length c.refs) (length c.ints) c.mutable (is_gone c.mark)

  pub cell_of_words-words_of_cell :
      cell_of_words (header_word (length c.refs) (length c.ints) c.mutable (is_gone c.mark))
      (word_of_mark c.mark ∷ ((map word_of_ref c.refs ++ map (cast_unsigned w64) c.ints) ++ rest)) ≡ c
  unfolding cell_of_words
  cell_of_words-words_of_cell =
      let nr = nrefs_of-header_word (length c.refs) (length c.ints) ok.nrefs ok.nints c.mutable (is_gone c.mark) in
      let ni = nints_of-header_word (length c.refs) (length c.ints) ok.nrefs ok.nints c.mutable (is_gone c.mark) in
      let mu = mutable_of-header_word (length c.refs) (length c.ints) ok.nrefs ok.nints c.mutable (is_gone c.mark) in
      let go = gone_of-header_word (length c.refs) (length c.ints) ok.nrefs ok.nints c.mutable (is_gone c.mark) in
      let ma = mark_of_word-word_of_mark c.mark ok.mark in
      let tr = take_within (map word_of_ref c.refs) (map (cast_unsigned w64) c.ints) rest (length c.refs) (length-map c.refs word_of_ref) in
      let ti = take_between (map word_of_ref c.refs) (map (cast_unsigned w64) c.ints) rest (length c.refs) (length c.ints) (length-map c.refs word_of_ref) (length-map c.ints (cast_unsigned w64)) in
      let br = map_back word_of_ref ref_of_word IsRef ref_of_word-word_of_ref c.refs ok.refs in
      let bi = map_back (cast_unsigned w64) (cast_signed w64) (FitsSigned w64) (to_z-of_z w64) c.ints ok.ints in
      rw (nr, ni, mu, go, ma, tr, one-add, ti, br, bi)

  pub next_of_header :
      1 + (nrefs_of (header_word (length c.refs) (length c.ints) c.mutable (is_gone c.mark))
      + nints_of (header_word (length c.refs) (length c.ints) c.mutable (is_gone c.mark)))
      ≡ length (word_of_mark c.mark ∷ (map word_of_ref c.refs ++ map (cast_unsigned w64) c.ints))
  next_of_header =
      let nr = nrefs_of-header_word (length c.refs) (length c.ints) ok.nrefs ok.nints c.mutable (is_gone c.mark) in
      let ni = nints_of-header_word (length c.refs) (length c.ints) ok.nrefs ok.nints c.mutable (is_gone c.mark) in
      rw (nr, ni) (simp (length-append, length-map) (omega arith))

pub cells_of_words-skip : (xs ys : List ℕ) → cells_of_words (length xs) (xs ++ ys) ≡ cells_of_words 0 ys
unfolding cells_of_words
cells_of_words-skip [] ys = refl
cells_of_words-skip (x ∷ xs) ys = cells_of_words-skip xs ys

-- what is written is read
pub cells_of_words-words_of_cells : (cs : List Cell) → All IsCell cs → cells_of_words 0 (words_of_cells cs) ≡ cs
unfolding cells_of_words words_of_cell
cells_of_words-words_of_cells [] h = refl
cells_of_words-words_of_cells (c ∷ cs) h =
    let ok : IsCell c = All-head IsCell c cs h in
    let first = cell_of_words-words_of_cell c ok (words_of_cells cs) in
    let rest = cells_of_words-skip (word_of_mark c.mark ∷ (map word_of_ref c.refs ++ map (cast_unsigned w64) c.ints)) (words_of_cells cs) in
    let next = next_of_header c ok (words_of_cells cs) in
    let ih = cells_of_words-words_of_cells cs (All-tail IsCell c cs h) in
    rw (next, first, rest, ih)
