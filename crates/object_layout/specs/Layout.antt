-- The layout of objects in words.
use Rattle.std.specs.Prelude.{ℕ, zero, suc, ◌+◌, ◌*◌, ◌/◌, ◌%◌, ◌^◌, Bool, true, false, List, [], ◌∷◌, ◌++◌, Option, Some, None, length, map, take, drop, slice_index, ◌==◌}
use Rattle.std.specs.Int.{w64}
use Rattle.std.specs.Int.{cast_signed, cast_unsigned}
use Rattle.std.specs.List.{flat_map}
use Rattle.object_layout.specs.declared.word.Addr.{Addr}
use Rattle.object_layout.specs.declared.word.Birth.{Birth}
use Rattle.object_layout.specs.Cell.{Cell, Mark, Born, Moved, Hole, chunk_words}

-- ---- from words

-- a reference: 0 for nil
abbrev pub ref_of_word : ℕ → Option Addr
ref_of_word zero = None
ref_of_word (suc n) = Some (record { chunk = n / chunk_words; offset = n % chunk_words })

abbrev pub birth_of_word : ℕ → Birth
birth_of_word w = record { task = w / 2 ^ 32; count = w % 2 ^ 32 }

-- word 1, if bit 41 of the header is set: the new address, or 0 in a hole
abbrev pub mark_of_ref : Option Addr → Mark
mark_of_ref None = Hole
mark_of_ref (Some to) = Moved to

-- word 1, by whether bit 41 of the header is set
abbrev pub mark_of_word : Bool → ℕ → Mark
mark_of_word false w = Born (birth_of_word w)
mark_of_word true w = mark_of_ref (ref_of_word w)

-- the parts of a header
abbrev pub nrefs_of : ℕ → ℕ
nrefs_of h = h % 2 ^ 20

abbrev pub nints_of : ℕ → ℕ
nints_of h = h / 2 ^ 20 % 2 ^ 20

abbrev pub mutable_of : ℕ → Bool
mutable_of h = h / 2 ^ 40 % 2 == 1

abbrev pub gone_of : ℕ → Bool
gone_of h = h / 2 ^ 41 % 2 == 1

-- the object whose header is h, and whose other words come first in ws
unfoldable pub cell_of_words : ℕ → List ℕ → Cell
cell_of_words h ws = record {
  mark = mark_of_word (gone_of h) (slice_index ws 0);
  mutable = mutable_of h;
  refs = map ref_of_word (take (nrefs_of h) (drop 1 ws));
  ints = map (cast_signed w64) (take (nints_of h) (drop (1 + nrefs_of h) ws));
}

-- the objects of these words one after another, the first of them after n words
unfoldable pub cells_of_words : ℕ → List ℕ → List Cell
cells_of_words skipped [] = []
cells_of_words zero (h ∷ ws) = cell_of_words h ws ∷ cells_of_words (1 + (nrefs_of h + nints_of h)) ws
cells_of_words (suc skipped) (w ∷ ws) = cells_of_words skipped ws

-- ---- to words

abbrev pub word_of_ref : Option Addr → ℕ
word_of_ref None = 0
word_of_ref (Some a) = a.chunk * chunk_words + a.offset + 1

abbrev pub word_of_birth : Birth → ℕ
word_of_birth b = b.task * 2 ^ 32 + b.count

abbrev pub word_of_mark : Mark → ℕ
word_of_mark (Born b) = word_of_birth b
word_of_mark (Moved to) = word_of_ref (Some to)
word_of_mark Hole = 0

abbrev pub is_gone : Mark → Bool
is_gone (Born b) = false
is_gone (Moved to) = true
is_gone Hole = true

abbrev pub bit_of : Bool → ℕ
bit_of false = 0
bit_of true = 1

abbrev pub header_word : ℕ → ℕ → Bool → Bool → ℕ
header_word nrefs nints mutable gone = nrefs + nints * 2 ^ 20 + bit_of mutable * 2 ^ 40 + bit_of gone * 2 ^ 41

unfoldable pub words_of_cell : Cell → List ℕ
words_of_cell c =
    header_word (length c.refs) (length c.ints) c.mutable (is_gone c.mark) ∷
    (word_of_mark c.mark ∷ (map word_of_ref c.refs ++ map (cast_unsigned w64) c.ints))

abbrev pub words_of_cells : List Cell → List ℕ
words_of_cells cs = flat_map words_of_cell cs
