-- What a hasher of strands computes.
use Rattle.std.specs.Prelude.{ℕ, ◌+◌, ◌*◌, ◌/◌, ◌%◌, ◌^◌, ◌==◌, List, length, if◌then◌else◌, slice_index, bit_xor}
use Rattle.strand_hasher.specs.declared.hasher.StrandHasher.{StrandHasher}

abbrev pub initial : StrandHasher
initial = record { block = 0x243f_6a88_85a3_08d3; place = 0 }

-- four bytes as a number, the lowest first; of other bytes their number
abbrev pub word_of : List ℕ → ℕ
word_of bytes =
    if length bytes == 4 then slice_index bytes 0 + slice_index bytes 1 * 256 + slice_index bytes 2 * 65536 + slice_index bytes 3 * 16777216
    else length bytes

-- numbers of one block differ in their last two bits alone
abbrev pub write : StrandHasher → List ℕ → StrandHasher
write s bytes = record {
  block = (bit_xor s.block (word_of bytes / 4) * 0x9e37_79b9_7f4a_7c15) % 2 ^ 64;
  place = s.place % 64 * 4 + word_of bytes % 4;
}

-- the group's number from the lowest bits on, and above it a tag
abbrev pub finish : StrandHasher → ℕ
finish s =
    let mixed = bit_xor s.block (s.block / 2 ^ 29) in
    mixed % 2 ^ 24 + (bit_xor (mixed / 2 ^ 40) s.place) % 256 * 2 ^ 24
