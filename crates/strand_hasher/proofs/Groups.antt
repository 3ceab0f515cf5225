-- The group of a hash goes by the block alone.
use Rattle.std.proofs.Common.{◌≡◌, ℕ, ◌+◌, ◌*◌, ◌/◌, ◌%◌, ◌^◌, List, ap, ap₂, ◌∙◌, refl, sym, arith}
use Rattle.std.specs.Prelude.{bit_xor}
use Rattle.strand_hasher.specs.Hashing.{finish, initial, write}
use Rattle.strand_hasher.specs.Groups.{AreNear, NearStrandsShareGroups, group_of}
use Rattle.strand_hasher.specs.declared.hasher.StrandHasher.{StrandHasher}

lowest : (m x : ℕ) → (m % 16777216 + x * 16777216) % 16777216 ≡ m % 16777216
lowest m x = omega arith

same_groups : (s t : StrandHasher) → s.block ≡ t.block → group_of (finish s) ≡ group_of (finish t)
same_groups s t e = lowest _ _ ∙ (ap (λ (b : ℕ). bit_xor b (b / 2 ^ 29) % 16777216) e ∙ sym (lowest _ _))

same_blocks : (s t : StrandHasher) (xs ys : List ℕ) → s.block ≡ t.block → AreNear xs ys → (write s xs).block ≡ (write t ys).block
same_blocks s t xs ys e near = ap₂ (λ (b w : ℕ). (bit_xor b w * 0x9e37_79b9_7f4a_7c15) % 2 ^ 64) e near

pub near_share : NearStrandsShareGroups
near_share task task' index index' near_tasks near_indices =
    same_groups (write (write initial task) index) (write (write initial task') index')
    (same_blocks (write initial task) (write initial task') index index' (same_blocks initial initial task task' refl near_tasks) near_indices)
