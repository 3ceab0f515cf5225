-- Which strands come into one group of a table.
use Rattle.std.specs.Prelude.{◌≡◌, ℕ, ◌/◌, ◌%◌, ◌^◌, List}
use Rattle.strand_hasher.specs.Hashing.{finish, initial, word_of, write}

-- the group of a hash in a table of 2^24 groups; one of fewer goes by fewer of the lowest bits
abbrev pub group_of : ℕ → ℕ
group_of hash = hash % 2 ^ 24

-- the hash of a pair of numbers, given by their bytes
abbrev pub hash_of : List ℕ → List ℕ → ℕ
hash_of task index = finish (write (write initial task) index)

-- numbers that differ in their last two bits alone
abbrev pub AreNear : List ℕ → List ℕ → Type 0
AreNear xs ys = word_of xs / 4 ≡ word_of ys / 4

-- pairs of near numbers come into one group
abbrev pub NearStrandsShareGroups : Type 0
NearStrandsShareGroups = (task task' index index' : List ℕ) → AreNear task task' → AreNear index index' → group_of (hash_of task index) ≡ group_of (hash_of task' index')
