-- The links of places in a list.
use Rattle.std.specs.Prelude.{◌≡◌, ◌+◌, ℕ, Option, Some, None, List, length, slice_get}
use Rattle.jump_pointers.specs.Walk.{ancestor}
use Rattle.jump_pointers.specs.declared.links.Link.{Link}
use Rattle.jump_pointers.specs.Links.{AreLinked, next_far}

abbrev pub parent_of_link : Option Link → Option ℕ
parent_of_link None = None
parent_of_link (Some k) = k.parent

abbrev pub depth_in : Option Link → ℕ
depth_in None = 0
depth_in (Some k) = k.depth

abbrev pub far_in : Option Link → ℕ
far_in None = 0
far_in (Some k) = k.far

-- the parent's place
abbrev pub up_from : List Link → ℕ → Option ℕ
up_from ks i = parent_of_link (slice_get ks i)

-- how many links lead from a place to the root
abbrev pub depth_at : List Link → ℕ → ℕ
depth_at ks i = depth_in (slice_get ks i)

abbrev pub far_at : List Link → ℕ → ℕ
far_at ks i = far_in (slice_get ks i)

-- k links lead from one place up to another
abbrev pub IsUp : List Link → ℕ → ℕ → ℕ → Type 0
IsUp ks n i j = ancestor (up_from ks) n i ≡ Some j

-- the link of a new place
abbrev pub new_link : List Link → Option ℕ → Link
new_link ks None = record { depth = 0; parent = None; far = length ks }
new_link ks (Some p) = record { depth = depth_at ks p + 1; parent = Some p; far = next_far (depth_at ks) (far_at ks) p }

-- the links are well formed
abbrev pub AreLinks : List Link → Type 0
AreLinks ks = AreLinked (length ks) (up_from ks) (depth_at ks) (far_at ks)
