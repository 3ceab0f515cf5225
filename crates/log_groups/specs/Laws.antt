-- What groups say of findings.
use Rattle.std.specs.Prelude.{◌≡◌, ℕ, ◌<◌, ◌++◌, ◌∷◌, true, false, List, Some, slice_get, Contains}
use Rattle.plain_vec.specs.Members.{In}
use Rattle.log_groups.specs.declared.item.Item.{Item}
use Rattle.log_groups.specs.declared.item.Group.{Group}
use Rattle.log_groups.specs.Groups.{alike, groups_of, total_of}

-- the finding is the first of its key
pub record IsFirstOfKey (items : List Item) (x : Item) : Type 0 where
  pub before : List Item
  pub after : List Item
  pub stands : items ≡ before ++ x ∷ after
  pub none : (y : Item) → In before y → alike x y ≡ false

pub record IsItemGrouping (items : List Item) (groups : List Group) : Type 0 where
  -- each finding is of the key of a group
  pub every : (x : Item) → In items x → (g : Group) × In groups g × (alike g.first x ≡ true)
  -- a group's first is the first finding of its key, and its total is that of all of the key
  pub each : (g : Group) → In groups g → IsFirstOfKey items g.first × (g.total ≡ total_of g.first items)
  -- no two groups are of one key
  pub apart : (j k : ℕ) (g h : Group) → j < k → slice_get groups j ≡ Some g → slice_get groups k ≡ Some h → alike g.first h.first ≡ false

abbrev pub ItemGroupsAreExact : Type 0
ItemGroupsAreExact = (items : List Item) → IsItemGrouping items (groups_of items)
