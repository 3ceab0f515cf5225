-- Findings by their keys.
use Rattle.std.specs.Prelude.{ℕ, ◌+◌, ◌==◌, ◌&&◌, not, Bool, List, [], ◌∷◌, filter, sum_by}
use Rattle.log_groups.specs.declared.item.GroupKey.{GroupKey}
use Rattle.log_groups.specs.declared.item.Item.{Item}
use Rattle.log_groups.specs.declared.item.Group.{Group}

abbrev pub same_key : GroupKey → GroupKey → Bool
same_key x y =
    (x.block == y.block) && ((x.first_kind == y.first_kind) && ((x.first_site == y.first_site) && ((x.second_kind == y.second_kind) && (x.second_site == y.second_site))))

-- two findings are of one key
abbrev pub alike : Item → Item → Bool
alike x y = same_key x.key y.key

-- how many the findings of a key count for
abbrev pub total_of : Item → List Item → ℕ
total_of x items = sum_by (λ (y : Item). y.size) (filter (alike x) items)

-- the group of a finding alone
abbrev pub group_of : Item → Group
group_of x = record { first = x; total = x.size }

-- the groups of findings, in the order of the first of each: that of all of the first one's key, and those of the others
abbrev pub groups_of : List Item → List Group
groups_of [] = []
groups_of (x ∷ xs) = record { first = x; total = total_of x xs + x.size } ∷ filter (λ g. not (alike x g.first)) (groups_of xs)
