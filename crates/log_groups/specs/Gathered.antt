-- Groups that are gathered finding by finding.
use Rattle.std.specs.Prelude.{ℕ, ◌+◌, ◌*◌, ◌≤◌, ◌^◌, List, [], ◌∷◌, map, if◌then◌else◌}
use Rattle.log_groups.specs.declared.item.GroupKey.{GroupKey}
use Rattle.log_groups.specs.declared.item.Item.{Item}
use Rattle.log_groups.specs.declared.item.Group.{Group}
use Rattle.log_groups.specs.Groups.{alike, group_of}

-- the groups with a finding more
abbrev pub with_item : List Group → Item → List Group
with_item [] x = group_of x ∷ []
with_item (g ∷ gs) x = if alike x g.first then record g { total = g.total + x.size } ∷ gs else g ∷ with_item gs x

abbrev pub keys_of : List Group → List GroupKey
keys_of gs = map (λ (g : Group). g.first.key) gs

-- no group counts more than n findings can
abbrev pub AreBelow : ℕ → List Group → Type 0
AreBelow n [] = Unit {0}
AreBelow n (g ∷ gs) = (g.total ≤ n * 2 ^ 64) × AreBelow n gs
