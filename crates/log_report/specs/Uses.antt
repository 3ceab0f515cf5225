-- Entangled and stale lines by blocks, kinds and sites.
use Rattle.std.specs.Prelude.{ℕ, ◌+◌, Option, Some, None, List, [], ◌∷◌, ◌++◌, codes, slice_get}
use Rattle.std.specs.List.{flat_map}
use Rattle.std.specs.Fmt.{decimal}
use Rattle.log_groups.specs.declared.item.GroupKey.{GroupKey}
use Rattle.log_groups.specs.declared.item.Item.{Item}
use Rattle.log_groups.specs.declared.item.Group.{Group}
use Rattle.log_groups.specs.Groups.{groups_of}
use Rattle.log_report.specs.declared.told.ToldUse.{ToldUse}
use Rattle.log_report.specs.declared.uses.UseFault.{UseFault}
use Rattle.log_report.specs.declared.uses.UseFault.TheVariants.{EntangledRead, EntangledUse, StaleUse}
use Rattle.log_report.specs.Told.{label_kind, label_site}
use Rattle.log_report.specs.Labels.{Names, label_text, line_text}

abbrev pub what_of : UseFault → List ℕ
what_of EntangledRead = codes "entangled read"
what_of EntangledUse = codes "entangled use"
what_of StaleUse = codes "stale use"

-- what the other line does to the block
abbrev pub since_of : UseFault → List ℕ
since_of EntangledRead = codes "born"
since_of EntangledUse = codes "born"
since_of StaleUse = codes "released"

-- GROUPS

-- uses of one block, and of the same kind and site, are one group
abbrev pub use_key : ToldUse → GroupKey
use_key u = record { block = u.block; first_kind = label_kind u.line; first_site = label_site u.line; second_kind = 0; second_site = 0 }

abbrev pub use_item : ToldUse → ℕ → Item
use_item u place = record { key = use_key u; size = 1; place = place }

abbrev pub use_items : ℕ → List ToldUse → List Item
use_items place [] = []
use_items place (u ∷ rest) = use_item u place ∷ use_items (place + 1) rest

-- LINES

abbrev pub use_head : UseFault → ℕ → List ℕ
use_head fault block = what_of fault ++ codes " " ++ decimal block ++ codes ": "

abbrev pub use_other : UseFault → List ℕ
use_other fault = codes ", " ++ since_of fault

-- how many lines there are
abbrev pub use_tail : ℕ → List ℕ
use_tail total = codes "; lines " ++ decimal total ++ codes "\n"

abbrev pub use_line : Names → UseFault → ToldUse → ℕ → List ℕ
use_line names fault u total = use_head fault u.block ++ label_text names u.line ++ use_other fault ++ line_text u.other ++ use_tail total

abbrev pub use_at : Names → UseFault → ℕ → Option ToldUse → List ℕ
use_at names fault total None = []
use_at names fault total (Some u) = use_line names fault u total

abbrev pub use_group_line : Names → UseFault → List ToldUse → Group → List ℕ
use_group_line names fault uses g = use_at names fault g.total (slice_get uses g.first.place)

-- a line for each group, in the order of their first lines
abbrev pub use_lines : Names → UseFault → List ToldUse → List ℕ
use_lines names fault uses = flat_map (use_group_line names fault uses) (groups_of (use_items 0 uses))
