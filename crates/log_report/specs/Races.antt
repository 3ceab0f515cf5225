-- The races by blocks, kinds and sites.
use Rattle.std.specs.Prelude.{ℕ, ◌+◌, ◌-◌, ◌==◌, ◌&&◌, Bool, Option, Some, None, List, [], ◌∷◌, ◌++◌, codes, drop, slice_get, if◌then◌else◌}
use Rattle.std.specs.List.{flat_map}
use Rattle.std.specs.Fmt.{decimal}
use Rattle.log_form.specs.declared.fault.LogPosition.{LogPosition}
use Rattle.log_groups.specs.declared.item.GroupKey.{GroupKey}
use Rattle.log_groups.specs.declared.item.Item.{Item}
use Rattle.log_groups.specs.declared.item.Group.{Group}
use Rattle.log_groups.specs.Groups.{groups_of}
use Rattle.log_report.specs.declared.told.ToldRace.{ToldRace}
use Rattle.log_report.specs.Told.{label_kind, label_site, locations_of}
use Rattle.log_report.specs.Labels.{Names, label_text}

-- HOW MANY RACE ALIKE FROM A LOCATION ON

abbrev pub same_line : LogPosition → LogPosition → Bool
same_line p q = (p.file == q.file) && (p.line == q.line)

-- the second race is of the locations behind the first one's, and of the same two lines
abbrev pub follows : ToldRace → ToldRace → Bool
follows r s = (r.block == s.block) && (r.end == s.start) && same_line r.first.at s.first.at && same_line r.second.at s.second.at

-- where the locations end that race as those of a race do, without a gap, by the races behind it
abbrev pub run_end : ToldRace → List ToldRace → ℕ
run_end r [] = r.end
run_end r (s ∷ rest) = if follows r s then run_end s rest else r.end

-- of the race at a place
abbrev pub run_length : List ToldRace → ToldRace → ℕ → ℕ
run_length races r place = run_end r (drop (place + 1) races) - r.start

-- GROUPS

-- races of one block, and of the same two kinds and sites, are one group
abbrev pub race_key : ToldRace → GroupKey
race_key r = record { block = r.block; first_kind = label_kind r.first; first_site = label_site r.first; second_kind = label_kind r.second; second_site = label_site r.second }

abbrev pub race_item : ToldRace → ℕ → Item
race_item r place = record { key = race_key r; size = locations_of r; place = place }

abbrev pub race_items : ℕ → List ToldRace → List Item
race_items place [] = []
race_items place (r ∷ rest) = race_item r place ∷ race_items (place + 1) rest

-- LINES

-- the block, the first location, and how many race alike from there on
abbrev pub head_text : ToldRace → ℕ → List ℕ
head_text r count = codes "race " ++ decimal r.block ++ codes " " ++ decimal r.start ++ codes " " ++ decimal count ++ codes ": "

abbrev pub pair_text : Names → ToldRace → List ℕ
pair_text names r = label_text names r.first ++ codes ", " ++ label_text names r.second

-- how many locations of the block race so in all
abbrev pub tail_text : ℕ → List ℕ
tail_text total = codes "; locations " ++ decimal total ++ codes "\n"

abbrev pub race_line : Names → ToldRace → ℕ → ℕ → List ℕ
race_line names r count total = head_text r count ++ pair_text names r ++ tail_text total

abbrev pub line_at : Names → List ToldRace → ℕ → ℕ → Option ToldRace → List ℕ
line_at names races place total None = []
line_at names races place total (Some r) = race_line names r (run_length races r place) total

-- of a group, whose first race stands at a place
abbrev pub group_line : Names → List ToldRace → Group → List ℕ
group_line names races g = line_at names races g.first.place g.total (slice_get races g.first.place)

-- a line for each group, in the order of their first races
abbrev pub race_lines : Names → List ToldRace → List ℕ
race_lines names races = flat_map (group_line names races) (groups_of (race_items 0 races))
