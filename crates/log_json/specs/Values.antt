-- A report as a JSON object.
use Rattle.std.specs.Prelude.{ℕ, zero, suc, ◌+◌, ◌-◌, Option, Some, None, List, [], ◌∷◌, ◌++◌, codes, length, drop, slice_get}
use Rattle.std.specs.List.{flat_map}
use Rattle.std.specs.Fmt.{decimal}
use Rattle.log_json.specs.Common.{Json, Members, Number, Word, Array, Object, NoMember, Member, json, values, further, LogPosition, Group, groups_of, Told, ToldRace, ToldUse, LogReport, Detail, Merged, Locations, UseFault, EntangledRead, EntangledUse, StaleUse, HeapDepth, LogHeaps, racing_locations, Names, kind_word, race_items, run_length, use_items, since_of, hundredths, hundredths_text}

-- LINES

-- the site's name, or else its number after an at sign
abbrev pub site_word : Option (List ℕ) → ℕ → List ℕ
site_word None site = 64 ∷ decimal site
site_word (Some name) site = name

-- a site, if there is one, before other members
abbrev pub with_site : Names → Option ℕ → Members → Members
with_site names None ms = ms
with_site names (Some site) ms = Member (codes "site") (Word (site_word (names site) site)) ms

-- the number of the file, from 1, and that of the line in it
abbrev pub position_members : LogPosition → Members
position_members at = Member (codes "file") (Number (at.file + 1)) (Member (codes "line") (Number at.line) NoMember)

abbrev pub line_value : Names → Told → Json
line_value names t = Object (Member (codes "kind") (Word (kind_word t.kind)) (with_site names t.site (position_members t.at)))

abbrev pub position_value : LogPosition → Json
position_value at = Object (position_members at)

-- RACES

-- the two lines of a race, before other members
abbrev pub with_pair : Names → ToldRace → Members → Members
with_pair names r ms = Member (codes "first") (line_value names r.first) (Member (codes "second") (line_value names r.second) ms)

-- of races of one block, kinds and sites: the first, how many locations race alike from there on, and how many race so
abbrev pub merged_value : Names → ToldRace → ℕ → ℕ → Json
merged_value names r count total =
    Object (
    Member (codes "block") (Number r.block) (
    Member (codes "offset") (Number r.start) (
    Member (codes "count") (Number count) (
    with_pair names r (
    Member (codes "locations") (Number total) NoMember)))))

abbrev pub merged_at : Names → List ToldRace → ℕ → ℕ → Option ToldRace → List Json
merged_at names races place total None = []
merged_at names races place total (Some r) = merged_value names r (run_length races r place) total ∷ []

abbrev pub group_values : Names → List ToldRace → Group → List Json
group_values names races g = merged_at names races g.first.place g.total (slice_get races g.first.place)

abbrev pub location_value : Names → ToldRace → ℕ → Json
location_value names r location = Object (Member (codes "block") (Number r.block) (Member (codes "offset") (Number location) (with_pair names r NoMember)))

-- of so many locations from one on
abbrev pub values_from : Names → ToldRace → ℕ → ℕ → List Json
values_from names r location zero = []
values_from names r location (suc n) = location_value names r location ∷ values_from names r (location + 1) n

abbrev pub location_values : Names → ToldRace → List Json
location_values names r = values_from names r r.start (r.end - r.start)

-- an object for each block and pair of kinds and sites, or for each location
abbrev pub race_values : Names → Detail → List ToldRace → List Json
race_values names Merged races = flat_map (group_values names races) (groups_of (race_items 0 races))
race_values names Locations races = flat_map (location_values names) races

-- USES

abbrev pub use_value : Names → UseFault → ToldUse → ℕ → Json
use_value names fault u total =
    Object (
    Member (codes "block") (Number u.block) (
    Member (codes "use") (line_value names u.line) (
    Member (since_of fault) (position_value u.other) (
    Member (codes "lines") (Number total) NoMember))))

abbrev pub use_at : Names → UseFault → ℕ → Option ToldUse → List Json
use_at names fault total None = []
use_at names fault total (Some u) = use_value names fault u total ∷ []

abbrev pub use_group_values : Names → UseFault → List ToldUse → Group → List Json
use_group_values names fault uses g = use_at names fault g.total (slice_get uses g.first.place)

-- an object for each block, kind and site
abbrev pub use_values : Names → UseFault → List ToldUse → List Json
use_values names fault uses = flat_map (use_group_values names fault uses) (groups_of (use_items 0 uses))

-- THE REPORT

abbrev pub left_members : Option ℕ → Members
left_members None = NoMember
left_members (Some n) = Member (codes "cut") (Number n) NoMember

-- what the end line counts
abbrev pub counts_members : LogReport → Members
counts_members r =
    Member (codes "races") (Number (racing_locations r.races)) (
    Member (codes "reads") (Number (length r.entangled_reads)) (
    Member (codes "uses") (Number (length r.entangled_uses)) (
    Member (codes "stale") (Number (length r.stale_uses)) (
    left_members r.left_out))))

-- the blocks that tasks of one depth bear
abbrev pub depth_value : HeapDepth → Json
depth_value d =
    Object (
    Member (codes "depth") (Number d.depth) (
    Member (codes "blocks") (Number d.blocks) (
    Member (codes "words") (Number d.words) (
    Member (codes "own") (Number d.own) NoMember))))

abbrev pub depth_values : HeapDepth → List Json
depth_values d = depth_value d ∷ []

abbrev pub heaps_value : LogHeaps → Json
heaps_value h =
    Object (
    Member (codes "depths") (Array (values (flat_map depth_values h.depths))) (
    Member (codes "stores") (Number h.stores) (
    Member (codes "down") (Number h.down) NoMember)))

-- heaps, if they are told, before other members
abbrev pub with_heaps : Option LogHeaps → Members → Members
with_heaps None ms = ms
with_heaps (Some h) ms = Member (codes "heaps") (heaps_value h) ms

abbrev pub end_members : LogReport → Members
end_members r = Member (codes "end") (Object (counts_members r)) NoMember

abbrev pub cost_members : LogReport → Members
cost_members r =
    Member (codes "work") (Number r.work) (
    Member (codes "span") (Number r.span) (
    Member (codes "parallelism") (Word (hundredths_text (hundredths r.work r.span))) (
    with_heaps r.heaps (end_members r))))

abbrev pub report_value : Names → Detail → LogReport → Json
report_value names detail r =
    Object (
    Member (codes "races") (Array (values (race_values names detail r.races))) (
    Member (codes "entangled_reads") (Array (values (use_values names EntangledRead r.entangled_reads))) (
    Member (codes "entangled_uses") (Array (values (use_values names EntangledUse r.entangled_uses))) (
    Member (codes "stale_uses") (Array (values (use_values names StaleUse r.stale_uses))) (
    cost_members r)))))

-- with a line feed
abbrev pub report_json : Names → Detail → LogReport → List ℕ
report_json names detail r = json (report_value names detail r) ++ 10 ∷ []
