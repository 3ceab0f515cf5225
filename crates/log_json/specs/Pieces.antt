-- A report's object as the code writes it, piece by piece.
use Rattle.std.specs.Prelude.{ℕ, zero, suc, ◌+◌, ◌-◌, Option, Some, None, List, [], ◌∷◌, ◌++◌, codes, drop, length, slice_get}
use Rattle.std.specs.List.{flat_map}
use Rattle.std.specs.Fmt.{decimal}
use Rattle.log_json.specs.Common.{quoted, LogPosition, Group, groups_of, Told, ToldRace, ToldUse, LogReport, Detail, Merged, Locations, UseFault, EntangledRead, EntangledUse, StaleUse, HeapDepth, LogHeaps, racing_locations, Names, kind_word, race_items, run_length, use_items, since_of, hundredths, hundredths_text}
use Rattle.log_json.specs.Values.{site_word}

-- LINES

abbrev pub site_piece : Names → Option ℕ → List ℕ
site_piece names None = []
site_piece names (Some site) = codes ",\"site\":" ++ quoted (site_word (names site) site)

abbrev pub position_piece : LogPosition → List ℕ
position_piece at = codes "\"file\":" ++ decimal (at.file + 1) ++ codes ",\"line\":" ++ decimal at.line ++ codes "}"

abbrev pub line_piece : Names → Told → List ℕ
line_piece names t = codes "{\"kind\":" ++ quoted (kind_word t.kind) ++ site_piece names t.site ++ codes "," ++ position_piece t.at

-- RACES, each after a comma

abbrev pub place_piece : ℕ → ℕ → List ℕ
place_piece block location = codes ",\n{\"block\":" ++ decimal block ++ codes ",\"offset\":" ++ decimal location

abbrev pub pair_piece : Names → ToldRace → List ℕ
pair_piece names r = codes ",\"first\":" ++ line_piece names r.first ++ codes ",\"second\":" ++ line_piece names r.second

abbrev pub merged_piece : Names → ToldRace → ℕ → ℕ → List ℕ
merged_piece names r count total =
    place_piece r.block r.start ++ (codes ",\"count\":" ++ decimal count) ++ pair_piece names r ++ (codes ",\"locations\":" ++ decimal total) ++ codes "}"

abbrev pub merged_piece_at : Names → List ToldRace → ℕ → ℕ → Option ToldRace → List ℕ
merged_piece_at names races place total None = []
merged_piece_at names races place total (Some r) = merged_piece names r (run_length races r place) total

abbrev pub group_piece : Names → List ToldRace → Group → List ℕ
group_piece names races g = merged_piece_at names races g.first.place g.total (slice_get races g.first.place)

abbrev pub location_piece : Names → ToldRace → ℕ → List ℕ
location_piece names r location = place_piece r.block location ++ pair_piece names r ++ codes "}"

abbrev pub pieces_from : Names → ToldRace → ℕ → ℕ → List ℕ
pieces_from names r location zero = []
pieces_from names r location (suc n) = location_piece names r location ++ pieces_from names r (location + 1) n

abbrev pub locations_piece : Names → ToldRace → List ℕ
locations_piece names r = pieces_from names r r.start (r.end - r.start)

abbrev pub races_piece : Names → Detail → List ToldRace → List ℕ
races_piece names Merged races = flat_map (group_piece names races) (groups_of (race_items 0 races))
races_piece names Locations races = flat_map (locations_piece names) races

-- USES, each after a comma

abbrev pub block_piece : ℕ → List ℕ
block_piece block = codes ",\n{\"block\":" ++ decimal block ++ codes ",\"use\":"

-- the line of a block's birth or release
abbrev pub since_piece : UseFault → LogPosition → List ℕ
since_piece fault at = codes "," ++ quoted (since_of fault) ++ codes ":{" ++ position_piece at

abbrev pub use_piece : Names → UseFault → ToldUse → ℕ → List ℕ
use_piece names fault u total =
    block_piece u.block ++ line_piece names u.line ++ since_piece fault u.other ++ (codes ",\"lines\":" ++ decimal total) ++ codes "}"

abbrev pub use_piece_at : Names → UseFault → ℕ → Option ToldUse → List ℕ
use_piece_at names fault total None = []
use_piece_at names fault total (Some u) = use_piece names fault u total

abbrev pub use_group_piece : Names → UseFault → List ToldUse → Group → List ℕ
use_group_piece names fault uses g = use_piece_at names fault g.total (slice_get uses g.first.place)

abbrev pub uses_piece : Names → UseFault → List ToldUse → List ℕ
uses_piece names fault uses = flat_map (use_group_piece names fault uses) (groups_of (use_items 0 uses))

-- THE REPORT

abbrev pub left_piece : Option ℕ → List ℕ
left_piece None = []
left_piece (Some n) = codes ",\"cut\":" ++ decimal n

abbrev pub counts_piece : ℕ → ℕ → ℕ → ℕ → List ℕ
counts_piece races reads uses stale = codes "{\"races\":" ++ decimal races ++ codes ",\"reads\":" ++ decimal reads ++ codes ",\"uses\":" ++ decimal uses ++ codes ",\"stale\":" ++ decimal stale

abbrev pub all_counts_piece : LogReport → List ℕ
all_counts_piece r = counts_piece (racing_locations r.races) (length r.entangled_reads) (length r.entangled_uses) (length r.stale_uses) ++ left_piece r.left_out

abbrev pub cost_piece : ℕ → ℕ → List ℕ → List ℕ
cost_piece work span quotient = (codes ",\"work\":" ++ decimal work) ++ (codes ",\"span\":" ++ decimal span) ++ codes ",\"parallelism\":" ++ quoted quotient

-- the array of values that are each written after a comma
abbrev pub array_piece : List ℕ → List ℕ
array_piece further = 91 ∷ (drop 2 further ++ 93 ∷ [])

-- the blocks that tasks of one depth bear, after a comma
abbrev pub depth_piece : HeapDepth → List ℕ
depth_piece d = (codes ",\n{\"depth\":" ++ decimal d.depth) ++ (codes ",\"blocks\":" ++ decimal d.blocks) ++ (codes ",\"words\":" ++ decimal d.words) ++ (codes ",\"own\":" ++ decimal d.own) ++ codes "}"

abbrev pub heaps_piece : LogHeaps → List ℕ
heaps_piece h =
    codes ",\"heaps\":{\"depths\":" ++ array_piece (flat_map depth_piece h.depths) ++ (codes ",\"stores\":" ++ decimal h.stores) ++ (codes ",\"down\":" ++ decimal h.down) ++ codes "}"

abbrev pub heaps_piece_if : Option LogHeaps → List ℕ
heaps_piece_if None = []
heaps_piece_if (Some h) = heaps_piece h

abbrev pub ends_piece : LogReport → List ℕ
ends_piece r = cost_piece r.work r.span (hundredths_text (hundredths r.work r.span)) ++ heaps_piece_if r.heaps ++ codes ",\"end\":" ++ all_counts_piece r ++ codes "}"

abbrev pub array_name : UseFault → List ℕ
array_name EntangledRead = codes ",\"entangled_reads\":"
array_name EntangledUse = codes ",\"entangled_uses\":"
array_name StaleUse = codes ",\"stale_uses\":"

-- the array of uses of a kind, after its name
abbrev pub named_uses_piece : Names → UseFault → List ToldUse → List ℕ
named_uses_piece names fault uses = array_name fault ++ array_piece (uses_piece names fault uses)

abbrev pub all_uses_piece : Names → LogReport → List ℕ
all_uses_piece names r =
    named_uses_piece names EntangledRead r.entangled_reads
    ++ named_uses_piece names EntangledUse r.entangled_uses
    ++ named_uses_piece names StaleUse r.stale_uses

abbrev pub report_piece : Names → Detail → LogReport → List ℕ
report_piece names detail r = codes "{\"races\":" ++ array_piece (races_piece names detail r.races) ++ all_uses_piece names r ++ ends_piece r ++ codes "}\n"
