-- The pieces of a report's object are the text of its value.
use Rattle.log_json.proofs.Common.{◌≡◌, ◌∙◌, ◌+◌, ◌-◌, ℕ, zero, suc, List, [], ◌∷◌, ◌++◌, length, drop, refl, ap, sym, append_assoc, append-nil, Option, Some, None, codes, slice_get, flat_map, decimal, flat_map-append, quoted, Json, Members, Array, Object, Number, Word, json, values, further, first_values, more_values, more_members, first_members, LogPosition, Group, groups_of, Told, ToldRace, ToldUse, LogReport, HeapDepth, LogHeaps, Detail, Merged, Locations, UseFault, EntangledRead, EntangledUse, StaleUse, racing_locations, Names, kind_word, race_items, run_length, use_items, since_of, hundredths, hundredths_text}
use Rattle.log_json.specs.Values
use Rattle.log_json.proofs.Joined.{plain_parts, site_parts, merged_parts, location_parts, use_parts, counts_parts, depth_parts, heaps_parts, report_parts}
use Rattle.log_json.specs.Pieces

-- MEMBERS of texts

abbrev first : List ℕ → List ℕ → List ℕ → List ℕ
first name v ms = quoted name ++ 58 ∷ (v ++ ms)

abbrev more : List ℕ → List ℕ → List ℕ → List ℕ
more name v ms = 44 ∷ (quoted name ++ 58 ∷ (v ++ ms))

abbrev braced : List ℕ → List ℕ
braced ms = 123 ∷ (ms ++ 125 ∷ [])

-- LINES

position_flat : (file line : List ℕ)
    → codes "{" ++ (codes "\"file\":" ++ file ++ codes ",\"line\":" ++ line ++ codes "}") ≡ braced (first (codes "file") file (more (codes "line") line []))
position_flat file line = simp (append_assoc, append-nil)

plain_flat : (kind file line : List ℕ)
    → codes "{\"kind\":" ++ kind ++ [] ++ codes "," ++ (codes "\"file\":" ++ file ++ codes ",\"line\":" ++ line ++ codes "}")
    ≡ braced (first (codes "kind") kind (more (codes "file") file (more (codes "line") line [])))
plain_flat kind file line = plain_parts (codes "{\"kind\":") (codes ",") (codes "\"file\":") (codes ",\"line\":") (codes "}") kind file line

site_flat : (kind site file line : List ℕ)
    → codes "{\"kind\":" ++ kind ++ (codes ",\"site\":" ++ site) ++ codes "," ++ (codes "\"file\":" ++ file ++ codes ",\"line\":" ++ line ++ codes "}")
    ≡ braced (first (codes "kind") kind (more (codes "site") site (more (codes "file") file (more (codes "line") line []))))
site_flat kind site file line = site_parts (codes "{\"kind\":") (codes ",\"site\":") (codes ",") (codes "\"file\":") (codes ",\"line\":") (codes "}") kind site file line

line_by : (names : Names) (kind : List ℕ) (at : LogPosition) (site : Option ℕ)
    → codes "{\"kind\":" ++ quoted kind ++ Pieces.site_piece names site ++ codes "," ++ Pieces.position_piece at
    ≡ braced (first (codes "kind") (quoted kind) (more_members (Values.with_site names site (Values.position_members at))))
line_by names kind at None = plain_flat (quoted kind) (decimal (at.file + 1)) (decimal at.line)
line_by names kind at (Some site) = site_flat (quoted kind) (quoted (Values.site_word (names site) site)) (decimal (at.file + 1)) (decimal at.line)

line_is : (names : Names) (t : Told) → Pieces.line_piece names t ≡ json (Values.line_value names t)
line_is names t = line_by names (kind_word t.kind) t.at t.site

-- RACES

merged_flat : (block offset count one other total : List ℕ)
    → (codes ",\n{\"block\":" ++ block ++ codes ",\"offset\":" ++ offset) ++ (codes ",\"count\":" ++ count) ++ (codes ",\"first\":" ++ one ++ codes ",\"second\":" ++ other) ++ (codes ",\"locations\":" ++ total) ++ codes "}"
    ≡ 44 ∷ 10 ∷ braced (first (codes "block") block (more (codes "offset") offset (more (codes "count") count (more (codes "first") one (more (codes "second") other (more (codes "locations") total []))))))
merged_flat block offset count one other total =
    merged_parts (codes ",\n{\"block\":") (codes ",\"offset\":") (codes ",\"count\":") (codes ",\"first\":") (codes ",\"second\":") (codes ",\"locations\":") (codes "}") block offset count one other total

location_flat : (block offset one other : List ℕ)
    → (codes ",\n{\"block\":" ++ block ++ codes ",\"offset\":" ++ offset) ++ (codes ",\"first\":" ++ one ++ codes ",\"second\":" ++ other) ++ codes "}"
    ≡ 44 ∷ 10 ∷ braced (first (codes "block") block (more (codes "offset") offset (more (codes "first") one (more (codes "second") other []))))
location_flat block offset one other = location_parts (codes ",\n{\"block\":") (codes ",\"offset\":") (codes ",\"first\":") (codes ",\"second\":") (codes "}") block offset one other

module _ (names : Names) where
  merged_is : (r : ToldRace) (count total : ℕ) → Pieces.merged_piece names r count total ≡ further (Values.merged_value names r count total)
  merged_is r count total =
      (λ i. Pieces.place_piece r.block r.start ++ (codes ",\"count\":" ++ decimal count) ++ (codes ",\"first\":" ++ line_is names r.first i ++ codes ",\"second\":" ++ line_is names r.second i) ++ (codes ",\"locations\":" ++ decimal total) ++ codes "}")
      ∙ merged_flat (decimal r.block) (decimal r.start) (decimal count) (json (Values.line_value names r.first)) (json (Values.line_value names r.second)) (decimal total)

  merged_at_is : (races : List ToldRace) (place total : ℕ) (o : Option ToldRace) → Pieces.merged_piece_at names races place total o ≡ flat_map further (Values.merged_at names races place total o)
  merged_at_is races place total None = refl
  merged_at_is races place total (Some r) = merged_is r (run_length races r place) total ∙ sym (append-nil (further (Values.merged_value names r (run_length races r place) total)))

  location_is : (r : ToldRace) (location : ℕ) → Pieces.location_piece names r location ≡ further (Values.location_value names r location)
  location_is r location =
      (λ i. Pieces.place_piece r.block location ++ (codes ",\"first\":" ++ line_is names r.first i ++ codes ",\"second\":" ++ line_is names r.second i) ++ codes "}")
      ∙ location_flat (decimal r.block) (decimal location) (json (Values.line_value names r.first)) (json (Values.line_value names r.second))

  locations_are : (r : ToldRace) (n location : ℕ) → Pieces.pieces_from names r location n ≡ flat_map further (Values.values_from names r location n)
  locations_are r zero location = refl
  locations_are r (suc n) location = λ i. location_is r location i ++ locations_are r n (location + 1) i

-- values of values
nested : {A : Type 0} (piece : A → List ℕ) (vs : A → List Json) (each : (a : A) → piece a ≡ flat_map further (vs a)) (xs : List A) → flat_map piece xs ≡ flat_map further (flat_map vs xs)
nested piece vs each [] = refl
nested piece vs each (x ∷ xs) = (λ i. each x i ++ nested piece vs each xs i) ∙ sym (flat_map-append further (vs x) (flat_map vs xs))

races_are : (names : Names) (detail : Detail) (races : List ToldRace) → Pieces.races_piece names detail races ≡ flat_map further (Values.race_values names detail races)
races_are names Merged races =
    nested (Pieces.group_piece names races) (Values.group_values names races) (λ (g : Group). merged_at_is names races g.first.place g.total (slice_get races g.first.place)) (groups_of (race_items 0 races))
races_are names Locations races =
    nested (Pieces.locations_piece names) (Values.location_values names) (λ (r : ToldRace). locations_are names r (r.end - r.start) r.start) races

-- USES

use_flat : (block line since other total : List ℕ)
    → (codes ",\n{\"block\":" ++ block ++ codes ",\"use\":") ++ line ++ (codes "," ++ quoted since ++ codes ":{" ++ other) ++ (codes ",\"lines\":" ++ total) ++ codes "}"
    ≡ 44 ∷ 10 ∷ braced (first (codes "block") block (more (codes "use") line (more since (codes "{" ++ other) (more (codes "lines") total []))))
use_flat block line since other total = use_parts (codes ",\n{\"block\":") (codes ",\"use\":") (codes ",") (codes ":{") (codes ",\"lines\":") (codes "}") block line (quoted since) other total

module _ (names : Names) (fault : UseFault) where
  use_is : (u : ToldUse) (total : ℕ) → Pieces.use_piece names fault u total ≡ further (Values.use_value names fault u total)
  use_is u total =
      (λ i. Pieces.block_piece u.block ++ line_is names u.line i ++ Pieces.since_piece fault u.other ++ (codes ",\"lines\":" ++ decimal total) ++ codes "}")
      ∙ use_flat (decimal u.block) (json (Values.line_value names u.line)) (since_of fault) (Pieces.position_piece u.other) (decimal total)
      ∙ ap (λ p. 44 ∷ 10 ∷ braced (first (codes "block") (decimal u.block) (more (codes "use") (json (Values.line_value names u.line)) (more (since_of fault) p (more (codes "lines") (decimal total) []))))) (position_flat (decimal (u.other.file + 1)) (decimal u.other.line))

  use_at_is : (total : ℕ) (o : Option ToldUse) → Pieces.use_piece_at names fault total o ≡ flat_map further (Values.use_at names fault total o)
  use_at_is total None = refl
  use_at_is total (Some u) = use_is u total ∙ sym (append-nil (further (Values.use_value names fault u total)))

uses_are : (names : Names) (fault : UseFault) (uses : List ToldUse) → Pieces.uses_piece names fault uses ≡ flat_map further (Values.use_values names fault uses)
uses_are names fault uses =
    nested (Pieces.use_group_piece names fault uses) (Values.use_group_values names fault uses) (λ (g : Group). use_at_is names fault g.total (slice_get uses g.first.place)) (groups_of (use_items 0 uses))

-- ARRAYS

further_are : (vs : List Json) → flat_map further vs ≡ more_values (values vs)
further_are [] = refl
further_are (v ∷ vs) = ap (λ x. 44 ∷ 10 ∷ (json v ++ x)) (further_are vs)

array_is : (vs : List Json) → Pieces.array_piece (flat_map further vs) ≡ json (Array (values vs))
array_is [] = refl
array_is (v ∷ vs) = ap (λ x. 91 ∷ ((json v ++ x) ++ 93 ∷ [])) (further_are vs)

races_array : (names : Names) (detail : Detail) (races : List ToldRace) → Pieces.array_piece (Pieces.races_piece names detail races) ≡ json (Array (values (Values.race_values names detail races)))
races_array names detail races = ap Pieces.array_piece (races_are names detail races) ∙ array_is (Values.race_values names detail races)

uses_array : (names : Names) (fault : UseFault) (uses : List ToldUse) → Pieces.array_piece (Pieces.uses_piece names fault uses) ≡ json (Array (values (Values.use_values names fault uses)))
uses_array names fault uses = ap Pieces.array_piece (uses_are names fault uses) ∙ array_is (Values.use_values names fault uses)

-- THE REPORT

counts_whole : (races reads uses stale : List ℕ)
    → (codes "{\"races\":" ++ races ++ codes ",\"reads\":" ++ reads ++ codes ",\"uses\":" ++ uses ++ codes ",\"stale\":" ++ stale) ++ [] ++ codes "}"
    ≡ braced (first (codes "races") races (more (codes "reads") reads (more (codes "uses") uses (more (codes "stale") stale []))))
counts_whole races reads uses stale = simp (append_assoc, append-nil)

counts_cut : (races reads uses stale left : List ℕ)
    → (codes "{\"races\":" ++ races ++ codes ",\"reads\":" ++ reads ++ codes ",\"uses\":" ++ uses ++ codes ",\"stale\":" ++ stale) ++ (codes ",\"cut\":" ++ left) ++ codes "}"
    ≡ braced (first (codes "races") races (more (codes "reads") reads (more (codes "uses") uses (more (codes "stale") stale (more (codes "cut") left [])))))
counts_cut races reads uses stale left =
    counts_parts (codes "{\"races\":") (codes ",\"reads\":") (codes ",\"uses\":") (codes ",\"stale\":") (codes ",\"cut\":") (codes "}") races reads uses stale left

counts_by : (races reads uses stale : ℕ) (left : Option ℕ)
    → Pieces.counts_piece races reads uses stale ++ Pieces.left_piece left ++ codes "}"
    ≡ braced (first (codes "races") (decimal races) (more (codes "reads") (decimal reads) (more (codes "uses") (decimal uses) (more (codes "stale") (decimal stale) (more_members (Values.left_members left))))))
counts_by races reads uses stale None = counts_whole (decimal races) (decimal reads) (decimal uses) (decimal stale)
counts_by races reads uses stale (Some n) = counts_cut (decimal races) (decimal reads) (decimal uses) (decimal stale) (decimal n)

depth_flat : (depth blocks words own : List ℕ)
    → (codes ",\n{\"depth\":" ++ depth) ++ (codes ",\"blocks\":" ++ blocks) ++ (codes ",\"words\":" ++ words) ++ (codes ",\"own\":" ++ own) ++ codes "}"
    ≡ 44 ∷ 10 ∷ braced (first (codes "depth") depth (more (codes "blocks") blocks (more (codes "words") words (more (codes "own") own []))))
depth_flat depth blocks words own = depth_parts (codes ",\n{\"depth\":") (codes ",\"blocks\":") (codes ",\"words\":") (codes ",\"own\":") (codes "}") depth blocks words own

depth_is : (d : HeapDepth) → Pieces.depth_piece d ≡ flat_map further (Values.depth_values d)
depth_is d = depth_flat (decimal d.depth) (decimal d.blocks) (decimal d.words) (decimal d.own) ∙ sym (append-nil (further (Values.depth_value d)))

depths_array : (rows : List HeapDepth) → Pieces.array_piece (flat_map Pieces.depth_piece rows) ≡ json (Array (values (flat_map Values.depth_values rows)))
depths_array rows = ap Pieces.array_piece (nested Pieces.depth_piece Values.depth_values depth_is rows) ∙ array_is (flat_map Values.depth_values rows)

heaps_flat : (depths stores down rest : List ℕ)
    → (codes ",\"heaps\":{\"depths\":" ++ depths ++ (codes ",\"stores\":" ++ stores) ++ (codes ",\"down\":" ++ down) ++ codes "}") ++ rest
    ≡ more (codes "heaps") (braced (first (codes "depths") depths (more (codes "stores") stores (more (codes "down") down [])))) rest
heaps_flat depths stores down rest = heaps_parts (codes ",\"heaps\":") (codes "{\"depths\":") (codes ",\"stores\":") (codes ",\"down\":") (codes "}") depths stores down rest

heaps_are : (heaps : Option LogHeaps) (ms : Members) → Pieces.heaps_piece_if heaps ++ more_members ms ≡ more_members (Values.with_heaps heaps ms)
heaps_are None ms = refl
heaps_are (Some h) ms =
    (λ i. (codes ",\"heaps\":{\"depths\":" ++ depths_array h.depths i ++ (codes ",\"stores\":" ++ decimal h.stores) ++ (codes ",\"down\":" ++ decimal h.down) ++ codes "}") ++ more_members ms)
    ∙ heaps_flat (json (Array (values (flat_map Values.depth_values h.depths)))) (decimal h.stores) (decimal h.down) (more_members ms)

-- the members after parallelism
ends_are : (r : LogReport)
    → Pieces.heaps_piece_if r.heaps ++ more (codes "end") (Pieces.counts_piece (racing_locations r.races) (length r.entangled_reads) (length r.entangled_uses) (length r.stale_uses) ++ Pieces.left_piece r.left_out ++ codes "}") []
    ≡ more_members (Values.with_heaps r.heaps (Values.end_members r))
ends_are r =
    ap (λ x. Pieces.heaps_piece_if r.heaps ++ more (codes "end") x []) (counts_by (racing_locations r.races) (length r.entangled_reads) (length r.entangled_uses) (length r.stale_uses) r.left_out)
    ∙ heaps_are r.heaps (Values.end_members r)

report_flat : (races reads uses stale work span quotient heaps counts left : List ℕ)
    → codes "{\"races\":" ++ races ++ ((codes ",\"entangled_reads\":" ++ reads) ++ (codes ",\"entangled_uses\":" ++ uses) ++ (codes ",\"stale_uses\":" ++ stale))
    ++ (((codes ",\"work\":" ++ work) ++ (codes ",\"span\":" ++ span) ++ codes ",\"parallelism\":" ++ quotient) ++ heaps ++ codes ",\"end\":" ++ (counts ++ left) ++ codes "}") ++ codes "}\n"
    ≡ braced (first (codes "races") races (more (codes "entangled_reads") reads (more (codes "entangled_uses") uses (more (codes "stale_uses") stale
    (more (codes "work") work (more (codes "span") span (more (codes "parallelism") quotient (heaps ++ more (codes "end") (counts ++ left ++ codes "}") [])))))))) ++ 10 ∷ []
report_flat races reads uses stale work span quotient heaps counts left =
    report_parts (codes "{\"races\":") (codes ",\"entangled_reads\":") (codes ",\"entangled_uses\":") (codes ",\"stale_uses\":") (codes ",\"work\":") (codes ",\"span\":") (codes ",\"parallelism\":") (codes ",\"end\":") (codes "}") (10 ∷ [])
    races reads uses stale work span quotient heaps counts left

pub report_is : (names : Names) (detail : Detail) (r : LogReport) → Pieces.report_piece names detail r ≡ Values.report_json names detail r
report_is names detail r =
    (λ i. codes "{\"races\":" ++ races_array names detail r.races i
    ++ ((codes ",\"entangled_reads\":" ++ uses_array names EntangledRead r.entangled_reads i) ++ (codes ",\"entangled_uses\":" ++ uses_array names EntangledUse r.entangled_uses i) ++ (codes ",\"stale_uses\":" ++ uses_array names StaleUse r.stale_uses i))
    ++ Pieces.ends_piece r ++ codes "}\n")
    ∙ report_flat (json (Array (values (Values.race_values names detail r.races)))) (json (Array (values (Values.use_values names EntangledRead r.entangled_reads)))) (json (Array (values (Values.use_values names EntangledUse r.entangled_uses)))) (json (Array (values (Values.use_values names StaleUse r.stale_uses))))
    (decimal r.work) (decimal r.span) (quoted (hundredths_text (hundredths r.work r.span))) (Pieces.heaps_piece_if r.heaps)
    (Pieces.counts_piece (racing_locations r.races) (length r.entangled_reads) (length r.entangled_uses) (length r.stale_uses)) (Pieces.left_piece r.left_out)
    ∙ ap (λ x. braced (first (codes "races") (json (Array (values (Values.race_values names detail r.races)))) (more (codes "entangled_reads") (json (Array (values (Values.use_values names EntangledRead r.entangled_reads)))) (more (codes "entangled_uses") (json (Array (values (Values.use_values names EntangledUse r.entangled_uses)))) (more (codes "stale_uses") (json (Array (values (Values.use_values names StaleUse r.stale_uses))))
    (more (codes "work") (decimal r.work) (more (codes "span") (decimal r.span) (more (codes "parallelism") (quoted (hundredths_text (hundredths r.work r.span))) x))))))) ++ 10 ∷ [])
    (ends_are r)
