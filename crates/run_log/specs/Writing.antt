-- How the lines of a log are written.
use Rattle.std.specs.Prelude.{ℕ, ◌==◌, ◌&&◌, Bool, Option, Some, None, List, [], ◌∷◌, ◌++◌, codes, if◌then◌else◌}
use Rattle.std.specs.List.{flat_map}
use Rattle.std.specs.Fmt.{decimal}
use Rattle.run_log.specs.Common.{LogPlace, AccessKind, Access, Reference, Act, LogLine}
use Rattle.log_lines.specs.declared.line.AccessKind.TheVariants as kinds
use Rattle.log_lines.specs.declared.line.Act.TheVariants as acts
use Rattle.log_lines.specs.declared.line.LogLine.TheVariants as lines

-- PLACES

abbrev pub is_location : LogPlace → Bool
is_location p = (p.length == 1) && ((p.runs == 1) && (p.apart == 1))

abbrev pub spaced_numbers : List ℕ → List ℕ
spaced_numbers ns = flat_map (λ n. 32 ∷ decimal n) ns

-- a place that is one location is written by its block and its offset
abbrev pub place_text : LogPlace → List ℕ
place_text p =
    if is_location p then spaced_numbers (p.block ∷ p.offset ∷ [])
    else spaced_numbers (p.block ∷ p.offset ∷ p.length ∷ p.runs ∷ p.apart ∷ [])

-- the site, if there is one
abbrev pub site_text : Option ℕ → List ℕ
site_text None = []
site_text (Some n) = 32 ∷ (64 ∷ decimal n)

-- LINES, each without its line feed

abbrev pub access_letter : AccessKind → ℕ
access_letter kinds.Read = 114
access_letter kinds.Write = 119
access_letter kinds.AtomicRead = 82
access_letter kinds.AtomicWrite = 87

abbrev pub access_text : Access → List ℕ
access_text a = access_letter a.kind ∷ place_text a.place ++ site_text a.site

abbrev pub reference_text : ℕ → Reference → List ℕ
reference_text letter r = letter ∷ spaced_numbers (r.block ∷ r.offset ∷ r.target ∷ []) ++ site_text r.site

-- a letter, and numbers behind it
abbrev pub letter_text : ℕ → List ℕ → List ℕ
letter_text letter ns = letter ∷ spaced_numbers ns

abbrev pub act_text : Act → List ℕ
act_text (acts.Access a) = access_text a
act_text (acts.Yield r) = reference_text 103 r
act_text (acts.Store r) = reference_text 112 r
act_text (acts.Birth block length) = letter_text 97 (block ∷ length ∷ [])
act_text (acts.Release block) = letter_text 102 (block ∷ [])
act_text (acts.Work units) = letter_text 107 (units ∷ [])
act_text (acts.Spawn task) = letter_text 43 (task ∷ [])
act_text (acts.Join task) = letter_text 45 (task ∷ [])
act_text acts.Finish = letter_text 46 []

-- a site's name is left empty
abbrev pub line_text : LogLine → List ℕ
line_text lines.Version = codes "hhlog 1"
line_text (lines.Strand task strand) = letter_text 115 (task ∷ strand ∷ [])
line_text (lines.Act act) = act_text act
line_text (lines.Name site) = letter_text 64 (site ∷ []) ++ 32 ∷ []
line_text lines.Comment = codes "#"
line_text lines.End = codes "end"

-- ALL LINES, each with its line feed

abbrev pub written : LogLine → List ℕ
written line = line_text line ++ 10 ∷ []

abbrev pub all_written : List LogLine → List ℕ
all_written ls = flat_map written ls
