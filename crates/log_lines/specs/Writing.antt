-- How a line is written.
use Rattle.std.specs.Prelude.{ℕ, Option, Some, None, List, [], ◌∷◌, codes}
use Rattle.std.specs.List.{join_with_byte}
use Rattle.std.specs.Fmt.{decimal}
use Rattle.log_lines.specs.declared.line.LogPlace.{LogPlace}
use Rattle.log_lines.specs.declared.line.AccessKind.{AccessKind}
use Rattle.log_lines.specs.declared.line.AccessKind.TheVariants as kinds
use Rattle.log_lines.specs.declared.line.Reference.{Reference}
use Rattle.log_lines.specs.declared.line.Act.{Act}
use Rattle.log_lines.specs.declared.line.Act.TheVariants as acts
use Rattle.log_lines.specs.declared.line.LogLine.{LogLine}
use Rattle.log_lines.specs.declared.line.LogLine.TheVariants as lines

abbrev pub site_words : Option ℕ → List (List ℕ)
site_words None = []
site_words (Some n) = (64 ∷ decimal n) ∷ []

-- with the words that follow
abbrev pub place_words : LogPlace → List (List ℕ) → List (List ℕ)
place_words p ws = decimal p.block ∷ decimal p.offset ∷ decimal p.length ∷ decimal p.runs ∷ decimal p.apart ∷ ws

abbrev pub reference_words : Reference → List (List ℕ)
reference_words r = decimal r.block ∷ decimal r.offset ∷ decimal r.target ∷ site_words r.site

abbrev pub access_word : AccessKind → List ℕ
access_word kinds.Read = codes "r"
access_word kinds.Write = codes "w"
access_word kinds.AtomicRead = codes "R"
access_word kinds.AtomicWrite = codes "W"

abbrev pub act_words : Act → List (List ℕ)
act_words (acts.Access a) = access_word a.kind ∷ place_words a.place (site_words a.site)
act_words (acts.Yield r) = codes "g" ∷ reference_words r
act_words (acts.Store r) = codes "p" ∷ reference_words r
act_words (acts.Birth block length) = codes "a" ∷ decimal block ∷ decimal length ∷ []
act_words (acts.Release block) = codes "f" ∷ decimal block ∷ []
act_words (acts.Work units) = codes "k" ∷ decimal units ∷ []
act_words (acts.Spawn task) = codes "+" ∷ decimal task ∷ []
act_words (acts.Join task) = codes "-" ∷ decimal task ∷ []
act_words acts.Finish = codes "." ∷ []

-- a site is written with an empty name
abbrev pub line_words : LogLine → List (List ℕ)
line_words lines.Version = codes "hhlog" ∷ decimal 1 ∷ []
line_words (lines.Strand task strand) = codes "s" ∷ decimal task ∷ decimal strand ∷ []
line_words (lines.Act act) = act_words act
line_words (lines.Name site) = codes "@" ∷ decimal site ∷ [] ∷ []
line_words lines.Comment = codes "#" ∷ []
line_words lines.End = codes "end" ∷ []

-- words with a space between them, without a line feed
abbrev pub line_bytes : LogLine → List ℕ
line_bytes l = join_with_byte 32 (line_words l)
