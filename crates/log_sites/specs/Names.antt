-- The names that a log gives to sites.
use Rattle.std.specs.Prelude.{ℕ, ◌==◌, Bool, Option, Some, None, Result, Ok, Err, List, [], ◌∷◌, nat_eq, if◌then◌else◌}
use Rattle.std.specs.List.{flat_map}
use Rattle.std.specs.HashMap.{get}
use Rattle.log_lines.specs.declared.cause.LogCause.{LogCause}
use Rattle.log_lines.specs.declared.line.LogLine.{LogLine}
use Rattle.log_lines.specs.declared.line.LogLine.TheVariants as lines
use Rattle.log_lines.specs.Grammar.{line_of}
use Rattle.log_form.specs.Text.{lines_in}
use Rattle.log_sites.specs.declared.names.SiteNames.{SiteNames}

-- what stands behind the first space
abbrev pub behind_space : List ℕ → List ℕ
behind_space [] = []
behind_space (c ∷ cs) = if c == 32 then cs else behind_space cs

-- the name that a line gives: what stands behind the site's number
abbrev pub name_text : List ℕ → List ℕ
name_text line = behind_space (behind_space line)

-- the site that a line names
abbrev pub site_of_said : Result LogLine LogCause → Option ℕ
site_of_said (Ok (lines.Name site)) = Some site
site_of_said (Ok lines.Version) = None
site_of_said (Ok (lines.Strand t i)) = None
site_of_said (Ok (lines.Act act)) = None
site_of_said (Ok lines.Comment) = None
site_of_said (Ok lines.End) = None
site_of_said (Err cause) = None

abbrev pub site_in : List ℕ → Option ℕ
site_in line = site_of_said (line_of line)

-- the name of site s, where a site is given this one
abbrev pub given : ℕ → List ℕ → ℕ → Option (List ℕ)
given site name s = if site == s then Some name else None

abbrev pub given_by : Option ℕ → List ℕ → ℕ → Option (List ℕ)
given_by None name s = None
given_by (Some site) name s = given site name s

-- the name that a line gives to site s
abbrev pub name_in : ℕ → List ℕ → Option (List ℕ)
name_in s line = given_by (site_in line) (name_text line) s

abbrev pub or_name : Option (List ℕ) → Option (List ℕ) → Option (List ℕ)
or_name None later = later
or_name (Some name) later = Some name

-- the first name that lines give to site s
abbrev pub first_name : ℕ → List (List ℕ) → Option (List ℕ)
first_name s [] = None
first_name s (l ∷ ls) = or_name (name_in s l) (first_name s ls)

-- the name that a log gives to site s, in the texts of its files
abbrev pub site_name : List (List ℕ) → ℕ → Option (List ℕ)
site_name texts s = first_name s (flat_map lines_in texts)

-- what is known
abbrev pub name_of : SiteNames → ℕ → Option (List ℕ)
name_of names s = get nat_eq names.known s
