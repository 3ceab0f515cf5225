-- What is written of a line.
use Rattle.std.specs.Prelude.{ℕ, ◌+◌, Option, Some, None, List, [], ◌∷◌, ◌++◌, codes}
use Rattle.std.specs.Fmt.{decimal}
use Rattle.log_form.specs.declared.fault.LogPosition.{LogPosition}
use Rattle.log_report.specs.declared.told.LineKind.{LineKind}
use Rattle.log_report.specs.declared.told.LineKind.TheVariants.{Read, Write, AtomicRead, AtomicWrite, Release}
use Rattle.log_report.specs.declared.told.Told.{Told}

-- the names of sites, by their numbers
abbrev pub Names : Type 0
Names = ℕ → Option (List ℕ)

abbrev pub kind_word : LineKind → List ℕ
kind_word Read = codes "read"
kind_word Write = codes "write"
kind_word AtomicRead = codes "atomic read"
kind_word AtomicWrite = codes "atomic write"
kind_word Release = codes "release"

-- the site's name, or else its number
abbrev pub name_or_number : Option (List ℕ) → ℕ → List ℕ
name_or_number None site = codes " @" ++ decimal site
name_or_number (Some name) site = 32 ∷ name

abbrev pub site_text : Names → Option ℕ → List ℕ
site_text names None = []
site_text names (Some site) = name_or_number (names site) site

-- the number of the file, from 1, and that of the line in it
abbrev pub line_text : LogPosition → List ℕ
line_text at = codes " line " ++ decimal (at.file + 1) ++ codes ":" ++ decimal at.line

abbrev pub label_text : Names → Told → List ℕ
label_text names t = kind_word t.kind ++ site_text names t.site ++ line_text t.at
