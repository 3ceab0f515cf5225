-- What the words after `faults` ask for: `--json`, before FILE or after it, and FILE, both optional; a FILE that begins
-- with a hyphen stands after `--`.
use Rattle.std.specs.Prelude.{ℕ, ◌==◌, ◌&&◌, not, Bool, true, false, List, [], ◌∷◌, Option, Some, None, codes, if◌then◌else◌}
use Rattle.std.specs.Str.{bytes_eq}
use Rattle.clap.specs.Words.{Text}
use Rattle.view_arguments.specs.declared.line.Picture.TheVariants.{Faults}
use Rattle.view_arguments.specs.declared.line.ViewCall.{ViewCall}
use Rattle.view_arguments.specs.declared.line.ViewCall.TheVariants.{Of}

abbrev pub begins_option : Text → Bool
begins_option [] = false
begins_option (c ∷ cs) = c == 45

abbrev pub is_json : Text → Bool
is_json word = bytes_eq word (codes "--json")

abbrev pub ends_options : Text → Bool
ends_options word = bytes_eq word (codes "--")

-- the faults of a file of any name, or of standard input
abbrev pub any_file : Bool → List Text → Option ViewCall
any_file json [] = Some (Of None (Faults json))
any_file json (name ∷ []) = Some (Of (Some name) (Faults json))
any_file json (name ∷ other ∷ words) = None

-- after all options
abbrev pub file_line : Bool → List Text → Option ViewCall
file_line json [] = any_file json []
file_line json (word ∷ words) =
    if ends_options word then any_file json words
    else if begins_option word then None
    else any_file json (word ∷ words)

-- FILE and `--json` after it
abbrev pub json_behind : List Text → Bool
json_behind (name ∷ flag ∷ []) = not (ends_options name) && is_json flag
json_behind _ = false

abbrev pub faults_line : List Text → Option ViewCall
faults_line [] = file_line false []
faults_line (word ∷ words) =
    if is_json word then file_line true words
    else if json_behind (word ∷ words) then file_line true (word ∷ [])
    else file_line false (word ∷ words)
