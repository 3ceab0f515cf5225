-- What the words of a call ask for.
use Rattle.std.specs.Prelude.{ℕ, ◌==◌, ◌&&◌, Bool, true, false, not, Option, Some, None, List, [], ◌∷◌, codes, drop, length, take, if◌then◌else◌}
use Rattle.std.specs.List.{position_or_len}
use Rattle.std.specs.Str.{bytes_eq}
use Rattle.log_request.specs.declared.view.LogView.{LogView}
use Rattle.log_request.specs.declared.options.Options.{Options}
use Rattle.log_request.specs.Options.{no_options, leading, is_due}

-- a name isn't empty, and doesn't begin with a hyphen
abbrev pub is_other : List ℕ → Bool
is_other [] = true
is_other (c ∷ cs) = c == 45

abbrev pub names_end : List (List ℕ) → ℕ
names_end words = position_or_len is_other words

-- some names, followed by n words that belong to no option
abbrev pub with_left : List (List ℕ) → ℕ → Options → Option (LogView × List (List ℕ))
with_left names n o = if not (length names == 0) && (n == 0) && not (is_due o.numbers) then Some (o.view, names) else None

abbrev pub with_names : List (List ℕ) → Options × List (List ℕ) → Option (LogView × List (List ℕ))
with_names names behind = with_left names (length behind.1) behind.0

-- the words from the first name on, behind some options
abbrev pub from_names : Options → List (List ℕ) → Option (LogView × List (List ℕ))
from_names o words = with_names (take (names_end words) words) (leading o (drop (names_end words) words))

-- options may stand before the names of a log's files, and behind them
abbrev pub request_from : Options × List (List ℕ) → Option (LogView × List (List ℕ))
request_from before = from_names before.0 before.1

abbrev pub request_of : List (List ℕ) → Option (LogView × List (List ℕ))
request_of words = request_from (leading no_options words)

abbrev pub log_request : List (List ℕ) → Option (LogView × List (List ℕ))
log_request [] = None
log_request (verb ∷ rest) = if bytes_eq verb (codes "check") then request_of rest else None

-- `--help` alone
abbrev pub is_usage : List (List ℕ) → Bool
is_usage [] = false
is_usage (word ∷ []) = bytes_eq word (codes "--help")
is_usage (word ∷ other ∷ words) = false
