-- What a command line asks for: the command and the values that the parser's definition of a simple command yields. It
-- accepts and refuses what that definition does: `+5` and `007` are numbers, `-5` isn't; any word accepted as a text
-- names a file, also the empty one; repeated options and flags, values of flags, abbreviations, options before the
-- command, and all calls for help or the version are refused.
use Rattle.std.specs.Prelude.{◌≤◌, ℕ, Bool, false, List, Option, Some, None, ⊤, codes, option_and_then, if◌then◌else◌}
use Rattle.std.specs.Option.{option_map_or}
use Rattle.std.specs.Str.{bytes_eq}
use Rattle.std.specs.Str.Parse.{digits_value, without_leading_plus}
use Rattle.command_line.specs.Common.{Row, Text, fault_of, first_of, one_of, subcommand_of, is_empty, size_limit, SettingsValue, Two}
use Rattle.command_line.specs.App.{app}
use Rattle.command_line.specs.declared.line.CommandLine.{CommandLine}
use Rattle.command_line.specs.declared.line.CommandLine.TheVariants.{Check, Run, Replay, Model, Races, Image, Make, Verify}
use Rattle.command_line.specs.declared.line.Options.{Options}

-- the file, if one is named
abbrev pub file_in : List Row → Option Text
file_in = first_of (codes "FILE")

-- the number that an argument gives
abbrev pub number_in : Text → List Row → ℕ
number_in id rows = option_map_or (λ t. digits_value 10 (without_leading_plus t)) (one_of id rows) 0

-- the flag is set
abbrev pub flag_in : Text → List Row → Bool
flag_in id rows = option_map_or (λ t. bytes_eq t (codes "true")) (one_of id rows) false

abbrev pub settings_in : List Row → SettingsValue
settings_in rows = record {
  version = Two;
  workers = number_in (codes "workers") rows;
  fuel = number_in (codes "fuel") rows;
  chunks = number_in (codes "chunks") rows;
  leaf = number_in (codes "leaf") rows;
  inner = number_in (codes "inner") rows;
}

abbrev pub options_in : List Row → Options
options_in rows = record {
  settings = settings_in rows;
  report = flag_in (codes "report") rows;
  trace = flag_in (codes "trace") rows;
}

-- what a command asks for, by its name and its matches
abbrev pub asked_command : Text → List Row → Option CommandLine
asked_command name rows =
    if bytes_eq name (codes "check") then Some (Check (file_in rows))
    else (if bytes_eq name (codes "run") then Some (Run (file_in rows) (options_in rows))
    else (if bytes_eq name (codes "replay") then Some (Replay (file_in rows) (options_in rows))
    else (if bytes_eq name (codes "model") then Some (Model (file_in rows) (options_in rows))
    else (if bytes_eq name (codes "races") then Some (Races (file_in rows) (settings_in rows))
    else (if bytes_eq name (codes "image") then Some (Image (file_in rows) (settings_in rows))
    else (if bytes_eq name (codes "make")
    then Some (Make (number_in (codes "SEED") rows) (number_in (codes "SIZE") rows) (flag_in (codes "run") rows))
    else (if bytes_eq name (codes "verify") then Some (Verify (file_in rows))
    else None)))))))

-- what the words after the program's name ask for; None if they are no command line
abbrev pub command_line : List Text → Option CommandLine
command_line words =
    if is_empty (fault_of app words) then option_and_then (λ p. asked_command p.0 p.1) (subcommand_of app words)
    else None

-- the size of a program to be made is in its range
abbrev pub HasSize : Option CommandLine → Type 0
HasSize (Some (Make seed size run)) = (1 ≤ size) × (size ≤ size_limit)
HasSize _ = ⊤
