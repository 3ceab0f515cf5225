-- The options of a call: `--all`, `--json`, `--heaps`, and `--blocks` with one or more numbers of blocks.
use Rattle.std.specs.Prelude.{ℕ, ◌==◌, Bool, true, false, Option, Some, None, List, [], ◌∷◌, ◌++◌, codes, length, if◌then◌else◌}
use Rattle.std.specs.Str.{bytes_eq}
use Rattle.log_lines.specs.Words.{numeral_value}
use Rattle.log_report.specs.declared.report.Detail.{Detail}
use Rattle.log_report.specs.declared.report.Detail.TheVariants.{Merged, Locations}
use Rattle.log_request.specs.declared.view.ReportForm.{ReportForm}
use Rattle.log_request.specs.declared.view.ReportForm.TheVariants.{Lines, Json}
use Rattle.log_request.specs.declared.view.LogView.{LogView}
use Rattle.log_request.specs.declared.options.NextNumber.{NextNumber}
use Rattle.log_request.specs.declared.options.NextNumber.TheVariants.{Unexpected, Due, Possible}
use Rattle.log_request.specs.declared.options.Options.{Options}

-- without options all findings are shown, as lines that are merged, without heaps
abbrev pub no_options : Options
no_options = record { view = record { detail = Merged; form = Lines; heaps = false; blocks = [] }; numbers = Unexpected }

-- each option is given once
abbrev pub with_all : Detail → Options → Option Options
with_all Merged o = Some (record { view = record o.view { detail = Locations }; numbers = Unexpected })
with_all Locations o = None

abbrev pub with_json : ReportForm → Options → Option Options
with_json Lines o = Some (record { view = record o.view { form = Json }; numbers = Unexpected })
with_json Json o = None

abbrev pub with_heaps : Bool → Options → Option Options
with_heaps false o = Some (record { view = record o.view { heaps = true }; numbers = Unexpected })
with_heaps true o = None

abbrev pub with_blocks : Options → Option Options
with_blocks o = if length o.view.blocks == 0 then Some (record o { numbers = Due }) else None

abbrev pub flag_at : Options → List ℕ → Option Options
flag_at o w =
    if bytes_eq w (codes "--all") then with_all o.view.detail o
    else if bytes_eq w (codes "--json") then with_json o.view.form o
    else if bytes_eq w (codes "--heaps") then with_heaps o.view.heaps o
    else if bytes_eq w (codes "--blocks") then with_blocks o
    else None

abbrev pub with_number : Options → Option ℕ → Option Options
with_number o None = None
with_number o (Some n) = Some (record { view = record o.view { blocks = o.view.blocks ++ n ∷ [] }; numbers = Possible })

-- a block's number is written as in a log
abbrev pub number_at : Options → List ℕ → Option Options
number_at o w = with_number o (numeral_value w)

abbrev pub first_of : Option Options → Option Options → Option Options
first_of None other = other
first_of (Some o) other = Some o

abbrev pub option_by : NextNumber → Options → List ℕ → Option Options
option_by Unexpected o w = flag_at o w
option_by Due o w = number_at o w
option_by Possible o w = first_of (number_at o w) (flag_at o w)

-- the options with one word more, if it belongs to them
abbrev pub option_at : Options → List ℕ → Option Options
option_at o w = option_by o.numbers o w

-- the options with which words begin, and the words behind them
abbrev pub leading : Options → List (List ℕ) → Options × List (List ℕ)
leading o [] = (o, [])
leading o (w ∷ ws) = elim (option_at o w) [ None ↦ (o, w ∷ ws) | Some p ↦ leading p ws ]

-- the number of a block is missing
abbrev pub is_due : NextNumber → Bool
is_due Unexpected = false
is_due Due = true
is_due Possible = false
