-- The last two lines of a report.
use Rattle.std.specs.Prelude.{ℕ, ◌+◌, ◌*◌, ◌/◌, ◌%◌, ◌==◌, Option, Some, None, List, [], ◌++◌, codes, length, if◌then◌else◌}
use Rattle.std.specs.Fmt.{decimal}
use Rattle.log_report.specs.declared.told.LogReport.{LogReport}
use Rattle.log_report.specs.Told.{racing_locations}

-- the hundredths of the quotient of work and span, rounded to the nearest, halves up; 1 where there is no work
abbrev pub hundredths : ℕ → ℕ → ℕ
hundredths work span = if span == 0 then 100 else (200 * work + span) / (2 * span)

abbrev pub hundredths_text : ℕ → List ℕ
hundredths_text n = decimal (n / 100) ++ codes "." ++ decimal (n / 10 % 10) ++ decimal (n % 10)

abbrev pub cost_line : ℕ → ℕ → List ℕ
cost_line work span = codes "work " ++ decimal work ++ codes " span " ++ decimal span ++ codes " parallelism " ++ hundredths_text (hundredths work span) ++ codes "\n"

-- how many strands were left out of a log that was cut off
abbrev pub left_text : Option ℕ → List ℕ
left_text None = []
left_text (Some n) = codes " cut " ++ decimal n

-- racing locations, and lines of entangled reads, entangled uses and stale uses
abbrev pub counts_text : ℕ → ℕ → ℕ → ℕ → List ℕ
counts_text races reads uses stale = codes "end: races " ++ decimal races ++ codes " reads " ++ decimal reads ++ codes " uses " ++ decimal uses ++ codes " stale " ++ decimal stale

abbrev pub end_line : LogReport → List ℕ
end_line r =
    counts_text (racing_locations r.races) (length r.entangled_reads) (length r.entangled_uses) (length r.stale_uses) ++ left_text r.left_out ++ codes "\n"
