-- What the words of a call ask for.
use Rattle.std.specs.Prelude.{ℕ, Option, Some, None, List, [], codes, if◌then◌else◌}
use Rattle.log_request.specs.declared.view.LogView.{LogView}
use Rattle.log_request.specs.Request.{is_usage, log_request}

-- nothing, how the program is called, or what is shown of a log with files of these names
pub data Asked : Type 0 where
  Nothing : Asked
  Usage : Asked
  Check : LogView → List (List ℕ) → Asked

abbrev pub asked_by : Option (LogView × List (List ℕ)) → Asked
asked_by None = Nothing
asked_by (Some c) = Check c.0 c.1

abbrev pub asked_of_log : List (List ℕ) → Asked
asked_of_log words = if is_usage words then Usage else asked_by (log_request words)

-- the files that are read
abbrev pub files_for : Asked → List (List ℕ)
files_for Nothing = []
files_for Usage = []
files_for (Check view names) = names

-- WHAT IS WRITTEN OF THEM

abbrev pub usage : List ℕ
usage = codes "usage: hhlog check FILE.. [--all] [--json] [--heaps] [--blocks N ..]\n"

abbrev pub words_line : List ℕ
words_line = codes "end: words refused\n"
