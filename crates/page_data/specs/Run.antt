-- The data of a run behind the program's lines: the settings, where the run starts, its entries and its end.
use Rattle.std.specs.Prelude.{ℕ, List, [], ◌∷◌, ◌++◌, codes}
use Rattle.std.specs.Fmt.{decimal}
use Rattle.hh_lang.specs.Form.{ProgramText}
use Rattle.hh_model.specs.declared.data.End.{End}
use Rattle.hh_model.specs.declared.data.End.TheVariants.{Done, Trapped, Entangled}
use Rattle.hh_model.specs.Step.{start}
use Rattle.run_trace.specs.Entry.{EntryValue}
use Rattle.run_trace.specs.Settings.{SettingsValue, field_limit, version_number}
use Rattle.run_ledger.specs.declared.data.Ledger.{Ledger}
use Rattle.run_ledger.specs.declared.data.RunEnd.{RunEnd}
use Rattle.run_ledger.specs.declared.data.RunEnd.TheVariants.{Machine, Fuel, Pool}
use Rattle.run_ledger.specs.Entries.{after}
use Rattle.run_ledger.specs.Text.{trap_word}
use Rattle.run_deltas.specs.Tasks.{now_free}
use Rattle.run_deltas.specs.Deltas.{delta}
use Rattle.run_deltas.specs.News.{news}
use Rattle.page_data.specs.Values.{more, member}
use Rattle.page_data.specs.Deltas.{word, more_number, task_now, opening}
use Rattle.page_data.specs.Heaps.{closing}

-- some bytes with a number behind them
unfoldable pub word_with_number : List ℕ → ℕ → List ℕ
word_with_number bytes n = bytes ++ decimal n

unfoldable pub limits_text : SettingsValue → List ℕ
limits_text s = word_with_number (codes "{\"workers\":") s.workers ++ word_with_number (codes ",\"fuel\":") s.fuel ++ word_with_number (codes ",\"chunks\":") s.chunks

unfoldable pub settings_text : SettingsValue → List ℕ
settings_text s =
    limits_text s ++ word_with_number (codes ",\"leaf\":") s.leaf ++ word_with_number (codes ",\"inner\":") s.inner
    ++ word_with_number (codes ",\"version\":") (version_number s.version) ++ 125 ∷ []

-- where the run starts: an entry of no worker
unfoldable pub start_text : ProgramText → ℕ → List ℕ
start_text p limit = codes "{\"e\":[]" ++ member (codes ",\"task\":[") task_now (now_free p (start p limit) 0) ++ 125 ∷ []

-- what stands between the program's lines and the entries
unfoldable pub settings_and_start : ProgramText → SettingsValue → List ℕ
settings_and_start p s = codes "],\n\"settings\":" ++ settings_text s ++ codes ",\n\"entries\":[\n" ++ start_text p (field_limit s.version)

-- an entry, with the accounts before it and behind it
abbrev pub entry : ProgramText → Ledger → EntryValue → Ledger → List ℕ
entry p l e after = opening p e (delta p l.machine e.kind) ++ closing (news e.kind after)

-- the entries from one on in front of which the accounts are these
abbrev pub entries_from : ProgramText → SettingsValue → Ledger → List EntryValue → List ℕ
entries_from p s l [] = []
entries_from p s l (e ∷ es) = entry p l e (after p s l e) ++ entries_from p s (after p s l e) es

abbrev pub machine_end : End → List ℕ
machine_end Done = word (codes "done")
machine_end (Trapped kind t line) = word (codes "trap") ++ more (word (trap_word kind)) ++ more_number t ++ more_number line
machine_end (Entangled reader owner) = word (codes "entangled") ++ more_number reader ++ more_number owner

-- how the run ended
abbrev pub end_text : RunEnd → List ℕ
end_text (Machine e) = machine_end e
end_text (Fuel steps) = word (codes "fuel") ++ more_number steps
end_text (Pool chunks) = word (codes "pool") ++ more_number chunks

abbrev pub end_data : RunEnd → List ℕ
end_data e = codes "],\n\"end\":[" ++ end_text e ++ codes "]}"
