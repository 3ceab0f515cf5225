-- A journal of a whole run has no refused entry.
use Rattle.race_report.proofs.Common.{◌≡◌, ◌+◌, ℕ, List, Option, Some, None, refl, length, ProgramText, EntryValue, SettingsValue, RunEnd, RefusedAt, first_refused, end_of, or_short, refused_as_run}

by_short : (r : Option RefusedAt) (end : Option RunEnd) (at : ℕ) → or_short r end at ≡ None → r ≡ None
by_short None end at e = refl
by_short (Some r) end at e = absurd cc

pub none_refused : (p : ProgramText) (s : SettingsValue) (journal : List EntryValue) → refused_as_run p s journal ≡ None → first_refused p s journal ≡ None
none_refused p s journal e = by_short (first_refused p s journal) (end_of p s journal) (length journal + 1) e
