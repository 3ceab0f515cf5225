-- The totals of a journal, added up entry by entry.
use Rattle.std.specs.Prelude.{ℕ, ◌+◌, ◌-◌, ◌<◌, ◌^◌, List, length, max}
use Rattle.run_trace.specs.declared.entry.Kind.{Kind}
use Rattle.run_trace.specs.declared.entry.Kind.TheVariants.{End, PutOff, Sweep}
use Rattle.run_trace.specs.Entry.{EntryValue}
use Rattle.run_trace.specs.Settings.{SettingsValue}
use Rattle.hh_lang.specs.Form.{ProgramText}
use Rattle.run_ledger.specs.declared.data.Ledger.{Ledger}
use Rattle.run_ledger.specs.declared.data.Report.{Report}
use Rattle.run_ledger.specs.Heaps.{heap_of, words_in, words_sum, in_use}
use Rattle.run_ledger.specs.Entries.{after}
use Rattle.run_ledger.specs.Report.{tally, count_end, count_putoff, count_sweep, freed_by_end, freed_by_sweep, peak_from, held_not_running}
use Rattle.run_report.specs.declared.totals.Totals.{Totals}

-- the totals of no entry
abbrev pub no_totals : Totals
no_totals = record { leaf = 0; putoff = 0; leaf_freed = 0; inner = 0; inner_freed = 0; peak = 0 }

-- the totals of two parts of a journal together
abbrev pub totals_joined : Totals → Totals → Totals
totals_joined a b = record {
  leaf = a.leaf + b.leaf;
  putoff = a.putoff + b.putoff;
  leaf_freed = a.leaf_freed + b.leaf_freed;
  inner = a.inner + b.inner;
  inner_freed = a.inner_freed + b.inner_freed;
  peak = max a.peak b.peak;
}

-- each sum fits its type
pub record SumsFit (totals : Totals) : Type 0 where
  pub leaf : totals.leaf < 2 ^ 64
  pub putoff : totals.putoff < 2 ^ 64
  pub leaf_freed : totals.leaf_freed < 2 ^ 64
  pub inner : totals.inner < 2 ^ 64
  pub inner_freed : totals.inner_freed < 2 ^ 64

-- what an entry counts that made the heap lose this many words, with this many chunks in use after it
abbrev pub counted : Kind → ℕ → ℕ → Totals
counted (End t taken given left) lost used = record no_totals { leaf = 1; leaf_freed = lost; peak = used }
counted (PutOff t) lost used = record no_totals { putoff = 1; peak = used }
counted (Sweep t given) lost used = record no_totals { inner = 1; inner_freed = lost; peak = used }
counted _ lost used = record no_totals { peak = used }

-- the words of the heap that an entry collects or sweeps, and 0 for another entry
abbrev pub cleared_words : Ledger → Kind → ℕ
cleared_words l (End t taken given left) = words_in l.machine (heap_of l t)
cleared_words l (Sweep t given) = words_in l.machine (heap_of l t)
cleared_words l _ = 0

-- the totals of one entry
abbrev pub entry_totals : ProgramText → SettingsValue → Ledger → EntryValue → Totals
entry_totals p s l e = counted e.kind (cleared_words l e.kind - cleared_words (after p s l e) e.kind) (in_use (after p s l e))

-- the totals of a journal, as the report sums them up
abbrev pub totals_from : ProgramText → SettingsValue → Ledger → List EntryValue → Totals
totals_from p s l journal = record {
  leaf = tally p s count_end l journal;
  putoff = tally p s count_putoff l journal;
  leaf_freed = tally p s freed_by_end l journal;
  inner = tally p s count_sweep l journal;
  inner_freed = tally p s freed_by_sweep l journal;
  peak = peak_from p s l journal;
}

-- the report, by the accounts at the end, the number of entries and their totals
abbrev pub report_from : Ledger → ℕ → Totals → Report
report_from l turns totals = record {
  tasks = length l.machine.tasks;
  steps = l.steps;
  turns = turns;
  leaf = totals.leaf;
  putoff = totals.putoff;
  leaf_freed = totals.leaf_freed;
  inner = totals.inner;
  inner_freed = totals.inner_freed;
  chunks = in_use l;
  peak = totals.peak;
  held = length (held_not_running l);
  words = words_sum l.machine (held_not_running l);
}
