-- What is told of what was found in a log.
use Rattle.std.specs.Prelude.{ℕ, Option, Some, None, List, [], ◌∷◌, ◌++◌, map}
use Rattle.std.specs.List.{flat_map}
use Rattle.log_lines.specs.declared.line.AccessKind.{AccessKind}
use Rattle.log_lines.specs.declared.line.AccessKind.TheVariants as accesses
use Rattle.log_lines.specs.declared.line.Act.{Act}
use Rattle.log_lines.specs.declared.line.Act.TheVariants as acts
use Rattle.act_lines.specs.declared.line.ActLine.{ActLine}
use Rattle.act_lines.specs.ActLines.{act_line, site_of}
use Rattle.race_scan.specs.declared.cells.FoundRace.{FoundRace}
use Rattle.log_births.specs.declared.findings.Finding.{Finding}
use Rattle.log_births.specs.declared.findings.Findings.{Findings}
use Rattle.log_report.specs.declared.told.LineKind.{LineKind}
use Rattle.log_report.specs.declared.told.LineKind.TheVariants as kinds
use Rattle.log_report.specs.declared.told.Told.{Told}
use Rattle.log_report.specs.declared.told.ToldRace.{ToldRace}
use Rattle.log_report.specs.declared.told.ToldUse.{ToldUse}
use Rattle.log_told.specs.declared.telling.ToldFindings.{ToldFindings}

-- A LINE

abbrev pub kind_of_access : AccessKind → LineKind
kind_of_access accesses.Read = kinds.Read
kind_of_access accesses.Write = kinds.Write
kind_of_access accesses.AtomicRead = kinds.AtomicRead
kind_of_access accesses.AtomicWrite = kinds.AtomicWrite

-- what an act does to locations; one that does nothing to them isn't told
abbrev pub told_kind : Act → LineKind
told_kind (acts.Access a) = kind_of_access a.kind
told_kind (acts.Store r) = kinds.Write
told_kind (acts.Release b) = kinds.Release
told_kind _ = kinds.Read

-- each act has a line, so that the second case doesn't come
abbrev pub told_line : Option ActLine → Told
told_line (Some l) = record { kind = told_kind l.act; site = site_of l.act; at = l.at }
told_line None = record { kind = kinds.Read; site = None; at = record { file = 0; line = 0 } }

-- the line of an act, by its number in the log
abbrev pub told_at : List (List ℕ) → ℕ → Told
told_at texts n = told_line (act_line texts n)

-- WHAT WAS FOUND

abbrev pub told_race : List (List ℕ) → FoundRace → ToldRace
told_race texts f = record { block = f.block; start = f.slot.start; end = f.slot.end; first = told_at texts f.race.first.line; second = told_at texts f.race.second.line }

abbrev pub told_use : List (List ℕ) → Finding → ToldUse
told_use texts f = record { block = f.block; line = told_at texts f.line; other = (told_at texts f.other).at }

abbrev pub told_findings : List (List ℕ) → List FoundRace → Findings → ToldFindings
told_findings texts races findings = record {
  races = map (told_race texts) races;
  entangled_reads = map (told_use texts) findings.reads;
  entangled_uses = map (told_use texts) findings.uses;
  stale_uses = map (told_use texts) findings.stale;
}

-- THE LINES

abbrev pub lines_of_race : FoundRace → List ℕ
lines_of_race f = f.race.first.line ∷ (f.race.second.line ∷ [])

abbrev pub lines_of_finding : Finding → List ℕ
lines_of_finding f = f.line ∷ (f.other ∷ [])

-- the lines of all that was found
abbrev pub all_lines : List FoundRace → Findings → List ℕ
all_lines races findings = flat_map lines_of_race races ++ flat_map lines_of_finding findings.reads ++ flat_map lines_of_finding findings.uses ++ flat_map lines_of_finding findings.stale
