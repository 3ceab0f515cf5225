-- What the report speaks of.
use Rattle.std.specs.Prelude.{ℕ, ◌+◌, ◌-◌, ◌*◌, ◌^◌, Option, Some, None, List, sum_by}
use Rattle.log_report.specs.declared.told.LineKind.{LineKind}
use Rattle.log_report.specs.declared.told.LineKind.TheVariants.{Read, Write, AtomicRead, AtomicWrite, Release}
use Rattle.log_report.specs.declared.told.Told.{Told}
use Rattle.log_report.specs.declared.told.ToldRace.{ToldRace}

abbrev pub kind_number : LineKind → ℕ
kind_number Read = 0
kind_number Write = 1
kind_number AtomicRead = 2
kind_number AtomicWrite = 3
kind_number Release = 4

abbrev pub kind_with : LineKind → Option ℕ → ℕ
kind_with kind None = 2 * kind_number kind
kind_with kind (Some site) = 2 * kind_number kind + 1

-- a number for the kind of a line, and whether it has a site
abbrev pub label_kind : Told → ℕ
label_kind t = kind_with t.kind t.site

abbrev pub site_or_zero : Option ℕ → ℕ
site_or_zero None = 0
site_or_zero (Some site) = site

abbrev pub label_site : Told → ℕ
label_site t = site_or_zero t.site

-- how many locations race so
abbrev pub locations_of : ToldRace → ℕ
locations_of r = r.end - r.start

abbrev pub racing_locations : List ToldRace → ℕ
racing_locations races = sum_by locations_of races

-- the place of its first location among those of all blocks
abbrev pub first_place : ToldRace → ℕ
first_place r = r.block * 2 ^ 64 + r.start
