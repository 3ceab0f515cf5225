-- The findings of some blocks.
use Rattle.std.specs.Prelude.{ℕ, ◌==◌, ◌||◌, Bool, List, filter, length}
use Rattle.std.specs.List.{list_any}
use Rattle.log_report.specs.declared.told.ToldRace.{ToldRace}
use Rattle.log_report.specs.declared.told.ToldUse.{ToldUse}
use Rattle.log_report.specs.declared.told.LogReport.{LogReport}

-- findings of a block are shown if it is one of these, or if there are none
abbrev pub is_shown : List ℕ → ℕ → Bool
is_shown blocks block = (length blocks == 0) || list_any (λ shown. shown == block) blocks

abbrev pub races_of : List ℕ → List ToldRace → List ToldRace
races_of blocks races = filter (λ (race : ToldRace). is_shown blocks race.block) races

abbrev pub uses_of : List ℕ → List ToldUse → List ToldUse
uses_of blocks uses = filter (λ (told : ToldUse). is_shown blocks told.block) uses

-- work, span, heaps and the strands left out are those of the whole log
abbrev pub of_blocks : List ℕ → LogReport → LogReport
of_blocks blocks r = record {
  races = races_of blocks r.races;
  entangled_reads = uses_of blocks r.entangled_reads;
  entangled_uses = uses_of blocks r.entangled_uses;
  stale_uses = uses_of blocks r.stale_uses;
  work = r.work;
  span = r.span;
  heaps = r.heaps;
  left_out = r.left_out;
}
