-- Accesses that clash: two of one field, of which one is a write. Those by compare and swap count like all others.
use Rattle.std.specs.Prelude.{◌≡◌, ◌⊎◌, true}
use Rattle.race_report.specs.declared.data.FieldAccess.{FieldAccess}

pub record Clash (u v : FieldAccess) : Type 0 where
  pub field : u.field ≡ v.field
  pub writes : (u.writes ≡ true) ⊎ (v.writes ≡ true)
