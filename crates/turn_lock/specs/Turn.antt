-- The identity of a turn.
use Rattle.atomic_table.specs.Seated.{TableId}
use Rattle.turn_lock.specs.declared.turn.Turn.{Turn}

-- different turns have different identities
abbrev pub identity : {T E P S : Type 0} → Turn T E P S → TableId
identity t = t.table.shared.table_id
