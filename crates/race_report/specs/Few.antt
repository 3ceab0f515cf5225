-- The number of fields of the objects accessed.
use Rattle.std.specs.Prelude.{◌≡◌, ◌<◌, ◌^◌, Some, List, length}
use Rattle.run_journal.specs.below.hh_model.{Name, Object, object_at}

-- few enough for a 32-bit index
abbrev pub FieldsAreIndexable : List (List Object) → Type 0
FieldsAreIndexable store = (n : Name) (o : Object) → object_at store n ≡ Some o → (length o.refs < 2 ^ 32) × (length o.ints < 2 ^ 32)
