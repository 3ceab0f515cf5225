-- Changes put together: what follows from them of an object, and of the outputs.
use Rattle.std.specs.Prelude.{ℕ, ℤ, ◌-◌, Bool, false, Option, Some, None, List, [], ◌∷◌, ◌++◌, length, slice_set, option_map, if◌then◌else◌}
use Rattle.delta_laws.specs.Common.{Name, Object, MachineState, object_at, is_name, Value, Reference, Number, Change, New, Set, Froze, Print, NewObject, Delta}

-- what is seen of an object: whether it is mutable, and what its fields hold
pub record Body : Type 0 where
  pub mutable : Bool
  pub refs : List (Option Name)
  pub ints : List ℤ

-- what is seen of a run by one who looks at one name: its object, if there is one, and the outputs
pub record Seen : Type 0 where
  pub object : Option Body
  pub outputs : List ℤ

abbrev pub body_of : Object → Body
body_of o = record { mutable = o.mutable; refs = o.refs; ints = o.ints }

abbrev pub seen : MachineState → Name → Seen
seen m n = record { object = option_map body_of (object_at m.store n); outputs = m.outputs }

abbrev pub nothing_seen : Seen
nothing_seen = record { object = None; outputs = [] }

abbrev pub newborn : NewObject → Body
newborn b = record { mutable = b.mutable; refs = b.refs; ints = b.ints }

-- another value in a field; the references come first
abbrev pub with_field : ℕ → Value → Body → Body
with_field at (Reference r) b = record b { refs = slice_set b.refs at r }
with_field at (Number k) b = record b { ints = slice_set b.ints (at - length b.refs) k }

abbrev pub frozen : Body → Body
frozen b = record b { mutable = false }

-- what a change makes of that: it tells of the name's object, or of another one's, or it prints
abbrev pub put : Name → Seen → Change → Seen
put n s (New b) = record s { object = if is_name b.name n then Some (newborn b) else s.object }
put n s (Set w) = record s { object = if is_name w.name n then option_map (with_field w.field w.value) s.object else s.object }
put n s (Froze f) = record s { object = if is_name f n then option_map frozen s.object else s.object }
put n s (Print k) = record s { outputs = s.outputs ++ k ∷ [] }

abbrev pub put_all : Name → Seen → List Change → Seen
put_all n s [] = s
put_all n s (c ∷ cs) = put_all n (put n s c) cs

-- deltas one after the other
abbrev pub put_deltas : Name → Seen → List Delta → Seen
put_deltas n s [] = s
put_deltas n s (d ∷ ds) = put_deltas n (put_all n s d.changes.all) ds
