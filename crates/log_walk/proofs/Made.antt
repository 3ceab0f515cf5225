-- The tables of a run, as they are made.
use Rattle.log_walk.proofs.Common.{◌≡◌, ℕ, zero, suc, ◌<◌, List, length, slice_get, Some, ap, sym, subst, ◌∙◌, arith, slice_get_within, IsWalk, GraphTurn, GraphStrand, tasks_in, first_of, IsParent, IsNested, SpawnsBelow, serial_order, IsSerialOrder, IsRooted, along, attached_rooted, rooted_attached, serial_order_extends, levels_are_few, Mark, First, AreMarkedOnce, AreMarkPlaces, AreFirsts}
use Rattle.log_walk.proofs.Marks.{same_mark, first_mark}

module _ (rows : List (List GraphTurn)) (order : List GraphStrand) (some : 0 < length rows) (nested : IsNested (tasks_in rows)) (below : SpawnsBelow (tasks_in rows) (length rows))
    (is : order ≡ serial_order (tasks_in rows) (length rows)) where
  serial : IsSerialOrder (tasks_in rows) order
  serial = subst (IsSerialOrder (tasks_in rows)) (sym is)
      (serial_order_extends (tasks_in rows) (length rows) nested (levels_are_few (tasks_in rows) (length rows) nested.fork_join some below))

  rooted_at : (i : ℕ) (u : GraphStrand) → slice_get order i ≡ Some u → IsRooted (tasks_in rows) u
  rooted_at i u h = attached_rooted (tasks_in rows) nested.fork_join u (serial.attached i u h)

  pub marked_once : (mark : Mark) → AreMarkedOnce (tasks_in rows) order mark
  marked_once mark i j t u v hu hv mu mv =
      let same : u ≡ v = same_mark (tasks_in rows) nested.fork_join mark u v t (rooted_at i u hu).stands (rooted_at j v hv).stands mu mv in
      serial.once i j v (hu ∙ ap Some same) hv

  there_by : (k t : ℕ) → IsWalk (λ x. x ≡ 0) (IsParent (tasks_in rows)) k t → t < length rows
  there_by zero t e = subst (λ x. x < length rows) (sym e) some
  there_by (suc k) t up = below up.0 up.2.0 t up.2.1

  pub are_firsts : (firsts : List ℕ) → AreMarkPlaces (tasks_in rows) (length rows) order First (length order) firsts → AreFirsts order firsts
  are_firsts firsts f i u h =
      let r = rooted_at i u h in
      let t = u.task in
      let first = serial.all (first_of t) (rooted_attached (tasks_in rows) (first_of t) (record { stands = omega arith; rooted = r.rooted })) in
      let lt = slice_get_within order first.0 (first_of t) first.1 in
      let noted = f.at first.0 t (first_of t) lt first.1 (first_mark (tasks_in rows) t) (there_by r.rooted.0 t r.rooted.1) in
      (first.0, noted, serial.extends first.0 i (first_of t) u first.1 h (along (tasks_in rows) t 0 u.index (omega arith) r.stands))
