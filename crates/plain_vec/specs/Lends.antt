-- The final value of a list of which a `&mut` to one item is returned.
use Rattle.std.specs.Prelude.{ℕ, List, slice_set}
use Rattle.std.specs.Borrow.{Lends, Fml, RattleType, MutBor}
use Rattle.plain_vec.specs.contracts.list.Listed.{the_row}

module _ (T : RattleType) (s : MutBor (List T.Denot)) (at : ℕ) where
  -- once the borrow r ends, the item at this position is the last value written through r
  abbrev pub lends_item : MutBor T.Denot → Fml
  lends_item r = Lends (the_row T) T s r (slice_set s.now at)
