-- The final value of a box of which a `&mut` is returned.
use Rattle.std.specs.Borrow.{Lends, Fml, RattleType, MutBor}
use Rattle.boxed.specs.contracts.boxed_slot.BoxedSlot.{the_row}

module _ (T : RattleType) (s : MutBor T.Denot) where
  -- once the borrow r ends, the value is the last one written through r
  abbrev pub lends_whole : MutBor T.Denot → Fml
  lends_whole r = Lends (the_row T) T s r (λ x. x)
