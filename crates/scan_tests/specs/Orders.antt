-- Orders of strands, for tests.
use Rattle.std.specs.Prelude.{◌==◌, ◌||◌, ◌^◌, true, nat_le}
use Rattle.race_cells.specs.Order.{StrandOrder}
use Rattle.scan_tests.specs.declared.order.Order.{Order}
use Rattle.scan_tests.specs.declared.order.Order.TheVariants.{Series, Parallel, Joined}

abbrev pub order_of : Order → StrandOrder
order_of Series = record { strands = 2 ^ 32; before = λ u v. nat_le u v; meeting = λ u v. 0; leaves_first = λ u v. true }
order_of Parallel = record { strands = 2 ^ 32; before = λ u v. u == v; meeting = λ u v. 0; leaves_first = λ u v. true }
order_of (Joined last) = record { strands = 2 ^ 32; before = λ u v. (u == v) || (v == last); meeting = λ u v. 0; leaves_first = λ u v. true }
