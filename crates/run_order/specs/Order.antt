-- The order of a walked run's strands by their serial numbers, computed along their ways up to the root.
use Rattle.std.specs.Prelude.{◌==◌, ◌-◌, ◌&&◌, ℕ, zero, suc, Bool, false, Option, Some, None, List, [], ◌∷◌, length, position, find, nat_lt, nat_le, if◌then◌else◌}
use Rattle.std.specs.List.{list_any}
use Rattle.plain_vec.specs.Options.{option_is}
use Rattle.fork_graph.specs.Graph.{tasks_in}
use Rattle.race_cells.specs.Order.{StrandOrder}
use Rattle.log_walk.specs.Places.{joined_before}
use Rattle.log_walk.specs.Tables.{task_at}
use Rattle.log_walk.specs.Value.{WalkValue}

-- the place of the strand that follows the task's join; the root has none
abbrev pub after_join : WalkValue → ℕ → Option ℕ
after_join walk t = position (λ u. option_is (joined_before (tasks_in walk.tasks) u) t) walk.order

abbrev pub if_there : (ℕ → List ℕ) → Option ℕ → List ℕ
if_there further None = []
if_there further (Some i) = further i

-- a place and those that follow it by so many steps at most
abbrev pub steps_from : (ℕ → Option ℕ) → ℕ → ℕ → List ℕ
steps_from next zero i = []
steps_from next (suc most) i = i ∷ if_there (steps_from next most) (next i)

-- where the way of the strand at a place passes: there, where its task's parent goes on after the join, and so on
abbrev pub way_up : WalkValue → ℕ → List ℕ
way_up walk i = steps_from (λ e. after_join walk (task_at walk.order e)) (length walk.tasks) i

-- the task is that of the strand at a place, or an ancestor of it
abbrev pub is_above_strand : WalkValue → ℕ → ℕ → Bool
is_above_strand walk t i = list_any (λ e. task_at walk.order e == t) (way_up walk i)

-- where the way from the first place comes into the lowest task that is above the second one's
abbrev pub exit_of : WalkValue → ℕ → ℕ → Option ℕ
exit_of walk i j =
    if nat_lt i (length walk.order) && nat_lt j (length walk.order)
    then find (λ e. is_above_strand walk (task_at walk.order e) j) (way_up walk i) else None

abbrev pub is_upto : Option ℕ → ℕ → Bool
is_upto None j = false
is_upto (Some e) j = nat_le e j

abbrev pub order_depth : WalkValue → Option ℕ → ℕ
order_depth walk None = 0
order_depth walk (Some e) = length (way_up walk e) - 1

abbrev pub is_no_later : Option ℕ → Option ℕ → Bool
is_no_later None f = false
is_no_later (Some e) None = false
is_no_later (Some e) (Some f) = nat_le e f

unfoldable pub run_order : WalkValue → StrandOrder
run_order walk = record {
  strands = length walk.order;
  before = λ i j. is_upto (exit_of walk i j) j;
  meeting = λ i j. order_depth walk (exit_of walk i j);
  leaves_first = λ i j. is_no_later (exit_of walk i j) (exit_of walk j i);
}
