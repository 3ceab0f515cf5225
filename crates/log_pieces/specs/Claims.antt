-- What sets of names know of what has happened.
use Rattle.std.specs.Prelude.{◌≡◌, ℕ, ◌==◌, ◌&&◌, ◌<◌, Bool, Option, List, nat_eq, IfSome}
use Rattle.std.specs.List.{list_any}
use Rattle.std.specs.HashSet.{contains}
use Rattle.log_pieces.specs.Common.{strand_limit, GraphStrand, strand, Event, has_ended, spawns, is_born, is_released}
use Rattle.log_pieces.specs.declared.claims.Claims.{Claims}

abbrev pub is_pair : ℕ × ℕ → ℕ × ℕ → Bool
is_pair p q = (p.0 == q.0) && (p.1 == q.1)

-- the strand has this number of this task
abbrev pub is_that : GraphStrand → ℕ → ℕ → Bool
is_that u t i = (u.task == t) && (u.index == i)

-- the sets have the names of what has happened
pub record ClaimsHold (claims : Claims) (events : List Event) : Type 0 where
  pub ended : (t i : ℕ) → contains is_pair claims.ended (t, i) ≡ has_ended events (strand t i)
  pub spawned : (c : ℕ) → contains nat_eq claims.spawned c ≡ list_any (λ e. spawns c e.act) events
  pub born : (b : ℕ) → contains nat_eq claims.born b ≡ is_born events b
  pub released : (b : ℕ) → contains nat_eq claims.released b ≡ is_released events b

-- the strand, if there is one, has a number within the limit
abbrev pub StrandIsWithin : Option GraphStrand → Type 0
StrandIsWithin strand = IfSome strand (λ u. u.index < strand_limit)
