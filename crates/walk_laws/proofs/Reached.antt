-- Laws of reachability by walks, for any sets and edges.
use Rattle.std.specs.Prelude.{ℕ, zero, suc}
use Rattle.walk_laws.specs.Reached.{IsWalk, IsReached}
use Rattle.walk_laws.specs.Laws.{ReachedIsLeast, Passes, Links}

module _ {A : Type 0} (starts : A → Type 0) (leads : A → A → Type 0) where
  pub reached_start : (a : A) → starts a → IsReached starts leads a
  reached_start a s = (zero, s)

  pub reached_more : (m a : A) → IsReached starts leads m → leads m a → IsReached starts leads a
  reached_more m a w e = (suc w.0, (m, w.1, e))

  -- every closed set that contains the starts contains what is reached
  pub reached_within : (P : A → Type 0) → ((a : A) → starts a → P a) → ((m a : A) → P m → leads m a → P a)
      → (a : A) → IsReached starts leads a → P a
  reached_within P first more a w = along w.0 a w.1
    where
      along : (k : ℕ) (b : A) → IsWalk starts leads k b → P b
      along zero b s = first b s
      along (suc k) b s = more s.0 b (along k s.0 s.1) s.2

pub reached_is_least : (A : Type 0) → ReachedIsLeast A
reached_is_least A starts leads = (
  record { start = reached_start (Passes starts) (Links leads); more = reached_more (Passes starts) (Links leads) },
  λ set closed. reached_within (Passes starts) (Links leads) (Passes set) closed.start closed.more,
)
