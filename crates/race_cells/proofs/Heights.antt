-- Stacks are no longer than tasks are deep, and two more.
use Rattle.race_cells.proofs.Common.{◌≡◌, ℕ, ◌+◌, ◌<◌, ◌≤◌, Bool, true, false, cond, Option, Some, None, is_some, List, [], ◌∷◌, length, fold, refl, sym, subst, arith, leb-false, CellAccessKind, PlainRead, PlainWrite, AtomicRead, AtomicWrite, CellAccess, CellEntry, Stacks, entry_of, StrandOrder, ExtendsPrecedence, MeetsAsInTree, is_low, last_to_leave, lowered, lowered_stack, settled, without_earlier, after, keep, kept_by, no_stacks, race_among, stack_of, StacksAreWithin, StacksAreLow}
use Rattle.race_cells.proofs.Standing.{Falling, falling_later, falling_left, settled_falls}
use Rattle.race_cells.proofs.Exactness.{InOrderFrom, in_order}

-- what lies below e meets what lies above it higher and higher, the first less deep than so many
abbrev Rises : StrandOrder → ℕ → CellEntry → List CellEntry → Type 0
Rises o less e [] = Unit {0}
Rises o less e (below ∷ rest) = (o.meeting below.strand e.strand < less) × Rises o (o.meeting below.strand e.strand) below rest

rises_more : (o : StrandOrder) (less more : ℕ) (e : CellEntry) (es : List CellEntry) → less ≤ more → Rises o less e es → Rises o more e es
rises_more o less more e [] le r = tt
rises_more o less more e (below ∷ rest) le r = (let h : o.meeting below.strand e.strand < less = r.0 in omega arith, r.1)

rises_short : (o : StrandOrder) (less : ℕ) (e : CellEntry) (es : List CellEntry) → Rises o less e es → length es ≤ less
rises_short o less e [] r = omega arith
rises_short o less e (below ∷ rest) r =
    let h : o.meeting below.strand e.strand < less = r.0 in
    let l : length rest ≤ o.meeting below.strand e.strand = rises_short o (o.meeting below.strand e.strand) below rest r.1 in
    omega arith

-- a whole stack, from its top
abbrev RisesFrom : StrandOrder → ℕ → List CellEntry → Type 0
RisesFrom o less [] = Unit {0}
RisesFrom o less (top ∷ rest) = Rises o less top rest

-- a stack before v is pushed: its topmost pair meets higher than its top meets v
abbrev IsReadyFor : StrandOrder → ℕ → List CellEntry → Type 0
IsReadyFor o v [] = Unit {0}
IsReadyFor o v (top ∷ rest) = Rises o (o.meeting top.strand v) top rest

module _ (o : StrandOrder) (order : ExtendsPrecedence o) (tree : MeetsAsInTree o) where
  left_step : (v less : ℕ) (top : CellEntry) (rest : List CellEntry) (b : Bool) → RisesFrom o less (top ∷ rest) → (RisesFrom o less rest → RisesFrom o less (without_earlier o v rest))
      → RisesFrom o less (cond b (without_earlier o v rest) (top ∷ rest))
  left_step v less top [] true r more = more tt
  left_step v less top (below ∷ rest) true r more =
      more (let h : o.meeting below.strand top.strand < less = r.0 in rises_more o (o.meeting below.strand top.strand) less below rest (omega arith) r.1)
  left_step v less top rest false r more = r

  left_rises : (v less : ℕ) (stack : List CellEntry) → RisesFrom o less stack → RisesFrom o less (without_earlier o v stack)
  left_rises v less [] r = tt
  left_rises v less (top ∷ rest) r = left_step v less top rest (o.before top.strand v) r (left_rises v less rest)

  -- the upper of two stays: what lies below meets it where it met the lower one
  over_gap : (v less : ℕ) (below top : CellEntry) (rest : List CellEntry) → v < o.strands → Falling v (top ∷ (below ∷ rest))
      → Rises o (o.meeting below.strand top.strand) below rest → Rises o (o.meeting below.strand top.strand) top rest
  over_gap v less below top [] there f r = tt
  over_gap v less below top (next ∷ rest) there f r =
      let late : top.strand ≤ v = f.0 in
      let same : o.meeting next.strand top.strand ≡ o.meeting next.strand below.strand =
      tree.higher next.strand below.strand top.strand f.1.1.0 f.1.0 (omega arith) r.0 in
      let h : o.meeting next.strand below.strand < o.meeting below.strand top.strand = r.0 in
      (omega arith, subst (λ (m : ℕ). Rises o m next rest) (sym same) r.1)

  record Goes (v : ℕ) (stay : CellEntry) (rest : List CellEntry) : Type 0 where
    falls : Falling v (stay ∷ rest)
    less : ℕ
    rises : Rises o less stay rest

  stays_on : (v : ℕ) (below top : CellEntry) (rest : List CellEntry) (b : Bool) → v < o.strands → Falling v (top ∷ (below ∷ rest))
      → Rises o (o.meeting below.strand top.strand) below rest → Goes v (cond b top below) rest
  stays_on v below top rest true there f r =
      let late : below.strand ≤ top.strand = f.1.0 in
      record {
        falls = (f.0, falling_later below.strand top.strand rest late f.1.1);
        less = o.meeting below.strand top.strand;
        rises = over_gap v 0 below top rest there f r;
      }
  stays_on v below top rest false there f r =
      let a : top.strand ≤ v = f.0 in
      let b : below.strand ≤ top.strand = f.1.0 in
      record { falls = (omega arith, f.1.1); less = o.meeting below.strand top.strand; rises = r }

  lowered_step : (v : ℕ) (below top : CellEntry) (rest : List CellEntry) (b : Bool) → is_low o v below top ≡ b → v < o.strands → Falling v (top ∷ (below ∷ rest))
      → Rises o (o.meeting below.strand top.strand) below rest
      → ((stay : CellEntry) → Goes v stay rest → IsReadyFor o v (lowered o v stay rest))
      → IsReadyFor o v (cond b (lowered o v (last_to_leave o below top) rest) (top ∷ (below ∷ rest)))
  lowered_step v below top rest true low there f r more =
      more (last_to_leave o below top) (stays_on v below top rest (o.leaves_first below.strand top.strand) there f r)
  lowered_step v below top rest false low there f r more =
      (leb-false (o.meeting top.strand v) (o.meeting below.strand top.strand) low, r)

  lowered_ready : (v : ℕ) (rest : List CellEntry) (top : CellEntry) → v < o.strands → Goes v top rest → IsReadyFor o v (lowered o v top rest)
  lowered_ready v [] top there goes = tt
  lowered_ready v (below ∷ rest) top there goes =
      lowered_step v below top rest (is_low o v below top) refl there goes.falls goes.rises.1 (λ stay on. lowered_ready v rest stay there on)

  ready : (v less : ℕ) (stack : List CellEntry) → v < o.strands → Falling v stack → RisesFrom o less stack → IsReadyFor o v (lowered_stack o v stack)
  ready v less [] there f r = tt
  ready v less (top ∷ rest) there f r = lowered_ready v rest top there (record { falls = f; less = less; rises = r })

  module _ (depth : ℕ) (deep : (u v : ℕ) → u ≤ v → v < o.strands → o.meeting u v ≤ depth) where
    pushed : (v : CellEntry) (stack : List CellEntry) → v.strand < o.strands → Falling v.strand stack → IsReadyFor o v.strand stack → RisesFrom o (depth + 1) (v ∷ stack)
    pushed v [] there f r = tt
    pushed v (top ∷ rest) there f r = (let h : o.meeting top.strand v.strand ≤ depth = deep top.strand v.strand f.0 there in omega arith, r)

    settled_rises : (v : CellEntry) (stack : List CellEntry) → v.strand < o.strands → Falling v.strand stack → RisesFrom o (depth + 1) stack
        → RisesFrom o (depth + 1) (settled o v stack)
    settled_rises v stack there f r =
        let left = without_earlier o v.strand stack in
        pushed v (lowered_stack o v.strand left) there (settled_falls o order tree v stack f).1
        (ready v.strand (depth + 1) left there (falling_left o order tree v.strand v.strand stack f) (left_rises v.strand (depth + 1) stack r))

    -- a stack that falls and is low
    record IsLowStack (now : ℕ) (stack : List CellEntry) : Type 0 where
      falls : Falling now stack
      rises : RisesFrom o (depth + 1) stack

    low_within : (now : ℕ) (stack : List CellEntry) → IsLowStack now stack → length stack ≤ depth + 2
    low_within now [] low = omega arith
    low_within now (top ∷ rest) low = let l : length rest ≤ depth + 1 = rises_short o (depth + 1) top rest low.rises in omega arith

    low_later : (now then' : ℕ) (stack : List CellEntry) → now ≤ then' → IsLowStack now stack → IsLowStack then' stack
    low_later now then' stack late low = record { falls = falling_later now then' stack late low.falls; rises = low.rises }

    low_settled : (now : ℕ) (v : CellEntry) (stack : List CellEntry) → now ≤ v.strand → v.strand < o.strands → IsLowStack now stack → IsLowStack v.strand (settled o v stack)
    low_settled now v stack late there low =
        let f = falling_later now v.strand stack late low.falls in
        record { falls = settled_falls o order tree v stack f; rises = settled_rises v stack there f low.rises }

    low_empty : (now : ℕ) → IsLowStack now []
    low_empty now = record { falls = tt; rises = tt }

    low_one : (v : CellEntry) → IsLowStack v.strand (v ∷ [])
    low_one v = record { falls = (omega arith, tt); rises = tt }

    abbrev AreLow : ℕ → Stacks → Type 0
    AreLow now s = (kind : CellAccessKind) → IsLowStack now (stack_of s kind)

    low_kept : (now : ℕ) (v : CellAccess) (s : Stacks) → now ≤ v.strand → v.strand < o.strands → AreLow now s → (k : CellAccessKind) → AreLow v.strand (kept_by o v s k)
    low_kept now v s late there low PlainRead PlainRead = low_settled now (entry_of v) s.plain_reads late there (low PlainRead)
    low_kept now v s late there low PlainRead PlainWrite = low_later now v.strand (stack_of s PlainWrite) late (low PlainWrite)
    low_kept now v s late there low PlainRead AtomicRead = low_later now v.strand s.atomic_reads late (low AtomicRead)
    low_kept now v s late there low PlainRead AtomicWrite = low_later now v.strand s.atomic_writes late (low AtomicWrite)
    low_kept now v s late there low PlainWrite PlainRead = low_empty v.strand
    low_kept now v s late there low PlainWrite PlainWrite = low_one (entry_of v)
    low_kept now v s late there low PlainWrite AtomicRead = low_empty v.strand
    low_kept now v s late there low PlainWrite AtomicWrite = low_empty v.strand
    low_kept now v s late there low AtomicRead PlainRead = low_later now v.strand s.plain_reads late (low PlainRead)
    low_kept now v s late there low AtomicRead PlainWrite = low_later now v.strand (stack_of s PlainWrite) late (low PlainWrite)
    low_kept now v s late there low AtomicRead AtomicRead = low_settled now (entry_of v) s.atomic_reads late there (low AtomicRead)
    low_kept now v s late there low AtomicRead AtomicWrite = low_later now v.strand s.atomic_writes late (low AtomicWrite)
    low_kept now v s late there low AtomicWrite PlainRead = low_later now v.strand s.plain_reads late (low PlainRead)
    low_kept now v s late there low AtomicWrite PlainWrite = low_later now v.strand (stack_of s PlainWrite) late (low PlainWrite)
    low_kept now v s late there low AtomicWrite AtomicRead = low_later now v.strand s.atomic_reads late (low AtomicRead)
    low_kept now v s late there low AtomicWrite AtomicWrite = low_settled now (entry_of v) s.atomic_writes late there (low AtomicWrite)

    abbrev IsLowCell : ℕ → Option Stacks → Type 0
    IsLowCell now None = Unit {0}
    IsLowCell now (Some s) = AreLow now s

    low_step : (v : CellAccess) (s : Stacks) (b : Bool) → AreLow v.strand (keep o v s) → IsLowCell v.strand (cond b None (Some (keep o v s)))
    low_step v s true low = tt
    low_step v s false low = low

    low_after : (now : ℕ) (v : CellAccess) (cell : Option Stacks) → now ≤ v.strand → v.strand < o.strands → IsLowCell now cell → IsLowCell v.strand (after o cell v)
    low_after now v None late there low = tt
    low_after now v (Some s) late there low = low_step v s (is_some (race_among o v s)) (low_kept now v s late there low v.kind)

    cell_within : (now : ℕ) (cell : Option Stacks) → IsLowCell now cell → StacksAreWithin (depth + 2) cell
    cell_within now None low = tt
    cell_within now (Some s) low = λ kind. low_within now (stack_of s kind) (low kind)

    all_within : (vs : List CellAccess) (now : ℕ) (cell : Option Stacks) → IsLowCell now cell → InOrderFrom o now vs → StacksAreWithin (depth + 2) (fold (after o) cell vs)
    all_within [] now cell low ordered = cell_within now cell low
    all_within (v ∷ vs) now cell low ordered = all_within vs v.strand (after o cell v) (low_after now v cell ordered.0 ordered.1 low) ordered.2

    low_nothing : AreLow 0 no_stacks
    low_nothing PlainRead = low_empty 0
    low_nothing PlainWrite = low_empty 0
    low_nothing AtomicRead = low_empty 0
    low_nothing AtomicWrite = low_empty 0

pub stacks_are_low : StacksAreLow
stacks_are_low o order tree depth deep accesses are =
    all_within o order tree depth deep accesses 0 (Some no_stacks) (low_nothing o order tree depth deep) (in_order o accesses are)
