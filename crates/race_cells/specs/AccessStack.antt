-- Stacks of accesses of one kind, from the top.
use Rattle.std.specs.Prelude.{ℕ, Bool, not, Option, Some, None, List, [], ◌∷◌, reverse, find, nat_le, if◌then◌else◌}
use Rattle.race_cells.specs.declared.access.CellEntry.{CellEntry}
use Rattle.race_cells.specs.Order.{StrandOrder}

-- the first from the bottom that doesn't happen before v
abbrev pub lowest_unordered : StrandOrder → ℕ → List CellEntry → Option CellEntry
lowest_unordered o v stack = find (λ u. not (o.before u.strand v)) (reverse stack)

-- without those at the top that happen before v
abbrev pub without_earlier : StrandOrder → ℕ → List CellEntry → List CellEntry
without_earlier o v [] = []
without_earlier o v (u ∷ us) = if o.before u.strand v then without_earlier o v us else u ∷ us

-- the two meet no higher than the upper one meets v
abbrev pub is_low : StrandOrder → ℕ → CellEntry → CellEntry → Bool
is_low o v below top = nat_le (o.meeting top.strand v) (o.meeting below.strand top.strand)

-- of two that meet the one that leaves their meeting later
abbrev pub last_to_leave : StrandOrder → CellEntry → CellEntry → CellEntry
last_to_leave o below top = if o.leaves_first below.strand top.strand then top else below

-- a stack by its top and the rest: as long as the two topmost meet no higher than the upper one meets v, the one that
-- leaves their meeting later stands for both
abbrev pub lowered : StrandOrder → ℕ → CellEntry → List CellEntry → List CellEntry
lowered o v top [] = top ∷ []
lowered o v top (below ∷ rest) =
    if is_low o v below top then lowered o v (last_to_leave o below top) rest else top ∷ (below ∷ rest)

abbrev pub lowered_stack : StrandOrder → ℕ → List CellEntry → List CellEntry
lowered_stack o v [] = []
lowered_stack o v (top ∷ rest) = lowered o v top rest

-- v is pushed, after those have left that stand for nothing any more
abbrev pub settled : StrandOrder → CellEntry → List CellEntry → List CellEntry
settled o v stack = v ∷ lowered_stack o v.strand (without_earlier o v.strand stack)

-- the two topmost, the lower one first
abbrev pub topmost_pair : List CellEntry → Option (CellEntry × CellEntry)
topmost_pair [] = None
topmost_pair (top ∷ []) = None
topmost_pair (top ∷ (below ∷ rest)) = Some (below, top)
