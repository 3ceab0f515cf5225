-- The scan goes on access by access.
use Rattle.race_cells.proofs.Common.{◌≡◌, true, cond, Option, Some, None, is_none, is_some, List, [], ◌∷◌, ◌++◌, fold, refl, ap, ◌∙◌, option_or, CellAccess, CellRace, Stacks, StrandOrder, after, keep, no_stacks, race_among, race_at, reported_from, ScansGoOn}

module _ (o : StrandOrder) where
  cell_from : (us : List CellAccess) (cell : Option Stacks) (v : CellAccess) → fold (after o) cell (us ++ v ∷ []) ≡ after o (fold (after o) cell us) v
  cell_from [] cell v = refl
  cell_from (u ∷ us) cell v = cell_from us (after o cell u) v

  or_nothing : {A : Type 0} (a : Option A) → option_or a None ≡ a
  or_nothing None = refl
  or_nothing (Some x) = refl

  or_through : {A : Type 0} (a b c : Option A) → option_or a (option_or b c) ≡ option_or (option_or a b) c
  or_through None b c = refl
  or_through (Some x) b c = refl

  race_from : (us : List CellAccess) (cell : Option Stacks) (v : CellAccess)
      → reported_from o cell (us ++ v ∷ []) ≡ option_or (reported_from o cell us) (race_at o (fold (after o) cell us) v)
  race_from [] cell v = or_nothing (race_at o cell v)
  race_from (u ∷ us) cell v =
      ap (option_or (race_at o cell u)) (race_from us (after o cell u) v)
      ∙ or_through (race_at o cell u) (reported_from o (after o cell u) us) (race_at o (fold (after o) (after o cell u) us) v)

  -- a cell that is done stays done, and reports nothing
  stays_done : (us : List CellAccess) → is_none (fold (after o) None us) ≡ true
  stays_done [] = refl
  stays_done (u ∷ us) = stays_done us

  done_step : (s : Stacks) (us : List CellAccess) (found : Option CellRace)
      → ((s : Stacks) → is_none (fold (after o) (Some s) us) ≡ is_some (reported_from o (Some s) us))
      → is_none (fold (after o) (cond (is_some found) None (Some s)) us) ≡ is_some (option_or found (reported_from o (cond (is_some found) None (Some s)) us))
  done_step s us None more = more s
  done_step s us (Some race) more = stays_done us

  done_from : (us : List CellAccess) (s : Stacks) → is_none (fold (after o) (Some s) us) ≡ is_some (reported_from o (Some s) us)
  done_from [] s = refl
  done_from (u ∷ us) s = done_step (keep o u s) us (race_among o u s) (done_from us)

pub scans_go_on : ScansGoOn
scans_go_on o past v = record {
  cell = cell_from o past (Some no_stacks) v;
  race = race_from o past (Some no_stacks) v;
  done = done_from o past no_stacks;
}
