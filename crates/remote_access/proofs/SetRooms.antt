-- The shared value after only the spare capacity of its sets changes.
use Rattle.remote_access.proofs.Common.{◌≡◌, ℕ, List, length, slice_get, refl, ap, sym, subst, ◌∙◌, SetOf, content_at, Memory, StandsForAll, WorkerFits, Private, SharedValue, accounts, marks_at, noted_in, tree_counts_of, value_of, IsSharedValue, WorkerPartFits, part_of, noted_is, noted_of, SameButRoom}

module _ (w : SharedValue) (sets : List SetOf) (many : length sets ≡ length w.sets) (same : (t : ℕ) → content_at sets t ≡ content_at w.sets t) where
  abbrev roomier : SharedValue
  roomier = record w { sets = sets }

  noted_same : (t : ℕ) → noted_in (slice_get w.sets t) ≡ noted_in (slice_get sets t)
  noted_same t = noted_is (slice_get w.sets t) ∙ (ap noted_of (sym (same t)) ∙ sym (noted_is (slice_get sets t)))

  value_same : value_of w ≡ value_of roomier
  value_same = λ i. record (value_of w) { noted = λ t. record (noted_same t i) { marked = marks_at w.marks t } }

  pub roomier_world : IsSharedValue w → IsSharedValue roomier
  roomier_world I = record {
    settings = I.settings;
    form = I.form;
    legal = I.legal;
    made = I.made;
    noted = many ∙ I.noted;
    workers = I.workers;
    limit = I.limit;
    stands = subst (λ (v : Memory). StandsForAll v (tree_counts_of w) (accounts w)) value_same I.stands;
    heaps = I.heaps;
    measured = I.measured;
  }

  pub roomier_fit : (k : ℕ) (p : Private) → WorkerPartFits w k p → WorkerPartFits roomier k p
  roomier_fit k p F = record {
    out = F.out;
    fits = subst (λ (v : Memory). WorkerFits w.program w.settings (part_of w.settings p) v (accounts w)) value_same F.fits;
    form = F.form;
    measured = F.measured;
    leaf_limit = F.leaf_limit;
    field_limit = F.field_limit;
  }

  pub roomier_same : SameButRoom w roomier
  roomier_same = record { same = refl; sets = same; fit = roomier_fit }
