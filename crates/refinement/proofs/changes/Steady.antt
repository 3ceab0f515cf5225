-- A part stays steady while the account of its task's heap is unchanged.
use Rattle.refinement.proofs.Common.{◌≡◌, slice_get, inl, inr, ap, ◌∙◌, Ledger, collecting, Part, IsSteady}

pub steady_same : (q : Part) (l l' : Ledger) → slice_get l'.heaps q.task ≡ slice_get l.heaps q.task → IsSteady q l → IsSteady q l'
steady_same q l l' same (inl none) = inl none
steady_same q l l' same (inr off) = inr (ap collecting same ∙ off)
