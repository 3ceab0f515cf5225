-- The form of a heap: without a reserved chunk, and with spare capacity.
use Rattle.core_invariant.proofs.Common.{◌≡◌, ℕ, ◌*◌, ◌<◌, arith, Option, Some, None, refl, subst, chunk_at, LeafHeapValue, IsReserved, with_places, HasReservedUnits, HeapForm}

pub reserved_none : (h : LeafHeapValue) (F : HeapForm h) (o : Option ℕ) → h.reserved ≡ o → HasReservedUnits h.chunks h.reserved 0 → o ≡ None
reserved_none h F None e R = refl
reserved_none h F (Some i) e R =
    let S : IsReserved h.chunks (Some i) = subst (IsReserved h.chunks) e F.shaped.reserved in
    let z : (chunk_at h.chunks i).size ≡ 1024 * 0 = subst (λ o. HasReservedUnits h.chunks o 0) e R in
    let big : 1024 < (chunk_at h.chunks i).size = S.1.0 in
    absurd (omega (arith, z, big))

-- spare capacities are irrelevant
pub places_form : (h : LeafHeapValue) (a b : ℕ) → HeapForm h → HeapForm (with_places h a b)
places_form h a b F = record {
  shaped = record { apart = F.shaped.apart; current = F.shaped.current; reserved = F.shaped.reserved };
  near = F.near;
  tidy = F.tidy;
  within = F.within;
  last = F.last;
  last_large = F.last_large;
  since = F.since;
  whole = F.whole;
  spare = F.spare;
}
