-- The chunks of a sound picture, as the verifier keeps them.
use Rattle.heap_image.proofs.Common.{◌≡◌, ◌<◌, ℕ, Bool, true, false, cond, refl, ap, sym, ◌∙◌, arith, Option, Some, None, ◌==◌, same_Some, not_zero, ImageChunk, found, chunk_number, Chunks, chunk_at, owner_in, owner_at, ImageData, ChunkBefore, LiesIn, IsOwnedBy, IsSoundPicture}
use Rattle.heap_image.proofs.Splits.{same_item}
use Rattle.heap_image.proofs.Tables.{found_in, found_from}
use Rattle.heap_image.proofs.States.{chunk_number_of, chunk_itself, chunk_table}

above_nil : (a : ℕ) → (a == 0) ≡ false → 0 < a
above_nil a e = grind (arith, e)

module _ (p : ImageData) (s : IsSoundPicture p) where
  abbrev cs : Chunks
  cs = chunk_table p.chunks

  lower : (c d : ImageChunk) → ChunkBefore c d → c.number < d.number
  lower c d h = h

  pub chunk_found : (a : ℕ) (c : ImageChunk) → LiesIn p a c → chunk_at cs a ≡ Some c
  chunk_found a c h =
      rw (not_zero a h.1)
      (ap (found cs) h.2 ∙ found_in chunk_number_of chunk_itself p.chunks c (λ d i e. same_item ChunkBefore chunk_number_of lower p.chunks s.chunks_rise d c i h.0 e) h.0)

  pub owner_found : (a t : ℕ) → IsOwnedBy p a t → owner_at cs a ≡ Some t
  owner_found a t h = ap owner_in (chunk_found a h.0 h.1) ∙ ap Some h.2

  owned_by : (a t : ℕ) (b : Bool) (m : Option ImageChunk) → (a == 0) ≡ b → found cs (chunk_number a) ≡ m → owner_in (cond b None m) ≡ Some t → IsOwnedBy p a t
  owned_by a t true m e f h = absurd cc
  owned_by a t false None e f h = absurd cc
  owned_by a t false (Some c) e f h =
      let r = found_from chunk_number_of chunk_itself p.chunks (chunk_number a) c f in
      (r.0, (r.1, above_nil a e, sym r.2), ap (λ (d : ImageChunk). d.owner) r.3 ∙ same_Some c.owner t h)

  pub owned_from : (a t : ℕ) → owner_at cs a ≡ Some t → IsOwnedBy p a t
  owned_from a t h = owned_by a t (a == 0) (found cs (chunk_number a)) refl refl h
