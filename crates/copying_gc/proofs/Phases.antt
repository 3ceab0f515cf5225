-- What each phase of an evacuation leaves to the next.
use Rattle.copying_gc.proofs.Common.{◌≡◌, List, [], map, fold, sym, ap, ◌∙◌, subst, Option, Contains, ◌↔◌, All, IsDistinct, IsPermutation, IsSorted, All-permutation, Addr, Born, ChunkValue, cell_of, HeapIsClosed, IsSoundReference, Once, distinct_from, once_from, LeafHeapValue, In, FramesValue, frames_of, Survivor, as_reference, frame_references, olds, outside, survivor_order, with_chunks, HaveNames, IsSurvivor, CollectorValue, all_found, IsTarget, Laying, nothing_laid, relocations, smalls, copied, CanBeCopied, followed_ref, followed_large, led_chunk, led_frame, CanBeFollowed, HasTargets, laying_of, moves_of, redirection, AreSurvivors, IsVacated, CollectorBegins, IsEvacuated}
use Rattle.object_layout.specs.Chunks.{same_address}
use Rattle.copying_gc.proofs.Evacuated as evacuated
use Rattle.copying_gc.proofs.FrameLemmas as frames
use Rattle.copying_gc.proofs.Larges as larges
use Rattle.copying_gc.proofs.Leading as leading
use Rattle.copying_gc.proofs.Places as places

-- the survivors are found, and were sorted
pub record AreFound (b : CollectorValue) (from : List (Option Addr)) (d s : CollectorValue) : Type 0 where
  pub begins : CollectorBegins b
  pub exactly : (a : Addr) → Contains (olds d.found) a ↔ IsSurvivor b.heap.chunks from a
  pub distinct : IsDistinct same_address (olds d.found)
  pub names : HaveNames b.heap.chunks d.found
  pub marked : d ≡ record b { heap = with_chunks b.heap (all_found b.heap.chunks (olds d.found)); found = d.found }
  pub rest : s ≡ record d { found = s.found }
  pub permuted : IsPermutation d.found s.found
  pub ordered : IsSorted survivor_order s.found

module _ (b : CollectorValue) (from : List (Option Addr)) (closed : HeapIsClosed b.heap.chunks) (sound : All (IsSoundReference b.heap.chunks) from) (d s : CollectorValue) (are : AreFound b from d s) where
  kept : (a : Addr) → Contains (olds s.found) a ↔ IsSurvivor b.heap.chunks from a
  kept = evacuated.kept_sorted (IsSurvivor b.heap.chunks from) d.found s.found are.permuted are.exactly

  once : Once (olds s.found)
  once = evacuated.once_kept d.found s.found are.permuted (once_from (olds d.found) are.distinct)

  all : (a : Addr) → In (olds s.found) a → In (olds d.found) a
  all = evacuated.in_unsorted d.found s.found are.permuted

  names : HaveNames b.heap.chunks s.found
  names = All-permutation (λ (x : Survivor). (cell_of b.heap.chunks x.old).mark ≡ Born x.birth) d.found s.found are.permuted are.names

  marks : s.heap.chunks ≡ all_found b.heap.chunks (olds d.found)
  marks = ap (λ (z : CollectorValue). z.heap.chunks) are.rest ∙ ap (λ (z : CollectorValue). z.heap.chunks) are.marked

  none_laid : s.laying ≡ nothing_laid b.laying.spare
  none_laid =
      ap (λ (z : CollectorValue). z.laying) are.rest ∙ (ap (λ (z : CollectorValue). z.laying) are.marked
      ∙ ap (λ (ks : List ChunkValue). let y : Laying = record { laid = ks; spare = b.laying.spare } in y) are.begins.laid)

  pub none_moved : s.moved ≡ []
  none_moved = ap (λ (z : CollectorValue). z.moved) are.rest ∙ (ap (λ (z : CollectorValue). z.moved) are.marked ∙ are.begins.moved)

  heap_kept : s.heap ≡ with_chunks b.heap s.heap.chunks
  heap_kept =
      ap (λ (z : CollectorValue). z.heap) are.rest ∙ (ap (λ (z : CollectorValue). z.heap) are.marked
      ∙ ap (with_chunks b.heap) (sym marks))

  pub can_copy : CanBeCopied s s.found
  can_copy =
      leading.can_copy b.heap.chunks from closed sound s.found (olds d.found) b.laying.spare kept once all names s marks none_laid none_moved are.begins.new
      (leading.enough b.heap.chunks from closed sound s.found (olds d.found) b.laying.spare kept once all names s marks none_laid none_moved are.begins.new are.begins.enough)

  module _ (t : CollectorValue) (is : t ≡ fold copied s s.found) where
    stay : t.found ≡ s.found
    stay = ap (λ (z : CollectorValue). z.found) is ∙ places.all_stay s s.found

    pub chunks_have : All (λ (k : ChunkValue). All (HasTargets t.heap.chunks) k.cells) t.laying.laid
    chunks_have = leading.chunks_have b.heap.chunks from closed sound s.found (olds d.found) b.laying.spare kept once all names s marks none_laid none_moved are.begins.new t is

    leads : All (leading.Leads t.heap.chunks (relocations (nothing_laid b.laying.spare) b.heap.chunks (smalls b.heap.chunks (olds s.found)))) from
    leads = leading.leads_from b.heap.chunks from closed sound s.found (olds d.found) b.laying.spare kept once all names s marks none_laid none_moved are.begins.new t is

    pub from_targets : All (IsTarget t.heap.chunks) from
    from_targets = leading.refs_targets t.heap.chunks (relocations (nothing_laid b.laying.spare) b.heap.chunks (smalls b.heap.chunks (olds s.found))) from leads

    pub from_led : All (λ r. followed_ref t.heap.chunks r ≡ redirection b.heap.chunks s.found b.laying.spare r) from
    from_led = λ j x l. (leads j x l).0

    pub can_follow : CanBeFollowed t.heap.chunks t.found
    can_follow = subst (CanBeFollowed t.heap.chunks) (sym stay)
        (larges.can_follow t.heap.chunks s.found once (leading.target_refs b.heap.chunks from closed sound s.found (olds d.found) b.laying.spare kept once all names s marks none_laid none_moved are.begins.new t is))

    -- of the heap, only the objects change
    pub copying_kept : t.heap ≡ with_chunks b.heap t.heap.chunks
    copying_kept =
        ap (λ (z : CollectorValue). z.heap) is ∙ (places.heap_after s s.found
        ∙ (ap (λ (g : LeafHeapValue). with_chunks g (fold copied s s.found).heap.chunks) heap_kept ∙ ap (λ (z : CollectorValue). with_chunks b.heap z.heap.chunks) (sym is)))

    pub moved_is : t.moved ≡ moves_of b.heap.chunks s.found b.laying.spare
    moved_is = leading.moved_is b.heap.chunks from closed sound s.found (olds d.found) b.laying.spare kept once all names s marks none_laid none_moved are.begins.new t is

    pub laying_is : t.laying ≡ laying_of b.heap.chunks s.found b.laying.spare
    laying_is = leading.laying_is b.heap.chunks from closed sound s.found (olds d.found) b.laying.spare kept once all names s marks none_laid none_moved are.begins.new t is

    pub laid_is : map (led_chunk (followed_ref t.heap.chunks)) t.laying.laid ≡ map (led_chunk (redirection b.heap.chunks s.found b.laying.spare)) (laying_of b.heap.chunks s.found b.laying.spare).laid
    laid_is = leading.chunks_are b.heap.chunks from closed sound s.found (olds d.found) b.laying.spare kept once all names s marks none_laid none_moved are.begins.new t is

    pub vacated_is : IsVacated b.heap.chunks (fold followed_large t.heap.chunks t.found) (olds s.found) (redirection b.heap.chunks s.found b.laying.spare)
    vacated_is = subst (λ (xs : List Survivor). IsVacated b.heap.chunks (fold followed_large t.heap.chunks xs) (olds s.found) (redirection b.heap.chunks s.found b.laying.spare)) (sym stay)
        (evacuated.vacated b.heap.chunks from closed sound s.found (olds d.found) b.laying.spare kept once all (evacuated.in_sorted d.found s.found are.permuted) names s marks none_laid none_moved are.begins.new t is)

  pub survivors : AreSurvivors b.heap.chunks from s.found
  survivors = record { exactly = kept; once = distinct_from (olds s.found) once; names = names; order = are.ordered }

-- t: after the copying; u: with the references of the new chunks updated; e: with those of large survivors updated
module _ (b : CollectorValue) (fs : FramesValue) (roots : List Addr) (closed : HeapIsClosed b.heap.chunks) (sound : All (IsSoundReference b.heap.chunks) (outside fs roots)) (d s : CollectorValue) (are : AreFound b (outside fs roots) d s)
    (t : CollectorValue) (is : t ≡ fold copied s s.found)
    (u : CollectorValue) (u_is : u ≡ record t { laying = record t.laying { laid = map (led_chunk (followed_ref t.heap.chunks)) t.laying.laid } })
    (gs : FramesValue) (g_is : frames_of gs ≡ map (led_frame (followed_ref u.heap.chunks)) (frames_of fs))
    (e : CollectorValue) (e_is : e ≡ record u { heap = with_chunks u.heap (fold followed_large u.heap.chunks u.found) }) where
  heap_u : u.heap ≡ t.heap
  heap_u = ap (λ (z : CollectorValue). z.heap) u_is

  found_u : u.found ≡ t.found
  found_u = ap (λ (z : CollectorValue). z.found) u_is

  found_e : e.found ≡ s.found
  found_e = ap (λ (z : CollectorValue). z.found) e_is ∙ (found_u ∙ stay b (outside fs roots) closed sound d s are t is)

  chunks_e : e.heap.chunks ≡ fold followed_large t.heap.chunks t.found
  chunks_e = ap (λ (z : CollectorValue). z.heap.chunks) e_is ∙ (ap (λ (g : LeafHeapValue). fold followed_large g.chunks u.found) heap_u ∙ ap (fold followed_large t.heap.chunks) found_u)

  led_frames : map (led_frame (followed_ref u.heap.chunks)) (frames_of fs) ≡ map (led_frame (redirection b.heap.chunks s.found b.laying.spare)) (frames_of fs)
  led_frames =
      ap (λ (g : LeafHeapValue). map (led_frame (followed_ref g.chunks)) (frames_of fs)) heap_u
      ∙ frames.frames_same (followed_ref t.heap.chunks) (redirection b.heap.chunks s.found b.laying.spare) (frames_of fs)
      (frames.first_part (λ r. followed_ref t.heap.chunks r ≡ redirection b.heap.chunks s.found b.laying.spare r) (frame_references (frames_of fs)) (map as_reference roots) (from_led b (outside fs roots) closed sound d s are t is))

  pub is_evacuated : IsEvacuated b fs roots e gs
  is_evacuated = record {
    survivors = subst (AreSurvivors b.heap.chunks (outside fs roots)) (sym found_e) (survivors b (outside fs roots) closed sound d s are);
    moved = ap (λ (z : CollectorValue). z.moved) e_is ∙ (ap (λ (z : CollectorValue). z.moved) u_is ∙ (moved_is b (outside fs roots) closed sound d s are t is ∙ ap (λ (xs : List Survivor). moves_of b.heap.chunks xs b.laying.spare) (sym found_e)));
    laid = ap (λ (z : CollectorValue). z.laying.laid) e_is ∙ (ap (λ (z : CollectorValue). z.laying.laid) u_is ∙ (laid_is b (outside fs roots) closed sound d s are t is
        ∙ ap (λ (xs : List Survivor). map (led_chunk (redirection b.heap.chunks xs b.laying.spare)) (laying_of b.heap.chunks xs b.laying.spare).laid) (sym found_e)));
    spare = ap (λ (z : CollectorValue). z.laying.spare) e_is ∙ (ap (λ (z : CollectorValue). z.laying.spare) u_is ∙ (ap (λ (y : Laying). y.spare) (laying_is b (outside fs roots) closed sound d s are t is)
        ∙ ap (λ (xs : List Survivor). (laying_of b.heap.chunks xs b.laying.spare).spare) (sym found_e)));
    frames = g_is ∙ (led_frames ∙ ap (λ (xs : List Survivor). map (led_frame (redirection b.heap.chunks xs b.laying.spare)) (frames_of fs)) (sym found_e));
    vacated = subst (λ (xs : List Survivor). IsVacated b.heap.chunks e.heap.chunks (olds xs) (redirection b.heap.chunks xs b.laying.spare)) (sym found_e)
        (subst (λ (g : List ChunkValue). IsVacated b.heap.chunks g (olds s.found) (redirection b.heap.chunks s.found b.laying.spare)) (sym chunks_e) (vacated_is b (outside fs roots) closed sound d s are t is));
    heap = ap (λ (z : CollectorValue). z.heap) e_is
        ∙ (ap (λ (g : LeafHeapValue). with_chunks g (fold followed_large u.heap.chunks u.found)) (heap_u ∙ copying_kept b (outside fs roots) closed sound d s are t is)
        ∙ ap (with_chunks b.heap) (sym (ap (λ (z : CollectorValue). z.heap.chunks) e_is)));
  }
