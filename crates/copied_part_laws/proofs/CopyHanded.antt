-- A part that was copied fits the shared value for the end of its collection.
use Rattle.copied_part_laws.proofs.Common.{◌≡◌, ℕ, zero, suc, ◌/◌, ◌++◌, ◌≤◌, arith, All, Some, None, List, [], ◌∷◌, length, slice_get, sum_by, refl, ap, sym, subst, ◌∙◌, pos, reverse, length-map, sum_by-cons, in_map, Ledger, end_numbers, heap_of, in_use, units_in, use_is_bounded, ChunkValue, Slot, owner_of, HaveDistinctNumbers, LeafHeapValue, IsFresh, counted32, unit_count, FramesValue, outside, back_of, IsCollected, moves_are_told, units_in_slots, aside, rested_view, PartFits, part_for, Belongings, In, Begun, Private, belongings_of_part, AreMeasured, AreUnits, news_of, SharedValue, accounts, frames_down, belongings_with, value_of, measured_both, AreBack, FitsCopied, few_units, CollectionHasBegun, part_belongings, CopiedFits, IsCopying, part_before}
use Rattle.leaf_collections.specs.below.copying_gc.{Moved}
use Rattle.copied_part_laws.proofs.ChunksGivenBack as back
use Rattle.copied_part_laws.proofs.CopyMade as copying
use Rattle.copied_part_laws.proofs.CopyMade.{copies_fit}
use Rattle.copied_part_laws.proofs.BeforeTheCopy.{Old}
use Rattle.copied_part_laws.proofs.CopyCounts as counting
use Rattle.copied_part_laws.proofs.CopySays.{numbers_are_said}

aside_least : (l : Ledger) (t : ℕ) → units_in (aside l).machine (heap_of (aside l) t) ≤ in_use l
aside_least l t = few_units l t

said_same : (l : Ledger) (t : ℕ) (said : ℕ × ℕ × ℕ) → said ≡ end_numbers (aside l).machine (heap_of (aside l) t) → said ≡ end_numbers l.machine (heap_of l t)
said_same l t said e = e

module _ (w : SharedValue) (k : ℕ) (p : Private) (b : Begun) (news : List ChunkValue) (C : IsCopying w k p b news) where
  abbrev pub l : Ledger
  l = aside (accounts w)

  abbrev pub H : Belongings
  H = part_belongings p.heap p.view p.allocations p.frames (Some b)

  belongings_are : belongings_of_part p ≡ H
  belongings_are = ap (λ o. record (belongings_with p.heap p.view p.allocations (frames_down p.frames) (pos 0, None)) { begun = o }) C.begun

  fits : PartFits w.program w.settings (part_before w.settings p.task H) (value_of w) (aside (accounts w))
  fits =
      subst (λ n. PartFits w.program w.settings (part_for w.settings p.task H n) (value_of w) (aside (accounts w))) C.fresh
      (subst (λ (h : Belongings). PartFits w.program w.settings (part_for w.settings p.task h p.fresh) (value_of w) (aside (accounts w))) belongings_are C.fits.fits.part)

  pub begun : CollectionHasBegun w.program w.settings p.task p.heap p.view p.allocations p.frames b news (value_of w) (aside (accounts w))
  begun = record {
    form = C.fits.form;
    fits = fits;
    new = C.new;
    took = λ c i. subst (λ ns. In ns c.number) (sym C.numbers) (in_map (λ (c : ChunkValue). c.number) news c i);
    all = ap (λ (ns : List ℕ). length ns) C.numbers ∙ length-map news (λ (c : ChunkValue). c.number);
  }

  few : units_in (aside (accounts w)).machine (heap_of (aside (accounts w)) p.task) ≤ 65536
  few =
      let a : units_in (aside (accounts w)).machine (heap_of (aside (accounts w)) p.task) ≤ in_use (accounts w) = aside_least (accounts w) p.task in
      let u : in_use (accounts w) ≤ w.settings.chunks = (use_is_bounded w.program w.settings w.journal.items C.shared.legal).now in
      let c : w.settings.chunks ≤ 65536 = C.shared.settings.chunks.1 in
      omega (arith, a, u, c)

  -- the pool has its chunks and the new ones with their units
  units : AreUnits w.pool p.task b.news
  units = subst (λ o. AreUnits w.pool p.task (news_of o)) C.begun C.fits.measured.1

  all_measured : AreMeasured w.pool p.task (p.heap.chunks ++ news)
  all_measured =
      measured_both w.pool p.task p.heap.chunks news C.fits.measured.0 (λ c i.
      units c.number (subst (λ ns. In ns c.number) (sym C.numbers) (in_map (λ (c : ChunkValue). c.number) news c i))
      ∙ ap (λ n. let h : Slot = record { owner = p.task; units = n / 1024 } in Some h) (sym (back.size_of_new news c C.new.new i)))

  module _ (h' : LeafHeapValue) (s' : FramesValue) (out : Moved) (D : IsCollected p.heap p.frames b.roots news h' s' out) where
    -- what is known of the heap before
    O : Old p.heap D.survivors (aside (accounts w)).machine (heap_of (aside (accounts w)) p.task)
    O = copying.O w.program w.settings p.task p.heap p.view p.allocations p.frames b news (value_of w) (aside (accounts w)) begun h' s' out D

    abbrev Back : List ChunkValue
    Back = back_of p.heap D.survivors (reverse news)

    began : (heap_of (aside (accounts w)) p.task).begun ≡ Some (length news)
    began = sym (rested_view (λ x. x.begun) (λ x. refl) (aside (accounts w)) p.task) ∙ ((copying.began w.program w.settings p.task p.heap p.view p.allocations p.frames b news (value_of w) (aside (accounts w)) begun).few ∙ ap Some begun.all)

    given_is : unit_count Back ≡ out.given
    given_is =
        counting.given_is p.heap (outside p.frames b.roots) D.survivors news D.are C.new (aside (accounts w)).machine (heap_of (aside (accounts w)) p.task) O began
        ∙ sym (D.given ∙ (ap (λ ks. counted32 (unit_count ks)) D.back ∙ counting.given_counted p.heap (outside p.frames b.roots) D.survivors news D.are C.new (aside (accounts w)).machine (heap_of (aside (accounts w)) p.task) O began few))

    are_back : AreBack w (record p { heap = h'; frames = s' }) out.back.items out.given
    are_back = record {
      apart = subst HaveDistinctNumbers (sym D.back) (back.back_apart p.heap (outside p.frames b.roots) D.survivors news D.are C.new (aside (accounts w)).machine (heap_of (aside (accounts w)) p.task) O);
      owned = subst (All (λ c. owner_of w.pool c.number ≡ Some p.task)) (sym D.back)
          (back.back_owned p.heap (outside p.frames b.roots) D.survivors news D.are C.new (aside (accounts w)).machine (heap_of (aside (accounts w)) p.task) O w.pool p.task all_measured);
      gone = subst (All (λ c. IsFresh h'.chunks c.number)) (sym D.back)
          (subst (λ (x : LeafHeapValue). All (λ c. IsFresh x.chunks c.number) Back) (sym D.heap) (back.back_gone p.heap (outside p.frames b.roots) D.survivors news D.are C.new (aside (accounts w)).machine (heap_of (aside (accounts w)) p.task) O));
      units = ap (units_in_slots w.pool) D.back
          ∙ (back.back_units p.heap (outside p.frames b.roots) D.survivors news D.are C.new (aside (accounts w)).machine (heap_of (aside (accounts w)) p.task) O w.pool p.task all_measured ∙ given_is);
    }

    measured : AreMeasured w.pool p.task h'.chunks
    measured = subst (λ (x : LeafHeapValue). AreMeasured w.pool p.task x.chunks) (sym D.heap)
        (back.heap_measured p.heap (outside p.frames b.roots) D.survivors news D.are C.new (aside (accounts w)).machine (heap_of (aside (accounts w)) p.task) O w.pool p.task all_measured)

    pub copied : FitsCopied w k (record p { heap = h'; frames = s' }) out
    copied =
        let made = copies_fit w.program w.settings p.task p.heap p.view p.allocations p.frames b news (value_of w) (aside (accounts w)) begun h' s' out D in
        record {
          belongings = H;
          out = C.fits.out;
          copy = made.0;
          form = made.1;
          measured = measured;
          fresh = C.fresh;
          leaf_limit = C.fits.leaf_limit;
          field_limit = C.fits.field_limit;
          numbers = said_same (accounts w) p.task _ (numbers_are_said w.program w.settings p.task p.heap p.view p.allocations p.frames b news (value_of w) (aside (accounts w)) begun few h' s' out D);
          order = D.order;
          places = (moves_are_told p.heap (outside p.frames b.roots) D.survivors news out.moved.items D.are C.new D.moved).places;
          back = are_back;
        }

pub copied_fits : CopiedFits
copied_fits w k p b news C h' s' out D = copied w k p b news C h' s' out D
