-- A part whose leaf collection has begun can be copied, and then holds as a copy.
use Rattle.journal_replay.proofs.Common.{◌≡◌, ℕ, All, Some, None, List, map, refl, ap, sym, subst, ◌∙◌, Begin, Ledger, take_of, within, heap_end, Addr, ChunkValue, number_of, LeafHeapValue, FramesValue, Moved, ToChunks, CanTake, IsCollected, IsSoundReference, as_reference, aside, Begun, Private, Enters, WorkerPartFits, CopyingHasBegun, IsSharedValue, SharedValue, accounts, value_of, status, entered_accounts, CanCopy, IsCopying, begun_is_copying, begun, begun_can_copy, HoldsCopy}

module _ (w : SharedValue) (k : ℕ) (before p : Private) (roots : List Addr) (to : ToChunks) (H : CopyingHasBegun before p roots to) (I : IsSharedValue w) (F : WorkerPartFits w k p) (fresh : p.fresh ≡ 0) (on : (accounts w).end ≡ None) where
  abbrev news : List ChunkValue
  news = to.chunks.items

  abbrev b : Begun
  b = record { roots = roots; news = map number_of news }

  copying : IsCopying w k p b news
  copying = begun_is_copying w k before p roots to H I F fresh

  pub takes : CanTake p.heap.chunks news
  takes = copying.new

  pub can_copy : CanCopy p.heap p.frames roots
  can_copy =
      begun_can_copy w.program w.settings p.task p.heap p.view p.allocations p.frames (record { roots = roots; news = map number_of news }) news (value_of w) (aside (accounts w)) F.fits.task (begun w k p b news copying) F.fits.is (status w k p I F on)
      (subst (λ ks. All (IsSoundReference ks) (map as_reference roots)) (sym (ap (λ (q : Private). q.heap.chunks) H.part)) H.sound)

  pub holds_copy : (h : LeafHeapValue) (frames : FramesValue) (moved : Moved) → IsCollected p.heap p.frames roots news h frames moved → HoldsCopy w k (record p { heap = h; frames = frames }) moved
  holds_copy h frames moved C = record {
    before = p;
    begun = b;
    news = news;
    fits = F;
    fresh = fresh;
    amid = ap (λ (q : Private). q.begun) H.part;
    new = takes;
    numbers = refl;
    copy = C;
    part = refl;
  }

-- its begin doesn't end the run
pub begin_on : (w after : SharedValue) (k t : ℕ) → (accounts w).end ≡ None → Enters w after (record { worker = k; kind = Begin t }) → (accounts after).end ≡ None
begin_on w after k t on E =
    ap (λ (l : Ledger). l.end) (entered_accounts w after (record { worker = k; kind = Begin t }) E)
    ∙ (heap_end (accounts w) t (λ h. record h { begun = Some (take_of (accounts w).machine h); survivors = within (accounts w) t }) ∙ on)
