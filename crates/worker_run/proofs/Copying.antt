-- The copy of a part whose collection has begun.
use Rattle.worker_run.proofs.Common.{◌≡◌, ℕ, All, List, map, ap, sym, subst, ◌∙◌, ProgramText, ChunkValue, number_of, LeafHeapValue, FramesValue, Moved, CanTake, IsCollected, IsSoundReference, as_reference, aside, Begun, Private, WorkerPartFits, CopyingHasBegun, SharedValue, accounts, value_of, status, FitsCopied, CanCopy, IsCopying, begun_is_copying, begun, copied_fits, begun_can_copy, Collecting, CollectionLists, MayCopy, RunGoesOn}

module _ (p : ProgramText) (w : SharedValue) (k : ℕ) (c : Collecting) (G : RunGoesOn p w) (M : MayCopy w k c) where
  abbrev news : List ChunkValue
  news = c.lists.to_chunks.chunks.items

  abbrev b : Begun
  b = record { roots = c.lists.roots.items; news = map number_of news }

  copying : IsCopying w k c.part b news
  copying = begun_is_copying w k M.before c.part c.lists.roots.items c.lists.to_chunks M.begun G.shared M.fits M.fresh

  pub takes : CanTake c.part.heap.chunks news
  takes = copying.new

  pub can_copy : CanCopy c.part.heap c.part.frames c.lists.roots.items
  can_copy =
      begun_can_copy w.program w.settings c.part.task c.part.heap c.part.view c.part.allocations c.part.frames (record { roots = c.lists.roots.items; news = map number_of news }) news (value_of w) (aside (accounts w)) M.fits.fits.task
      (begun w k c.part b news copying) M.fits.fits.is (status w k c.part G.shared M.fits G.goes)
      (subst (λ ks. All (IsSoundReference ks) (map as_reference c.lists.roots.items)) (sym (ap (λ (q : Private). q.heap.chunks) M.begun.part)) M.begun.sound)

  pub copied : (h' : LeafHeapValue) (frames' : FramesValue) (moved : Moved) → IsCollected c.part.heap c.part.frames c.lists.roots.items news h' frames' moved → FitsCopied w k (record c.part { heap = h'; frames = frames' }) moved
  copied h' frames' moved D = copied_fits w k c.part b news copying h' frames' moved D

-- the same at another value
pub may_copy_at : (w z : SharedValue) (k : ℕ) (c : Collecting) (part : Private) → MayCopy w k c → part ≡ c.part → WorkerPartFits z k part → MayCopy z k c
may_copy_at w z k c part M e f = record { fits = subst (WorkerPartFits z k) e f; fresh = M.fresh; before = M.before; begun = M.begun }

-- the same out of the blocks
pub may_copy_out : (w : SharedValue) (k : ℕ) (c : Collecting) (part : Private) (lists : CollectionLists) → part ≡ c.part → lists ≡ c.lists → MayCopy w k c → MayCopy w k (record { part = part; lists = lists })
may_copy_out w k c part lists e f M = record {
  fits = subst (WorkerPartFits w k) (sym e) M.fits;
  fresh = ap (λ (q : Private). q.fresh) e ∙ M.fresh;
  before = M.before;
  begun = subst (λ (q : Private). CopyingHasBegun M.before q lists.roots.items lists.to_chunks) (sym e) (subst (λ (l : CollectionLists). CopyingHasBegun M.before c.part l.roots.items l.to_chunks) (sym f) M.begun);
}
