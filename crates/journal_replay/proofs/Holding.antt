-- What workers hold stays so: what others hold at an entry, and what each holds when the world stops.
use Rattle.journal_replay.proofs.Common.{◌≡◌, ◌≢◌, ℕ, Bool, true, false, Some, None, List, slice_get, slice_set, inl, inr, ap, sym, subst, ◌∙◌, cases_eq, false≢true, same_Some, got_other, got_same, EntryValue, Ledger, after, heap_of, Moved, handed, handed_on, Private, Enters, refused, EachPartStillFits, WorkerPartFits, OthersFit, SharedValue, accounts, entry_on, worker_by_end, entered_accounts, HoldsNone, SameButPlaces, same_world, OutPart, Nothing, Copied, is_own, AllHold, WorkerHolds, HoldsCopy, HoldsPart}
use Rattle.journal_replay.specs.declared.out_part.OutPart.TheVariants.{Part}
use Rattle.journal_replay.proofs.WasHeld.{apart_held, kind_held}

-- ---- A HAND, with the part that it holds fitting another value

-- a copy of a part that fits another value
pub copy_of : (w w' : SharedValue) (k : ℕ) (p : Private) (moved : Moved) → (H : HoldsCopy w k p moved) → WorkerPartFits w' k H.before → HoldsCopy w' k p moved
copy_of w w' k p moved H F = record { before = H.before; begun = H.begun; news = H.news; fits = F; fresh = H.fresh; amid = H.amid; new = H.new; numbers = H.numbers; copy = H.copy; part = H.part }

-- if each part of the worker fits, and it still holds nothing if it did
pub carried : (w w' : SharedValue) (stopped stops : Bool) (k : ℕ) → (stops ≡ false → stopped ≡ false) → ((p : Private) → HoldsPart w stopped k p → HoldsPart w' stops k p) → ((p : Private) (moved : Moved) → HoldsCopy w k p moved → HoldsCopy w' k p moved)
    → (HoldsNone w k → HoldsNone w' k) → (h : OutPart) → WorkerHolds w stopped k h → WorkerHolds w' stops k h
carried w w' stopped stops k on part copy none Nothing H = none H
carried w w' stopped stops k on part copy none (Part p) H = part p H
carried w w' stopped stops k on part copy none (Copied p moved) H = copy p moved H

module _ (w w' : SharedValue) (e : EntryValue) (E : Enters w w' e) where
  module _ (free : refused w e ≡ None) where
    -- the worker of a task afterwards, and before, since the run went on
    holder : (t k : ℕ) → (heap_of (handed (accounts w')) t).worker ≡ Some k → (heap_of (after w.program w.settings (accounts w) e) t).worker ≡ Some k
    holder t k h = ap (λ (l : Ledger). (heap_of l t).worker) (sym (entered_accounts w w' e E)) ∙ worker_by_end (accounts w') (accounts w').end t k h

    held : (t k : ℕ) → (heap_of (accounts w) t).worker ≡ Some k → (heap_of (handed (accounts w)) t).worker ≡ Some k
    held t k h = ap (λ (l : Ledger). (heap_of l t).worker) (handed_on (accounts w) (entry_on w e free)) ∙ h

    -- WHAT OTHERS HOLD, at an entry of a worker
    pub others_hold : OthersFit w w' e.worker → (k : ℕ) → k ≢ e.worker → (h : OutPart) → WorkerHolds w false k h → WorkerHolds w' false k h
    others_hold O k ne =
        carried w w' false false k (λ q. q)
        (λ p H. record { fits = O k p ne H.fits; idle = H.idle; entered = H.entered })
        (λ p moved H. copy_of w w' k p moved H (O k H.before ne H.fits))
        (λ H t h. H t (held t k (kind_held w.program w.settings (accounts w) e.worker e.kind t k ne (holder t k h))))

    -- WHAT EACH HOLDS, at one for a task that no worker holds
    pub each_holds : is_own e.kind ≡ false → EachPartStillFits w w' → (k : ℕ) (h : OutPart) → WorkerHolds w false k h → WorkerHolds w' false k h
    each_holds apart A k =
        carried w w' false false k (λ q. q)
        (λ p H. record { fits = A k p H.fits; idle = H.idle; entered = H.entered })
        (λ p moved H. copy_of w w' k p moved H (A k H.before H.fits))
        (λ H t h. H t (held t k (apart_held w.program w.settings (accounts w) e.worker e.kind apart t k (holder t k h))))

-- ---- WHEN THE WORLD STOPS

-- what hasn't changed is the same except for capacities
pub places_same : (w after : SharedValue) → after ≡ w → SameButPlaces w after
places_same w after same = subst (SameButPlaces w) (sym same) (same_world w)

pub part_stops : (w : SharedValue) (k : ℕ) (p : Private) → HoldsPart w false k p → HoldsPart w true k p
part_stops w k p H = record { fits = H.fits; idle = H.idle; entered = λ q. absurd (false≢true (sym q)) }

pub stops : (w : SharedValue) (k : ℕ) (h : OutPart) → WorkerHolds w false k h → WorkerHolds w true k h
stops w k = carried w w false true k (λ q. absurd (false≢true (sym q))) (λ p H. part_stops w k p H) (λ p moved H. H) (λ H. H)

pub all_stop : (w : SharedValue) (holdings : List OutPart) → AllHold w false holdings → AllHold w true holdings
all_stop w holdings H k h e = stops w k h (H k h e)

-- out of memory: the accounts are unchanged
pub wants : (w w' : SharedValue) → accounts w' ≡ accounts w → EachPartStillFits w w' → (k : ℕ) (h : OutPart) → WorkerHolds w false k h → WorkerHolds w' true k h
wants w w' same A k =
    carried w w' false true k (λ q. absurd (false≢true (sym q)))
    (λ p H. record { fits = A k p H.fits; idle = H.idle; entered = λ q. absurd (false≢true (sym q)) })
    (λ p moved H. copy_of w w' k p moved H (A k H.before H.fits))
    (λ H t h. H t (ap (λ (l : Ledger). (heap_of (handed l) t).worker) (sym same) ∙ h))

-- ---- ALL HOLDINGS, one of them changed

pub all_with : (w w' : SharedValue) (stopped stops : Bool) (holdings : List OutPart) (k : ℕ) (was old new : OutPart) → slice_get holdings k ≡ Some was → AllHold w stopped holdings → ((j : ℕ) → j ≢ k → (h : OutPart) → WorkerHolds w stopped j h → WorkerHolds w' stops j h) → WorkerHolds w' stops k new
    → AllHold w' stops (slice_set (slice_set holdings k old) k new)
all_with w w' stopped stops holdings k was old new there H others own j h e = elim (cases_eq j k) [
  | inl q ↦
      let at : slice_get (slice_set (slice_set holdings k old) k new) k ≡ Some h = ap (slice_get (slice_set (slice_set holdings k old) k new)) (sym q) ∙ e in
      let is : new ≡ h = same_Some new h (sym (got_same (slice_set holdings k old) k old new (got_same holdings k was old there)) ∙ at) in
      subst (λ i. WorkerHolds w' stops i h) (sym q) (subst (WorkerHolds w' stops k) is own)
  | inr ne ↦ others j ne h (H j h (sym (got_other holdings k j old ne) ∙ (sym (got_other (slice_set holdings k old) k j new ne) ∙ e)))
]
