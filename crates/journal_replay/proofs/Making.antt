-- The result of an entry of a worker, from the result of a call of the shared value.
use Rattle.journal_replay.proofs.Common.{◌≡◌, ℕ, true, false, Some, None, Result, Ok, Err, refl, ap, sym, subst, ◌∙◌, OnErr, OnOk, false≢true, none_some, EntryValue, End, Refused, ends_as, Moved, Private, NotEntered, NoMemory, Refuses, first_cause, EntersOrRefuses, Enters, IsCaused, IsSamePart, refused, EachPartStillFits, WorkerPartFits, OthersFit, IsSharedValue, SharedValue, GoesAlone, HaltsAlone, alone_entry, IsUnchanged, Done, Ended, Forked, Over, RanTo, LeavesPart, OutPart, Copied, Made, AnswersFor, EntersFor, MakesFor, RefusesFor, holding_of, WorkerHolds, HoldsCopy, HoldsPart}
use Rattle.legal_calls.specs.below.entry_calls.{Leaving, Ran}
use Rattle.journal_replay.specs.declared.out_part.OutPart.TheVariants.{Part}
use Rattle.journal_replay.proofs.HoldingCauses.{copy_fits, said}
use Rattle.journal_replay.proofs.Holding.{part_stops, places_same, stops}

-- ---- REFUSED

-- nothing has changed
pub refuses_for : (w after : SharedValue) (k : ℕ) (e : EntryValue) (cause : Refused) (holding : OutPart) → after ≡ w → refused w e ≡ Some cause → WorkerHolds w false k holding → RefusesFor w after k e cause holding
refuses_for w after k e cause holding same is H = record { cause_is = is; same = same; holds = subst (λ z. WorkerHolds z true k holding) (sym same) (stops w k holding H) }

-- because of what the worker holds
pub apart_made : (w : SharedValue) (k : ℕ) (e : EntryValue) (holding back : OutPart) (cause : Refused) (made : Made) → made ≡ record { holding = back; answer = Err (Refuses cause) } → back ≡ holding → WorkerHolds w false k holding → refused w e ≡ Some cause → MakesFor w w k e made
apart_made w k e holding back cause made is same H why =
    subst (MakesFor w w k e) (sym is) (refuses_for w w k e cause back refl why (subst (WorkerHolds w false k) (sym same) H))

-- ---- THE PART OF A WORKER, before and after

pub answers_part : (w after : SharedValue) (k : ℕ) (e : EntryValue) (q : Private) (r : Result (Unit {0}) NotEntered) → EntersOrRefuses r (refused w e) → OnErr r (after ≡ w) → OnOk r (Enters w after e) → OnOk r (OthersFit w after k) → HoldsPart after false k q → AnswersFor w after k e (Part q) r
answers_part w after k e q (Ok x) why same enters others H = record { free = why; enters = enters; others = others; holds = H }
answers_part w after k e q (Err (Refuses cause)) why same enters others H = record { cause_is = why; same = same; holds = part_stops after k q H }
answers_part w after k e q (Err NoMemory) why same enters others H = record { same = places_same w after same; still = subst (EachPartStillFits w) (sym same) (λ k p F. F); holds = part_stops after k q H }

pub holds_heap : (after w : SharedValue) (k : ℕ) (p q : Private) → q ≡ record p { heap = q.heap } → HoldsPart w false k p → WorkerPartFits after k q → HoldsPart after false k q
holds_heap after w k p q is H F = record {
  fits = F;
  idle = ap (λ (z : Private). z.begun) is ∙ H.idle;
  entered = λ h. ap (λ (z : Private). z.fresh) is ∙ H.entered refl;
}

-- a collection doesn't begin
pub begin_fails : (w after : SharedValue) (k : ℕ) (e : EntryValue) (p q : Private) (cause : NotEntered) → IsCaused cause (refused w e) → after ≡ w → IsSamePart p q → HoldsPart w false k p → WorkerPartFits after k q → AnswersFor w after k e (Part q) (Err cause)
begin_fails w after k e p q cause why same back H F =
    answers_part w after k e q (Err cause) why same tt tt (record { fits = F; idle = ap (λ (z : Private). z.begun) back ∙ H.idle; entered = λ h. ap (λ (z : Private). z.fresh) back ∙ H.entered refl })

-- ---- STEPS

-- a shared step is committed, and the task goes on
pub goes_made : (w after : SharedValue) (k : ℕ) (p q : Private) → p.begun ≡ None → refused w (alone_entry k p) ≡ None → GoesAlone w after k p q → EntersFor w after k (alone_entry k p) (Part q)
goes_made w after k p q idle free R = record {
  free = free;
  enters = R.enters;
  others = R.others;
  holds = record { fits = R.fits; idle = ap (λ (z : Private). z.begun) R.part ∙ idle; entered = λ h. ap (λ (z : Private). z.fresh) R.part };
}

-- or it has ended the run
pub halts_made : (w after : SharedValue) (k : ℕ) (p q : Private) → p.begun ≡ None → refused w (alone_entry k p) ≡ None → HaltsAlone w after k p q → EntersFor w after k (alone_entry k p) (Part q)
halts_made w after k p q idle free R = record {
  free = free;
  enters = R.enters;
  others = R.others;
  holds = record { fits = R.fits; idle = ap (λ (z : Private). z.begun) R.part ∙ idle; entered = λ h. ap (λ (z : Private). z.fresh) R.part };
}

-- if the next step gives the part up, nothing is committed: what holds of the value and the part is as before
pub leaves_still : (w after : SharedValue) (p q : Private) (leaving : Leaving) → LeavesPart w after p q leaving → (G : SharedValue → Private → Type 0) → G w p → G after q
leaves_still w after p q leaving L G h = subst (λ (z : SharedValue). G z q) (sym L.same) (subst (G w) (sym L.part) h)

pub leaves_before : (w after : SharedValue) (p q : Private) (leaving : Leaving) → LeavesPart w after p q leaving → (G : SharedValue → Private → Type 0) → G after q → G w p
leaves_before w after p q leaving L G h = subst (G w) L.part (subst (λ (z : SharedValue). G z q) L.same h)

-- and one that gives the part up
pub ran_made : (w after : SharedValue) (k : ℕ) (p : Private) (r : Ran) → p.begun ≡ None → refused w (alone_entry k p) ≡ None → RanTo w after k p r → EntersFor w after k (alone_entry k p) (holding_of r)
ran_made w after k p (Forked left right) idle free R = record { free = free; enters = R.0.enters; others = R.0.others; holds = R.1 }
ran_made w after k p (Ended resumed) idle free R = record { free = free; enters = R.0.enters; others = R.0.others; holds = R.1 }
ran_made w after k p (Over q) idle free R = halts_made w after k p q idle free R
ran_made w after k p Done idle free R = record { free = free; enters = R.enters; others = R.others; holds = λ t held. none_some (sym (R.rest t) ∙ held) }

-- an allocation for it fails
pub ran_fails : (w after : SharedValue) (k : ℕ) (e : EntryValue) (p q : Private) (cause : NotEntered) → refused w e ≡ None → IsCaused cause (refused w e) → IsUnchanged cause w after → EachPartStillFits w after → q ≡ p → p.begun ≡ None → WorkerPartFits w k p → AnswersFor w after k e (Part q) (Err cause)
ran_fails w after k e p q (Refuses cause) free why same still back idle F = none_some (sym free ∙ why)
ran_fails w after k e p q NoMemory free why same still back idle F = record {
  same = same;
  still = still;
  holds = record { fits = subst (WorkerPartFits after k) (sym back) (still k p F); idle = ap (λ (z : Private). z.begun) back ∙ idle; entered = λ h. absurd (false≢true (sym h)) };
}

-- a part whose steps aren't committed, after the world stops
pub stopped_part : (w : SharedValue) (k : ℕ) (p : Private) → WorkerPartFits w k p → p.begun ≡ None → HoldsPart w true k p
stopped_part w k p F idle = record { fits = F; idle = idle; entered = λ h. absurd (false≢true (sym h)) }

-- ---- A COLLECTION ENDS

-- its numbers are wrong
pub miscounts : (w : SharedValue) (k : ℕ) → IsSharedValue w → first_cause w.end w.steps w.settings k false ≡ None → (t : ℕ) (p : Private) (moved : Moved) (a g n : ℕ) (cause : Refused) → HoldsCopy w k p moved → p.task ≡ t → ends_as (a, g, n) (moved.taken, moved.given, moved.left) ≡ Some cause
    → RefusesFor w w k (record { worker = k; kind = End t a g n }) cause (Copied p moved)
miscounts w k I first t p moved a g n cause H task is = record {
  cause_is = ap (λ u. refused w (record { worker = k; kind = End u a g n })) (sym task) ∙ (said w k I first p moved a g n (copy_fits w k p moved I H) ∙ is);
  same = refl;
  holds = H;
}
