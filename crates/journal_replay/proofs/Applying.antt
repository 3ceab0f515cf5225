-- How an entry changes all holdings, from how it changes its worker's.
use Rattle.journal_replay.proofs.Common.{◌≡◌, ℕ, true, false, Some, Result, Ok, Err, List, [], ◌∷◌, ◌++◌, length, slice_get, slice_set, refl, ap, sym, subst, ◌∙◌, false≢true, EntryValue, Kind, Took, Ran, Chunk, Begin, End, PutOff, Mark, More, Sweep, Fuel, Refused, is_fuel, kind_refusal, content_at, NotEntered, NoMemory, Refuses, first_cause, or_else, refused, EachPartStillFits, IsSharedValue, SharedValue, accounts, rest_at, refused_is, IsSameRest, SameButPlaces, OutPart, AnswersAll, AnswersApart, AnswersFor, RefusesAll, SameButReserved, SameButRoomier, WantsAll, is_own, AllHold, WorkerHolds}
use Rattle.journal_replay.proofs.Holding.{all_stop, all_with, carried, copy_of, each_holds, others_hold, places_same, stops, wants}

-- ---- BEFORE THE CAUSES OF ITS KIND

own_fuel : (kind : Kind) → is_own kind ≡ true → is_fuel kind ≡ false
own_fuel (Took t) h = refl
own_fuel (Ran t n) h = refl
own_fuel (Chunk t) h = refl
own_fuel (Begin t) h = refl
own_fuel (End t a g n) h = refl
own_fuel (PutOff t) h = refl
own_fuel (Mark t) h = refl
own_fuel (More t n) h = refl
own_fuel (Sweep t g) h = refl
own_fuel Fuel h = absurd (false≢true h)

pub refused_before : (w : SharedValue) (k : ℕ) (kind : Kind) (cause : Refused) → IsSharedValue w → is_own kind ≡ true → first_cause w.end w.steps w.settings k false ≡ Some cause → refused w (record { worker = k; kind = kind }) ≡ Some cause
refused_before w k kind cause I own first =
    refused_is w I (record { worker = k; kind = kind })
    ∙ (ap (λ b. or_else (first_cause w.end w.steps w.settings k b) (kind_refusal w.program w.settings (accounts w) k kind)) (own_fuel kind own)
    ∙ ap (λ o. or_else o (kind_refusal w.program w.settings (accounts w) k kind)) first)

pub stopped_before : (w : SharedValue) (k : ℕ) (kind : Kind) (cause : Refused) (holdings : List OutPart) → IsSharedValue w → is_own kind ≡ true → first_cause w.end w.steps w.settings k false ≡ Some cause → AllHold w false holdings
    → RefusesAll w w (record { worker = k; kind = kind }) cause holdings
stopped_before w k kind cause holdings I own first H = record { cause_is = refused_before w k kind cause I own first; same = refl; holds = all_stop w holdings H }

-- ---- OUT OF MEMORY

pub reserved_by : (w after : SharedValue) → SameButPlaces w after → SameButReserved w after
reserved_by w after S = record {
  journal = ap (λ (z : SharedValue). z.journal.items) S.rest;
  rest = record {
    rest = ap (λ (z : SharedValue). let y : SharedValue = record z { journal = w.journal } in y) S.rest;
    many = S.many;
    rests = S.rests;
    many_sets = S.many_sets;
    sets = S.sets;
  };
}

-- ---- AN ENTRY OF A WORKER

module _ (w after : SharedValue) (e : EntryValue) (I : IsSharedValue w) (holdings : List OutPart) (was : OutPart) (there : slice_get holdings e.worker ≡ Some was) (H : AllHold w false holdings) (between : OutPart) where
  pub made_all : (holding : OutPart) (r : Result (Unit {0}) NotEntered) → AnswersFor w after e.worker e holding r → AnswersAll w after e (slice_set (slice_set holdings e.worker between) e.worker holding) r
  made_all holding (Ok x) R = record {
    free = R.free;
    enters = R.enters;
    holds = all_with w after false false holdings e.worker was between holding there H (λ j ne h K. others_hold w after e R.enters R.free R.others j ne h K) R.holds;
  }
  made_all holding (Err (Refuses cause)) R = record {
    cause_is = R.cause_is;
    same = subst (SameButRoomier w) (sym R.same) refl;
    holds = all_with w after false true holdings e.worker was between holding there H (λ j ne h K. subst (λ z. WorkerHolds z true j h) (sym R.same) (stops w j h K)) R.holds;
  }
  made_all holding (Err NoMemory) R = record {
    same = reserved_by w after R.same;
    holds =
        all_with w after false true holdings e.worker was between holding there H
        (λ j ne h K. wants w after (ap (λ (z : SharedValue). accounts z) R.same.rest) R.still j h K) R.holds;
  }

-- ---- ONE FOR A TASK THAT NO WORKER HOLDS

pub apart_all : (w after : SharedValue) (e : EntryValue) (holdings : List OutPart) (r : Result (Unit {0}) NotEntered) → IsSharedValue w → is_own e.kind ≡ false → AllHold w false holdings → AnswersApart w after e r → AnswersAll w after e holdings r
apart_all w after e holdings (Ok x) I own H R = record { free = R.free; enters = R.enters; holds = λ k h at. each_holds w after e R.enters R.free own R.fit k h (H k h at) }
apart_all w after e holdings (Err (Refuses cause)) I own H R = record {
  cause_is = R.0;
  same = subst (SameButRoomier w) (sym R.1) refl;
  holds = subst (λ z. AllHold z true holdings) (sym R.1) (all_stop w holdings H);
}
apart_all w after e holdings (Err NoMemory) I own H R = record { same = reserved_by w after (places_same w after R); holds = subst (λ z. AllHold z true holdings) (sym R) (all_stop w holdings H) }

-- ---- WITH CAPACITY FOR AN ENTRY

module _ (w mid : SharedValue) (roomier : SameButRoomier w mid) (fit : EachPartStillFits w mid) where
  same_accounts : accounts mid ≡ accounts w
  same_accounts = ap (λ (z : SharedValue). accounts z) roomier

  pub all_mid : (holdings : List OutPart) → AllHold w false holdings → AllHold mid false holdings
  all_mid holdings H = subst (λ z. AllHold z false holdings) (sym roomier) (all_mid_by_cases mid.journal.room (subst (EachPartStillFits w) roomier fit))
    where
      all_mid_by_cases : (room : ℕ) → EachPartStillFits w (record w { journal = record { items = w.journal.items; room = room } }) → AllHold (record w { journal = record { items = w.journal.items; room = room } }) false holdings
      all_mid_by_cases room A k h at = carried w (record w { journal = record { items = w.journal.items; room = room } }) false false k (λ q. q)
          (λ p K. record { fits = A k p K.fits; idle = K.idle; entered = K.entered })
          (λ p moved K. copy_of w (record w { journal = record { items = w.journal.items; room = room } }) k p moved K (A k K.before K.fits))
          (λ K t q. K t q) h (H k h at)

  pub wants_room : (holdings : List OutPart) → AllHold w false holdings → WantsAll w mid holdings
  wants_room holdings H = record {
    same = record { journal = ap (λ (z : SharedValue). z.journal.items) roomier; rest = places_same w (record mid { journal = w.journal }) (ap (λ (z : SharedValue). let y : SharedValue = record z { journal = w.journal } in y) roomier) };
    holds = λ k h at. wants w mid same_accounts fit k h (H k h at);
  }

  pub from_room : (after : SharedValue) (e : EntryValue) (holdings : List OutPart) (r : Result (Unit {0}) NotEntered) → AnswersAll mid after e holdings r → AnswersAll w after e holdings r
  from_room after e holdings (Ok x) R = record {
    free = ap (λ (z : SharedValue). refused z e) (sym roomier) ∙ R.free;
    enters = record {
      journal = R.enters.journal ∙ ap (λ (z : SharedValue). let js : List EntryValue = z.journal.items in js ++ e ∷ []) roomier;
      program = R.enters.program ∙ ap (λ (z : SharedValue). z.program) roomier;
      settings = R.enters.settings ∙ ap (λ (z : SharedValue). z.settings) roomier;
      halted = R.enters.halted ∙ ap (λ (z : SharedValue). z.halted) roomier;
    };
    holds = R.holds;
  }
  from_room after e holdings (Err (Refuses cause)) R = record {
    cause_is = ap (λ (z : SharedValue). refused z e) (sym roomier) ∙ R.cause_is;
    same = R.same ∙ ap (λ (z : SharedValue). let y : SharedValue = record z { journal = record { items = z.journal.items; room = after.journal.room } } in y) roomier;
    holds = R.holds;
  }
  from_room after e holdings (Err NoMemory) R = record {
    same = record {
      journal = R.same.journal ∙ ap (λ (z : SharedValue). z.journal.items) roomier;
      rest = by_room (R.same.rest);
    };
    holds = R.holds;
  }
    where
      -- capacities of slots and sets don't affect the journal
      by_room : SameButPlaces mid (record after { journal = mid.journal }) → SameButPlaces w (record after { journal = w.journal })
      by_room S = record {
        rest =
            ap (λ (z : SharedValue). let y : SharedValue = record z { journal = w.journal } in y) S.rest
            ∙ ap (λ (z : SharedValue). let y : SharedValue = record z { rests = after.rests; sets = after.sets; journal = w.journal } in y) roomier;
        many = S.many ∙ ap (λ (z : SharedValue). length z.rests) roomier;
        rests = λ u. subst (λ (z : SharedValue). IsSameRest (rest_at z.rests u) (rest_at after.rests u)) roomier (S.rests u);
        many_sets = S.many_sets ∙ ap (λ (z : SharedValue). length z.sets) roomier;
        sets = λ u. S.sets u ∙ ap (λ (z : SharedValue). content_at z.sets u) roomier;
      }
