-- Values before and after a turn.
use Rattle.turn_entries.proofs.Common.{◌≡◌, ℕ, ◌+◌, ◌++◌, ◌∷◌, [], ◌||◌, Bool, true, false, List, Option, Some, None, is_some, length, refl, ap, sym, subst, ◌∙◌, inl, inr, false≢true, EntryValue, Kind, Ran, Took, RunEnd, Shared, Private, Enters, refused, EachPartStillFits, WorkerPartFits, OthersFit, NotEntered, NoMemory, Refuses, IsSharedValue, SharedValue, accounts, running_parent, HoldsNone, IsUnchanged, SameButPlaces, none_of, TurnOutcome, Entered, Same, Next, Running, Forked, Resumed, Idle, Waits, Stop, Ready, Copied as IsCopied, Found, OutOfMemory, ActsFor, after_end, EndsHalted, ComesNext, Goes, WhyNone, is_out_of_memory, BringsTo, next_after, EntersOne, NoEntryMade, is_over, Acts, Result, Ok, Err, IfOk, IfErr, OnErr, EntersLeaving, RanTo, NotLeft, ComesNow}
use Rattle.entry_calls.specs.declared.answers.Ran.{Ran as RanOf}
use Rattle.turn_entries.specs.declared.between_turns.Next.TheVariants.{Collecting as Collects, Copied as HasCopied, Found as GoesFor}
use Rattle.turn_entries.specs.declared.between_turns.Ready.TheVariants.{Paused as HasPaused}

-- ---- NO ENTRY

pub unchanged : (w after : SharedValue) → after ≡ w → NoEntryMade w after
unchanged w after e = record { journal = ap (λ (z : SharedValue). z.journal.items) e; program = ap (λ (z : SharedValue). z.program) e; settings = ap (λ (z : SharedValue). z.settings) e; all = λ k p f. subst (λ (z : SharedValue). WorkerPartFits z k p) (sym e) f }

pub placed : (w after : SharedValue) → SameButPlaces w after → EachPartStillFits w after → NoEntryMade w after
placed w after S all = record { journal = ap (λ (z : SharedValue). z.journal.items) S.rest; program = ap (λ (z : SharedValue). z.program) S.rest; settings = ap (λ (z : SharedValue). z.settings) S.rest; all = all }

pub unentered : (w after : SharedValue) (cause : NotEntered) → IsUnchanged cause w after → EachPartStillFits w after → NoEntryMade w after
unentered w after (Refuses cause) same all = unchanged w after same
unentered w after NoMemory same all = placed w after same all

-- and then what is known of the value afterwards
module _ (w after : SharedValue) (S : NoEntryMade w after) where
  pub then_same : (last : SharedValue) → NoEntryMade after last → NoEntryMade w last
  then_same last T = record { journal = T.journal ∙ S.journal; program = T.program ∙ S.program; settings = T.settings ∙ S.settings; all = λ k p f. T.all k p (S.all k p f) }

  pub then_one : after.halted ≡ w.halted → (last : SharedValue) (k : ℕ) (kind : Kind) → EntersOne after last k kind → EntersOne w last k kind
  then_one on last k kind E = record {
    enters = record { journal = E.enters.journal ∙ ap (λ (l : List EntryValue). l ++ record { worker = k; kind = kind } ∷ []) S.journal; program = E.enters.program ∙ S.program; settings = E.enters.settings ∙ S.settings; halted = E.enters.halted ∙ on };
    others = λ j p ne f. E.others j p ne (S.all j p f);
  }

  pub brings_then : (k : ℕ) (ready : Ready) → BringsTo w k ready → BringsTo after k ready
  brings_then k (HasPaused part why) B = (B.0, S.all k B.0 B.1, λ z G f. B.2 z (record { shared = G.shared; program = G.program ∙ S.program; goes = G.goes }) f)
  brings_then k (IsCopied c) B = (S.all k c.begun.value B.0, λ z G f. B.1 z (record { shared = G.shared; program = G.program ∙ S.program; goes = G.goes }) f)
  brings_then k (Found task) B = tt
  brings_then k OutOfMemory B = tt

-- ---- ONE ENTRY

pub all_others : (w after : SharedValue) (k : ℕ) → EachPartStillFits w after → OthersFit w after k
all_others w after k all = λ j p ne f. all j p f

pub one : (w after : SharedValue) (k : ℕ) (kind : Kind) → Enters w after (record { worker = k; kind = kind }) → OthersFit w after k → EntersOne w after k kind
one w after k kind enters others = record { enters = enters; others = others }

pub one_of_all : (w after : SharedValue) (k : ℕ) (kind : Kind) → Enters w after (record { worker = k; kind = kind }) → EachPartStillFits w after → EntersOne w after k kind
one_of_all w after k kind enters all = one w after k kind enters (all_others w after k all)

-- after an entry by which every part still fits, the worker goes on with what it brought
pub follows_paid : (w after : SharedValue) (k : ℕ) (ready : Ready) → IsSharedValue w → (accounts w).end ≡ None → is_out_of_memory ready ≡ false → BringsTo w k ready → EachPartStillFits w after → after.program ≡ w.program → (accounts after).end ≡ None → ComesNext w after k ready (next_after ready)
follows_paid w after k (HasPaused part why) I on met B all same goes =
    let P = (B.2 w (record { shared = I; program = refl; goes = on }) B.1).may in
    (goes, record { fits = all k part P.fits; few = P.few; idle = P.idle })
follows_paid w after k (IsCopied c) I on met B all same goes = (goes, refl, all k c.begun.value B.0, λ z G f. B.1 z (record { shared = G.shared; program = G.program ∙ same; goes = G.goes }) f)
follows_paid w after k (Found (Some t)) I on met B all same goes = (goes, refl)
follows_paid w after k (Found None) I on met B all same goes = (goes, inl refl)
follows_paid w after k OutOfMemory I on met B all same goes = absurd (false≢true (sym met))

-- after the end of its task
pub follows_end : (w after : SharedValue) (k : ℕ) (part : Private) (resumed : Option ℕ) → Goes after → HoldsNone after k → resumed ≡ running_parent (accounts after).machine.tasks part.task → ComesNext w after k (HasPaused part Shared) (after_end resumed)
follows_end w after k part None goes none is = (goes, inr (record { part = part; brought = refl; none = none }, sym is))
follows_end w after k part (Some parent) goes none is = (goes, record { part = part; brought = refl; none = none }, sym is)

-- ---- HOW A TURN ENDS

none_over : (halted : Bool) (end : Option RunEnd) → halted ≡ false → end ≡ None → (halted || is_some end) ≡ false
none_over true end a b = absurd (false≢true (sym a))
none_over false None a b = refl
none_over false (Some e) a b = absurd cc

pub not_over : (w : SharedValue) → w.halted ≡ false → (accounts w).end ≡ None → is_over w ≡ false
not_over w on goes = none_over w.halted (accounts w).end on goes

both_none : (halted : Bool) (end : Option RunEnd) → (halted || is_some end) ≡ false → (halted ≡ false) × (end ≡ None)
both_none true end h = absurd (false≢true (sym h))
both_none false None h = (refl, refl)
both_none false (Some e) h = absurd (false≢true (sym h))

pub going_on : (w : SharedValue) → is_over w ≡ false → (w.halted ≡ false) × ((accounts w).end ≡ None)
going_on w on = both_none w.halted (accounts w).end on

-- after an entry that didn't end the run
pub entered_goes : (w after : SharedValue) (k : ℕ) (ready : Ready) (kind : Kind) (next : Next) (ends : Bool) → IsSharedValue after → ends ≡ is_some (accounts after).end → ends ≡ false
    → EntersOne w after k kind → w.halted ≡ false → (Goes after → ComesNext w after k ready next) → ActsFor w after k ready (Some kind) (Entered next)
entered_goes w after k ready kind next ends I is going E on follows = record {
  made = kind;
  is_next = refl;
  enters = E;
  shared = I;
  on = E.enters.halted ∙ on;
  follows = follows (none_of (accounts after).end (sym is ∙ going));
}

pub halts_with : (same after : SharedValue) → after ≡ record same { halted = true } → EachPartStillFits same after → EndsHalted same after (Same Stop)
halts_with same after is all = λ w k ready kind none on.
    let halts : NoEntryMade same after = record { journal = ap (λ (z : SharedValue). z.journal.items) is; program = ap (λ (z : SharedValue). z.program) is; settings = ap (λ (z : SharedValue). z.settings) is; all = all } in
    (then_same w same none after halts, (ap is_over is, λ over. absurd (false≢true (sym on ∙ over))))

-- ---- THE STEP THAT GIVES A PART UP

module _ (w after : SharedValue) (k : ℕ) (part : Private) (left : Result RanOf NotLeft) (E : EntersLeaving w after k part left) where
  pub left_to : (ran : RanOf) → left ≡ Ok ran → RanTo w after k part ran
  left_to ran e = subst (λ (x : Result RanOf NotLeft). IfOk x (RanTo w after k part)) e E.answered

  pub left_none : (failed : NotLeft) → left ≡ Err failed → NoEntryMade w after
  left_none failed e =
      unentered w after failed.cause (subst (λ (x : Result RanOf NotLeft). IfErr x (λ (f : NotLeft). IsUnchanged f.cause w after)) e E.same)
      (subst (λ (x : Result RanOf NotLeft). OnErr x (EachPartStillFits w after)) e E.still)

-- ---- THE SAME IF A CALL BEFORE IT CHANGED NOTHING

pub acts_same : (w same after : SharedValue) (k : ℕ) (p q : Private) → same ≡ w → q ≡ p → (acted : TurnOutcome) → ActsFor same after k (HasPaused q Shared) (Some (Ran q.task (q.fresh + 1))) acted → ActsFor w after k (HasPaused p Shared) (Some (Ran p.task (p.fresh + 1))) acted
acts_same w same after k p q e part acted A =
    subst (λ (z : Private). ActsFor w after k (HasPaused z Shared) (Some (Ran z.task (z.fresh + 1))) acted) part
    (subst (λ (z : SharedValue). ActsFor z after k (HasPaused q Shared) (Some (Ran q.task (q.fresh + 1))) acted) e A)

-- ---- THE SAME FROM THE VALUE BEFORE CAPACITY WAS RESERVED FOR AN ENTRY

module _ (w after : SharedValue) (k : ℕ) (ready : Ready) (kind : Option Kind) (C : ComesNow w after k ready kind) (S : NoEntryMade w after) where
  follows_then : (last : SharedValue) (next : Next) → ComesNext after last k ready next → ComesNext w last k ready next
  follows_then last (Running part) f = f
  follows_then last (Collects c) f = f
  follows_then last (HasCopied c) f = f
  follows_then last (GoesFor t) f = f
  follows_then last (Forked left right) f = (f.0, f.1, f.2 ∙ ap (λ (z : SharedValue). length (accounts z).machine.tasks) C.same, f.3)
  follows_then last (Resumed t) f = f
  follows_then last Idle f = f
  follows_then last Waits f = f
  follows_then last Stop f = f

  none_then : (last : SharedValue) (next : Next) → WhyNone after last k ready kind next → WhyNone w last k ready kind next
  none_then last (Running part) f = f
  none_then last (Collects c) f = f
  none_then last (HasCopied c) f = f
  none_then last (GoesFor t) f = f
  none_then last (Forked left right) f = f
  none_then last (Resumed t) f = f
  none_then last Idle f = (f.0, f.1, f.2, ap (λ (z : SharedValue). is_some (refused z (record { worker = k; kind = Took f.1 }))) (sym C.same) ∙ f.3)
  none_then last Waits f = (f.0, C.on, f.2, f.3)
  none_then last Stop f = (f.0, λ over. absurd (false≢true (sym C.on ∙ over)))

  acts_then : (last : SharedValue) (acted : TurnOutcome) → ActsFor after last k ready kind acted → ActsFor w last k ready kind acted
  acts_then last (Entered next) A = record {
    made = A.made;
    is_next = A.is_next;
    enters = then_one w after S (ap (λ (z : SharedValue). z.halted) C.same) last k A.made A.enters;
    shared = A.shared;
    on = A.on;
    follows = follows_then last next A.follows;
  }
  acts_then last (Same next) A = (then_same w after S last A.0, none_then last next A.1)

  pub acts_now : (last : SharedValue) (acted : TurnOutcome) → ActsFor after last k ready kind acted → Acts w last k ready acted
  acts_now last acted A = subst (λ (o : Option Kind). ActsFor w last k ready o acted) (sym C.next) (acts_then last acted A)
