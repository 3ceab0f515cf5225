-- Which entry comes next.
use Rattle.turn_entries.proofs.Common.{◌≡◌, ℕ, ◌<◌, ◌==◌, ◌||◌, Bool, true, false, Option, Some, None, is_some, ap, sym, subst, ◌∙◌, if◌then◌else◌, eq-eqb, ne_eqb, arith, Kind, Begin, Fuel, PutOff, Ran, Refused, is_pool_enough, Private, Paused, first_cause, IsSharedValue, SharedValue, accounts, owed_by, TurnOutcome, Ready, ActsFor, after_steps, brought_kind, due_kind, going_kind, is_out_of_memory, owing_kind, is_over, refl, Owed, Nothing, First, FitsCopied, none_of, Copied as IsCopied, Acts, ComesFirst, ComesNow, BringsTo, IsPaused, MayEnter, NoEntryMade}
use Rattle.turn_entries.specs.declared.between_turns.Copied.{Copied}
use Rattle.turn_entries.specs.declared.between_turns.Ready.TheVariants.{Paused as HasPaused}
use Rattle.turn_entries.proofs.Free.{spent_is}
use Rattle.turn_entries.proofs.Turning.{acts_now, brings_then, going_on}

module _ (w after : SharedValue) (k : ℕ) (ready : Ready) (acted : TurnOutcome) where
  -- another kind that is the same
  pub acts_same : (a b : Option Kind) → a ≡ b → ActsFor w after k ready b acted → ActsFor w after k ready a acted
  acts_same a b e A = subst (λ (o : Option Kind). ActsFor w after k ready o acted) (sym e) A

-- the entry that comes next, by the value in which there is capacity for it
module _ (w after : SharedValue) (k : ℕ) (ready : Ready) (on : is_over w ≡ false) (met : is_out_of_memory ready ≡ false) (same : after ≡ record w { journal = record { items = w.journal.items; room = after.journal.room } }) where
  next_by : (a b : Bool) (o : Option Kind) → a ≡ false → b ≡ false → (if (a || b) then None else o) ≡ o
  next_by a b o x y = ap (λ (c : Bool). if (c || b) then None else o) x ∙ ap (λ (c : Bool). if c then None else o) y

  comes : (kind : Option Kind) → going_kind after k ready ≡ kind → ComesNow w after k ready kind
  comes kind is = record {
    next = next_by (is_over w) (is_out_of_memory ready) (going_kind w k ready) on met ∙ (sym (ap (λ (z : SharedValue). going_kind z k ready) same) ∙ is);
    on = on;
    met = met;
    same = same;
  }

  module _ (I : IsSharedValue after) (below : k < w.settings.workers) (room : 0 < after.journal.room) (o : Option Refused) (is : o ≡ first_cause after.end after.steps after.settings k false) (free : is_some o ≡ false) where
    goes : (accounts after).end ≡ None
    goes = ap (λ (z : SharedValue). (accounts z).end) same ∙ (going_on w on).1

    going : going_kind after k ready ≡ owing_kind after (owed_by after k) ready
    going =
        ap (λ (c : Bool). if c then Some Fuel else owing_kind after (owed_by after k) ready)
        (spent_is after k I goes (subst (λ (z : SharedValue). k < z.settings.workers) (sym same) below) ∙ (ap is_some (sym is) ∙ free))

    pub comes_owing : (owes : Owed) → owed_by after k ≡ owes → ComesNow w after k ready (owing_kind after owes ready) × MayEnter after k owes
    comes_owing owes e = (
      comes (owing_kind after owes ready) (going ∙ ap (λ (x : Owed). owing_kind after x ready) e),
      record {
        room = room;
        goes = goes;
        on = ap (λ (z : SharedValue). z.halted) same ∙ (going_on w on).0;
        free = sym is ∙ none_of o free;
        owed = e;
      },
    )

-- nothing comes before the entry that the worker came for
module _ (w after : SharedValue) (k : ℕ) (ready : Ready) (S : NoEntryMade w after) (first : Option First) (C : ComesFirst w after k ready first) (none : first ≡ None) where
  now : ComesNow w after k ready (brought_kind after ready) × MayEnter after k Nothing
  now = subst (ComesFirst w after k ready) none C

  pub acts_came : (other : Ready) → ready ≡ other → (last : SharedValue) (acted : TurnOutcome) → ActsFor after last k other (brought_kind after other) acted → Acts w last k ready acted
  acts_came other is last acted A = acts_now w after k ready (brought_kind after ready) now.0 S last acted (subst (λ (x : Ready). ActsFor after last k x (brought_kind after x) acted) (sym is) A)

  -- and what it brought fits the value in which there is capacity
  module _ (I : IsSharedValue after) (B : BringsTo w k ready) where
    brings : (other : Ready) → ready ≡ other → BringsTo after k other
    brings other is = subst (BringsTo after k) is (brings_then w after S k ready B)

    pub paused_now : (part : Private) (why : Paused) → ready ≡ HasPaused part why → IsPaused after k part why
    paused_now part why is =
        let b = brings (HasPaused part why) is in
        b.2 after (record { shared = I; program = refl; goes = now.1.goes }) b.1

    pub copied_now : (c : Copied) → ready ≡ IsCopied c → FitsCopied after k c.part c.moved
    copied_now c is =
        let b = brings (IsCopied c) is in
        b.1 after (record { shared = I; program = refl; goes = now.1.goes }) b.0

module _ (w after : SharedValue) (k : ℕ) (part : Private) (acted : TurnOutcome) where
  after_by : (kind : Kind) (b : Bool) → (part.fresh == 0) ≡ b → after_steps part kind ≡ (if b then kind else Ran part.task part.fresh)
  after_by kind b e = ap (λ (c : Bool). if c then kind else Ran part.task part.fresh) e

  pub acts_fresh : (ready : Ready) (kind : Kind) → 0 < part.fresh → ActsFor w after k ready (Some (Ran part.task part.fresh)) acted → ActsFor w after k ready (Some (after_steps part kind)) acted
  acts_fresh ready kind some A = acts_same w after k ready acted _ _ (ap Some (after_by kind false (ne_eqb part.fresh 0 (λ e. absurd (omega (arith, e, some)))))) A

  pub acts_at_once : (ready : Ready) (kind : Kind) → part.fresh ≡ 0 → ActsFor w after k ready (Some kind) acted → ActsFor w after k ready (Some (after_steps part kind)) acted
  acts_at_once ready kind none A = acts_same w after k ready acted _ _ (ap Some (after_by kind true (eq-eqb part.fresh 0 none))) A

-- whether enough chunks are free, by the lent part
pub enough_is : (w : SharedValue) (part seen : Private) (enough b : Bool) → seen ≡ part → enough ≡ is_pool_enough w.settings (accounts w) seen.task → enough ≡ b → is_pool_enough w.settings (accounts w) part.task ≡ b
enough_is w part seen enough b is told e = ap (λ (p : Private). is_pool_enough w.settings (accounts w) p.task) (sym is) ∙ (sym told ∙ e)

-- a due collection begins, or is put off
pub due_begins : (w : SharedValue) (t : ℕ) → is_pool_enough w.settings (accounts w) t ≡ true → due_kind w t ≡ Begin t
due_begins w t e = ap (λ (b : Bool). if b then Begin t else PutOff t) e

pub due_waits : (w : SharedValue) (t : ℕ) → is_pool_enough w.settings (accounts w) t ≡ false → due_kind w t ≡ PutOff t
due_waits w t e = ap (λ (b : Bool). if b then Begin t else PutOff t) e
