-- The parts that workers hold stand together in the shared value.
use Rattle.journal_replay.proofs.Common.{◌≡◌, ℕ, zero, suc, Bool, Option, Some, None, List, [], ◌∷◌, slice_get, inl, inr, refl, ap, sym, subst, ◌∙◌, arith, false≢true, same_Some, got_within, got_some, none_some, ProgramText, is_running, Entangled, Trapped, heap_of, let_go, TasksAreOut, task_steps, Ledger, RunEnd, Machine, Pool, tasks_are_out_once, LedgerIsKnown, Rests, aside, legal_knows, rested_knows, rested_worker, Part as PartOf, ahead, NotOf, all_ahead, In, WorkerFits, WorkersFit, by_end, handed, all_fit_together, part_of, IsSharedValue, SharedValue, accounts, value_of, worker_by_end, some_flat, done_idles, OutPart, Nothing, Copied, AreParts, HoldsOneOf, IsPartIn, PartsStand, StandsTogether, with_parts, WorkerHolds, IsWhole, WorldValue}
use Rattle.heap_reading.specs.below.hh_model.{Done}
use Rattle.heap_reading.specs.below.run_ledger.{Fuel}
use Rattle.journal_replay.specs.declared.out_part.OutPart.TheVariants.{Part}
use Rattle.journal_replay.proofs.Aside.{fits_aside, knows_aside, stands_aside}
use Rattle.journal_replay.proofs.HoldingCauses.{copy_fits}
use Rattle.journal_replay.proofs.WasHeld.{WasHeld, one_held, steps_held, then_held}

-- ---- THE PARTS

not_of : (t : ℕ) (qs : List PartOf) → ((q : PartOf) → In qs q → t ≡ q.task → ⊥) → NotOf t qs
not_of t [] h = tt
not_of t (q ∷ qs) h = (h q (inl refl), not_of t qs (λ r i. h r (inr i)))

-- the parts in some holdings, of which the j-th is that of the worker `of j`
record Found (w : SharedValue) (of : ℕ → ℕ) (holdings : List OutPart) : Type 0 where
  parts : List PartOf
  fit : WorkersFit w.program w.settings parts (value_of w) (accounts w)
  from : (q : PartOf) → In parts q → (j : ℕ) × (h : OutPart) × (slice_get holdings j ≡ Some h) × IsPartIn w (of j) h q × ((heap_of (accounts w) q.task).worker ≡ Some (of j))
  all : (j : ℕ) (h : OutPart) → slice_get holdings j ≡ Some h → HoldsOneOf w (of j) h parts

one_more : (w : SharedValue) (k : ℕ) (h : OutPart) (qs : List PartOf) (q : PartOf) → HoldsOneOf w k h qs → HoldsOneOf w k h (q ∷ qs)
one_more w k Nothing qs q H = tt
one_more w k (Part p) qs q H = (H.0, inr H.1, H.2)
one_more w k (Copied p moved) qs q H = (H.0, inr H.1, H.2)

first_is_held : (w : SharedValue) (k : ℕ) (h : OutPart) (qs : List PartOf) (q : PartOf) → IsPartIn w k h q → HoldsOneOf w k h (q ∷ qs)
first_is_held w k Nothing qs q i = tt
first_is_held w k (Part p) qs q i = (q, inl refl, i)
first_is_held w k (Copied p moved) qs q i = (q, inl refl, i)

module _ (w : SharedValue) (holders : TasksAreOut (accounts w)) where
  -- a holding of a part, before others
  with_part : (of : ℕ → ℕ) → ((i j : ℕ) → of i ≡ of j → i ≡ j) → (h : OutPart) (hs : List OutPart) (q : PartOf) → IsPartIn w (of 0) h q → WorkerFits w.program w.settings q (value_of w) (accounts w) → (heap_of (accounts w) q.task).worker ≡ Some (of 0)
      → Found w (λ j. of (suc j)) hs → Found w of (h ∷ hs)
  with_part of inj h hs q i F held R = record {
    parts = q ∷ R.parts;
    fit = (F, not_of q.task R.parts other, R.fit);
    from = λ r m. from r m;
    all = all;
  }
    where
      other : (r : PartOf) → In R.parts r → q.task ≡ r.task → ⊥
      other r m e =
          let z = R.from r m in
          let same : of 0 ≡ of (suc z.0) = same_Some (of 0) (of (suc z.0)) (sym held ∙ (ap (λ t. (heap_of (accounts w) t).worker) e ∙ z.4)) in
          let no : 0 ≡ suc z.0 = inj 0 (suc z.0) same in
          absurd (omega (arith, no))

      from : (r : PartOf) → In (q ∷ R.parts) r → (j : ℕ) × (g : OutPart) × (slice_get (h ∷ hs) j ≡ Some g) × IsPartIn w (of j) g r × ((heap_of (accounts w) r.task).worker ≡ Some (of j))
      from r (inl e) = (0, h, refl, subst (IsPartIn w (of 0) h) e i, ap (λ (z : PartOf). (heap_of (accounts w) z.task).worker) (sym e) ∙ held)
      from r (inr m) = let z = R.from r m in (suc z.0, z.1, z.2, z.3, z.4)

      all : (j : ℕ) (g : OutPart) → slice_get (h ∷ hs) j ≡ Some g → HoldsOneOf w (of j) g (q ∷ R.parts)
      all zero g e = subst (λ z. HoldsOneOf w (of 0) z (q ∷ R.parts)) (same_Some h g e) (first_is_held w (of 0) h R.parts q i)
      all (suc j) g e = one_more w (of (suc j)) g R.parts q (R.all j g e)

  -- one that holds nothing
  with_none : (of : ℕ → ℕ) (hs : List OutPart) → Found w (λ j. of (suc j)) hs → Found w of (Nothing ∷ hs)
  with_none of hs R = record {
    parts = R.parts;
    fit = R.fit;
    from = λ r m. (let z = R.from r m in (suc z.0, z.1, z.2, z.3, z.4));
    all = all;
  }
    where
      all : (j : ℕ) (g : OutPart) → slice_get (Nothing ∷ hs) j ≡ Some g → HoldsOneOf w (of j) g R.parts
      all zero g e = subst (λ z. HoldsOneOf w (of 0) z R.parts) (same_Some Nothing g e) tt
      all (suc j) g e = R.all j g e

  found : (stopped : Bool) (of : ℕ → ℕ) → ((i j : ℕ) → of i ≡ of j → i ≡ j) → (hs : List OutPart) → ((j : ℕ) (h : OutPart) → slice_get hs j ≡ Some h → WorkerHolds w stopped (of j) h) → Found w of hs
  found stopped of inj [] H = record { parts = []; fit = tt; from = λ q m. absurd m; all = λ j h e. absurd cc }
  found stopped of inj (h ∷ hs) H =
      let R : Found w (λ j. of (suc j)) hs = found stopped (λ j. of (suc j)) (λ i j e. (let z : suc i ≡ suc j = inj (suc i) (suc j) e in omega (arith, z))) hs (λ j g e. H (suc j) g e) in
      found_by_cases h (H 0 h refl) R
    where
      found_by_cases : (h : OutPart) → WorkerHolds w stopped (of 0) h → Found w (λ j. of (suc j)) hs → Found w of (h ∷ hs)
      found_by_cases Nothing K R = with_none of hs R
      found_by_cases (Part p) K R = with_part of inj (Part p) hs (part_of w.settings p) refl K.fits.fits K.fits.out R
      found_by_cases (Copied p moved) K R = with_part of inj (Copied p moved) hs (part_of w.settings K.before) (K, refl) K.fits.fits K.fits.out R

-- ---- NO TASK IS HELD in the accounts with all parts at rest

ahead_held : (p : ProgramText) (q : PartOf) (l : Ledger) → WasHeld l (ahead p q l)
ahead_held p q l =
    let m : Ledger = task_steps p l q.task q.fresh in
    then_held l m (ahead p q l) (steps_held p q.fresh l q.task) (one_held m q.task let_go (λ h k e. none_some e))

all_ahead_held : (p : ProgramText) (qs : List PartOf) (l : Ledger) → WasHeld l (all_ahead p qs l)
all_ahead_held p [] l = λ u k e. e
all_ahead_held p (q ∷ qs) l = then_held l (ahead p q l) (all_ahead p qs (ahead p q l)) (ahead_held p q l) (all_ahead_held p qs (ahead p q l))

still_free : (l l' : Ledger) (t : ℕ) → WasHeld l l' → Rests l t → Rests l' t
still_free l l' t W free = still_free_by_cases (heap_of l' t).worker refl
  where
    still_free_by_cases : (o : Option ℕ) → (heap_of l' t).worker ≡ o → o ≡ None
    still_free_by_cases None e = refl
    still_free_by_cases (Some k) e = none_some (sym free ∙ W t k e)

freed : (p : ProgramText) (qs : List PartOf) (l : Ledger) (t : ℕ) (q : PartOf) → In qs q → q.task ≡ t → Rests (all_ahead p qs l) t
freed p [] l t q m e = absurd m
freed p (r ∷ qs) l t q (inl same) e =
    let at : r.task ≡ t = ap (λ (z : PartOf). z.task) same ∙ e in
    still_free (ahead p r l) (all_ahead p qs (ahead p r l)) t (all_ahead_held p qs (ahead p r l)) (subst (Rests (ahead p r l)) at (rested_worker (task_steps p l r.task r.fresh) r.task))
freed p (r ∷ qs) l t q (inr m) e = freed p qs (ahead p r l) t q m e

-- ---- TOGETHER

module _ (x : WorldValue) (I : IsSharedValue x.shared) (W : IsWhole x) where
  abbrev w : SharedValue
  w = x.shared

  holds_tasks : TasksAreOut (accounts w)
  holds_tasks = tasks_are_out_once w.program w.settings w.journal.items I.legal

  abbrev l : Ledger
  l = accounts w

  -- without the machine's end, and with the root returned after the run is done
  abbrev L : Ledger
  L = aside (handed l)

  handed_knows : (o : Option RunEnd) → LedgerIsKnown l → LedgerIsKnown (by_end l o)
  handed_knows None K = K
  handed_knows (Some (Fuel n)) K = K
  handed_knows (Some (Pool n)) K = K
  handed_knows (Some (Machine Done)) K = rested_knows l 0 K
  handed_knows (Some (Machine (Trapped kind t line))) K = K
  handed_knows (Some (Machine (Entangled t u))) K = K

  knows : LedgerIsKnown L
  knows = knows_aside (handed l) (handed_knows l.end (legal_knows w.program w.settings w.journal.items I.legal))

  -- a part still fits: after the run is done there is none
  one_fits : (q : PartOf) → WorkerFits w.program w.settings q (value_of w) l → WorkerFits w.program w.settings q (value_of w) L
  one_fits q F = one_fits_by_cases l.end refl
    where
      one_fits_same : WorkerFits w.program w.settings q (value_of w) (aside l)
      one_fits_same = fits_aside w.program w.settings q (value_of w) l F

      one_fits_by_cases : (o : Option RunEnd) → l.end ≡ o → WorkerFits w.program w.settings q (value_of w) (aside (by_end l o))
      one_fits_by_cases None e = one_fits_same
      one_fits_by_cases (Some (Fuel n)) e = one_fits_same
      one_fits_by_cases (Some (Pool n)) e = one_fits_same
      one_fits_by_cases (Some (Machine Done)) e = absurd (false≢true (sym (done_idles w.program w.settings w.journal.items I.form I.legal e q.task) ∙ (ap is_running F.is ∙ F.runs)))
      one_fits_by_cases (Some (Machine (Trapped kind t line))) e = one_fits_same
      one_fits_by_cases (Some (Machine (Entangled t u))) e = one_fits_same

  all_fit : (qs : List PartOf) → WorkersFit w.program w.settings qs (value_of w) l → WorkersFit w.program w.settings qs (value_of w) L
  all_fit [] A = tt
  all_fit (q ∷ qs) A = (one_fits q A.0, A.1, all_fit qs A.2)

  R : Found w (λ j. j) x.holdings
  R = found w holds_tasks x.stopped (λ j. j) (λ i j e. e) x.holdings W.holdings

  parts_are : AreParts x R.parts
  parts_are = record {
    each = λ q m. (let z = R.from q m in (z.0, record { holding = z.1; is = z.2; part = z.3 }));
    all = R.all;
  }

  -- a worker that holds a task holds its part
  out : (t k : ℕ) → (heap_of L t).worker ≡ Some k → Rests (with_parts w R.parts) t
  out t k e = out_by_cases holding.0 (W.holdings k holding.0 holding.1) (R.all k holding.0 holding.1)
    where
      listed : slice_get w.tasks_out k ≡ Some (Some t)
      listed = some_flat (slice_get w.tasks_out k) t ((I.stands.tree_counts.task_out k t).1 e)

      holding : (h : OutPart) × (slice_get x.holdings k ≡ Some h)
      holding = got_some x.holdings k (let a = got_within w.tasks_out k (Some t) listed in let b = I.workers in let c = W.count in omega (arith, a, b, c))

      out_at : (q : PartOf) (u : ℕ) → q.task ≡ u → In R.parts q → (heap_of l u).worker ≡ Some k → Rests (with_parts w R.parts) t
      out_at q u is m held = freed w.program R.parts L t q m (is ∙ holds_tasks.one u t k held (worker_by_end l l.end t k e))

      out_by_cases : (h : OutPart) → WorkerHolds w x.stopped k h → HoldsOneOf w k h R.parts → Rests (with_parts w R.parts) t
      out_by_cases Nothing H O = absurd (H t e)
      out_by_cases (Part p) H O = out_at O.0 p.task (ap (λ (z : PartOf). z.task) O.2) O.1 H.fits.out
      out_by_cases (Copied p moved) H O = out_at O.0 O.2.0.before.task (ap (λ (z : PartOf). z.task) O.2.1) O.1 O.2.0.fits.out

  rest : (t : ℕ) → Rests (with_parts w R.parts) t
  rest t = rest_by_cases (heap_of L t).worker refl
    where
      rest_by_cases : (o : Option ℕ) → (heap_of L t).worker ≡ o → Rests (with_parts w R.parts) t
      rest_by_cases None e = still_free L (with_parts w R.parts) t (all_ahead_held w.program R.parts L) e
      rest_by_cases (Some k) e = out t k e

  parts_stand : PartsStand x
  parts_stand = record {
    parts = R.parts;
    are = parts_are;
    stands = all_fit_together w.program w.settings R.parts (value_of w) L knows refl (stands_aside (value_of w) (handed l) I.stands.belongings) (all_fit R.parts R.fit);
    rest = rest;
  }

  pub stands_together : StandsTogether x
  stands_together = record {
    parts = parts_stand;
    copies = λ k p moved e. copy_fits w k p moved I (W.holdings k (Copied p moved) e);
  }
