-- Why an entry of a worker is refused because of what the worker holds.
use Rattle.journal_replay.proofs.Common.{◌≡◌, ◌≢◌, ℕ, ◌==◌, Bool, true, false, cond, min, Option, Some, None, slice_get, is_some, refl, ap, sym, subst, ◌∙◌, eq-eqb, and_from, eqb-true, false≢true, is_running, Kind, Begin, Chunk, End, PutOff, Ran, TasksAreOut, Ledger, Refused, Collecting, Count, Due, NotCollecting, NotNeeded, NotOut, PoolEnough, PoolShort, ends_as, is_fuel, is_out, is_pool_enough, kind_refusal, long_at, on_due, on_running, refused_if, refused_unless, end_numbers, heap_of, in_use, is_due, is_in_need, most_steps, standing, option_is, tasks_are_out_once, Moved, handed_on, Begun, Private, first_cause, or_else, task_asked, refused, WorkerPartFits, IsSharedValue, SharedValue, accounts, at_part, begun_is, on_is, refused_is, apart_cause, unless_false, HoldsNone, FitsCopied, unless_true, IsCopying, copied_fits, OutPart, Nothing, Copied, copied_cause, idle_cause, WorkerHolds, HoldsCopy, HoldsPart}
use Rattle.journal_replay.specs.declared.out_part.OutPart.TheVariants.{Part}

-- ---- A COPY fits for the end of its collection

pub copying : (w : SharedValue) (k : ℕ) (p : Private) (moved : Moved) → IsSharedValue w → (H : HoldsCopy w k p moved) → IsCopying w k H.before H.begun H.news
copying w k p moved I H = record { shared = I; fits = H.fits; fresh = H.fresh; begun = H.amid; new = H.new; numbers = H.numbers }

pub copy_fits : (w : SharedValue) (k : ℕ) (p : Private) (moved : Moved) → IsSharedValue w → HoldsCopy w k p moved → FitsCopied w k p moved
copy_fits w k p moved I H =
    subst (λ q. FitsCopied w k q moved) (sym H.part) (copied_fits w k H.before H.begun H.news (copying w k p moved I H) p.heap p.frames moved H.copy)

-- ---- TESTS

-- ---- A WORKER THAT MAY MAKE ENTRIES

module _ (w : SharedValue) (k : ℕ) (I : IsSharedValue w) (first : first_cause w.end w.steps w.settings k false ≡ None) where
  abbrev l : Ledger
  l = accounts w

  pub on : l.end ≡ None
  on = on_is w I k false (ap is_some first)

  -- a worker that holds nothing
  none : HoldsNone w k → (t : ℕ) → (heap_of l t).worker ≢ Some k
  none H t h = H t (ap (λ (z : Ledger). (heap_of z t).worker) (handed_on l on) ∙ h)

  holders : TasksAreOut l
  holders = tasks_are_out_once w.program w.settings w.journal.items I.legal

  -- no cause precedes those of its kind
  pub behind : (kind : Kind) → is_fuel kind ≡ false → refused w (record { worker = k; kind = kind }) ≡ kind_refusal w.program w.settings l k kind
  behind kind h =
      refused_is w I (record { worker = k; kind = kind })
      ∙ (ap (λ b. or_else (first_cause w.end w.steps w.settings k b) (kind_refusal w.program w.settings l k kind)) h
      ∙ ap (λ o. or_else o (kind_refusal w.program w.settings l k kind)) first)

  -- it doesn't hold the task
  apart : (t : ℕ) (kind : Kind) (cause : Refused) → task_asked kind ≡ Some t → Some NotOut ≡ Some cause → (heap_of l t).worker ≢ Some k → refused w (record { worker = k; kind = kind }) ≡ Some cause
  apart t kind cause held is ne = apart_cause w I k t kind held (λ e. ne) ∙ (ap (λ o. or_else o (Some NotOut)) first ∙ is)

  -- because it holds another
  other : (t u : ℕ) → (heap_of l u).worker ≡ Some k → (u == t) ≡ false → (heap_of l t).worker ≢ Some k
  other t u held ne h = false≢true (sym ne ∙ eq-eqb u t (holders.one u t k held h))

  out : (t : ℕ) → (heap_of l t).worker ≡ Some k → is_out l k t ≡ true
  out t held =
      and_from (is_running (slice_get l.machine.tasks t)) (option_is (heap_of l t).worker k) (holders.runs on t k held) (ap (λ o. option_is o k) held ∙ eq-eqb k k refl)

  -- a part that has begun a collection
  amid : (p : Private) (b : Begun) (rest : Option Refused) → WorkerPartFits w k p → p.begun ≡ Some b → on_running l k p.task rest ≡ Some Collecting
  amid p b rest F begun = at_part w k p F on rest ∙ ap (λ o. refused_if (is_some o) Collecting rest) begun

  -- AN ENTRY FOR A TASK WHOSE COLLECTION HASN'T BEGUN
  module _ (t : ℕ) (kind : Kind) (rest : Option Refused) (cause : Refused) (held : task_asked kind ≡ Some t) (not_fuel : is_fuel kind ≡ false) (runs : kind_refusal w.program w.settings l k kind ≡ on_running l k t rest) where
    by_part : (p : Private) (b : Bool) → (p.task == t) ≡ b → (heap_of l p.task).worker ≡ Some k → cond b None (Some NotOut) ≡ Some cause → refused w (record { worker = k; kind = kind }) ≡ Some cause
    by_part p true e at is = absurd cc
    by_part p false e at is = apart t kind cause held is (other t p.task at e)

    by_copy : (p q : Private) (b : Begun) (same : Bool) → (p.task == t) ≡ same → p.task ≡ q.task → WorkerPartFits w k q → q.begun ≡ Some b → cond same (Some Collecting) (Some NotOut) ≡ Some cause → refused w (record { worker = k; kind = kind }) ≡ Some cause
    by_copy p q b true e task F begun is =
        let at : t ≡ q.task = sym (eqb-true p.task t e) ∙ task in
        behind kind not_fuel ∙ (runs ∙ (ap (λ u. on_running l k u rest) at ∙ (amid q b rest F begun ∙ is)))
    by_copy p q b false e task F begun is = apart t kind cause held is (other t q.task F.out (ap (λ u. u == t) (sym task) ∙ e))

    by_holding : (h : OutPart) → WorkerHolds w false k h → idle_cause h t ≡ Some cause → refused w (record { worker = k; kind = kind }) ≡ Some cause
    by_holding Nothing H is = apart t kind cause held is (none H t)
    by_holding (Part p) H is = by_part p (p.task == t) refl H.fits.out is
    by_holding (Copied p moved) H is = by_copy p H.before H.begun (p.task == t) refl (ap (λ (q : Private). q.task) H.part) H.fits H.amid is

  pub idle_refused : (t : ℕ) (h : OutPart) (cause : Refused) (kind : Kind) (rest : Option Refused) → WorkerHolds w false k h → idle_cause h t ≡ Some cause → task_asked kind ≡ Some t → is_fuel kind ≡ false → kind_refusal w.program w.settings l k kind ≡ on_running l k t rest
      → refused w (record { worker = k; kind = kind }) ≡ Some cause
  idle_refused t h cause kind rest H is held not_fuel runs = by_holding t kind rest cause held not_fuel runs h H is

  -- THE END OF A COLLECTION
  module _ (t a g n : ℕ) where
    abbrev rest_of : ℕ → Option Refused
    rest_of u = ends_as (a, g, n) (end_numbers l.machine (heap_of l u))

    by_other : (p : Private) (b : Bool) (cause : Refused) → (p.task == t) ≡ b → HoldsPart w false k p → cond b (Some NotCollecting) (Some NotOut) ≡ Some cause → refused w (record { worker = k; kind = End t a g n }) ≡ Some cause
    by_other p true cause e H is =
        let at : t ≡ p.task = sym (eqb-true p.task t e) in
        behind (End t a g n) refl
        ∙ (ap (λ u. refused_unless (is_out l k u) NotOut (refused_unless (is_some (heap_of l u).begun) NotCollecting (rest_of u))) at
        ∙ (unless_true (is_out l k p.task) NotOut (refused_unless (is_some (heap_of l p.task).begun) NotCollecting (rest_of p.task)) (out p.task H.fits.out)
        ∙ (unless_false (is_some (heap_of l p.task).begun) NotCollecting (rest_of p.task) (begun_is w k p H.fits on ∙ ap is_some H.idle) ∙ is)))
    by_other p false cause e H is = apart t (End t a g n) cause refl is (other t p.task H.fits.out e)

    by_same : (p q : Private) (b : Bool) (cause : Refused) → (p.task == t) ≡ b → p.task ≡ q.task → WorkerPartFits w k q → cond b None (Some NotOut) ≡ Some cause → refused w (record { worker = k; kind = End t a g n }) ≡ Some cause
    by_same p q true cause e task F is = absurd cc
    by_same p q false cause e task F is = apart t (End t a g n) cause refl is (other t q.task F.out (ap (λ u. u == t) (sym task) ∙ e))

    pub copied_refused : (h : OutPart) (cause : Refused) → WorkerHolds w false k h → copied_cause h t ≡ Some cause → refused w (record { worker = k; kind = End t a g n }) ≡ Some cause
    copied_refused Nothing cause H is = apart t (End t a g n) cause refl is (none H t)
    copied_refused (Part p) cause H is = by_other p (p.task == t) cause refl H is
    copied_refused (Copied p moved) cause H is = by_same p H.before (p.task == t) cause refl (ap (λ (q : Private). q.task) H.part) H.fits is

  -- of a copy it is refused only for its numbers
  pub said : (p : Private) (moved : Moved) (a g n : ℕ) → FitsCopied w k p moved → refused w (record { worker = k; kind = End p.task a g n }) ≡ ends_as (a, g, n) (moved.taken, moved.given, moved.left)
  said p moved a g n F =
      behind (End p.task a g n) refl
      ∙ (unless_true (is_out l k p.task) NotOut (refused_unless (is_some (heap_of l p.task).begun) NotCollecting (rest_of p.task a g n p.task)) (out p.task F.out)
      ∙ (unless_true (is_some (heap_of l p.task).begun) NotCollecting (rest_of p.task a g n p.task) F.copy.collects ∙ ap (ends_as (a, g, n)) (sym F.numbers)))

-- numbers that aren't wrong are the right ones
module _ (a g n a' g' n' : ℕ) where
  same_first : (x y : ℕ) (rest : Option Refused) → refused_unless (x == y) (Count x y) rest ≡ None → (x ≡ y) × (rest ≡ None)
  same_first x y rest h = same_first_by_cases (x == y) refl h
    where
      same_first_by_cases : (b : Bool) → (x == y) ≡ b → refused_unless b (Count x y) rest ≡ None → (x ≡ y) × (rest ≡ None)
      same_first_by_cases true e h = (eqb-true x y e, h)
      same_first_by_cases false e h = absurd cc

  pub same_numbers : ends_as (a, g, n) (a', g', n') ≡ None → (a ≡ a') × (g ≡ g') × (n ≡ n')
  same_numbers h =
      let x = same_first a a' _ h in
      let y = same_first g g' _ x.1 in
      let z = same_first n n' _ y.1 in
      (x.0, y.0, z.0)

-- ---- OF EACH KIND

module _ (w : SharedValue) (k : ℕ) (I : IsSharedValue w) (first : first_cause w.end w.steps w.settings k false ≡ None) (t : ℕ) (h : OutPart) (cause : Refused) (H : WorkerHolds w false k h) (is : idle_cause h t ≡ Some cause) where
  pub ran_apart : (n : ℕ) → refused w (record { worker = k; kind = Ran t n }) ≡ Some cause
  ran_apart n = idle_refused w k I first t h cause (Ran t n) (long_at n (min most_steps (standing w.settings w.program (accounts w) t n))) H is refl refl refl

  pub chunk_apart : refused w (record { worker = k; kind = Chunk t }) ≡ Some cause
  chunk_apart =
      idle_refused w k I first t h cause (Chunk t)
      (refused_if (is_due w.settings w.program (accounts w) t) (Due (heap_of (accounts w) t).since) (refused_unless (is_in_need w.program (accounts w) t) (NotNeeded (heap_of (accounts w) t).room) None)) H is refl refl refl

  pub begin_apart : refused w (record { worker = k; kind = Begin t }) ≡ Some cause
  begin_apart =
      idle_refused w k I first t h cause (Begin t) (on_due w.settings w.program (accounts w) t (refused_unless (is_pool_enough w.settings (accounts w) t) (PoolShort (in_use (accounts w))) None)) H is refl refl refl

  pub put_off_apart : refused w (record { worker = k; kind = PutOff t }) ≡ Some cause
  put_off_apart =
      idle_refused w k I first t h cause (PutOff t) (on_due w.settings w.program (accounts w) t (refused_if (is_pool_enough w.settings (accounts w) t) (PoolEnough (in_use (accounts w))) None)) H is refl refl refl
