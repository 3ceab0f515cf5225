-- What is wrong with a task after its last turn, by what is known and by what happens.
use Rattle.log_tasks.proofs.Common.{◌≡◌, ◌≢◌, ◌<◌, ◌≤◌, ◌==◌, ◌∷◌, ◌∙◌, ◌⊎◌, inl, inr, ℕ, Bool, true, false, List, [], length, get_or, refl, sym, ap, subst, Option, Some, None, arith, ◌&&◌, max, nat_tests, cases_lt, Act, GraphTurn, GraphStrand, Extent, Whole, tasks_in, strand, last_of, Event, is_on, acts_on, StrandEnd, TaskCause, HasNoEnd, GoesOnAfterEnd, Told, end_of, DoesSomething, log_strand, KnowsEvents, greater, number_if, index_of, top_of, end_told, top_told, HasCause, goes_past, end_cause_by, end_cause_of}
use Rattle.log_tasks.proofs.Spawning.{on_same, same_number}

-- THE GREATEST NUMBER

-- a strand that does something has a number that is no greater
record IsTop (events : List Event) (n : ℕ) (top : Option ℕ) : Type 0 where
  above : (i : ℕ) → DoesSomething events (strand n i) → (j : ℕ) × (top ≡ Some j) × (i ≤ j)
  there : (j : ℕ) → top ≡ Some j → DoesSomething events (strand n j)

acts_of_other : (e : Event) (rest : List Event) (u : GraphStrand) → is_on u e ≡ false → acts_on (e ∷ rest) u ≡ acts_on rest u
acts_of_other e rest u t = rw t refl

acts_of_that : (e : Event) (rest : List Event) (u : GraphStrand) → is_on u e ≡ true → acts_on (e ∷ rest) u ≡ e.act ∷ acts_on rest u
acts_of_that e rest u t = rw t refl

not_nothing : (a : Act) (more : List Act) → a ∷ more ≢ []
not_nothing a more e = cc

does_here : (e : Event) (rest : List Event) (u : GraphStrand) → is_on u e ≡ true → DoesSomething (e ∷ rest) u
does_here e rest u t z = not_nothing e.act (acts_on rest u) (sym (acts_of_that e rest u t) ∙ z)

does_later : (e : Event) (rest : List Event) (u : GraphStrand) → DoesSomething rest u → DoesSomething (e ∷ rest) u
does_later e rest u h = by_test (is_on u e) refl
  where
    by_test : (b : Bool) → is_on u e ≡ b → DoesSomething (e ∷ rest) u
    by_test true t = does_here e rest u t
    by_test false t = λ z. h (sym (acts_of_other e rest u t) ∙ z)

does_cases : (e : Event) (rest : List Event) (u : GraphStrand) → DoesSomething (e ∷ rest) u → (e.strand ≡ u) ⊎ DoesSomething rest u
does_cases e rest u h = by_test (is_on u e) refl
  where
    by_test : (b : Bool) → is_on u e ≡ b → (e.strand ≡ u) ⊎ DoesSomething rest u
    by_test true t = inl (on_same u e t)
    by_test false t = inr (λ z. h (acts_of_other e rest u t ∙ z))

greater_some : (a b : Option ℕ) (j : ℕ) → greater a b ≡ Some j → (a ≡ Some j) ⊎ (b ≡ Some j)
greater_some None b j e = inr e
greater_some (Some i) None j e = inl e
greater_some (Some i) (Some k) j e = by_order (cases_lt i k)
  where
    by_order : (i < k) ⊎ (k ≤ i) → (Some i ≡ Some j) ⊎ (Some k ≡ Some j)
    by_order (inl lt) = inr (ap Some (let m : max i k ≡ j = cc in omega (arith, lt, m)))
    by_order (inr le) = inl (ap Some (let m : max i k ≡ j = cc in omega (arith, le, m)))

greater_left : (a b : Option ℕ) (i : ℕ) → a ≡ Some i → (j : ℕ) × (greater a b ≡ Some j) × (i ≤ j)
greater_left None b i e = absurd (cc)
greater_left (Some k) None i e = (k, refl, let same : k ≡ i = cc in omega (arith, same))
greater_left (Some k) (Some l) i e = (max k l, refl, let same : k ≡ i = cc in omega (arith, same))

greater_right : (a b : Option ℕ) (i : ℕ) → (j : ℕ) × (b ≡ Some j) × (i ≤ j) → (j : ℕ) × (greater a b ≡ Some j) × (i ≤ j)
greater_right None b i r = r
greater_right (Some k) None i r = absurd (let z : None ≡ Some r.0 = r.1 in cc)
greater_right (Some k) (Some l) i r = (max k l, refl, let same : l ≡ r.0 = (let z : Some l ≡ Some r.0 = r.1 in cc) in let le = r.2 in omega (arith, same, le))

index_here : (u : GraphStrand) (n i : ℕ) → u ≡ strand n i → index_of u n ≡ Some i
index_here u n i e = ap (λ (v : GraphStrand). index_of v n) e ∙ ap (λ (b : Bool). number_if b i) (same_number n)

index_from : (b : Bool) (i j : ℕ) → number_if b i ≡ Some j → (b ≡ true) × (i ≡ j)
index_from true i j e = (refl, cc)
index_from false i j e = absurd (cc)

strand_from : (e : Event) (n j : ℕ) → index_of e.strand n ≡ Some j → is_on (strand n j) e ≡ true
strand_from e n j h =
    let r = index_from (e.strand.task == n) e.strand.index j h in
    let index : (e.strand.index == j) ≡ true = (let same = r.1 in grind (arith, nat_tests, same)) in
    both (e.strand.task == n) (e.strand.index == j) r.0 index
  where
    both : (a b : Bool) → a ≡ true → b ≡ true → (a && b) ≡ true
    both true b x y = y
    both false b x y = x

top_is : (events : List Event) (n : ℕ) → IsTop events n (top_of events n)
top_is [] n = record { above = λ i h. absurd (h refl); there = λ j e. absurd (let z : None ≡ Some j = e in cc) }
top_is (e ∷ rest) n =
    let ih = top_is rest n in
    record {
      above = λ i h. above_by i (does_cases e rest (strand n i) h) ih;
      there = λ j h. there_by j (greater_some (index_of e.strand n) (top_of rest n) j h) ih;
    }
  where
    above_by : (i : ℕ) → (e.strand ≡ strand n i) ⊎ DoesSomething rest (strand n i) → IsTop rest n (top_of rest n) → (j : ℕ) × (top_of (e ∷ rest) n ≡ Some j) × (i ≤ j)
    above_by i (inl same) ih = greater_left (index_of e.strand n) (top_of rest n) i (index_here e.strand n i same)
    above_by i (inr later) ih = greater_right (index_of e.strand n) (top_of rest n) i (ih.above i later)

    there_by : (j : ℕ) → (index_of e.strand n ≡ Some j) ⊎ (top_of rest n ≡ Some j) → IsTop rest n (top_of rest n) → DoesSomething (e ∷ rest) (strand n j)
    there_by j (inl here) ih = does_here e rest (strand n j) (strand_from e n j here)
    there_by j (inr later) ih = does_later e rest (strand n j) (ih.there j later)

-- CAUSES

-- what a cause says of what is known
abbrev CauseIs : TaskCause → Option StrandEnd → Bool → Type 0
CauseIs cause o past = ((cause ≡ HasNoEnd) × (o ≡ None)) ⊎ ((cause ≡ GoesOnAfterEnd) × (o ≢ None) × (past ≡ true))

cause_is : (o : Option StrandEnd) (past : Bool) (cause : TaskCause) → end_cause_by o past ≡ Some cause → CauseIs cause o past
cause_is None past cause e = inl (cc, refl)
cause_is (Some x) true cause e = inr (cc, (λ z. (let y : Some x ≡ None = z in cc)), refl)
cause_is (Some x) false cause e = absurd (cc)

no_cause : (o : Option StrandEnd) (past : Bool) → end_cause_by o past ≡ None → (o ≢ None) × (past ≡ false)
no_cause None past e = absurd (cc)
no_cause (Some x) true e = absurd (cc)
no_cause (Some x) false e = ((λ z. (let y : Some x ≡ None = z in cc)), refl)

past_from : (last : ℕ) (top : Option ℕ) → goes_past last top ≡ true → (j : ℕ) × (top ≡ Some j) × (last < j)
past_from last None e = absurd (cc)
past_from last (Some j) e = (j, refl, grind (arith, nat_tests, e))

past_at : (last : ℕ) (top : Option ℕ) (j : ℕ) → top ≡ Some j → last < j → goes_past last top ≡ true
past_at last None j e lt = absurd (cc)
past_at last (Some i) j e lt = let same : i ≡ j = cc in let less : last < i = omega (arith, lt, same) in grind (arith, nat_tests, less)

module _ (told : Told) (events : List Event) (knows : KnowsEvents told events) (extent : Extent) (numbers : List ℕ) (rows : List (List GraphTurn)) (t : ℕ) where
  -- what is known of the task's last strand is so
  pub cause_has : extent ≡ Whole → (cause : TaskCause) → end_cause_of told numbers rows t ≡ Some cause → HasCause events extent numbers rows (last_of (tasks_in rows) t) cause
  cause_has whole cause e = by_case (cause_is (end_told told (get_or numbers t 0) (length (tasks_in rows t))) (goes_past (length (tasks_in rows t)) (top_told told (get_or numbers t 0))) cause e)
    where
      by_case : ((cause ≡ HasNoEnd) × (end_told told (get_or numbers t 0) (length (tasks_in rows t)) ≡ None)) ⊎ ((cause ≡ GoesOnAfterEnd) × (end_told told (get_or numbers t 0) (length (tasks_in rows t)) ≢ None) × (goes_past (length (tasks_in rows t)) (top_told told (get_or numbers t 0)) ≡ true))
          → HasCause events extent numbers rows (last_of (tasks_in rows) t) cause
      by_case (inl (is, none)) =
          subst (λ (c : TaskCause). HasCause events extent numbers rows (last_of (tasks_in rows) t) c) (sym is)
          ((whole, refl), sym (knows.ends (get_or numbers t 0) (length (tasks_in rows t))) ∙ none)
      by_case (inr (is, some, past)) =
          let r = past_from (length (tasks_in rows t)) (top_told told (get_or numbers t 0)) past in
          subst (λ (c : TaskCause). HasCause events extent numbers rows (last_of (tasks_in rows) t) c) (sym is)
          ((whole, refl), (r.0, r.2, (top_is events (get_or numbers t 0)).there r.0 (sym (knows.tops (get_or numbers t 0)) ∙ r.1)))

  -- an end that is missing is known
  pub no_end : (u : GraphStrand) → u.task ≡ t → HasCause events extent numbers rows u HasNoEnd → end_told told (get_or numbers t 0) (length (tasks_in rows t)) ≡ None
  no_end u at h =
      knows.ends (get_or numbers t 0) (length (tasks_in rows t))
      ∙ ap (λ (v : GraphStrand). end_of events (log_strand numbers v)) (sym (h.0.1 ∙ ap (last_of (tasks_in rows)) at))
      ∙ h.1

  -- and so is a strand past the end
  pub past_end : (u : GraphStrand) → u.task ≡ t → HasCause events extent numbers rows u GoesOnAfterEnd → goes_past (length (tasks_in rows t)) (top_told told (get_or numbers t 0)) ≡ true
  past_end u at h =
      let last : u ≡ last_of (tasks_in rows) t = h.0.1 ∙ ap (last_of (tasks_in rows)) at in
      let index : u.index ≡ length (tasks_in rows t) = ap (λ (v : GraphStrand). v.index) last in
      let does : DoesSomething events (strand (get_or numbers t 0) h.1.0) = subst (λ (k : ℕ). DoesSomething events (strand (get_or numbers k 0) h.1.0)) at h.1.2 in
      let r = (top_is events (get_or numbers t 0)).above h.1.0 does in
      let lt = h.1.1 in
      let le = r.2 in
      past_at (length (tasks_in rows t)) (top_told told (get_or numbers t 0)) r.0 (knows.tops (get_or numbers t 0) ∙ r.1) (omega (arith, lt, le, index))

  -- where nothing is known to be wrong, nothing is
  pub no_cause_no_end : end_cause_of told numbers rows t ≡ None → (u : GraphStrand) → u.task ≡ t → HasCause events extent numbers rows u HasNoEnd → ⊥
  no_cause_no_end e u at h = (no_cause (end_told told (get_or numbers t 0) (length (tasks_in rows t))) (goes_past (length (tasks_in rows t)) (top_told told (get_or numbers t 0))) e).0 (no_end u at h)

  pub no_cause_past : end_cause_of told numbers rows t ≡ None → (u : GraphStrand) → u.task ≡ t → HasCause events extent numbers rows u GoesOnAfterEnd → ⊥
  no_cause_past e u at h =
      let no : goes_past (length (tasks_in rows t)) (top_told told (get_or numbers t 0)) ≡ false = (no_cause (end_told told (get_or numbers t 0) (length (tasks_in rows t))) (goes_past (length (tasks_in rows t)) (top_told told (get_or numbers t 0))) e).1 in
      let z : true ≡ false = sym (past_end u at h) ∙ no in cc

  -- a task that goes on after its end has one
  pub goes_on_has_end : end_cause_of told numbers rows t ≡ Some GoesOnAfterEnd → (u : GraphStrand) → u.task ≡ t → HasCause events extent numbers rows u HasNoEnd → ⊥
  goes_on_has_end e u at h = by_case (cause_is (end_told told (get_or numbers t 0) (length (tasks_in rows t))) (goes_past (length (tasks_in rows t)) (top_told told (get_or numbers t 0))) GoesOnAfterEnd e)
    where
      by_case : ((GoesOnAfterEnd ≡ HasNoEnd) × (end_told told (get_or numbers t 0) (length (tasks_in rows t)) ≡ None)) ⊎ ((GoesOnAfterEnd ≡ GoesOnAfterEnd) × (end_told told (get_or numbers t 0) (length (tasks_in rows t)) ≢ None) × (goes_past (length (tasks_in rows t)) (top_told told (get_or numbers t 0)) ≡ true)) → ⊥
      by_case (inl (is, none)) = cc
      by_case (inr (is, some, past)) = some (no_end u at h)

  -- what is wrong is one of two
  pub end_causes : (cause : TaskCause) → end_cause_of told numbers rows t ≡ Some cause → (cause ≡ HasNoEnd) ⊎ (cause ≡ GoesOnAfterEnd)
  end_causes cause e = by_case (cause_is (end_told told (get_or numbers t 0) (length (tasks_in rows t))) (goes_past (length (tasks_in rows t)) (top_told told (get_or numbers t 0))) cause e)
    where
      by_case : ((cause ≡ HasNoEnd) × (end_told told (get_or numbers t 0) (length (tasks_in rows t)) ≡ None)) ⊎ ((cause ≡ GoesOnAfterEnd) × (end_told told (get_or numbers t 0) (length (tasks_in rows t)) ≢ None) × (goes_past (length (tasks_in rows t)) (top_told told (get_or numbers t 0)) ≡ true))
          → (cause ≡ HasNoEnd) ⊎ (cause ≡ GoesOnAfterEnd)
      by_case (inl (is, none)) = inl is
      by_case (inr (is, some, past)) = inr is
