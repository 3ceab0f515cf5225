-- Which tasks a move changes: the task itself, its sibling that has ended, or its parent that waits for both. So moves
-- of two concurrent tasks change no task in common, and one doesn't change the outcome of the other's end, unless they
-- are children of one fork.
use Rattle.schedule_laws.proofs.Common.{◌≡◌, ℕ, ℤ, ◌+◌, ◌-◌, ◌%◌, ◌<◌, Bool, true, false, cond, Option, Some, None, List, [], ◌∷◌, length, slice_get, slice_set, ◌⊎◌, inl, inr, refl, ap, sym, subst, ◌∙◌, arith, both_ways, cases_Bool, cond-false, cond-true, eqb-false, eqb-true, false≢true, got_cases, got_front, got_other, got_within, Name, TaskStatus, Running, Waiting, Ended, Joined, Task, MachineState, ended_task, is_left, is_running, is_waiting, joined, joined_task, result_at, parents, result_in, resumed, runs, sibling, waits, IsForkJoinState, waiting, runs_tell}
use Rattle.schedule_laws.proofs.Swapping.{AllAt, all_at, sets, sets_length, sets_other}
use Rattle.schedule_laws.proofs.Moves.{Acts, IsPlain, Joins, Move, Moves, Splits, last_move, news, puts}

kept_status : (s : TaskStatus) (r : ℤ × Option Name) → result_in s ≡ Some r → (runs s ≡ false) × (waits s ≡ false)
kept_status Running r e = absurd cc
kept_status Waiting r e = absurd cc
kept_status (Ended k n) r e = (refl, refl)
kept_status Joined r e = absurd cc

pub kept_tells : (o : Option Task) (r : ℤ × Option Name) → result_at o ≡ Some r → (is_running o ≡ false) × (is_waiting o ≡ false)
kept_tells None r e = absurd cc
kept_tells (Some x) r e = kept_status x.status r e

run_status : (s : TaskStatus) → runs s ≡ true → result_in s ≡ None
run_status Running e = refl
run_status Waiting e = absurd (false≢true e)
run_status (Ended k n) e = absurd (false≢true e)
run_status Joined e = absurd (false≢true e)

pub run_keeps_none : (o : Option Task) → is_running o ≡ true → result_at o ≡ None
run_keeps_none None e = absurd (false≢true e)
run_keeps_none (Some x) e = run_status x.status e

there_by : {A : Type 0} (view : Option Task → A) (ts : List Task) (k : ℕ) (a : A) → view (slice_get ts k) ≡ a → (view None ≡ a → ⊥) → k < length ts
there_by view ts k a e ne = there_by_cases (slice_get ts k) refl
  where
    there_by_cases : (o : Option Task) → slice_get ts k ≡ o → k < length ts
    there_by_cases None is = absurd (ne (ap view (sym is) ∙ e))
    there_by_cases (Some x) is = got_within ts k x is

pub record IsEnded (m : MachineState) (k : ℕ) : Type 0 where
  pub result : ℤ × Option Name
  pub is : result_at (slice_get m.tasks k) ≡ Some result

pub record EndedSibling (m : MachineState) (u k : ℕ) : Type 0 where
  pub sibling_is : k ≡ sibling u
  pub parent : ℕ
  pub above : parents m.tasks u ≡ Some parent
  pub ended : IsEnded m k

pub record WaitingParent (m : MachineState) (u k : ℕ) : Type 0 where
  pub waits : waiting m.tasks k ≡ true
  pub above : parents m.tasks u ≡ Some k
  pub ended : IsEnded m (sibling u)

abbrev pub Kind : MachineState → ℕ → ℕ → Type 0
Kind m u k = (k ≡ u) ⊎ (EndedSibling m u k ⊎ WaitingParent m u k)

module _ (m : MachineState) (K : IsForkJoinState m) where
  not_kept : (k : ℕ) → is_running (slice_get m.tasks k) ≡ true → IsEnded m k → ⊥
  not_kept k run e = both_ways (is_running (slice_get m.tasks k)) (kept_tells (slice_get m.tasks k) e.result e.is).0 run

  not_waiting : (k : ℕ) → is_running (slice_get m.tasks k) ≡ true → waiting m.tasks k ≡ true → ⊥
  not_waiting k run w = both_ways (is_waiting (slice_get m.tasks k)) (runs_tell (slice_get m.tasks k) run).3 w

  not_both : (k : ℕ) → IsEnded m k → waiting m.tasks k ≡ true → ⊥
  not_both k e w = both_ways (is_waiting (slice_get m.tasks k)) (kept_tells (slice_get m.tasks k) e.result e.is).1 w

  pub sibling_once : (t u p q : ℕ) → parents m.tasks t ≡ Some p → parents m.tasks u ≡ Some q → sibling t ≡ sibling u → t ≡ u
  sibling_once t u p q pt pu e =
      let lt : p < t = K.tree.low t p pt in
      let lu : q < u = K.tree.low u q pu in
      sibling_once_by_cases (cases_Bool (is_left t)) (cases_Bool (is_left u)) lt lu
    where
      sibling_once_by_cases : (is_left t ≡ true) ⊎ (is_left t ≡ false) → (is_left u ≡ true) ⊎ (is_left u ≡ false) → p < t → q < u → t ≡ u
      sibling_once_by_cases (inl a) (inl b) lt lu = let w : t + 1 ≡ u + 1 = sym (cond-true (is_left t) (t + 1) (t - 1) a) ∙ (e ∙ cond-true (is_left u) (u + 1) (u - 1) b) in omega arith
      sibling_once_by_cases (inr a) (inr b) lt lu = let w : t - 1 ≡ u - 1 = sym (cond-false (is_left t) (t + 1) (t - 1) a) ∙ (e ∙ cond-false (is_left u) (u + 1) (u - 1) b) in omega arith
      sibling_once_by_cases (inl a) (inr b) lt lu =
          let w : t + 1 ≡ u - 1 = sym (cond-true (is_left t) (t + 1) (t - 1) a) ∙ (e ∙ cond-false (is_left u) (u + 1) (u - 1) b) in
          let odd : t % 2 ≡ 1 = eqb-true (t % 2) 1 a in
          let even : u % 2 ≡ 1 → ⊥ = eqb-false (u % 2) 1 b in
          absurd (even (omega arith))
      sibling_once_by_cases (inr a) (inl b) lt lu =
          let w : t - 1 ≡ u + 1 = sym (cond-false (is_left t) (t + 1) (t - 1) a) ∙ (e ∙ cond-true (is_left u) (u + 1) (u - 1) b) in
          let odd : u % 2 ≡ 1 = eqb-true (u % 2) 1 b in
          let even : t % 2 ≡ 1 → ⊥ = eqb-false (t % 2) 1 a in
          absurd (even (omega arith))

  module _ (t u : ℕ) (two : t ≡ u → ⊥) (run_t : is_running (slice_get m.tasks t) ≡ true) (run_u : is_running (slice_get m.tasks u) ≡ true) where
    pub kinds_apart : (k j : ℕ) → Kind m t k → Kind m u j → k ≡ j → ⊥
    kinds_apart k j (inl a) (inl b) e = two (sym a ∙ (e ∙ b))
    kinds_apart k j (inl a) (inr (inl b)) e = not_kept t run_t (subst (IsEnded m) (sym e ∙ a) b.ended)
    kinds_apart k j (inl a) (inr (inr b)) e = not_waiting t run_t (ap (waiting m.tasks) (sym a ∙ e) ∙ b.waits)
    kinds_apart k j (inr (inl a)) (inl b) e = not_kept u run_u (subst (IsEnded m) (e ∙ b) a.ended)
    kinds_apart k j (inr (inl a)) (inr (inl b)) e = two (sibling_once t u a.parent b.parent a.above b.above (sym a.sibling_is ∙ (e ∙ b.sibling_is)))
    kinds_apart k j (inr (inl a)) (inr (inr b)) e = not_both k a.ended (ap (waiting m.tasks) e ∙ b.waits)
    kinds_apart k j (inr (inr a)) (inl b) e = not_waiting u run_u (ap (waiting m.tasks) (sym b ∙ sym e) ∙ a.waits)
    kinds_apart k j (inr (inr a)) (inr (inl b)) e = not_both j b.ended (ap (waiting m.tasks) (sym e) ∙ a.waits)
    kinds_apart k j (inr (inr a)) (inr (inr b)) e =
        elim (K.tree.brothers t u k a.above (b.above ∙ ap Some (sym e)) (runs_tell (slice_get m.tasks t) run_t).2 (runs_tell (slice_get m.tasks u) run_u).2) [
          | inl same ↦ two (sym same)
          | inr other ↦ not_kept u run_u (subst (IsEnded m) (sym other) a.ended)
        ]

  pub kind_within : (u : ℕ) → is_running (slice_get m.tasks u) ≡ true → (k : ℕ) → Kind m u k → k < length m.tasks
  kind_within u run k (inl e) = subst (λ j. j < length m.tasks) (sym e) (there_by is_running m.tasks u true run false≢true)
  kind_within u run k (inr (inl a)) = there_by result_at m.tasks k (Some a.ended.result) a.ended.is (λ e. cc)
  kind_within u run k (inr (inr a)) = there_by is_waiting m.tasks k true a.waits false≢true

  -- THE END OF A CHILD

  module _ (u : ℕ) (y : Task) (q : ℕ) (r : ℤ × Option Name) (above : parents m.tasks u ≡ Some q) (live : joined m.tasks u ≡ false) where
    pub last_kinds : (o : Option (ℤ × Option Name)) → result_at (slice_get m.tasks (sibling u)) ≡ o → (oq ow : Option Task) → AllAt (Kind m u) (puts u (last_move u y q r o oq ow))
    last_kinds None e oq ow = (inl refl, tt)
    last_kinds (Some other) e None ow = (inl refl, tt)
    last_kinds (Some other) e (Some xq) None = (inl refl, tt)
    last_kinds (Some other) e (Some xq) (Some xw) = last_kinds_by_cases (is_left u) refl
      where
        parent : Kind m u q
        parent = inr (inr (record { waits = K.tree.waits u q above live; above = above; ended = record { result = other; is = e } }))

        beside : (k : ℕ) → k ≡ sibling u → Kind m u k
        beside k s = inr (inl (record { sibling_is = s; parent = q; above = above; ended = record { result = other; is = ap (λ j. result_at (slice_get m.tasks j)) s ∙ e } }))

        last_kinds_by_cases : (b : Bool) → is_left u ≡ b → AllAt (Kind m u) (puts u (cond b (Joins q u (joined_task y) (joined_task xw) (resumed xq r other)) (Joins q (u - 1) (joined_task xw) (joined_task y) (resumed xq other r))))
        last_kinds_by_cases true b = (inl refl, (beside (u + 1) (sym (cond-true (is_left u) (u + 1) (u - 1) b)), (parent, tt)))
        last_kinds_by_cases false b =
            let lt : q < u = K.tree.low u q above in
            (beside (u - 1) (sym (cond-false (is_left u) (u + 1) (u - 1) b)), (inl (omega arith), (parent, tt)))

-- WHO HAS ENDED

kept_set : (ts : List Task) (k v : ℕ) (z : Task) → result_at (slice_get ts v) ≡ None → result_in z.status ≡ None → result_at (slice_get (slice_set ts k z) v) ≡ None
kept_set ts k v z none plain = kept_set_by_cases (slice_get (slice_set ts k z) v) refl
  where
    kept_set_by_cases : (o : Option Task) → slice_get (slice_set ts k z) v ≡ o → result_at o ≡ None
    kept_set_by_cases None e = refl
    kept_set_by_cases (Some x) e = elim (got_cases ts k v z x e) [
      | inl h ↦ ap (λ (w : Task). result_in w.status) h.1 ∙ plain
      | inr h ↦ ap result_at (sym h) ∙ none
    ]

-- a move leaves unended tasks so, except its own task when it ends
pub plain_quiet : (ts : List Task) (t : ℕ) (mv : Move) → IsPlain mv → (v : ℕ) → result_at (slice_get ts v) ≡ None → result_at (slice_get (sets (puts t mv) ts) v) ≡ None
plain_quiet ts t (Acts y op) p v none = kept_set ts t v y none p
plain_quiet ts t (Splits y c d) p v none = kept_set ts t v y none p
plain_quiet ts t (Joins q l yl yr yq) p v none = absurd p

pub last_quiet : (ts : List Task) (t : ℕ) (x : Task) (q : ℕ) (r : ℤ × Option Name) (o : Option (ℤ × Option Name)) (oq ow : Option Task) (v : ℕ) → (v ≡ t → ⊥) → result_at (slice_get ts v) ≡ None
    → result_at (slice_get (sets (puts t (last_move t x q r o oq ow)) ts) v) ≡ None
last_quiet ts t x q r None oq ow v ne none = ap result_at (got_other ts t v (ended_task x r) ne) ∙ none
last_quiet ts t x q r (Some other) None ow v ne none = ap result_at (got_other ts t v x ne) ∙ none
last_quiet ts t x q r (Some other) (Some xq) None v ne none = ap result_at (got_other ts t v x ne) ∙ none
last_quiet ts t x q r (Some other) (Some xq) (Some xw) v ne none = last_quiet_by_cases (is_left t)
  where
    three : (l : ℕ) (a b c : Task) → result_in a.status ≡ None → result_in b.status ≡ None → result_in c.status ≡ None → result_at (slice_get (sets ((l, a) ∷ (l + 1, b) ∷ (q, c) ∷ []) ts) v) ≡ None
    three l a b c ea eb ec = kept_set (slice_set (slice_set ts l a) (l + 1) b) q v c (kept_set (slice_set ts l a) (l + 1) v b (kept_set ts l v a none ea) eb) ec

    last_quiet_by_cases : (b : Bool) → result_at (slice_get (sets (puts t (cond b (Joins q t (joined_task x) (joined_task xw) (resumed xq r other)) (Joins q (t - 1) (joined_task xw) (joined_task x) (resumed xq other r)))) ts) v) ≡ None
    last_quiet_by_cases true = three t (joined_task x) (joined_task xw) (resumed xq r other) refl refl refl
    last_quiet_by_cases false = three (t - 1) (joined_task xw) (joined_task x) (resumed xq other r) refl refl refl

-- the outcome of u's end is the same after t's move
module _ (m m1 : MachineState) (K : IsForkJoinState m) (t u : ℕ) (mt : Move) (M : Moves m m1 t mt) (two : t ≡ u → ⊥) (run_t : is_running (slice_get m.tasks t) ≡ true) (run_u : is_running (slice_get m.tasks u) ≡ true)
    (kinds : AllAt (Kind m t) (puts t mt)) (q : ℕ) (above : parents m.tasks u ≡ Some q) where
  same_get : (v : ℕ) → v < length m.tasks → AllAt (λ j. v ≡ j → ⊥) (puts t mt) → slice_get m1.tasks v ≡ slice_get m.tasks v
  same_get v lt h =
      ap (λ ts. slice_get ts v) M.tasks
      ∙ (got_front (sets (puts t mt) m.tasks) (news mt) v (omega (arith, sets_length (puts t mt) m.tasks)) ∙ sets_other (puts t mt) m.tasks v h)

  kind_same : (v : ℕ) → Kind m u v → slice_get m1.tasks v ≡ slice_get m.tasks v
  kind_same v k = same_get v (kind_within m K u run_u v k) (all_at (Kind m t) (λ j. v ≡ j → ⊥) (λ j a e. kinds_apart m K t u two run_t run_u j v a k (sym e)) (puts t mt) kinds)

  pub last_same : (y : Task) (r : ℤ × Option Name) → (result_at (slice_get m.tasks (sibling u)) ≡ None → result_at (slice_get (sets (puts t mt) m.tasks) (sibling u)) ≡ None)
      → last_move u y q r (result_at (slice_get m1.tasks (sibling u))) (slice_get m1.tasks q) (slice_get m1.tasks (sibling u)) ≡ last_move u y q r (result_at (slice_get m.tasks (sibling u))) (slice_get m.tasks q) (slice_get m.tasks (sibling u))
  last_same y r quiet = last_same_by_cases (result_at (slice_get m.tasks (sibling u))) refl
    where
      within : sibling u < length m.tasks
      within = K.tree.made (sibling u) q (K.tree.pairs u q above)

      last_same_by_cases : (o : Option (ℤ × Option Name)) → result_at (slice_get m.tasks (sibling u)) ≡ o
          → last_move u y q r (result_at (slice_get m1.tasks (sibling u))) (slice_get m1.tasks q) (slice_get m1.tasks (sibling u)) ≡ last_move u y q r (result_at (slice_get m.tasks (sibling u))) (slice_get m.tasks q) (slice_get m.tasks (sibling u))
      last_same_by_cases None e =
          let front : slice_get m1.tasks (sibling u) ≡ slice_get (sets (puts t mt) m.tasks) (sibling u) = ap (λ ts. slice_get ts (sibling u)) M.tasks ∙ got_front (sets (puts t mt) m.tasks) (news mt) (sibling u) (omega (arith, sets_length (puts t mt) m.tasks, within)) in
          let none : result_at (slice_get m1.tasks (sibling u)) ≡ None = ap result_at front ∙ quiet e in
          ap (λ o. last_move u y q r o (slice_get m1.tasks q) (slice_get m1.tasks (sibling u))) none ∙ ap (λ o. last_move u y q r o (slice_get m.tasks q) (slice_get m.tasks (sibling u))) (sym e)
      last_same_by_cases (Some other) e =
          let ended : IsEnded m (sibling u) = record { result = other; is = e } in
          let sib : slice_get m1.tasks (sibling u) ≡ slice_get m.tasks (sibling u) = kind_same (sibling u) (inr (inl (record { sibling_is = refl; parent = q; above = above; ended = ended }))) in
          let par : slice_get m1.tasks q ≡ slice_get m.tasks q =
          kind_same q (inr (inr (record { waits = K.tree.waits u q above (runs_tell (slice_get m.tasks u) run_u).2; above = above; ended = ended }))) in
          λ i. last_move u y q r (result_at (sib i)) (par i) (sib i)
