-- The two last returns into one join, in either order; and hence all steps of two concurrent tasks.
use Rattle.schedule_laws.proofs.Common.{◌≡◌, ℕ, ℤ, ◌+◌, ◌-◌, ◌%◌, ◌<◌, true, false, cond, Option, Some, None, List, [], ◌∷◌, ◌++◌, length, slice_get, slice_set, ◌⊎◌, inl, inr, refl, ap, sym, subst, ◌∙◌, arith, append-nil, eq-eqb, cases_Bool, cases_eq, cond-false, cond-true, eqb-false, eqb-true, same_Some, set-set, set_comm, In, got_other, got_same, Instr, Name, Running, Task, MachineState, Disentangled, child_ended_by, edge, ended_task, is_left, is_running, joined_task, result_at, parent_of, parents, result_of, resumed, setting, sibling, strand, NamesAreStoredIn, IsForkJoinState, runs_tell, wait_there, Change, ChangesBy, Edits, Grows, Same}
use Rattle.schedule_laws.proofs.Swapping.{Agree, sets}
use Rattle.schedule_laws.proofs.Moves.{Acts, Joins, Last, Moves, Two, change_in, last_move, last_moves}
use Rattle.schedule_laws.proofs.Apart.{plain_quiet, run_keeps_none}
use Rattle.schedule_laws.proofs.Commuting.{Even}
use Rattle.schedule_laws.proofs.Crossed.{Resolved, SameButNumbers, both, last_resolved, moved_last, plain_kinds, plain_resolved, same_itself}
use Rattle.schedule_laws.proofs.Lows.{LowIn}

-- the join overwrites a child's record
join_over : (ts : List Task) (q l : ℕ) (a b c : Task) (k : ℕ) (z : Task) → (k ≡ l) ⊎ (k ≡ l + 1) → sets ((l, a) ∷ (l + 1, b) ∷ (q, c) ∷ []) (slice_set ts k z) ≡ sets ((l, a) ∷ (l + 1, b) ∷ (q, c) ∷ []) ts
join_over ts q l a b c k z (inl e) = subst (λ j. sets ((l, a) ∷ (l + 1, b) ∷ (q, c) ∷ []) (slice_set ts j z) ≡ sets ((l, a) ∷ (l + 1, b) ∷ (q, c) ∷ []) ts) (sym e) (ap (λ w. slice_set (slice_set w (l + 1) b) q c) (set-set ts l z a))
join_over ts q l a b c k z (inr e) =
    subst (λ j. sets ((l, a) ∷ (l + 1, b) ∷ (q, c) ∷ []) (slice_set ts j z) ≡ sets ((l, a) ∷ (l + 1, b) ∷ (q, c) ∷ []) ts) (sym e)
    (ap (λ w. slice_set (slice_set w (l + 1) b) q c) (set_comm ts (l + 1) l z a (λ h. (let h' : l + 1 ≡ l = h in omega arith))) ∙ ap (λ w. slice_set w q c) (set-set (slice_set ts l a) (l + 1) z b))

joined_even : (m m1 m2 m12 m21 : MachineState) (t u q l : ℕ) (z z' a b c : Task) → (t ≡ l) ⊎ (t ≡ l + 1) → (u ≡ l) ⊎ (u ≡ l + 1) → Moves m m1 t (Acts z Same) → Moves m m2 u (Acts z' Same)
    → Moves m1 m12 u (Joins q l a b c) → Moves m2 m21 t (Joins q l a b c) → Even m12 m21
joined_even m m1 m2 m12 m21 t u q l z z' a b c at au Ht Hu Hu1 Ht2 =
    let three = λ (ts : List Task). sets ((l, a) ∷ (l + 1, b) ∷ (q, c) ∷ []) ts in
    let tasks12 : m12.tasks ≡ sets ((l, a) ∷ (l + 1, b) ∷ (q, c) ∷ []) m.tasks ++ [] =
    Hu1.tasks ∙ ap (λ ts. ts ++ []) (ap three (Ht.tasks ∙ append-nil (slice_set m.tasks t z)) ∙ join_over m.tasks q l a b c t z at) in
    let tasks21 : m21.tasks ≡ sets ((l, a) ∷ (l + 1, b) ∷ (q, c) ∷ []) m.tasks ++ [] =
    Ht2.tasks ∙ ap (λ ts. ts ++ []) (ap three (Hu.tasks ∙ append-nil (slice_set m.tasks u z')) ∙ join_over m.tasks q l a b c u z' au) in
    let edges : m21.edges ≡ m12.edges = Ht2.edges ∙ (ap (λ es. es ++ edge (strand l a.joins) (strand q c.joins) ∷ edge (strand (l + 1) b.joins) (strand q c.joins) ∷ []) (Hu.edges ∙ sym Ht.edges) ∙ sym Hu1.edges) in
    record {
      limit = Ht2.limit ∙ (Hu.limit ∙ (sym Ht.limit ∙ sym Hu1.limit));
      tasks = tasks21 ∙ sym tasks12;
      store = Ht2.store ∙ (ap (λ s. s ++ []) (Hu.store ∙ sym Ht.store) ∙ sym Hu1.store);
      edges = λ e. (subst (λ es. In es e) edges, subst (λ es. In es e) (sym edges));
      end = Ht2.end ∙ (Hu.end ∙ (sym Ht.end ∙ sym Hu1.end));
    }

module _ (m : MachineState) (K : IsForkJoinState m) (D : Disentangled m.tasks m.store) (N : NamesAreStoredIn m) (L : LowIn m) (rows : length m.store ≡ length m.tasks) (going : m.end ≡ None)
    (t u : ℕ) (two : t ≡ u → ⊥) (x y : Task) (is : slice_get m.tasks t ≡ Some x) (iu : slice_get m.tasks u ≡ Some y) (running_t : x.status ≡ Running) (running_u : y.status ≡ Running)
    (run_t : is_running (slice_get m.tasks t) ≡ true) (run_u : is_running (slice_get m.tasks u) ≡ true) (m1 m2 m12 m21 : MachineState) where
  abbrev rt : ℤ × Option Name
  rt = result_of x.top

  abbrev ru : ℤ × Option Name
  ru = result_of y.top

  -- the outcome of the second end, after the first
  second : (v w : ℕ) (a b : Task) (ra rb : ℤ × Option Name) (n n' : MachineState) (q : ℕ) → (v ≡ w → ⊥) → slice_get m.tasks v ≡ Some a → slice_get m.tasks w ≡ Some b → is_running (slice_get m.tasks v) ≡ true → sibling w ≡ v
      → parents m.tasks w ≡ Some q → (xq : Task) → slice_get m.tasks q ≡ Some xq → (q ≡ v → ⊥) → n.tasks ≡ slice_set m.tasks v (ended_task a ra) → n' ≡ child_ended_by n w b q rb (result_at (slice_get n.tasks (sibling w)))
      → Moves n n' w (cond (is_left w) (Joins q w (joined_task b) (joined_task a) (resumed xq rb ra)) (Joins q (w - 1) (joined_task a) (joined_task b) (resumed xq ra rb)))
  second v w a b ra rb n n' q ne ia ib run sib above xq iq nq tasks is' =
      let here : slice_get n.tasks v ≡ Some (ended_task a ra) = ap (λ ts. slice_get ts v) tasks ∙ got_same m.tasks v a (ended_task a ra) ia in
      let beside : slice_get n.tasks (sibling w) ≡ Some (ended_task a ra) = ap (slice_get n.tasks) sib ∙ here in
      let other : slice_get n.tasks w ≡ Some b = ap (λ ts. slice_get ts w) tasks ∙ (got_other m.tasks v w (ended_task a ra) (λ e. ne (sym e)) ∙ ib) in
      let top : slice_get n.tasks q ≡ Some xq = ap (λ ts. slice_get ts q) tasks ∙ (got_other m.tasks v q (ended_task a ra) nq ∙ iq) in
      subst (λ z. Moves n z w (cond (is_left w) (Joins q w (joined_task b) (joined_task a) (resumed xq rb ra)) (Joins q (w - 1) (joined_task a) (joined_task b) (resumed xq ra rb)))) (sym (is' ∙ ap (λ o. child_ended_by n w b q rb (result_at o)) beside))
      (subst (λ (o : Option Task). Moves n (child_ended_by n w b q rb (Some ra)) w (last_move w b q rb (Some ra) o (Some (ended_task a ra)))) top
      (subst (λ (o : Option Task). Moves n (child_ended_by n w b q rb (Some ra)) w (last_move w b q rb (Some ra) (slice_get n.tasks q) o)) beside (last_moves n w b q rb other (Some ra))))

  module _ (it iu' : Instr) where
    module _ (sib : sibling u ≡ t) (Et : Last m m2 t x running_t going m1 m21) (Eu : Last m m1 u y running_u going m2 m12) where
      abbrev q : ℕ
      q = Eu.parent

      pu : parents m.tasks u ≡ Some q
      pu = ap parent_of iu ∙ Eu.above

      pt : parents m.tasks t ≡ Some q
      pt = ap (parents m.tasks) (sym sib) ∙ K.tree.pairs u q pu

      same_parent : Et.parent ≡ q
      same_parent = same_Some Et.parent q (sym Et.above ∙ (ap parent_of (sym is) ∙ pt))

      lu : q < u
      lu = K.tree.low u q pu

      lt : q < t
      lt = K.tree.low t q pt

      top : (xq : Task) × (slice_get m.tasks q ≡ Some xq)
      top = wait_there (slice_get m.tasks q) (K.tree.waits u q pu (runs_tell (slice_get m.tasks u) run_u).2)

      -- given the left one's number, the right one's
      ended : sibling t ≡ u → (a b c : Task) (l : ℕ) → (t ≡ l) ⊎ (t ≡ l + 1) → (u ≡ l) ⊎ (u ≡ l + 1)
          → cond (is_left u) (Joins q u (joined_task y) (joined_task x) (resumed top.0 ru rt)) (Joins q (u - 1) (joined_task x) (joined_task y) (resumed top.0 rt ru)) ≡ Joins q l a b c
          → cond (is_left t) (Joins q t (joined_task x) (joined_task y) (resumed top.0 rt ru)) (Joins q (t - 1) (joined_task y) (joined_task x) (resumed top.0 ru rt)) ≡ Joins q l a b c
          → SameButNumbers m m12 m21
      ended sib' a b c l at au eu et =
          let nt : q ≡ t → ⊥ = λ e. (let e' : q ≡ t = e in let h : q < t = lt in omega arith) in
          let nu : q ≡ u → ⊥ = λ e. (let e' : q ≡ u = e in let h : q < u = lu in omega arith) in
          let H1 : m1 ≡ child_ended_by m t x Et.parent rt None = Et.here ∙ ap (child_ended_by m t x Et.parent rt) (ap (λ k. result_at (slice_get m.tasks k)) sib' ∙ run_keeps_none (slice_get m.tasks u) run_u) in
          let H2 : m2 ≡ child_ended_by m u y q ru None = Eu.here ∙ ap (child_ended_by m u y q ru) (ap (λ k. result_at (slice_get m.tasks k)) sib ∙ run_keeps_none (slice_get m.tasks t) run_t) in
          let Ht : Moves m m1 t (Acts (ended_task x rt) Same) = subst (λ z. Moves m z t (Acts (ended_task x rt) Same)) (sym H1) (last_moves m t x Et.parent rt is None) in
          let Hu : Moves m m2 u (Acts (ended_task y ru) Same) = subst (λ z. Moves m z u (Acts (ended_task y ru) Same)) (sym H2) (last_moves m u y q ru iu None) in
          let there = Et.there ∙ ap (λ k. child_ended_by m2 t x k rt (result_at (slice_get m2.tasks (sibling t)))) same_parent in
          let Hu1 : Moves m1 m12 u (Joins q l a b c) = subst (Moves m1 m12 u) eu (second t u x y rt ru m1 m12 q two is iu run_t sib pu top.0 top.1 nt (ap (λ (z : MachineState). z.tasks) H1) Eu.there) in
          let Ht2 : Moves m2 m21 t (Joins q l a b c) = subst (Moves m2 m21 t) et (second u t y x ru rt m2 m21 q (λ e. two (sym e)) iu is run_u sib' pt top.0 top.1 nu (ap (λ (z : MachineState). z.tasks) H2) there) in
          same_itself m m12 m21 (joined_even m m1 m2 m12 m21 t u q l (ended_task x rt) (ended_task y ru) a b c at au Ht Hu Hu1 Ht2)

      by_side : (is_left u ≡ true) ⊎ (is_left u ≡ false) → SameButNumbers m m12 m21
      by_side (inl left) =
          let e : t ≡ u + 1 = sym sib ∙ cond-true (is_left u) (u + 1) (u - 1) left in
          let odd : u % 2 ≡ 1 = eqb-true (u % 2) 1 left in
          let right : is_left t ≡ false = elim (cases_Bool (is_left t)) [ inr r ↦ r | inl l ↦ (let o : t % 2 ≡ 1 = eqb-true (t % 2) 1 l in absurd (omega arith)) ] in
          let back : t - 1 ≡ u = omega arith in
          ended (cond-false (is_left t) (t + 1) (t - 1) right ∙ back) (joined_task y) (joined_task x) (resumed top.0 ru rt) u (inr e) (inl refl)
          (cond-true (is_left u) _ _ left)
          (cond-false (is_left t) (Joins q t (joined_task x) (joined_task y) (resumed top.0 rt ru)) (Joins q (t - 1) (joined_task y) (joined_task x) (resumed top.0 ru rt)) right ∙ ap (λ k. Joins q k (joined_task y) (joined_task x) (resumed top.0 ru rt)) back)
      by_side (inr right) =
          let e : t ≡ u - 1 = sym sib ∙ cond-false (is_left u) (u + 1) (u - 1) right in
          let h : q < u = lu in
          let h' : q < t = lt in
          let even : u % 2 ≡ 1 → ⊥ = eqb-false (u % 2) 1 right in
          let up : u ≡ t + 1 = omega arith in
          let left : is_left t ≡ true = elim (cases_Bool (is_left t)) [ inl l ↦ l | inr r ↦ (let o : t % 2 ≡ 1 → ⊥ = eqb-false (t % 2) 1 r in absurd (o (other even up))) ] in
          let back : u - 1 ≡ t = omega arith in
          ended (cond-true (is_left t) (t + 1) (t - 1) left ∙ sym up) (joined_task x) (joined_task y) (resumed top.0 rt ru) t (inl refl) (inr up)
          (cond-false (is_left u) (Joins q u (joined_task y) (joined_task x) (resumed top.0 ru rt)) (Joins q (u - 1) (joined_task x) (joined_task y) (resumed top.0 rt ru)) right ∙ ap (λ k. Joins q k (joined_task x) (joined_task y) (resumed top.0 rt ru)) back)
          (cond-true (is_left t) _ _ left)
        where
          other : (u % 2 ≡ 1 → ⊥) → u ≡ t + 1 → t % 2 ≡ 1
          other even up = elim (cases_eq (u % 2) 1) [ inl o ↦ absurd (even o) | inr ne ↦ omega arith ]

      siblings : SameButNumbers m m12 m21
      siblings = by_side (cases_Bool (is_left u))

    agree_right : (a b : Change) → b ≡ Same → Agree a b
    agree_right a b e = subst (Agree a) (sym e) (agree_right_by_cases a)
      where
        agree_right_by_cases : (a : Change) → Agree a Same
        agree_right_by_cases Same = tt
        agree_right_by_cases (Grows o) = tt
        agree_right_by_cases (Edits n d) = tt

    agree_left : (a b : Change) → a ≡ Same → Agree a b
    agree_left a b e = subst (λ c. Agree c b) (sym e) tt

    -- a sibling's sibling
    sibling_back : (v p : ℕ) → parents m.tasks v ≡ Some p → sibling (sibling v) ≡ v
    sibling_back v p pv =
        let lt : p < v = K.tree.low v p pv in
        elim (cases_Bool (is_left v)) [
          | inl left ↦
              let e : sibling v ≡ v + 1 = cond-true (is_left v) (v + 1) (v - 1) left in
              let odd : v % 2 ≡ 1 = eqb-true (v % 2) 1 left in
              let right : is_left (v + 1) ≡ false = elim (cases_Bool (is_left (v + 1))) [ inr r ↦ r | inl l ↦ (let o : (v + 1) % 2 ≡ 1 = eqb-true ((v + 1) % 2) 1 l in absurd (omega arith)) ] in
              let back : v + 1 - 1 ≡ v = omega arith in
              ap sibling e ∙ (cond-false (is_left (v + 1)) (v + 1 + 1) (v + 1 - 1) right ∙ back)
          | inr right ↦
              let e : sibling v ≡ v - 1 = cond-false (is_left v) (v + 1) (v - 1) right in
              let even : v % 2 ≡ 1 → ⊥ = eqb-false (v % 2) 1 right in
              let odd : (v - 1) % 2 ≡ 1 = elim (cases_eq (v % 2) 1) [ inl o ↦ absurd (even o) | inr ne ↦ omega arith ] in
              let back : v - 1 + 1 ≡ v = omega arith in
              ap sibling e ∙ (cond-true (is_left (v - 1)) (v - 1 + 1) (v - 1 - 1) (eq-eqb ((v - 1) % 2) 1 odd) ∙ back)
        ]

    module _ (agree : (a b : Change) → ChangesBy (setting m t x) x.top m.store it a → ChangesBy (setting m u y) y.top m.store iu' b → Agree b a) where
      finish : Resolved m m1 m2 m21 t x it → Resolved m m2 m1 m12 u y iu' → SameButNumbers m m12 m21
      finish Rt Ru =
          both m K D N L rows going t u two run_t run_u m1 m2 m12 m21 x y is iu Rt.move Ru.move Rt.shape Ru.shape Rt.kinds Ru.kinds Rt.stored Ru.stored agreed Rt.here Ru.here Ru.there Rt.there
        where
          agreed : Agree (change_in Ru.move) (change_in Rt.move)
          agreed = elim (Rt.by) [
            | inl e ↦ agree_right (change_in Ru.move) (change_in Rt.move) e
            | inr a ↦ elim (Ru.by) [ inl e ↦ agree_left (change_in Ru.move) (change_in Rt.move) e | inr b ↦ agree (change_in Rt.move) (change_in Ru.move) a b ]
          ]

      pub commute_two : slice_get m2.tasks t ≡ Some x → slice_get m1.tasks u ≡ Some y → Two m m2 t x running_t going m1 m21 it → Two m m1 u y running_u going m2 m12 iu' → SameButNumbers m m12 m21
      commute_two it2 iu1 (inl Pt) (inl Pu) = finish (plain_resolved m m2 K t x running_t going is run_t m1 m21 it Pt) (plain_resolved m m1 K u y running_u going iu run_u m2 m12 iu' Pu)
      commute_two it2 iu1 (inl Pt) (inr Eu) =
          finish (plain_resolved m m2 K t x running_t going is run_t m1 m21 it Pt)
          (last_resolved m m1 K u y running_u going iu run_u m2 m12 iu' t two run_t Pt.move Pt.here (plain_kinds m t Pt.move Pt.plain) iu1 (λ none. plain_quiet m.tasks t Pt.move Pt.plain (sibling u) none) Eu)
      commute_two it2 iu1 (inr Et) (inl Pu) =
          finish (last_resolved m m2 K t x running_t going is run_t m1 m21 it u (λ e. two (sym e)) run_u Pu.move Pu.here (plain_kinds m u Pu.move Pu.plain) it2 (λ none. plain_quiet m.tasks u Pu.move Pu.plain (sibling t) none) Et)
          (plain_resolved m m1 K u y running_u going iu run_u m2 m12 iu' Pu)
      commute_two it2 iu1 (inr Et) (inr Eu) = elim (cases_eq (sibling u) t) [
        | inl sib ↦ siblings sib Et Eu
        | inr ne ↦
            let Vt = moved_last m m2 K t x running_t going is run_t m1 m21 it Et in
            let Vu = moved_last m m1 K u y running_u going iu run_u m2 m12 iu' Eu in
            let ne' : sibling t ≡ u → ⊥ = λ e. ne (ap sibling (sym e) ∙ sibling_back t Et.parent (ap parent_of is ∙ Et.above)) in
            finish (last_resolved m m2 K t x running_t going is run_t m1 m21 it u (λ e. two (sym e)) run_u Vu.move Vu.here Vu.kinds it2 (λ none. Vu.quiet (sibling t) ne' none) Et)
            (last_resolved m m1 K u y running_u going iu run_u m2 m12 iu' t two run_t Vt.move Vt.here Vt.kinds iu1 (λ none. Vt.quiet (sibling u) ne none) Eu)
      ]
