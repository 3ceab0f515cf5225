-- Steps of two concurrent tasks commute.
use Rattle.schedule_laws.proofs.Common.{◌≡◌, ℕ, Bool, true, false, Option, Some, None, List, slice_get, ◌⊎◌, inl, inr, refl, ap, sym, subst, ◌∙◌, set_comm, In, Line, ProgramText, Name, Object, Task, MachineState, effect, can_step, fetched, follow, is_running, run, setting, step, runs_is, can_runs, step_none, step_taken, can_task, FieldAccess, next_access, Change, ChangesBy, Edit, Edits, EditsBy, Freezes, Grows, Same, SetNumber, SetRef, Writes, edited, counted_here, Clash, AreBeside, StepsCommute}
use Rattle.schedule_laws.proofs.Accessed.{field_of, written_at}
use Rattle.schedule_laws.proofs.Beside.{Leaves}
use Rattle.schedule_laws.proofs.Commuting.{Even}
use Rattle.schedule_laws.proofs.Crossed.{SameButNumbers, same_itself}
use Rattle.schedule_laws.proofs.Leaving.{D, K, N, can_there, free_may, going, here_acting, left_effect, task_is_left}
use Rattle.schedule_laws.proofs.Lows.{run_low}
use Rattle.schedule_laws.proofs.Moves.{Two, both_to}
use Rattle.schedule_laws.proofs.Siblings.{commute_two}
use Rattle.schedule_laws.proofs.Swapping.{Agree}

pub even_same : (m m' : MachineState) → m' ≡ m → Even m m'
even_same m m' e = record {
  limit = ap (λ (w : MachineState). w.field_limit) e;
  tasks = ap (λ (w : MachineState). w.tasks) e;
  store = ap (λ (w : MachineState). w.store) e;
  edges = λ d. (subst (λ (w : MachineState). In w.edges d) e, subst (λ (w : MachineState). In w.edges d) (sym e));
  end = ap (λ (w : MachineState). w.end) e;
}

module _ (p : ProgramText) (limit : ℕ) (ts : List ℕ) where
  abbrev m : MachineState
  m = run p limit ts

  abbrev Free : ℕ → ℕ → Type 0
  Free t u = (a b : FieldAccess) → next_access p m t ≡ Some a → next_access p m u ≡ Some b → Clash a b → ⊥

  module _ (t u : ℕ) (two : t ≡ u → ⊥) (can_t : can_step m t ≡ true) (can_u : can_step m u ≡ true) (going1 : (step p m t).end ≡ None) (going2 : (step p m u).end ≡ None) (free : Free t u) where
    -- u's step, before and after t's
    two_of : (g : m.end ≡ None) (y : Task) (iu : slice_get m.tasks u ≡ Some y) (run_u : is_running (Some y) ≡ true) (line : Line) → fetched p y.top ≡ Some line
        → Two m (step p m t) u y (runs_is y.status run_u) g (step p m u) (step p (step p m t) u) line.instr
    two_of g y iu run_u line next =
        let m1 : MachineState = step p m t in
        let here = step_taken p m u y line can_u iu next in
        let after = step_taken p m1 u y line (can_there p limit ts t u two can_t can_u going1 y iu run_u) (task_is_left p limit ts t u two can_t can_u going1 y iu run_u) next in
        subst (λ w. Two m m1 u y (runs_is y.status run_u) g w (step p m1 u) line.instr) (sym here)
        (subst (λ w. Two m m1 u y (runs_is y.status run_u) g (follow m u y line.number (effect (setting m u y) y.top m.store line.instr)) w line.instr) (sym after)
        (both_to m m1 u y (runs_is y.status run_u) g (Leaves p m t) line.number line.instr (effect (setting m u y) y.top m.store line.instr) (effect (setting m1 u y) y.top m1.store line.instr)
        (left_effect p limit ts t u two can_t can_u going1 y iu run_u line next (free_may p limit ts t u two can_t can_u going1 y iu run_u line next free))
        (ap (λ (w : MachineState). w.end) (sym here) ∙ going2)))

  module _ (t u : ℕ) (B : AreBeside p m t u) (going1 : (step p m t).end ≡ None) (going2 : (step p m u).end ≡ None) where
    m1 : MachineState
    m1 = step p m t

    back : u ≡ t → ⊥
    back e = B.two (sym e)

    free_back : Free u t
    free_back b a ib ia C = B.free a b ia ib (record { field = sym C.field; writes = swap_sides C.writes })
      where
        swap_sides : (b.writes ≡ true) ⊎ (a.writes ≡ true) → (a.writes ≡ true) ⊎ (b.writes ≡ true)
        swap_sides (inl h) = inr h
        swap_sides (inr h) = inl h

    module _ (x y : Task) (is : slice_get m.tasks t ≡ Some x) (run_t : is_running (Some x) ≡ true) (iu : slice_get m.tasks u ≡ Some y) (run_u : is_running (Some y) ≡ true) where
      module _ (lt lu : Line) (nt : fetched p x.top ≡ Some lt) (nu : fetched p y.top ≡ Some lu) where
        -- the writes of both are of different fields
        edits_agree : (k : Name) (d : Edit) (n : Name) (e : Edit) → EditsBy (setting m t x) x.top m.store lt.instr k d → EditsBy (setting m u y) y.top m.store lu.instr n e → n ≡ k → (o : Object) → edited e (edited d o) ≡ edited d (edited e o)
        edits_agree k d n e ha hb same_name o = edits_agree_by_cases d e ha hb
          where
            clash : (b : Bool) (i j : ℕ) → Writes (setting m t x) x.top m.store lt.instr b k i → Writes (setting m u y) y.top m.store lu.instr b n j → i ≡ j → ⊥
            clash b i j wt wu e =
                let named : field_of b k i ≡ field_of b n j = ap (λ q. field_of b q i) (sym same_name) ∙ ap (field_of b n) e in
                let a = written_at p m (N p limit ts t u B.two B.first B.second going1) t x lt (here_acting p limit ts u t back B.second B.first going2 x is run_t lt nt) b k i wt in
                let c = written_at p m (N p limit ts t u B.two B.first B.second going1) u y lu (here_acting p limit ts t u B.two B.first B.second going1 y iu run_u lu nu) b n j wu in
                B.free a.0 c.0 a.1 c.1 (record { field = a.2 ∙ (named ∙ sym c.2); writes = inl a.3 })

            edits_agree_by_cases : (d e : Edit) → EditsBy (setting m t x) x.top m.store lt.instr k d → EditsBy (setting m u y) y.top m.store lu.instr n e → edited e (edited d o) ≡ edited d (edited e o)
            edits_agree_by_cases (SetRef i v) (SetRef j w) ht hu = ap (λ rs. record o { refs = rs }) (set_comm o.refs i j v w (clash false i j ht hu))
            edits_agree_by_cases (SetRef i v) (SetNumber j w) ht hu = refl
            edits_agree_by_cases (SetRef i v) Freezes ht hu = refl
            edits_agree_by_cases (SetNumber i v) (SetRef j w) ht hu = refl
            edits_agree_by_cases (SetNumber i v) (SetNumber j w) ht hu = ap (λ rs. record o { ints = rs }) (set_comm o.ints i j v w (clash true i j ht hu))
            edits_agree_by_cases (SetNumber i v) Freezes ht hu = refl
            edits_agree_by_cases Freezes (SetRef j w) ht hu = refl
            edits_agree_by_cases Freezes (SetNumber j w) ht hu = refl
            edits_agree_by_cases Freezes Freezes ht hu = refl

        agree : (a b : Change) → ChangesBy (setting m t x) x.top m.store lt.instr a → ChangesBy (setting m u y) y.top m.store lu.instr b → Agree b a
        agree Same b ha hb = agree_by_cases b
          where
            agree_by_cases : (b : Change) → Agree b Same
            agree_by_cases Same = tt
            agree_by_cases (Grows o) = tt
            agree_by_cases (Edits n d) = tt
        agree (Grows o) b ha hb = agree_by_cases b
          where
            agree_by_cases : (b : Change) → Agree b (Grows o)
            agree_by_cases Same = tt
            agree_by_cases (Grows q) = tt
            agree_by_cases (Edits n d) = tt
        agree (Edits k d) Same ha hb = tt
        agree (Edits k d) (Grows o) ha hb = tt
        agree (Edits k d) (Edits n e) ha hb = λ same_name o. edits_agree k d n e ha.1 hb.1 same_name o

        both_go : SameButNumbers m (step p (step p m t) u) (step p (step p m u) t)
        both_go =
            let g : m.end ≡ None = going p limit ts t u B.two B.first B.second going1 in
            commute_two m (K p limit ts t u B.two B.first B.second going1) (D p limit ts t u B.two B.first B.second going1) (N p limit ts t u B.two B.first B.second going1) (run_low p limit ts) (counted_here p limit ts).rows g
            t u B.two x y is iu (runs_is x.status run_t) (runs_is y.status run_u) (can_runs m t B.first) (can_runs m u B.second) (step p m t) (step p m u) (step p (step p m t) u) (step p (step p m u) t) lt.instr lu.instr agree
            (task_is_left p limit ts u t back B.second B.first going2 x is run_t) (task_is_left p limit ts t u B.two B.first B.second going1 y iu run_u)
            (two_of u t back B.second B.first going2 going1 free_back g x is run_t lt nt) (two_of t u B.two B.first B.second going1 going2 B.free g y iu run_u lu nu)

      by_lines : (ot ou : Option Line) → fetched p x.top ≡ ot → fetched p y.top ≡ ou → SameButNumbers m (step p (step p m t) u) (step p (step p m u) t)
      by_lines (Some lt) (Some lu) nt nu = both_go lt lu nt nu
      by_lines None ou nt nu =
          let e1 : step p m t ≡ m = step_none p m t x B.first is nt in
          let e2 : step p (step p m u) t ≡ step p m u = step_none p (step p m u) t x (can_there p limit ts u t back B.second B.first going2 x is run_t) (task_is_left p limit ts u t back B.second B.first going2 x is run_t) nt in
          same_itself m (step p (step p m t) u) (step p (step p m u) t) (even_same (step p (step p m t) u) (step p (step p m u) t) (e2 ∙ ap (λ w. step p w u) (sym e1)))
      by_lines (Some lt) None nt nu =
          let e1 : step p m u ≡ m = step_none p m u y B.second iu nu in
          let e2 : step p (step p m t) u ≡ step p m t = step_none p (step p m t) u y (can_there p limit ts t u B.two B.first B.second going1 y iu run_u) (task_is_left p limit ts t u B.two B.first B.second going1 y iu run_u) nu in
          same_itself m (step p (step p m t) u) (step p (step p m u) t) (even_same (step p (step p m t) u) (step p (step p m u) t) (ap (λ w. step p w t) e1 ∙ sym e2))

    pub commute : SameButNumbers m (step p (step p m t) u) (step p (step p m u) t)
    commute =
        let x = can_task m t B.first in
        let y = can_task m u B.second in
        by_lines x.0 y.0 x.1 x.2 y.1 y.2 (fetched p x.0.top) (fetched p y.0.top) refl refl

pub steps_commute : StepsCommute
steps_commute p limit ts t u B going1 going2 = let S = commute p limit ts t u B going1 going2 in record { f = S.f; renaming = S.renaming; old = S.old; alike = S.alike }
