-- A task names only what its path owns, and an object refers only along a path.
use Rattle.path_laws.proofs.Common.{◌≡◌, ℕ, ℤ, zero, suc, ◌+◌, ◌<◌, ◌≤◌, ◌==◌, ◌||◌, Bool, true, false, Option, Some, List, [], ◌∷◌, ◌++◌, length, slice_get, slice_set, ◌⊎◌, inl, inr, refl, ap, sym, subst, ◌∙◌, arith, length-set, ne_eqb, or_right, fun_ext, same_Some, In, got_cases, got_within, same_view, ProgramText, Name, Object, Waiting, Task, MachineState, row_of, onward, ref_in, refs_of, refs_at, task_names, waits, is_over, is_running, is_waiting, is_joined, parent_of, parents, joined, owner_in, path_in, is_left, joined_task, resumed, child, step, root, run, start, ended_task, result_of, AreLow, path_child, path_itself, path_same, owner_same, owner_le, owner_joins, on_one_path, path_parent, in_from_named, next_name, running_tells, grown_length, grown_view, grown_view_front, grown_left, grown_right, fork_tree, three_length, three_view, three_left, three_right, parl, parr, below, drest, joiner_live, IsForkJoinState, seen, Drawn, Put, runs_is, names_run, register_cases, step_cases, waits_is, refs_grown, grown_cases, three_cases, joined_names, resumed_names, owner_here}
pub use Rattle.path_laws.specs.Paths.{OnePath}
pub use Rattle.path_laws.specs.Disentangled.{IsOnPathOf, AreOnOnePath, Apart, Disentangled}

apart_by : (tasks : List Task) (store : List (List Object)) (n : ℕ) (par : ℕ → Option ℕ) (jd : ℕ → Bool) → length tasks ≡ n → parents tasks ≡ par → joined tasks ≡ jd → Apart n par jd tasks store → Disentangled tasks store
apart_by tasks store n par jd en ep ed I =
    subst (λ x. Apart x (parents tasks) (joined tasks) tasks store) (sym en)
    (subst (λ f. Apart n f (joined tasks) tasks store) (sym ep)
    (subst (λ f. Apart n par f tasks store) (sym ed) I))

-- owners after a join
module _ (par : ℕ → Option ℕ) (low : AreLow par) (jd jd' : ℕ → Bool) (l r p : ℕ)
    (pl : par l ≡ Some p) (pr : par r ≡ Some p) (dl : jd l ≡ false) (dr : jd r ≡ false) (dp' : jd' p ≡ false)
    (dl' : jd' l ≡ true) (dr' : jd' r ≡ true) (rest : (u : ℕ) → (u ≡ l → ⊥) → (u ≡ r → ⊥) → jd' u ≡ jd u) where
  abbrev o : ℕ → ℕ
  o a = owner_in par jd a

  abbrev o' : ℕ → ℕ
  o' a = owner_in par jd' a

  moves : (a : ℕ) → ((o' a ≡ p) × ((o a ≡ l) ⊎ (o a ≡ r))) ⊎ ((o' a ≡ o a) × ((o a ≡ l → ⊥) × (o a ≡ r → ⊥)))
  moves a = owner_joins par low jd jd' l r p pl pr dl dr dp' dl' dr' rest a

  -- from a child's heap to its parent's
  lifted : (x u : ℕ) → (x ≡ l) ⊎ (x ≡ r) → path_in par x u ≡ true → path_in par p u ≡ true
  lifted x u (inl e) h = path_parent par low l p u pl (subst (λ y. path_in par y u ≡ true) e h)
  lifted x u (inr e) h = path_parent par low r p u pr (subst (λ y. path_in par y u ≡ true) e h)

  over : (c x y : ℕ) → par c ≡ Some p → (x ≡ c → ⊥) → y ≡ c → path_in par x y ≡ true → path_in par x p ≡ true
  over c x y pc ne e h = sym (path_child par low x c p pc ∙ ap (λ b. b || path_in par x p) (ne_eqb x c ne)) ∙ (ap (λ z. path_in par x z) (sym e) ∙ h)

  above : (x y : ℕ) → (x ≡ l → ⊥) × (x ≡ r → ⊥) → (y ≡ l) ⊎ (y ≡ r) → path_in par x y ≡ true → path_in par x p ≡ true
  above x y ne (inl e) h = over l x y pl ne.0 e h
  above x y ne (inr e) h = over r x y pr ne.1 e h

  pub own_joins : (u a : ℕ) → path_in par (o a) u ≡ true → path_in par (o' a) u ≡ true
  own_joins u a h = elim (moves a) [
    | inl m ↦ ap (λ x. path_in par x u) m.0 ∙ lifted (o a) u m.1 h
    | inr m ↦ ap (λ x. path_in par x u) m.0 ∙ h
  ]

  owners_on_one_path : (a b x y : ℕ) → o' a ≡ x → o' b ≡ y → OnePath par x y → OnePath par (o' a) (o' b)
  owners_on_one_path a b x y ea eb h = subst (λ w. OnePath par w (o' b)) (sym ea) (subst (λ w. OnePath par x w) (sym eb) h)

  pub refers_joins : (a b : ℕ) → OnePath par (o a) (o b) → OnePath par (o' a) (o' b)
  refers_joins a b h = elim (moves a) [
    | inl m ↦ elim (moves b) [
      | inl k ↦ owners_on_one_path a b p p m.0 k.0 (inl (path_itself par low p))
      | inr k ↦ owners_on_one_path a b p (o b) m.0 k.0 (elim h [ inl f ↦ inl (lifted (o a) (o b) m.1 f) | inr g ↦ inr (above (o b) (o a) k.1 m.1 g) ])
    ]
    | inr m ↦ elim (moves b) [
      | inl k ↦ owners_on_one_path a b (o a) p m.0 k.0 (elim h [ inl f ↦ inl (above (o a) (o b) m.1 k.1 f) | inr g ↦ inr (lifted (o b) (o a) k.1 g) ])
      | inr k ↦ owners_on_one_path a b (o a) (o b) m.0 k.0 h
    ]
  ]

  at_up : (a b x y : ℕ) → o' a ≡ x → o' b ≡ y → path_in par x y ≡ true → path_in par (o' a) (o' b) ≡ true
  at_up a b x y ea eb h = ap (λ w. path_in par w (o' b)) ea ∙ (ap (λ w. path_in par x w) eb ∙ h)

  pub up_joins : (a b : ℕ) → path_in par (o a) (o b) ≡ true → path_in par (o' a) (o' b) ≡ true
  up_joins a b h = elim (moves a) [
    | inl m ↦ elim (moves b) [
      | inl k ↦ at_up a b p p m.0 k.0 (path_itself par low p)
      | inr k ↦ at_up a b p (o b) m.0 k.0 (lifted (o a) (o b) m.1 h)
    ]
    | inr m ↦ elim (moves b) [
      | inl k ↦ at_up a b (o a) p m.0 k.0 (above (o a) (o b) m.1 k.1 h)
      | inr k ↦ at_up a b (o a) (o b) m.0 k.0 h
    ]
  ]

-- owners after a fork
module _ (par par' : ℕ → Option ℕ) (low : AreLow par) (low' : AreLow par') (n : ℕ) (agree : (u : ℕ) → u < n → par' u ≡ par u) (jd : ℕ → Bool) where
  pub own_forks : (u a : ℕ) → u < n → a < n → path_in par (owner_in par jd a) u ≡ true → path_in par' (owner_in par' jd a) u ≡ true
  own_forks u a lu la h = path_same par par' low n agree (owner_in par' jd a) u lu ∙ (ap (λ x. path_in par x u) (owner_same par par' low n agree jd a a la) ∙ h)

  pub own_child : (t c a : ℕ) → t < n → a < n → par' c ≡ Some t → path_in par (owner_in par jd a) t ≡ true → path_in par' (owner_in par' jd a) c ≡ true
  own_child t c a lt la pc h = path_child par' low' (owner_in par' jd a) c t pc ∙ or_right (owner_in par' jd a == c) (path_in par' (owner_in par' jd a) t) (own_forks t a lt la h)

  pub path_forks : (a b : ℕ) → a < n → b < n → path_in par (owner_in par jd a) (owner_in par jd b) ≡ true → path_in par' (owner_in par' jd a) (owner_in par' jd b) ≡ true
  path_forks a b la lb h =
      let le : owner_in par jd b ≤ b = owner_le par low jd b b in
      ap (λ x. path_in par' (owner_in par' jd a) x) (owner_same par par' low n agree jd b b lb) ∙ own_forks (owner_in par jd b) a (omega arith) la h

  pub refers_forks : (a b : ℕ) → a < n → b < n → OnePath par (owner_in par jd a) (owner_in par jd b) → OnePath par' (owner_in par' jd a) (owner_in par' jd b)
  refers_forks a b la lb h = elim h [ inl f ↦ inl (path_forks a b la lb f) | inr g ↦ inr (path_forks b a lb la g) ]

module _ (p : ProgramText) (m : MachineState) (t : ℕ) (K : IsForkJoinState m) (I : Disentangled m.tasks m.store) where
  abbrev n : ℕ
  n = length m.tasks

  abbrev par : ℕ → Option ℕ
  par = parents m.tasks

  abbrev jd : ℕ → Bool
  jd = joined m.tasks

  low : AreLow par
  low = K.tree.low

  own_next : (x : Task) → slice_get m.tasks t ≡ Some x → is_running (Some x) ≡ true → IsOnPathOf n par jd t (next_name t m.store)
  own_next x is run =
      let live : jd t ≡ false = ap is_joined is ∙ (running_tells x.status run).0 in
      (got_within m.tasks t x is, ap (λ a. path_in par a t) (owner_here par jd t t live) ∙ path_itself par low t)

  drawn : (x : Task) (r : Name) → slice_get m.tasks t ≡ Some x → is_running (Some x) ≡ true → Drawn p m t x r → IsOnPathOf n par jd t r
  drawn x r is run (inl old) = I.of_task t x r is old
  drawn x r is run (inr (inl k)) = subst (IsOnPathOf n par jd t) (sym k.0) (own_next x is run)
  drawn x r is run (inr (inr read)) =
      ((I.of_object read.0 r read.2).1, sym (seen m K t x r read.3.0 is run read.3.1) ∙ read.3.2)

  put : (x : Task) (k r : Name) → slice_get m.tasks t ≡ Some x → is_running (Some x) ≡ true → Put p m t x k r → AreOnOnePath n par jd k r
  put x k r is run (inl old) = I.of_object k r old
  put x k r is run (inr w) =
      let ok : IsOnPathOf n par jd t k = elim (w.0) [ inl i ↦ I.of_task t x k is i | inr e ↦ subst (IsOnPathOf n par jd t) (sym e.0) (own_next x is run) ] in
      let or : IsOnPathOf n par jd t r = I.of_task t x r is w.1 in
      (ok.0, or.0, on_one_path par low (owner_in par jd k.task) (owner_in par jd r.task) t ok.1 or.1)

  written : (y : Task) → ((r : Name) → In (task_names y) r → IsOnPathOf n par jd t r) → (u : ℕ) (z : Task) (r : Name) → slice_get (slice_set m.tasks t y) u ≡ Some z → In (task_names z) r → IsOnPathOf n par jd u r
  written y names u z r e h = elim (got_cases m.tasks t u y z e) [
    | inl here ↦ subst (λ w. IsOnPathOf n par jd w r) (sym here.0) (names r (subst (λ (w : Task). In (task_names w) r) here.1 h))
    | inr old ↦ I.of_task u z r old h
  ]

  replaced : (x y : Task) (store : List (List Object)) → slice_get m.tasks t ≡ Some x → y.parent ≡ x.parent → is_over y.status ≡ is_over x.status
      → ((r : Name) → In (task_names y) r → IsOnPathOf n par jd t r) → ((k r : Name) → In (refs_at store k) r → AreOnOnePath n par jd k r) → Disentangled (slice_set m.tasks t y) store
  replaced x y store is ep ed names fields =
      apart_by (slice_set m.tasks t y) store n par jd (length-set m.tasks t y) (same_view parent_of m.tasks t x y is ep) (same_view is_joined m.tasks t x y is ed)
      (record { of_task = written y names; of_object = fields })

  module _ (x : Task) (g h : ℕ) (is : slice_get m.tasks t ≡ Some x) (run : is_running (Some x) ≡ true) (top : (r : Name) → In x.top.refs (Some r) → In (task_names x) r) where
    abbrev y : Task
    y = record x { status = Waiting; top = onward x.top }

    abbrev cl : Task
    cl = child t (x.depth + 1) g x.top

    abbrev cr : Task
    cr = child t (x.depth + 1) h x.top

    abbrev all : List Task
    all = slice_set m.tasks t y ++ cl ∷ cr ∷ []

    agree : (u : ℕ) → u < n → parents all u ≡ par u
    agree u lt = grown_view_front m.tasks t x y cl cr is parent_of refl u lt

    low' : AreLow (parents all)
    low' = (fork_tree m.tasks m.edges t x (onward x.top) x.top x.top g h is run K.tree).low

    kid : (c k : ℕ) (r : Name) → parents all c ≡ Some t → In (task_names (child t (x.depth + 1) k x.top)) r → IsOnPathOf (n + 2) (parents all) jd c r
    kid c k r pc i =
        let f = I.of_task t x r is (elim (register_cases x.top [] r i) [ inl j ↦ top r j | inr none ↦ absurd none ]) in
        let a : r.task < n = f.0 in
        (omega arith, own_child par (parents all) low low' n agree jd t c r.task (got_within m.tasks t x is) a pc f.1)

    old_task : (u : ℕ) (z : Task) (r : Name) → slice_get (slice_set m.tasks t y) u ≡ Some z → In (task_names z) r → IsOnPathOf (n + 2) (parents all) jd u r
    old_task u z r e i =
        let f = written y (λ q j. I.of_task t x q is (names_run x q (runs_is x.status run) j)) u z r e i in
        let a : r.task < n = f.0 in
        let b : u < n = subst (λ k. u < k) (length-set m.tasks t y) (got_within (slice_set m.tasks t y) u z e) in
        (omega arith, own_forks par (parents all) low low' n agree jd u r.task b a f.1)

    forked_task : (u : ℕ) (z : Task) (r : Name) → slice_get all u ≡ Some z → In (task_names z) r → IsOnPathOf (n + 2) (parents all) jd u r
    forked_task u z r e i =
        elim (grown_cases (slice_set m.tasks t y) cl cr u z e) [
          | inl old ↦ old_task u z r old i
          | inr new ↦ elim new [
            | inl a ↦ kid u g r (ap (parents all) (a.0 ∙ length-set m.tasks t y) ∙ ap parent_of (grown_left m.tasks t x y cl cr is)) (subst (λ (w : Task). In (task_names w) r) a.1 i)
            | inr a ↦ kid u h r (ap (parents all) (a.0 ∙ ap (λ k. k + 1) (length-set m.tasks t y)) ∙ ap parent_of (grown_right m.tasks t x y cl cr is)) (subst (λ (w : Task). In (task_names w) r) a.1 i)
          ]
        ]

    forked_object : (k r : Name) → In (refs_at (m.store ++ [] ∷ [] ∷ []) k) r → AreOnOnePath (n + 2) (parents all) jd k r
    forked_object k r i =
        let f = I.of_object k r (refs_grown m.store k r i) in
        let a : k.task < n = f.0 in
        let b : r.task < n = f.1 in
        (omega arith, omega arith, refers_forks par (parents all) low low' n agree jd k.task r.task a b f.2)

    joined_same : joined all ≡ jd
    joined_same = fun_ext (grown_view m.tasks t x y cl cr is is_joined (sym (running_tells x.status run).0) refl refl)

    pub up_forked : (a b : ℕ) → a < n → b < n → path_in par (owner_in par jd a) (owner_in par jd b) ≡ true → path_in (parents all) (owner_in (parents all) (joined all) a) (owner_in (parents all) (joined all) b) ≡ true
    up_forked a b la lb h =
        let Up : (ℕ → Bool) → Type 0 = λ f. path_in (parents all) (owner_in (parents all) f a) (owner_in (parents all) f b) ≡ true in
        subst Up (sym joined_same) (path_forks par (parents all) low low' n agree jd a b la lb h)

    fork_case : Disentangled all (m.store ++ [] ∷ [] ∷ [])
    fork_case =
        apart_by all (m.store ++ [] ∷ [] ∷ []) (n + 2) (parents all) jd (grown_length m.tasks t x y cl cr is) refl
        (fun_ext (grown_view m.tasks t x y cl cr is is_joined (sym (running_tells x.status run).0) refl refl))
        (record { of_task = forked_task; of_object = forked_object })

  module _ (parent l : ℕ) (xp xl xr : Task) (rl rr : ℤ × Option Name) (ip : slice_get m.tasks parent ≡ Some xp) (il : slice_get m.tasks l ≡ Some xl) (ir : slice_get m.tasks (l + 1) ≡ Some xr)
      (pl : xl.parent ≡ Some parent) (left : is_left l ≡ true) (dl : is_over xl.status ≡ false) (dr : is_over xr.status ≡ false) (wl : waits xl.status ≡ false) (wr : waits xr.status ≡ false)
      (nl : (r : Name) → rl.1 ≡ Some r → In (task_names xl) r) (nr : (r : Name) → rr.1 ≡ Some r → In (task_names xr) r) where
    abbrev after : List Task
    after = slice_set (slice_set (slice_set m.tasks l (joined_task xl)) (l + 1) (joined_task xr)) parent (resumed xp rl rr)

    status : xp.status ≡ Waiting
    status = waits_is xp.status (ap is_waiting (sym ip) ∙ K.tree.waits l parent (ap parent_of il ∙ pl) (ap is_joined il ∙ dl))

    under : parent < l
    under = below m.tasks m.edges l parent xl xr xp rl rr il ir ip pl left dl dr wl wr K.tree

    up_l : par l ≡ Some parent
    up_l = parl m.tasks m.edges l parent xl xr xp rl rr il ir ip pl left dl dr wl wr K.tree

    up_r : par (l + 1) ≡ Some parent
    up_r = parr m.tasks m.edges l parent xl xr xp rl rr il ir ip pl left dl dr wl wr K.tree

    over_l : joined after l ≡ true
    over_l = ap is_joined (three_left m.tasks l parent xl xr xp (joined_task xl) (joined_task xr) (resumed xp rl rr) il ir ip under)

    over_r : joined after (l + 1) ≡ true
    over_r = ap is_joined (three_right m.tasks l parent xl xr xp (joined_task xl) (joined_task xr) (resumed xp rl rr) il ir ip under)

    rest : (u : ℕ) → (u ≡ l → ⊥) → (u ≡ l + 1 → ⊥) → joined after u ≡ jd u
    rest = drest m.tasks m.edges l parent xl xr xp rl rr il ir ip pl left dl dr wl wr K.tree

    live_p : joined after parent ≡ false
    live_p = joiner_live m.tasks m.edges l parent xl xr xp rl rr il ir ip pl left dl dr wl wr K.tree

    own_up : (u : ℕ) (r : Name) → IsOnPathOf n par jd u r → IsOnPathOf n par (joined after) u r
    own_up u r f = (f.0, own_joins par low jd (joined after) l (l + 1) parent up_l up_r (ap is_joined il ∙ dl) (ap is_joined ir ∙ dr) live_p over_l over_r rest u r.task f.1)

    refers_up : (k r : Name) → AreOnOnePath n par jd k r → AreOnOnePath n par (joined after) k r
    refers_up k r f = (f.0, f.1, refers_joins par low jd (joined after) l (l + 1) parent up_l up_r (ap is_joined il ∙ dl) (ap is_joined ir ∙ dr) live_p over_l over_r rest k.task r.task f.2)

    -- what a child's path owns, the parent's path owns after the join
    lift : (c : ℕ) (r : Name) → par c ≡ Some parent → joined after c ≡ true → (c ≡ l) ⊎ (c ≡ l + 1) → IsOnPathOf n par jd c r → IsOnPathOf n par (joined after) parent r
    lift c r pc dc which f = (f.0, lift_by (owner_joins par low jd (joined after) l (l + 1) parent up_l up_r (ap is_joined il ∙ dl) (ap is_joined ir ∙ dr) live_p over_l over_r rest r.task))
      where
        a : ℕ
        a = owner_in par jd r.task

        lift_by : ((owner_in par (joined after) r.task ≡ parent) × ((owner_in par jd r.task ≡ l) ⊎ (owner_in par jd r.task ≡ l + 1))) ⊎ ((owner_in par (joined after) r.task ≡ owner_in par jd r.task) × ((owner_in par jd r.task ≡ l → ⊥) × (owner_in par jd r.task ≡ l + 1 → ⊥)))
            → path_in par (owner_in par (joined after) r.task) parent ≡ true
        lift_by (inl k) = ap (λ x. path_in par x parent) k.0 ∙ path_itself par low parent
        lift_by (inr k) =
            let ne : owner_in par jd r.task ≡ c → ⊥ = λ e. elim which [ inl w ↦ k.1.0 (e ∙ w) | inr w ↦ k.1.1 (e ∙ w) ] in
            ap (λ x. path_in par x parent) k.0
            ∙ (sym (path_child par low (owner_in par jd r.task) c parent pc ∙ ap (λ b. b || path_in par (owner_in par jd r.task) parent) (ne_eqb (owner_in par jd r.task) c ne)) ∙ f.1)

    of_task' : (u : ℕ) (z : Task) (r : Name) → slice_get after u ≡ Some z → In (task_names z) r → IsOnPathOf n par (joined after) u r
    of_task' u z r e i =
        elim (three_cases m.tasks l parent (joined_task xl) (joined_task xr) (resumed xp rl rr) u z e) [
          | inl top ↦ subst (λ w. IsOnPathOf n par (joined after) w r) (sym top.0) (elim (resumed_names xp rl rr r status (subst (λ (w : Task). In (task_names w) r) top.1 i)) [
            | inl old ↦ own_up parent r (I.of_task parent xp r ip old)
            | inr res ↦ elim res [
              | inl a ↦ lift l r up_l over_l (inl refl) (I.of_task l xl r il (nl r a))
              | inr a ↦ lift (l + 1) r up_r over_r (inr refl) (I.of_task (l + 1) xr r ir (nr r a))
            ]
          ])
          | inr more ↦ elim more [
            | inl a ↦ absurd (joined_names xr z r a i)
            | inr more' ↦ elim more' [ inl a ↦ absurd (joined_names xl z r a i) | inr old ↦ own_up u r (I.of_task u z r old i) ]
          ]
        ]

    parents_same : parents after ≡ par
    parents_same = fun_ext (three_view m.tasks l parent xl xr xp (joined_task xl) (joined_task xr) (resumed xp rl rr) il ir ip under parent_of refl refl refl)

    pub up_joined : (a b : ℕ) → path_in par (owner_in par jd a) (owner_in par jd b) ≡ true → path_in (parents after) (owner_in (parents after) (joined after) a) (owner_in (parents after) (joined after) b) ≡ true
    up_joined a b h =
        let Up : (ℕ → Option ℕ) → Type 0 = λ f. path_in f (owner_in f (joined after) a) (owner_in f (joined after) b) ≡ true in
        subst Up (sym parents_same)
        (up_joins par low jd (joined after) l (l + 1) parent up_l up_r (ap is_joined il ∙ dl) (ap is_joined ir ∙ dr) live_p over_l over_r rest a b h)

    join_case : Disentangled after m.store
    join_case =
        apart_by after m.store n par (joined after)
        (three_length m.tasks l parent xl xr xp (joined_task xl) (joined_task xr) (resumed xp rl rr) il ir ip under)
        (fun_ext (three_view m.tasks l parent xl xr xp (joined_task xl) (joined_task xr) (resumed xp rl rr) il ir ip under parent_of refl refl refl)) refl
        (record { of_task = of_task'; of_object = λ k r i. refers_up k r (I.of_object k r i) })

  pub disentangled_step : Disentangled (step p m t).tasks (step p m t).store
  disentangled_step =
      step_cases p m t K (λ m'. Disentangled m'.tasks m'.store) I (λ x e is run why. I)
      (λ x y store outs is run ep ed es ej names fields alters grows.
      replaced x y store is ep (ap is_over es) (λ r h. drawn x r is run (names r h)) (λ k r h. put x k r is run (fields k r h)))
      (λ x parent e is run pp which result.
      replaced x (ended_task x (result_of x.top)) m.store is refl (sym (running_tells x.status run).0)
      (λ r h. I.of_task t x r is (result r (elim (in_from_named (ref_in x.top 0 ∷ []) r h) [ inl e ↦ e | inr none ↦ absurd none ]))) I.of_object)
      (λ x g h is run next top. fork_case x g h is run top)
      (λ parent l xp xl xr rl rr ip il ir pl left dl dr wl wr nl nr side. join_case parent l xp xl xr rl rr ip il ir pl left dl dr wl wr nl nr)

pub no_refs : (k c : ℕ) (r : Name) → In (refs_of (slice_get (row_of (slice_get ([] ∷ []) k)) c)) r → ⊥
no_refs zero c r h = h
no_refs (suc k) c r h = h

pub start_disentangled : (p : ProgramText) (limit : ℕ) → Disentangled (start p limit).tasks (start p limit).store
start_disentangled p limit = record { of_task = no_names; of_object = λ k r h. absurd (no_refs k.task k.count r h) }
  where
    no_names : (u : ℕ) (x : Task) (r : Name) → slice_get (start p limit).tasks u ≡ Some x → In (task_names x) r → IsOnPathOf 1 (parents (start p limit).tasks) (joined (start p limit).tasks) u r
    no_names zero x r e h = absurd (subst (λ (w : Task). In (task_names w) r) (sym (same_Some (root p) x e)) h)
    no_names (suc u) x r e h = absurd cc
