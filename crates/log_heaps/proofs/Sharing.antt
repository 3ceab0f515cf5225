-- Blocks that other tasks name than those that bear them.
use Rattle.log_heaps.proofs.Common.{◌≡◌, ◌≢◌, ◌<◌, ◌+◌, ◌∙◌, ◌⊎◌, inl, inr, ℕ, Bool, true, false, List, refl, sym, ap, subst, arith, Option, Some, None, slice_get, or_cases, cases_eq, not-true, nat_tests, same_Some, get_or_from_slice_get, ◌==◌, ◌||◌, not, if◌then◌else◌, option_is, below_next, task_at, WalkValue, LogTasks, log_strand, StrandStandsAt, StandsNowhere, Event, event, Act, GraphStrand, strand, LineAt, Lifetimes, born, released, used, DoesToBlock, IsScene, line_told, is_told, not_seen, seen_block, seen_strand, see, SharedBlocks, referred, IsOfTask, IsNamedAlone, AreOwn, foreign, foreign_by, is_shared, shared_after, NamesForeign, AreSharedBelow}
use Rattle.log_heaps.proofs.BornBlocks.{one_birth, told_birth, birth_done}

or_left : (x y : Bool) → x ≡ true → (x || y) ≡ true
or_left true y e = refl
or_left false y e = absurd (let z : false ≡ true = e in cc)

or_right : (x y : Bool) → y ≡ true → (x || y) ≡ true
or_right true y e = refl
or_right false y e = e

option_true : (o : Option ℕ) (b : ℕ) → option_is o b ≡ true → o ≡ Some b
option_true None b e = absurd (let z : false ≡ true = e in cc)
option_true (Some c) b e = ap Some (let same : c ≡ b = grind (arith, nat_tests, e) in same)

option_same : (o : Option ℕ) (b : ℕ) → o ≡ Some b → option_is o b ≡ true
option_same None b e = absurd (let z : ◌≡◌ {A = Option ℕ} None (Some b) = e in cc)
option_same (Some c) b e = let same : c ≡ b = same_Some c b e in grind (arith, nat_tests, same)

-- THE BLOCKS OF OTHER TASKS

module _ (order : List GraphStrand) (q b : ℕ) where
  foreign_line_by : (birth : LineAt) (c : ℕ) (test : Bool) → (task_at order birth.place == task_at order q) ≡ test → (if test then None else Some c) ≡ Some b → (c ≡ b) × (task_at order birth.place ≢ task_at order q)
  foreign_line_by birth c true e is = absurd (let z : ◌≡◌ {A = Option ℕ} None (Some b) = is in cc)
  foreign_line_by birth c false e is = (same_Some c b is, λ same. (let z : (task_at order birth.place == task_at order q) ≡ true = grind (arith, nat_tests, same) in (let y : false ≡ true = sym e ∙ z in cc)))

  foreign_told : (c : ℕ) (told : Option LineAt) → foreign_by order q c told ≡ Some b → (c ≡ b) × ((birth : LineAt) × (told ≡ Some birth) × (task_at order birth.place ≢ task_at order q))
  foreign_told c None is = absurd (let z : ◌≡◌ {A = Option ℕ} None (Some b) = is in cc)
  foreign_told c (Some birth) is = let h = foreign_line_by birth c (task_at order birth.place == task_at order q) refl is in (h.0, (birth, refl, h.1))

  told_foreign_by : (birth : LineAt) (test : Bool) → (task_at order birth.place == task_at order q) ≡ test → (task_at order birth.place ≢ task_at order q) → (if test then None else Some b) ≡ Some b
  told_foreign_by birth true e apart = absurd (apart (let same : task_at order birth.place ≡ task_at order q = grind (arith, nat_tests, e) in same))
  told_foreign_by birth false e apart = refl

  told_foreign : (birth : LineAt) → (task_at order birth.place ≢ task_at order q) → foreign_by order q b (Some birth) ≡ Some b
  told_foreign birth apart = told_foreign_by birth (task_at order birth.place == task_at order q) refl apart

module _ (tasks : LogTasks) (events : List Event) (walk : WalkValue) (known : Lifetimes) (scene : IsScene tasks events walk known) where
  module _ (n : ℕ) (s : GraphStrand) (a : Act) (at : slice_get events n ≡ Some (event s a)) where
    module _ (place : ℕ) (stands : StrandStandsAt tasks walk.order s place) (b : ℕ) where
      task_there : (p : ℕ) (u : GraphStrand) → slice_get walk.order p ≡ Some u → task_at walk.order p ≡ u.task
      task_there p u got = ap (λ (x : GraphStrand). x.task) (get_or_from_slice_get walk.order p u (strand 0 0) got)

      named_by : (does : Act → Option ℕ) (block : Option ℕ) → does a ≡ block → foreign walk.order known.births place block ≡ Some b
          → (does a ≡ Some b) × ((birth : LineAt) × (line_told known.births b ≡ Some birth) × (task_at walk.order birth.place ≢ task_at walk.order place))
      named_by does None e is = absurd (let z : ◌≡◌ {A = Option ℕ} None (Some b) = is in cc)
      named_by does (Some c) e is =
          let h = foreign_told walk.order place b c (line_told known.births c) is in
          (e ∙ ap (λ (x : ℕ). Some x) h.0, (h.1.0, ap (line_told known.births) (sym h.0) ∙ h.1.1, h.1.2))

      -- what is told of a foreign block is so
      named_foreign : (does : Act → Option ℕ) → option_is (foreign walk.order known.births place (does a)) b ≡ true
          → (DoesToBlock does events tasks b n stands.strand → DoesToBlock used events tasks b n stands.strand ⊎ (DoesToBlock referred events tasks b n stands.strand ⊎ DoesToBlock released events tasks b n stands.strand))
          → NamesForeign events tasks b n
      named_foreign does e names =
          let h = named_by does (does a) refl (option_true (foreign walk.order known.births place (does a)) b e) in
          let done = told_birth tasks events walk known scene b h.1.0 h.1.1 in
          record {
            line = h.1.0.line;
            birth = done.stands.strand;
            born_there = birth_done tasks events walk known scene b h.1.0.line h.1.0.place done;
            strand = stands.strand;
            names = names (see tasks events walk known scene n s a at does place stands b h.0);
            apart = λ same. h.1.2 (task_there h.1.0.place done.stands.strand done.stands.at ∙ same ∙ sym (task_there place stands.strand stands.at));
          }

      foreign_named : (does : Act → Option ℕ) (is : NamesForeign events tasks b n) → DoesToBlock does events tasks b n is.strand → option_is (foreign walk.order known.births place (does a)) b ≡ true
      foreign_named does is d =
          let block : does a ≡ Some b = seen_block tasks events walk known scene n s a at does place stands b is.strand d in
          let same : stands.strand ≡ is.strand = seen_strand tasks events walk known scene n s a at does place stands b is.strand d in
          let told = is_told tasks events walk known scene born known.births scene.all.births scene.born_once b is.line is.birth is.born_there in
          option_same (foreign walk.order known.births place (does a)) b
          (ap (foreign walk.order known.births place) block
          ∙ ap (foreign_by walk.order place b) told.told
          ∙ told_foreign walk.order place b told.line (λ e. is.apart (sym (task_there told.line.place is.birth told.at) ∙ e ∙ task_there place stands.strand stands.at ∙ ap (λ (x : GraphStrand). x.task) same)))

      -- what an act shares
      shared_cases : (before : SharedBlocks) → shared_after (foreign walk.order known.births place) a before b ≡ true → NamesForeign events tasks b n ⊎ (is_shared before b ≡ true)
      shared_cases before e =
          let alien = foreign walk.order known.births place in
          elim (or_cases (option_is (alien (released a)) b) (option_is (alien (referred a)) b || (option_is (alien (used a)) b || is_shared before b)) e) [
            | inl h ↦ inl (named_foreign released h (λ d. inr (inr d)))
            | inr rest ↦ elim (or_cases (option_is (alien (referred a)) b) (option_is (alien (used a)) b || is_shared before b) rest) [
              | inl h ↦ inl (named_foreign referred h (λ d. inr (inl d)))
              | inr last ↦ elim (or_cases (option_is (alien (used a)) b) (is_shared before b) last) [ inl h ↦ inl (named_foreign used h (λ d. inl d)) | inr h ↦ inr h ]
            ]
          ]

      still_shared : (before : SharedBlocks) → is_shared before b ≡ true → shared_after (foreign walk.order known.births place) a before b ≡ true
      still_shared before e =
          let alien = foreign walk.order known.births place in
          or_right (option_is (alien (released a)) b) (option_is (alien (referred a)) b || (option_is (alien (used a)) b || is_shared before b))
          (or_right (option_is (alien (referred a)) b) (option_is (alien (used a)) b || is_shared before b) (or_right (option_is (alien (used a)) b) (is_shared before b) e))

      shared_by : (before : SharedBlocks) (is : NamesForeign events tasks b n)
          → DoesToBlock used events tasks b n is.strand ⊎ (DoesToBlock referred events tasks b n is.strand ⊎ DoesToBlock released events tasks b n is.strand)
          → shared_after (foreign walk.order known.births place) a before b ≡ true
      shared_by before is (inl d) =
          let alien = foreign walk.order known.births place in
          or_right (option_is (alien (released a)) b) (option_is (alien (referred a)) b || (option_is (alien (used a)) b || is_shared before b))
          (or_right (option_is (alien (referred a)) b) (option_is (alien (used a)) b || is_shared before b) (or_left (option_is (alien (used a)) b) (is_shared before b) (foreign_named used is d)))
      shared_by before is (inr (inl d)) =
          let alien = foreign walk.order known.births place in
          or_right (option_is (alien (released a)) b) (option_is (alien (referred a)) b || (option_is (alien (used a)) b || is_shared before b))
          (or_left (option_is (alien (referred a)) b) (option_is (alien (used a)) b || is_shared before b) (foreign_named referred is d))
      shared_by before is (inr (inr d)) =
          let alien = foreign walk.order known.births place in
          or_left (option_is (alien (released a)) b) (option_is (alien (referred a)) b || (option_is (alien (used a)) b || is_shared before b)) (foreign_named released is d)

    -- after an act of a strand that has a place
    pub shared_more : (place : ℕ) (stands : StrandStandsAt tasks walk.order s place) (before after : SharedBlocks)
        → ((b : ℕ) → is_shared after b ≡ shared_after (foreign walk.order known.births place) a before b)
        → AreSharedBelow events tasks n (is_shared before) → AreSharedBelow events tasks (n + 1) (is_shared after)
    shared_more place stands before after is old = λ b. (λ e. found b (shared_cases place stands b before (sym (is b) ∙ e)), λ h. is b ∙ member b h.0 h.2 (below_next h.0 n h.1))
      where
        found : (b : ℕ) → NamesForeign events tasks b n ⊎ (is_shared before b ≡ true) → (k : ℕ) × (k < n + 1) × NamesForeign events tasks b k
        found b (inl names) = (n, omega arith, names)
        found b (inr e) = let h = (old b).0 e in (h.0, (let lt : h.0 < n = h.1 in omega (arith, lt)), h.2)

        member : (b k : ℕ) → NamesForeign events tasks b k → (k < n) ⊎ (k ≡ n) → shared_after (foreign walk.order known.births place) a before b ≡ true
        member b k names (inl below) = still_shared place stands b before ((old b).1 (k, below, names))
        member b k names (inr same) = let here = subst (NamesForeign events tasks b) same names in shared_by place stands b before here here.names

    named_nowhere : StandsNowhere tasks walk.order s → (b : ℕ) (v : GraphStrand)
        → DoesToBlock used events tasks b n v ⊎ (DoesToBlock referred events tasks b n v ⊎ DoesToBlock released events tasks b n v) → ⊥
    named_nowhere nowhere b v (inl d) = not_seen tasks events walk known scene n s a at used nowhere b v d
    named_nowhere nowhere b v (inr (inl d)) = not_seen tasks events walk known scene n s a at referred nowhere b v d
    named_nowhere nowhere b v (inr (inr d)) = not_seen tasks events walk known scene n s a at released nowhere b v d

    -- an act of another strand shares nothing
    pub shared_same : StandsNowhere tasks walk.order s → (shared : ℕ → Bool) → AreSharedBelow events tasks n shared → AreSharedBelow events tasks (n + 1) shared
    shared_same nowhere shared old = λ b. (
      λ e. (let h = (old b).0 e in (h.0, (let lt : h.0 < n = h.1 in omega (arith, lt)), h.2)),
      λ h. member b h.0 h.2 (below_next h.0 n h.1),
    )
      where
        member : (b k : ℕ) → NamesForeign events tasks b k → (k < n) ⊎ (k ≡ n) → shared b ≡ true
        member b k names (inl below) = (old b).1 (k, below, names)
        member b k names (inr same) = let here = subst (NamesForeign events tasks b) same names in absurd (named_nowhere nowhere b here.strand here.names)

  -- OWN BLOCKS

  module _ (n : ℕ) (within : (k : ℕ) (e : Event) → slice_get events k ≡ Some e → k < n) (shared : ℕ → Bool) (all : AreSharedBelow events tasks n shared) where
    of_task : (does : Act → Option ℕ) (b m : ℕ) (u : GraphStrand) → DoesToBlock born events tasks b m u → shared b ≡ false
        → ((k : ℕ) (v : GraphStrand) → DoesToBlock does events tasks b k v → DoesToBlock used events tasks b k v ⊎ (DoesToBlock referred events tasks b k v ⊎ DoesToBlock released events tasks b k v))
        → IsOfTask does events tasks b u.task
    of_task does b m u d none names k v e =
        elim (cases_eq v.task u.task) [
          | inl same ↦ same
          | inr apart ↦ absurd (let z : false ≡ true = sym none ∙ (all b).1 (k, within k (event (log_strand tasks.numbers v) e.act) e.at, record { line = m; birth = u; born_there = d; strand = v; names = names k v e; apart = λ same. apart (sym same) }) in cc)
        ]

    alone_apart : (b : ℕ) (u : GraphStrand) (k m : ℕ) → DoesToBlock born events tasks b m u → IsNamedAlone events tasks b u.task → (is : NamesForeign events tasks b k)
        → DoesToBlock used events tasks b k is.strand ⊎ (DoesToBlock referred events tasks b k is.strand ⊎ DoesToBlock released events tasks b k is.strand) → is.strand.task ≡ u.task
    alone_apart b u k m d alone is (inl e) = alone.accesses k is.strand e
    alone_apart b u k m d alone is (inr (inl e)) = alone.references k is.strand e
    alone_apart b u k m d alone is (inr (inr e)) = alone.releases k is.strand e

    not_shared : (b m : ℕ) (u : GraphStrand) → DoesToBlock born events tasks b m u → IsNamedAlone events tasks b u.task → (is : Bool) → shared b ≡ is → not is ≡ true
    not_shared b m u d alone false e = refl
    not_shared b m u d alone true e =
        let h = (all b).0 e in
        let birth : h.2.birth ≡ u = one_birth tasks events walk known scene b h.2.line m h.2.birth u h.2.born_there d in
        absurd (h.2.apart (ap (λ (x : GraphStrand). x.task) birth ∙ sym (alone_apart b u h.0 m d alone h.2 h.2.names)))

    -- blocks that aren't shared are their tasks' own
    pub are_own : AreOwn events tasks (λ b. not (shared b))
    are_own b m u d = (
      λ e. (let none = not-true (shared b) e in record {
        accesses = of_task used b m u d none (λ k v h. inl h);
        references = of_task referred b m u d none (λ k v h. inr (inl h));
        releases = of_task released b m u d none (λ k v h. inr (inr h));
      }),
      λ alone. not_shared b m u d alone (shared b) refl,
    )
