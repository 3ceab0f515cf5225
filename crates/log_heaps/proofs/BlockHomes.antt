-- In which heaps blocks are.
use Rattle.log_heaps.proofs.Common.{◌≡◌, ◌<◌, ◌∙◌, inl, inr, ℕ, Bool, true, false, List, refl, sym, ap, subst, arith, Option, Some, None, slice_get, nat_tests, same_Some, get_or_from_slice_get, nat_lt, task_at, WalkValue, LogTasks, StrandStandsAt, Event, event, Act, GraphStrand, GraphTurn, strand, tasks_in, IsAncestor, StrandPrecedes, IsLowestCommon, LineAt, Lifetimes, IsScene, line_told, attached_rooted, seen_block, seen_strand, see, precedes_by_position, back, stored, stored_into, HasDepth, IsInherited, HasHome, IsDownPointer, IsHomeAfter, IsHomeBy, IsHomeAt, is_higher, IsDownBy, IsDownIf}
use Rattle.log_heaps.proofs.Depths.{one_depth, one_lowest}
use Rattle.log_heaps.proofs.BornBlocks.{nested, one_birth, unborn_untold, told_birth, birth_done, depth_there}

module _ (tasks : LogTasks) (events : List Event) (walk : WalkValue) (known : Lifetimes) (scene : IsScene tasks events walk known) where
  -- a block has one home
  pub one_home : (b : ℕ) (v : GraphStrand) (one other : ℕ) → HasHome events tasks b v one → HasHome events tasks b v other → one ≡ other
  one_home b v one other (inl h) (inl k) = h.1 ∙ sym k.1
  one_home b v one other (inl h) (inr k) = absurd (h.0 k.line k.birth k.born_there)
  one_home b v one other (inr h) (inl k) = absurd (k.0 h.line h.birth h.born_there)
  one_home b v one other (inr h) (inr k) =
      let birth : k.birth ≡ h.birth = one_birth tasks events walk known scene b k.line h.line k.birth h.birth k.born_there h.born_there in
      let fj = nested tasks events walk known scene in
      let root : IsAncestor (tasks_in tasks.turns) 0 h.birth.task = (attached_rooted (tasks_in tasks.turns) fj h.birth h.born_there.attached).rooted in
      let same : k.home ≡ h.home =
      one_lowest (tasks_in tasks.turns) fj k.home h.home h.birth.task v.task root (subst (λ (u : GraphStrand). IsLowestCommon (tasks_in tasks.turns) k.home u.task v.task) birth k.lowest) h.lowest in
      one_depth (tasks_in tasks.turns) fj one other h.home h.depth_is (subst (λ (t : ℕ). HasDepth tasks t other) same k.depth_is)

  module _ (q : ℕ) (v : GraphStrand) (at_q : slice_get walk.order q ≡ Some v) where
    inherited : (b depth : ℕ) (birth : LineAt) → line_told known.births b ≡ Some birth → IsHomeAfter walk birth.place q (Some depth) → IsInherited events tasks b v depth
    inherited b depth birth e h =
        let done = told_birth tasks events walk known scene b birth e in
        let u = done.stands.strand in
        let meet = h.1.meet in
        record {
          line = birth.line;
          birth = u;
          born_there = birth_done tasks events walk known scene b birth.line birth.place done;
          before = precedes_by_position tasks events walk known scene birth.place q u v done.stands.at at_q h.0;
          home = meet.task;
          lowest =
              subst (λ (rows : List (List GraphTurn)). IsLowestCommon (tasks_in rows) meet.task u.task v.task) scene.turns
              (subst (λ (x : GraphStrand). IsLowestCommon (tasks_in walk.tasks) meet.task u.task x.task) (get_or_from_slice_get walk.order q v (strand 0 0) at_q)
              (subst (λ (x : GraphStrand). IsLowestCommon (tasks_in walk.tasks) meet.task x.task (task_at walk.order q)) (get_or_from_slice_get walk.order birth.place u (strand 0 0) done.stands.at) meet.lowest));
          depth_is = depth_there tasks events walk known scene h.1.exit depth (strand meet.task meet.index) meet.at h.1.depth_is;
        }

    home_by : (b depth : ℕ) (told : Option LineAt) → line_told known.births b ≡ told → IsHomeBy walk told q (Some depth) → HasHome events tasks b v depth
    home_by b depth None e h = inl (unborn_untold tasks events walk known scene b e, same_Some depth 0 h)
    home_by b depth (Some birth) e h = inr (inherited b depth birth e h)

    -- what is known of a home is so
    pub home_sound : (b depth : ℕ) → IsHomeAt walk known.births b q (Some depth) → HasHome events tasks b v depth
    home_sound b depth h = home_by b depth (line_told known.births b) refl h

    not_after : (b depth : ℕ) (birth : LineAt) → line_told known.births b ≡ Some birth → HasHome events tasks b v depth → IsHomeAfter walk birth.place q None → ⊥
    not_after b depth birth e (inl h) none =
        let done = told_birth tasks events walk known scene b birth e in
        h.0 birth.line done.stands.strand (birth_done tasks events walk known scene b birth.line birth.place done)
    not_after b depth birth e (inr h) none =
        let done = told_birth tasks events walk known scene b birth e in
        let same : h.birth ≡ done.stands.strand = one_birth tasks events walk known scene b h.line birth.line h.birth done.stands.strand h.born_there (birth_done tasks events walk known scene b birth.line birth.place done) in
        none (back tasks events walk known scene birth.place q done.stands.strand v done.stands.at at_q (subst (λ (u : GraphStrand). StrandPrecedes (tasks_in tasks.turns) u v) same h.before))

    some_home : (b depth : ℕ) (told : Option LineAt) → line_told known.births b ≡ told → HasHome events tasks b v depth → IsHomeBy walk told q None → ⊥
    some_home b depth None e h none = (let z : ◌≡◌ {A = Option ℕ} None (Some 0) = none in cc)
    some_home b depth (Some birth) e h none = not_after b depth birth e h none

    -- and a home that is there is known
    pub home_complete : (b depth : ℕ) (home : Option ℕ) → IsHomeAt walk known.births b q home → HasHome events tasks b v depth → home ≡ Some depth
    home_complete b depth None h has = absurd (some_home b depth (line_told known.births b) refl has h)
    home_complete b depth (Some other) h has = ap (λ (d : ℕ). Some d) (one_home b v other depth (home_sound b other h) has)

  -- POINTERS

  module _ (n : ℕ) (s : GraphStrand) (a : Act) (at : slice_get events n ≡ Some (event s a)) (place : ℕ) (stands : StrandStandsAt tasks walk.order s place) where
    higher_some : (upper lower : Option ℕ) → is_higher upper lower ≡ true → (u l : ℕ) × (upper ≡ Some u) × (lower ≡ Some l) × (u < l)
    higher_some None lower e = absurd (let z : false ≡ true = e in cc)
    higher_some (Some u) None e = absurd (let z : false ≡ true = e in cc)
    higher_some (Some u) (Some l) e = (u, l, refl, refl, (let lt : u < l = grind (arith, nat_tests, e) in lt))

    down_by : (block target : Option ℕ) → stored_into a ≡ block → stored a ≡ target → (hit : Bool) → IsDownBy walk known.births place block target hit → hit ≡ true → IsDownPointer events tasks n
    down_by None target eb et hit h e = absurd (let z : false ≡ true = sym h ∙ e in cc)
    down_by (Some b) None eb et hit h e = absurd (let z : false ≡ true = sym h ∙ e in cc)
    down_by (Some b) (Some c) eb et hit h e =
        let both = higher_some h.upper h.lower (sym h.is ∙ e) in
        record {
          strand = stands.strand;
          block = b;
          target = c;
          into = see tasks events walk known scene n s a at stored_into place stands b eb;
          refers = see tasks events walk known scene n s a at stored place stands c et;
          upper = both.0;
          lower = both.1;
          block_home = home_sound place stands.strand stands.at b both.0 (subst (IsHomeAt walk known.births b place) both.2 h.block_home);
          target_home = home_sound place stands.strand stands.at c both.1 (subst (IsHomeAt walk known.births c place) both.3 h.target_home);
          down = both.4;
        }

    -- what is counted as a down-pointer is one
    pub down_sound : (hit : Bool) → IsDownIf walk known.births place a hit → hit ≡ true → IsDownPointer events tasks n
    down_sound hit h e = down_by (stored_into a) (stored a) refl refl hit h e

    is_down_by : (block target : Option ℕ) → stored_into a ≡ block → stored a ≡ target → (hit : Bool) → IsDownBy walk known.births place block target hit → (is : IsDownPointer events tasks n)
        → stored_into a ≡ Some is.block → stored a ≡ Some is.target → stands.strand ≡ is.strand → hit ≡ true
    is_down_by None target eb et hit h is ib it same = absurd (let z : ◌≡◌ {A = Option ℕ} None (Some is.block) = sym eb ∙ ib in cc)
    is_down_by (Some b) None eb et hit h is ib it same = absurd (let z : ◌≡◌ {A = Option ℕ} None (Some is.target) = sym et ∙ it in cc)
    is_down_by (Some b) (Some c) eb et hit h is ib it same =
        let block : b ≡ is.block = same_Some b is.block (sym eb ∙ ib) in
        let target : c ≡ is.target = same_Some c is.target (sym et ∙ it) in
        let upper : h.upper ≡ Some is.upper =
        home_complete place stands.strand stands.at is.block is.upper h.upper (subst (λ (x : ℕ). IsHomeAt walk known.births x place h.upper) block h.block_home)
        (subst (λ (u : GraphStrand). HasHome events tasks is.block u is.upper) (sym same) is.block_home) in
        let lower : h.lower ≡ Some is.lower =
        home_complete place stands.strand stands.at is.target is.lower h.lower (subst (λ (x : ℕ). IsHomeAt walk known.births x place h.lower) target h.target_home)
        (subst (λ (u : GraphStrand). HasHome events tasks is.target u is.lower) (sym same) is.target_home) in
        let lt : nat_lt is.upper is.lower ≡ true = (let down = is.down in grind (arith, nat_tests, down)) in
        h.is ∙ (λ i. is_higher (upper i) (lower i)) ∙ lt

    -- and each one is counted
    pub down_complete : (hit : Bool) → IsDownIf walk known.births place a hit → IsDownPointer events tasks n → hit ≡ true
    down_complete hit h is =
        is_down_by (stored_into a) (stored a) refl refl hit h is (seen_block tasks events walk known scene n s a at stored_into place stands is.block is.strand is.into)
        (seen_block tasks events walk known scene n s a at stored place stands is.target is.strand is.refers) (seen_strand tasks events walk known scene n s a at stored place stands is.target is.strand is.refers)
