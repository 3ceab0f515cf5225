-- What a check answers at an act is what is so there.
use Rattle.log_births.proofs.Common.{◌≡◌, ◌↔◌, ◌+◌, ◌∙◌, ℕ, List, length, refl, sym, ap, subst, Option, Some, None, slice_get, same_Some, slice_get_within, GraphTurn, GraphStrand, tasks_in, IsSerialOrder, WalkValue, LogTasks, log_strand, StrandStandsAt, StandsNowhere, Act, Event, event, LineAt, BlockLines, Lifetimes, Finding, DoesToBlock, line_told, DoesToBlockAt, IsLineOf, Know, IsFindingAt, IsAdded, IsDoneOnce, IsScene, AreJustBelow}
use Rattle.log_births.proofs.Standing.{walk_is_serial, one_strand, done_at, at_done}
use Rattle.log_births.proofs.Adding.{same_finding, answer_found}

module _ (tasks : LogTasks) (events : List Event) (walk : WalkValue) (known : Lifetimes) (scene : IsScene tasks events walk known) where
  pub serial : IsSerialOrder (tasks_in tasks.turns) walk.order
  serial = subst (λ (rows : List (List GraphTurn)). IsSerialOrder (tasks_in rows) walk.order) scene.turns (walk_is_serial walk scene.walked)

  pub same_event : (n : ℕ) (e f : Event) → slice_get events n ≡ Some e → slice_get events n ≡ Some f → e ≡ f
  same_event n e f g h = same_Some e f (sym g ∙ h)

  -- the act that is known of a block is the only one
  module _ (does : Act → Option ℕ) (table : BlockLines) (know : Know does tasks walk.order events (length events) table) (once : IsDoneOnce does events) where
    pub record IsTold (b m : ℕ) (u : GraphStrand) : Type 0 where
      pub line : LineAt
      pub told : line_told table b ≡ Some line
      pub number : line.line ≡ m
      pub at : slice_get walk.order line.place ≡ Some u

    told_by : (b m : ℕ) (u : GraphStrand) → DoesToBlock does events tasks b m u → (o : Option LineAt) → line_told table b ≡ o → IsLineOf does tasks walk.order events (length events) b o → IsTold b m u
    told_by b m u d None e h =
        let done = done_at does tasks walk.order events serial b m u d in
        absurd (h m done.0 (slice_get_within events m (event (log_strand tasks.numbers u) d.act) d.at) done.2)
    told_by b m u d (Some line) e h =
        let number : line.line ≡ m = once b line.line m h.event (event (log_strand tasks.numbers u) d.act) h.at d.at h.block d.block in
        let same : h.event ≡ event (log_strand tasks.numbers u) d.act = same_event m h.event (event (log_strand tasks.numbers u) d.act) (subst (λ (k : ℕ). slice_get events k ≡ Some h.event) number h.at) d.at in
        let strand : h.stands.strand ≡ u = one_strand tasks scene.ascending scene.size h.stands.strand u h.stands.known d.known (h.stands.is ∙ ap (λ (x : Event). x.strand) same) in
        record { line = line; told = e; number = number; at = h.stands.at ∙ ap (λ (v : GraphStrand). Some v) strand }

    pub is_told : (b m : ℕ) (u : GraphStrand) → DoesToBlock does events tasks b m u → IsTold b m u
    is_told b m u d = told_by b m u d (line_told table b) refl (know b)

    pub told_does : (b : ℕ) (line : LineAt) → line_told table b ≡ Some line → DoesToBlockAt does tasks walk.order events b line.line line.place
    told_does b line e = subst (λ (o : Option LineAt). IsLineOf does tasks walk.order events (length events) b o) e (know b)

  -- an act of a strand of the log
  module _ (n : ℕ) (s : GraphStrand) (a : Act) (at : slice_get events n ≡ Some (event s a)) (sees : Act → Option ℕ) where
    -- which has no place
    pub not_seen : StandsNowhere tasks walk.order s → (b : ℕ) (v : GraphStrand) → DoesToBlock sees events tasks b n v → ⊥
    not_seen nowhere b v d =
        let same : event (log_strand tasks.numbers v) d.act ≡ event s a = same_event n (event (log_strand tasks.numbers v) d.act) (event s a) d.at at in
        let all = serial.all v d.attached in
        nowhere all.0 (record { strand = v; at = all.1; known = d.known; is = ap (λ (x : Event). x.strand) same })

    module _ (place : ℕ) (stands : StrandStandsAt tasks walk.order s place) where
      pub seen_block : (b : ℕ) (v : GraphStrand) → DoesToBlock sees events tasks b n v → sees a ≡ Some b
      seen_block b v d = ap (λ (x : Event). sees x.act) (same_event n (event s a) (event (log_strand tasks.numbers v) d.act) at d.at) ∙ d.block

      pub seen_strand : (b : ℕ) (v : GraphStrand) → DoesToBlock sees events tasks b n v → stands.strand ≡ v
      seen_strand b v d =
          one_strand tasks scene.ascending scene.size stands.strand v stands.known d.known
          (stands.is ∙ ap (λ (x : Event). x.strand) (same_event n (event s a) (event (log_strand tasks.numbers v) d.act) at d.at))

      pub see : (b : ℕ) → sees a ≡ Some b → DoesToBlock sees events tasks b n stands.strand
      see b e = at_done sees tasks walk.order events serial b n place (record { event = event s a; at = at; block = e; stands = stands })

      module _ (does : Act → Option ℕ) (table : BlockLines) (know : Know does tasks walk.order events (length events) table) (once : IsDoneOnce does events)
          (Bad : ℕ → ℕ → Type 0) (IsBad : GraphStrand → GraphStrand → Type 0) (same : (p q : ℕ) (u v : GraphStrand) → slice_get walk.order p ≡ Some u → slice_get walk.order q ≡ Some v → Bad p q ↔ IsBad u v) where
        -- what is so of a finding
        pub record IsSo (f : Finding) : Type 0 where
          pub first : GraphStrand
          pub second : GraphStrand
          pub done : DoesToBlock does events tasks f.block f.other first
          pub seen : DoesToBlock sees events tasks f.block f.line second
          pub bad : IsBad first second

        sound : (answer : Option Finding) → IsFindingAt Bad (line_told table) (sees a) (record { place = place; line = n }) answer → (f : Finding) → answer ≡ Some f → (f.line ≡ n) × IsSo f
        sound None h f e = absurd (let z : None ≡ Some f = e in cc)
        sound (Some g) h f e = subst (λ (x : Finding). (x.line ≡ n) × IsSo x) (same_Some g f e) (
          h.3,
          record {
            first = told.stands.strand;
            second = stands.strand;
            done = subst (λ (k : ℕ). DoesToBlock does events tasks g.block k told.stands.strand) (sym h.4) (at_done does tasks walk.order events serial g.block h.0.line h.0.place told);
            seen = subst (λ (k : ℕ). DoesToBlock sees events tasks g.block k stands.strand) (sym h.3) (see g.block h.1);
            bad = (same h.0.place place told.stands.strand stands.strand told.stands.at stands.at).0 h.5;
          },
        )
          where
            told : DoesToBlockAt does tasks walk.order events g.block h.0.line h.0.place
            told = told_does does table know once g.block h.0 h.2

        complete : (answer : Option Finding) → IsFindingAt Bad (line_told table) (sees a) (record { place = place; line = n }) answer → (f : Finding) → f.line ≡ n → IsSo f → answer ≡ Some f
        complete answer h f line so = by_answer answer h
          where
            complete_here : DoesToBlock sees events tasks f.block n so.second
            complete_here = subst (λ (k : ℕ). DoesToBlock sees events tasks f.block k so.second) line so.seen

            told : IsTold does table know once f.block f.other so.first
            told = is_told does table know once f.block f.other so.first so.done

            is_bad : Bad told.line.place place
            is_bad = (same told.line.place place so.first so.second told.at (stands.at ∙ ap (λ (v : GraphStrand). Some v) (seen_strand f.block so.second complete_here))).1 so.bad

            by_answer : (o : Option Finding) → IsFindingAt Bad (line_told table) (sees a) (record { place = place; line = n }) o → o ≡ Some f
            by_answer None none = absurd (none f.block told.line (seen_block f.block so.second complete_here) told.told is_bad)
            by_answer (Some g) one =
                let block : g.block ≡ f.block = same_Some g.block f.block (sym one.1 ∙ seen_block f.block so.second complete_here) in
                let other : one.0 ≡ told.line = same_Some one.0 told.line (sym one.2 ∙ ap (line_told table) block ∙ told.told) in
                ap (λ (x : Finding). Some x) (same_finding g f block (one.3 ∙ sym line) (one.4 ∙ ap (λ (x : LineAt). x.line) other ∙ told.number))

        pub added : (Is : Finding → Type 0) → ((f : Finding) → Is f ↔ IsSo f) → (before after : List Finding) → IsAdded Bad (line_told table) (sees a) (record { place = place; line = n }) before after
            → AreJustBelow Is n before → AreJustBelow Is (n + 1) after
        added Is as_so before after h just =
            answer_found Is n before just h.0 after h.2
            (λ f e. let r = sound h.0 h.1 f e in (r.0, (as_so f).1 r.1))
            (λ f line is. complete h.0 h.1 f line ((as_so f).0 is))
