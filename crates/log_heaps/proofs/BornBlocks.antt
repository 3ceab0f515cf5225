-- Births of blocks on strands of the graph.
use Rattle.log_heaps.proofs.Common.{◌≡◌, ◌∙◌, ℕ, List, sym, ap, subst, Option, Some, None, slice_get, same_Some, get_or_from_slice_get, IsDepthAt, WalkValue, LogTasks, log_strand, StrandStandsAt, Event, event, Act, GraphStrand, GraphTurn, strand, tasks_in, IsForkJoin, LineAt, Lifetimes, born, DoesToBlock, IsScene, line_told, DoesToBlockAt, IsLine, one_strand, at_done, serial, same_event, is_told, told_does, BlockBirth, words_born, HasDepth, IsBirth, IsUnborn, IsBirthAt}
use Rattle.log_heaps.proofs.Depths.{one_depth}

module _ (tasks : LogTasks) (events : List Event) (walk : WalkValue) (known : Lifetimes) (scene : IsScene tasks events walk known) where
  pub nested : IsForkJoin (tasks_in tasks.turns)
  nested = subst (λ (rows : List (List GraphTurn)). IsForkJoin (tasks_in rows)) scene.turns scene.walked.nested.fork_join

  -- a block is born on one strand
  pub one_birth : (b m n : ℕ) (u v : GraphStrand) → DoesToBlock born events tasks b m u → DoesToBlock born events tasks b n v → u ≡ v
  one_birth b m n u v d e =
      let line : m ≡ n = scene.born_once b m n (event (log_strand tasks.numbers u) d.act) (event (log_strand tasks.numbers v) e.act) d.at e.at d.block e.block in
      let same : event (log_strand tasks.numbers u) d.act ≡ event (log_strand tasks.numbers v) e.act =
      same_event tasks events walk known scene n (event (log_strand tasks.numbers u) d.act) (event (log_strand tasks.numbers v) e.act) (subst (λ (k : ℕ). slice_get events k ≡ Some (event (log_strand tasks.numbers u) d.act)) line d.at) e.at in
      one_strand tasks scene.ascending scene.size u v d.known e.known (ap (λ (x : Event). x.strand) same)

  -- a block whose birth isn't known is unborn
  pub unborn_untold : (b : ℕ) → line_told known.births b ≡ None → IsUnborn events tasks b
  unborn_untold b e n u d =
      let told = is_told tasks events walk known scene born known.births scene.all.births scene.born_once b n u d in
      let z : ◌≡◌ {A = Option LineAt} None (Some told.line) = sym e ∙ told.told in cc

  pub told_birth : (b : ℕ) (line : LineAt) → line_told known.births b ≡ Some line → DoesToBlockAt born tasks walk.order events b line.line line.place
  told_birth b line e = told_does tasks events walk known scene born known.births scene.all.births scene.born_once b line e

  pub birth_done : (b n p : ℕ) (d : DoesToBlockAt born tasks walk.order events b n p) → DoesToBlock born events tasks b n d.stands.strand
  birth_done b n p d = at_done born tasks walk.order events (serial tasks events walk known scene) b n p d

  -- the depth at a place is that of its task
  pub depth_there : (p depth : ℕ) (u : GraphStrand) → slice_get walk.order p ≡ Some u → IsDepthAt (tasks_in walk.tasks) walk.order p depth → HasDepth tasks u.task depth
  depth_there p depth u at h =
      subst (λ (rows : List (List GraphTurn)). IsLine (tasks_in rows) 0 depth u.task) scene.turns
      (subst (λ (v : GraphStrand). IsLine (tasks_in walk.tasks) 0 depth v.task) (get_or_from_slice_get walk.order p u (strand 0 0) at) h)

  module _ (n : ℕ) (s : GraphStrand) (a : Act) (at : slice_get events n ≡ Some (event s a)) (place : ℕ) (stands : StrandStandsAt tasks walk.order s place) where
    -- what is told of an act's birth is so
    pub birth_sound : (answer : Option BlockBirth) → IsBirthAt walk a place n answer → (f : BlockBirth) → answer ≡ Some f → (f.line ≡ n) × IsBirth events tasks f
    birth_sound None h f e = absurd (let z : ◌≡◌ {A = Option BlockBirth} None (Some f) = e in cc)
    birth_sound (Some g) h f e = subst (λ (x : BlockBirth). (x.line ≡ n) × IsBirth events tasks x) (same_Some g f e) (
      h.2,
      record {
        strand = stands.strand;
        born_there = record {
          act = a;
          at = subst (λ (k : ℕ). slice_get events k ≡ Some (event (log_strand tasks.numbers stands.strand) a)) (sym h.2) (at ∙ ap (λ (u : GraphStrand). Some (event u a)) (sym stands.is));
          block = h.0;
          known = stands.known;
          attached = (serial tasks events walk known scene).attached place stands.strand stands.at;
        };
        words_are = h.1;
        depth_is = depth_there place g.depth stands.strand stands.at h.3;
      },
    )

    same_act : (f : BlockBirth) → f.line ≡ n → (is : IsBirth events tasks f) → event (log_strand tasks.numbers is.strand) is.born_there.act ≡ event s a
    same_act f line is =
        same_event tasks events walk known scene n (event (log_strand tasks.numbers is.strand) is.born_there.act) (event s a)
        (subst (λ (k : ℕ). slice_get events k ≡ Some (event (log_strand tasks.numbers is.strand) is.born_there.act)) line is.born_there.at) at

    same_birth : (f g : BlockBirth) → f.block ≡ g.block → f.line ≡ g.line → f.words ≡ g.words → f.depth ≡ g.depth → f ≡ g
    same_birth f g block line words depth = λ i. record { block = block i; line = line i; words = words i; depth = depth i }

    -- and all that is so is told
    pub birth_complete : (answer : Option BlockBirth) → IsBirthAt walk a place n answer → (f : BlockBirth) → f.line ≡ n → IsBirth events tasks f → answer ≡ Some f
    birth_complete None h f line is =
        let block : born a ≡ Some f.block = ap (λ (x : Event). born x.act) (sym (same_act f line is)) ∙ is.born_there.block in
        absurd (let z : ◌≡◌ {A = Option ℕ} None (Some f.block) = sym h ∙ block in cc)
    birth_complete (Some g) h f line is =
        let same = same_act f line is in
        let block : g.block ≡ f.block = same_Some g.block f.block (sym h.0 ∙ ap (λ (x : Event). born x.act) (sym same) ∙ is.born_there.block) in
        let words : g.words ≡ f.words = sym h.1 ∙ ap (λ (x : Event). words_born x.act) (sym same) ∙ is.words_are in
        let strand : stands.strand ≡ is.strand = one_strand tasks scene.ascending scene.size stands.strand is.strand stands.known is.born_there.known (stands.is ∙ ap (λ (x : Event). x.strand) (sym same)) in
        let depth : g.depth ≡ f.depth =
        one_depth (tasks_in tasks.turns) nested g.depth f.depth is.strand.task
        (subst (λ (u : GraphStrand). HasDepth tasks u.task g.depth) strand (depth_there place g.depth stands.strand stands.at h.3)) is.depth_is in
        ap (λ (x : BlockBirth). Some x) (same_birth g f block (h.2 ∙ sym line) words depth)
