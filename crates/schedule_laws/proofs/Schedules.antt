-- One whole run in order determines all schedules.
use Rattle.schedule_laws.proofs.Common.{◌≡◌, ℕ, ◌+◌, ◌<◌, Bool, true, false, cond, Option, Some, None, List, [], ◌∷◌, ◌++◌, length, map, slice_get, inl, inr, refl, ap, sym, subst, ◌∙◌, arith, option_map, same_Some, In, contains_from_in, in_append_cases, in_append_left, in_append_right, in_from_contains, in_map, ProgramText, Strand, Edge, End, Done, MachineState, Precedes, same_strand, can_step, goes_on, is_running, run, run_from, start, step, run_push, step_idle, FieldAccess, next_access, accesses_from, task_access, with_some, IsRenaming, end_to, strand_to, AreRenamed, from_map, fork_join_here, step_grows, itself, walks, SameResult, access_to, field_to, Clash, EveryEndAgrees, OneRunSpeaksForAll, SpeaksUp, Print, print_of, printed_by, prints_from, task_print, turns_from}
use Rattle.schedule_laws.proofs.Carrying.{print_to}
use Rattle.schedule_laws.proofs.Commute.{even_same}
use Rattle.schedule_laws.proofs.Commuting.{even_alike}
use Rattle.schedule_laws.proofs.Composed.{alike_then, renaming_then, then}
use Rattle.schedule_laws.proofs.Fronts.{Front, access_low, front, print_low}
use Rattle.schedule_laws.proofs.Said.{SaidInOrder, numbers, numbers_map, outputs_are, printed_map, printed_moves, said_map, said_moves, said_order, strand_there}
use Rattle.schedule_laws.proofs.Splits.{InOrder, from_order, in_some, order_moves, to_order}

-- a run from m by ts, and another that had this end with these accesses, prints and turns
pub record Comes (p : ProgramText) (m : MachineState) (ts : List ℕ) (end : MachineState) (all : List FieldAccess) (said : List Print) (turns : ℕ) : Type 0 where
  pub f : ℕ → ℕ
  pub g : ℕ → ℕ
  pub renaming : IsRenaming (length (run_from p m ts).tasks) f g
  pub old : (v : ℕ) → v < length m.tasks → f v ≡ v
  pub alike : AreRenamed f (run_from p m ts) end
  pub turned : turns ≡ turns_from p m ts
  pub accesses : (a : FieldAccess) → (In all (access_to f a) → In (accesses_from p m ts) a) × (In (accesses_from p m ts) a → In all (access_to f a))
  pub order : InOrder end.edges all
  pub printed : (s : Strand) → printed_by (strand_to f s) said ≡ printed_by s (prints_from p m ts)
  pub spoken : SaidInOrder (run_from p m ts).edges (prints_from p m ts) → numbers said ≡ numbers (prints_from p m ts)

-- a list of steps with the same result
abbrev pub ComesAs : ProgramText → MachineState → List ℕ → List ℕ → Type 0
ComesAs p m ts us = Comes p m ts (run_from p m us) (accesses_from p m us) (prints_from p m us) (turns_from p m us)

access_back : (f g : ℕ → ℕ) → ((t : ℕ) → g (f t) ≡ t) → (a : FieldAccess) → access_to g (access_to f a) ≡ a
access_back f g back a =
    let s = back a.strand.task in
    let n = back a.field.name.task in
    λ i. record a { strand = record a.strand { task = s i }; field = record a.field { name = record a.field.name { task = n i } } }

clash_back : (f g : ℕ → ℕ) → ((t : ℕ) → g (f t) ≡ t) → (a b : FieldAccess) → Clash (access_to f a) (access_to f b) → Clash a b
clash_back f g back a b C = record {
  field = sym (ap (λ (c : FieldAccess). c.field) (access_back f g back a)) ∙ (ap (field_to g) C.field ∙ ap (λ (c : FieldAccess). c.field) (access_back f g back b));
  writes = C.writes;
}

order_map : (f g : ℕ → ℕ) → ((t : ℕ) → g (f t) ≡ t) → (a b : MachineState) → AreRenamed f a b → (xs : List FieldAccess) → InOrder a.edges xs → InOrder b.edges (map (access_to f) xs)
order_map f g back a b A [] h = tt
order_map f g back a b A (x ∷ xs) h = (order_map_by_cases xs h.0, order_map f g back a b A xs h.1)
  where
    order_map_by_cases : (ys : List FieldAccess) → ((c : FieldAccess) → In ys c → Clash x c → Precedes a.edges x.strand c.strand) → (c : FieldAccess) → In (map (access_to f) ys) c → Clash (access_to f x) c → Precedes b.edges (strand_to f x.strand) c.strand
    order_map_by_cases [] h c i k = absurd i
    order_map_by_cases (y ∷ ys) h c (inl e) k =
        subst (λ (w : FieldAccess). Precedes b.edges (strand_to f x.strand) w.strand) e
        (walks f a b A x.strand y.strand (h y (inl refl) (clash_back f g back x y (subst (Clash (access_to f x)) (sym e) k))))
    order_map_by_cases (y ∷ ys) h c (inr i) k = order_map_by_cases ys (λ d j. h d (inr j)) c i k

module _ (p : ProgramText) where
  itself_comes : (m : MachineState) (ts : List ℕ) → InOrder (run_from p m ts).edges (accesses_from p m ts) → ComesAs p m ts ts
  itself_comes m ts order = record {
    f = itself;
    g = itself;
    renaming = record { back = λ t. refl; forth = λ t. refl; root = refl; beyond = λ t le. refl; sides = λ t. refl; siblings = λ t. refl };
    old = λ v lt. refl;
    alike = even_alike (run_from p m ts) (run_from p m ts) (even_same (run_from p m ts) (run_from p m ts) refl);
    turned = refl;
    accesses = λ a. ((λ i. i), (λ i. i));
    order = order;
    printed = λ s. refl;
    spoken = λ h. refl;
  }

  -- a step that can't be taken changes nothing
  unidle : (m : MachineState) (u : ℕ) (ts us : List ℕ) → can_step m u ≡ false → ComesAs p m ts (u ∷ us) → ComesAs p m ts us
  unidle m u ts us none C =
      let e : step p m u ≡ m = step_idle p m u none in
      let es : run_from p m (u ∷ us) ≡ run_from p m us = ap (λ w. run_from p w us) e in
      let ea : accesses_from p m (u ∷ us) ≡ accesses_from p m us = ap (λ o. with_some o (accesses_from p (step p m u) us)) (ap (λ b. cond b (task_access p m u (slice_get m.tasks u)) None) none) ∙ ap (λ w. accesses_from p w us) e in
      let ep : prints_from p m (u ∷ us) ≡ prints_from p m us = ap (λ o. with_some o (prints_from p (step p m u) us)) (ap (λ b. cond b (task_print p m u (slice_get m.tasks u)) None) none) ∙ ap (λ w. prints_from p w us) e in
      let et : turns_from p m (u ∷ us) ≡ turns_from p m us = ap (λ b. cond b (turns_from p (step p m u) us + 1) (turns_from p (step p m u) us)) none ∙ ap (λ w. turns_from p w us) e in
      subst (λ w. Comes p m ts w (accesses_from p m us) (prints_from p m us) (turns_from p m us)) es
      (subst (λ w. Comes p m ts (run_from p m (u ∷ us)) w (prints_from p m us) (turns_from p m us)) ea
      (subst (λ w. Comes p m ts (run_from p m (u ∷ us)) (accesses_from p m (u ∷ us)) w (turns_from p m us)) ep
      (subst (λ w. Comes p m ts (run_from p m (u ∷ us)) (accesses_from p m (u ∷ us)) (prints_from p m (u ∷ us)) w) et C)))

  idle : (m : MachineState) (u : ℕ) (ts us : List ℕ) → can_step m u ≡ false → ComesAs p m ts us → ComesAs p m ts (u ∷ us)
  idle m u ts us none C =
      let e : step p m u ≡ m = step_idle p m u none in
      let es : run_from p m (u ∷ us) ≡ run_from p m us = ap (λ w. run_from p w us) e in
      let ea : accesses_from p m (u ∷ us) ≡ accesses_from p m us = ap (λ o. with_some o (accesses_from p (step p m u) us)) (ap (λ b. cond b (task_access p m u (slice_get m.tasks u)) None) none) ∙ ap (λ w. accesses_from p w us) e in
      let ep : prints_from p m (u ∷ us) ≡ prints_from p m us = ap (λ o. with_some o (prints_from p (step p m u) us)) (ap (λ b. cond b (task_print p m u (slice_get m.tasks u)) None) none) ∙ ap (λ w. prints_from p w us) e in
      let et : turns_from p m (u ∷ us) ≡ turns_from p m us = ap (λ b. cond b (turns_from p (step p m u) us + 1) (turns_from p (step p m u) us)) none ∙ ap (λ w. turns_from p w us) e in
      subst (λ w. Comes p m ts (run_from p m (u ∷ us)) (accesses_from p m (u ∷ us)) (prints_from p m (u ∷ us)) w) (sym et)
      (subst (λ w. Comes p m ts (run_from p m (u ∷ us)) (accesses_from p m (u ∷ us)) w (turns_from p m us)) (sym ep)
      (subst (λ w. Comes p m ts (run_from p m (u ∷ us)) w (prints_from p m us) (turns_from p m us)) (sym ea)
      (subst (λ w. Comes p m ts w (accesses_from p m us) (prints_from p m us) (turns_from p m us)) (sym es) C)))

  module _ (limit : ℕ) (hs ts : List ℕ) (u : ℕ) (can : can_step (run p limit hs) u ≡ true) (order : InOrder (run_from p (run p limit hs) ts).edges (accesses_from p (run p limit hs) ts)) (F : Front p limit hs ts u) where
    abbrev m : MachineState
    m = run p limit hs

    abbrev m2 : MachineState
    m2 = step p m u

    abbrev E : List Edge
    E = (run_from p m ts).edges

    abbrev o : Option FieldAccess
    o = next_access p m u

    abbrev both : List FieldAccess
    both = F.accesses.front ++ F.accesses.back

    first_order : InOrder E (with_some o both)
    first_order = order_moves E F.accesses.front F.accesses.back o (subst (InOrder E) F.accesses.whole order) F.accesses.free

    tail_of : (w : Option FieldAccess) (xs : List FieldAccess) → InOrder E (with_some w xs) → InOrder E xs
    tail_of None xs h = h
    tail_of (Some a) xs h = h.1

    pub rest_order : InOrder (run_from p m2 F.rest).edges (accesses_from p m2 F.rest)
    rest_order =
        subst (InOrder (run_from p m2 F.rest).edges) (sym F.accesses.moved)
        (order_map F.f F.g F.renaming.back (run_from p m ts) (run_from p m2 F.rest) F.alike both (tail_of o both first_order))

    module _ (us : List ℕ) (C : ComesAs p m2 F.rest us) where
      abbrev h : ℕ → ℕ
      h = then F.f C.f

      renamed : IsRenaming (length (run_from p m ts).tasks) h (then C.g F.g)
      renamed = renaming_then (length (run_from p m ts).tasks) (length (run_from p m ts).tasks) (length (run_from p m2 F.rest).tasks) F.f F.g C.f C.g F.renaming C.renaming (omega arith) (omega (arith, F.alike.count))

      alike : AreRenamed h (run_from p m ts) (run_from p m2 us)
      alike = alike_then F.f C.f (run_from p m ts) (run_from p m2 F.rest) (run_from p m2 us) F.alike C.alike

      abbrev A2 : List FieldAccess
      A2 = accesses_from p m2 us

      -- tasks of m keep their numbers: so u's first access and print are the same
      stays : (v : ℕ) → v < length m.tasks → h v ≡ v
      stays v lt = let up = step_grows p m u (fork_join_here p limit hs) in ap C.f (F.old v lt) ∙ C.old v (omega arith)

      kept : (b : FieldAccess) → o ≡ Some b → access_to h b ≡ b
      kept b e = access_low p limit hs h stays u can b e

      access_is_in_second : (a : FieldAccess) → In both a → In A2 (access_to h a)
      access_is_in_second a i = (C.accesses (access_to F.f a)).1 (subst (λ xs. In xs (access_to F.f a)) (sym F.accesses.moved) (in_map (access_to F.f) both a i))

      access_is_in_both : (a : FieldAccess) → In A2 (access_to h a) → In both a
      access_is_in_both a i = from_map (access_to F.f) (access_to F.g) (access_back F.f F.g F.renaming.back) both a (subst (λ xs. In xs (access_to F.f a)) F.accesses.moved ((C.accesses (access_to F.f a)).0 i))

      in_whole : (a : FieldAccess) → In both a → In (accesses_from p m ts) a
      in_whole a i =
          subst (λ xs. In xs a) (sym F.accesses.whole) (elim (in_append_cases F.accesses.front F.accesses.back a i) [
            | inl j ↦ in_append_left F.accesses.front (with_some o F.accesses.back) a j
            | inr j ↦ in_append_right F.accesses.front (with_some o F.accesses.back) a (more o F.accesses.back j)
          ])
        where
          more : (w : Option FieldAccess) (xs : List FieldAccess) → In xs a → In (with_some w xs) a
          more None xs j = j
          more (Some b) xs j = inr j

      first : (a : FieldAccess) → o ≡ Some a → In (accesses_from p m ts) a
      first a e = subst (λ xs. In xs a) (sym (F.accesses.whole ∙ ap (λ w. F.accesses.front ++ with_some w F.accesses.back) e)) (in_append_right F.accesses.front (a ∷ F.accesses.back) a (inl refl))

      to_old : (a : FieldAccess) → In (with_some o A2) (access_to h a) → In (accesses_from p m ts) a
      to_old a i = elim (in_some o A2 (access_to h a) i) [
        | inr j ↦ in_whole a (access_is_in_both a j)
        | inl e ↦
            let b : FieldAccess = access_to h a in
            let same : a ≡ b = sym (access_back h (then C.g F.g) renamed.back a) ∙ (ap (access_to (then C.g F.g)) (sym (kept b e)) ∙ access_back h (then C.g F.g) renamed.back b) in
            first a (e ∙ ap Some (sym same))
      ]

      from_old : (a : FieldAccess) → In (accesses_from p m ts) a → In (with_some o A2) (access_to h a)
      from_old a i = elim (in_append_cases F.accesses.front (with_some o F.accesses.back) a (subst (λ xs. In xs a) F.accesses.whole i)) [
        | inl j ↦ more o (access_is_in_second a (in_append_left F.accesses.front F.accesses.back a j))
        | inr j ↦ elim (in_some o F.accesses.back a j) [
          | inr k ↦ more o (access_is_in_second a (in_append_right F.accesses.front F.accesses.back a k))
          | inl e ↦ subst (λ w. In (with_some w A2) (access_to h a)) (sym e) (inl (sym (kept a e)))
        ]
      ]
        where
          more : (w : Option FieldAccess) → In A2 (access_to h a) → In (with_some w A2) (access_to h a)
          more None j = j
          more (Some b) j = inr j

      ordered : (w : Option FieldAccess) → o ≡ w → InOrder (run_from p m2 us).edges (with_some w A2)
      ordered None e = C.order
      ordered (Some b) e = (
        (λ c i k.
            let a : FieldAccess = access_to (then C.g F.g) c in
            let same : access_to h a ≡ c = access_back (then C.g F.g) h renamed.forth c in
            let clash : Clash b a = clash_back h (then C.g F.g) renamed.back b a (subst (λ z. Clash z (access_to h a)) (sym (kept b e)) (subst (Clash b) (sym same) k)) in
            let before : Precedes E b.strand a.strand = head b a e (access_is_in_both a (subst (In A2) (sym same) i)) clash in
            subst (λ (z : FieldAccess). Precedes (run_from p m2 us).edges z.strand c.strand) (kept b e)
            (subst (λ (z : FieldAccess). Precedes (run_from p m2 us).edges (strand_to h b.strand) z.strand) same (walks h (run_from p m ts) (run_from p m2 us) alike b.strand a.strand before))),
        C.order,
      )
        where
          head : (b a : FieldAccess) → o ≡ Some b → In both a → Clash b a → Precedes E b.strand a.strand
          head b a e i k = let first_ordered = subst (λ w. InOrder E (with_some w both)) e first_order in first_ordered.0 a i k

      -- PRINTS

      abbrev po : Option Print
      po = print_of p m u

      abbrev P2 : List Print
      P2 = prints_from p m2 us

      abbrev said : List Print
      said = F.prints.front ++ F.prints.back

      said_rest : (s : Strand) → printed_by (strand_to h s) P2 ≡ printed_by s said
      said_rest s =
          C.printed (strand_to F.f s) ∙ (ap (printed_by (strand_to F.f s)) F.prints.moved ∙ printed_map F.f F.g F.renaming.back s said)

      said_first : (w : Option Print) → po ≡ w → (s : Strand) → printed_by (strand_to h s) (with_some w P2) ≡ printed_by s (with_some w said)
      said_first None e s = said_rest s
      said_first (Some b) e s =
          let fixed : print_to h b ≡ b = print_low p limit hs h stays u can b e in
          let test : same_strand b.strand (strand_to h s) ≡ same_strand b.strand s = ap (λ (z : Print). same_strand z.strand (strand_to h s)) (sym fixed) ∙ strand_there h (then C.g F.g) renamed.back b.strand s in
          let rest = said_rest s in
          λ i. cond (test i) (b.number ∷ rest i) (rest i)

      pub comes_first : ComesAs p m ts (u ∷ us)
      comes_first = record {
        f = h;
        g = then C.g F.g;
        renaming = renamed;
        old = stays;
        alike = alike;
        turned = ap (λ b. cond b (turns_from p m2 us + 1) (turns_from p m2 us)) can ∙ (ap (λ k. k + 1) C.turned ∙ sym F.turned);
        accesses = λ a. (to_old a, from_old a);
        order = ordered o refl;
        printed = λ s.
            said_first po refl s
            ∙ (printed_moves s F.prints.front F.prints.back po (λ a b i e q. F.prints.free a b i e (inl q)) ∙ ap (printed_by s) (sym F.prints.whole));
        spoken = λ w.
            (let moved = said_moves E F.prints.front F.prints.back po (λ a b i e q. F.prints.free a b i e (inr q)) (subst (SaidInOrder E) F.prints.whole w) in
            let rest : numbers P2 ≡ numbers said =
            C.spoken (subst (SaidInOrder (run_from p m2 F.rest).edges) (sym F.prints.moved) (said_map E (run_from p m2 F.rest).edges F.f (walks F.f (run_from p m ts) (run_from p m2 F.rest) F.alike) said moved.0))
            ∙ (ap numbers F.prints.moved ∙ numbers_map F.f said) in
            some_same po rest ∙ (moved.1 ∙ ap numbers (sym F.prints.whole)));
      }
        where
          some_same : (w : Option Print) → numbers P2 ≡ numbers said → numbers (with_some w P2) ≡ numbers (with_some w said)
          some_same None e = e
          some_same (Some b) e = ap (λ z. b.number ∷ z) e

  -- EVERY LIST OF STEPS

  abbrev Whole : List ℕ → ℕ → List ℕ → Type 0
  Whole hs limit ts = ((run_from p (run p limit hs) ts).end ≡ Some Done) × InOrder (run_from p (run p limit hs) ts).edges (accesses_from p (run p limit hs) ts)

  module _ (limit : ℕ) where
    -- what is known of the rest after u's step
    after : (hs ts : List ℕ) (u : ℕ) → can_step (run p limit hs) u ≡ true → Whole hs limit ts → (rest : List ℕ) × Whole (hs ++ u ∷ []) limit rest × ((us : List ℕ) → ComesAs p (run p limit (hs ++ u ∷ [])) rest us → ComesAs p (run p limit hs) ts (u ∷ us))
    after hs ts u can W =
        let F = front p limit ts hs u can W.0 W.1 in
        let push : run p limit (hs ++ u ∷ []) ≡ step p (run p limit hs) u = run_push p (start p limit) hs u in
        let done : (run_from p (step p (run p limit hs) u) F.rest).end ≡ Some Done = F.alike.end ∙ ap (option_map (end_to F.f)) W.0 in (
          F.rest,
          (
            subst (λ (w : MachineState). (run_from p w F.rest).end ≡ Some Done) (sym push) done,
            subst (λ (w : MachineState). InOrder (run_from p w F.rest).edges (accesses_from p w F.rest)) (sym push) (rest_order limit hs ts u can W.1 F),
          ),
          (λ us C. comes_first limit hs ts u can W.1 F us (subst (λ (w : MachineState). ComesAs p w F.rest us) push C)),
        )

    pub comes : (us hs ts : List ℕ) → Whole hs limit ts → (more : List ℕ) × ComesAs p (run p limit hs) ts (us ++ more)
    comes [] hs ts W = (ts, itself_comes (run p limit hs) ts W.1)
    comes (u ∷ us) hs ts W = comes_by_cases (λ hs' ts' W'. comes us hs' ts' W') (can_step (run p limit hs) u) refl
      where
        comes_by_cases : ((hs ts : List ℕ) → Whole hs limit ts → (more : List ℕ) × ComesAs p (run p limit hs) ts (us ++ more)) → (b : Bool) → can_step (run p limit hs) u ≡ b → (more : List ℕ) × ComesAs p (run p limit hs) ts (u ∷ us ++ more)
        comes_by_cases all false e = let r = all hs ts W in (r.0, idle (run p limit hs) u ts (us ++ r.0) e r.1)
        comes_by_cases all true e =
            let A = after hs ts u e W in
            let r = all (hs ++ u ∷ []) A.0 A.1 in
            (r.0, A.2 (us ++ r.0) r.1)

    stopped : (m : MachineState) (e : End) → m.end ≡ Some e → (u : ℕ) → can_step m u ≡ false
    stopped m e is u = ap (λ w. goes_on w (is_running (slice_get m.tasks u))) is

    cut : (m : MachineState) (e : End) → m.end ≡ Some e → (ts us : List ℕ) → ComesAs p m ts us → ComesAs p m ts []
    cut m e is ts [] C = C
    cut m e is ts (u ∷ us) C = cut m e is ts us (unidle m u ts us (stopped m e is u) C)

    -- one that ends
    comes_whole : (us hs ts : List ℕ) (e : End) → Whole hs limit ts → (run_from p (run p limit hs) us).end ≡ Some e → ComesAs p (run p limit hs) ts us
    comes_whole [] hs ts e W is = cut (run p limit hs) e is ts ts (itself_comes (run p limit hs) ts W.1)
    comes_whole (u ∷ us) hs ts e W is = comes_whole_by_cases (λ hs' ts' W' is'. comes_whole us hs' ts' e W' is') (can_step (run p limit hs) u) refl
      where
        comes_whole_by_cases : ((hs ts : List ℕ) → Whole hs limit ts → (run_from p (run p limit hs) us).end ≡ Some e → ComesAs p (run p limit hs) ts us) → (b : Bool) → can_step (run p limit hs) u ≡ b → ComesAs p (run p limit hs) ts (u ∷ us)
        comes_whole_by_cases all false none = idle (run p limit hs) u ts us none (all hs ts W (ap (λ w. (run_from p w us).end) (sym (step_idle p (run p limit hs) u none)) ∙ is))
        comes_whole_by_cases all true can =
            let A = after hs ts u can W in
            A.2 us (all (hs ++ u ∷ []) A.0 A.1 (ap (λ w. (run_from p w us).end) (run_push p (start p limit) hs u) ∙ is))

    agrees : (ts us : List ℕ) → ComesAs p (start p limit) ts us → SameResult p limit ts us
    agrees ts us C = record {
      f = C.f;
      g = C.g;
      renaming = C.renaming;
      alike = C.alike;
      turns = C.turned;
      accesses = λ a. (
        (λ c. contains_from_in (accesses_from p (start p limit) ts) a ((C.accesses a).0 (in_from_contains (accesses_from p (start p limit) us) (access_to C.f a) c))),
        (λ c. contains_from_in (accesses_from p (start p limit) us) (access_to C.f a) ((C.accesses a).1 (in_from_contains (accesses_from p (start p limit) ts) a c))),
      );
      ordered = from_order (run_from p (start p limit) us).edges (accesses_from p (start p limit) us) C.order;
      printed = C.printed;
      outputs = λ w.
          outputs_are p (start p limit) us
          ∙ (C.spoken (said_order (run_from p (start p limit) ts).edges (prints_from p (start p limit) ts) w) ∙ sym (outputs_are p (start p limit) ts));
    }

    pub whole : (ts : List ℕ) → SpeaksUp p limit ts → Whole [] limit ts
    whole ts S = (S.done, to_order (run_from p (start p limit) ts).edges (accesses_from p (start p limit) ts) S.ordered)

pub one_run_speaks_for_all : OneRunSpeaksForAll
one_run_speaks_for_all p limit ts us S = let r = comes p limit us [] ts (whole p limit ts S) in (r.0, agrees p limit ts (us ++ r.0) r.1)

pub every_end_agrees : EveryEndAgrees
every_end_agrees p limit ts us e S is =
    let C = comes_whole p limit us [] ts e (whole p limit ts S) is in
    let done : (run_from p (start p limit) us).end ≡ Some Done = C.alike.end ∙ ap (option_map (end_to C.f)) S.done in
    (same_Some e Done (sym is ∙ done), agrees p limit ts us C)
