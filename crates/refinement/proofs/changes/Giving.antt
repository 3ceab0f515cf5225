-- The levels that tasks give to the views of their descendants, through each kind of change.
use Rattle.refinement.proofs.Common.{◌≡◌, ℕ, zero, suc, ◌<◌, true, false, arith, Option, Some, None, List, ◌∷◌, slice_get, ◌⊎◌, inl, inr, refl, ap, sym, subst, ◌∙◌, drop, cases_eq, both_ways, false≢true, same_Some, map_in, TaskStatus, Running, Waiting, Ended, Joined, Task, is_joined, is_on_path, is_over, is_waiting, waits as waits_by, runs_idle, Heap, Ledger, SoundLedger, Rests, ForksTask, leaf_alone, Chunk, Belongings, Memory, frozen_chunk, frozen_chunks, ForksBelongings, GivesLevel, LevelHasChunk, BelongingsStand, MemoryStands}

abbrev pub EachGives : Memory → Ledger → Type 0
EachGives v l = (t u : ℕ) → Rests l t → is_joined (slice_get l.machine.tasks t) ≡ false → is_on_path l.machine.tasks u t ≡ true → (u ≡ t → ⊥) → is_waiting (slice_get l.machine.tasks u) ≡ true → Rests l u → GivesLevel v u t

-- if the views of both are unchanged, and the giving task gets no chunk
pub gives_kept : (v v' : Memory) (u t : ℕ) → (v'.belongings t).view ≡ (v.belongings t).view → (v'.belongings u).view ≡ (v.belongings u).view → ((n : ℕ) → v'.owner n ≡ Some u → v.owner n ≡ Some u) → GivesLevel v u t → GivesLevel v' u t
gives_kept v v' u t et eu own G = record {
  place = G.place;
  behind = ap (drop (suc G.place)) et ∙ (G.behind ∙ sym eu);
  apart = λ i n level lt at has o. G.apart i n level lt (ap (λ ls. slice_get ls i) (sym et) ∙ at) has (own n o);
}

-- a waiting task hasn't joined
pub waits_live : (o : Option Task) → is_waiting o ≡ true → is_joined o ≡ false
waits_live None e = absurd (false≢true e)
waits_live (Some y) e = waits_live_by_cases y.status e
  where
    waits_live_by_cases : (s : TaskStatus) → waits_by s ≡ true → is_over s ≡ false
    waits_live_by_cases Running e = refl
    waits_live_by_cases Waiting e = refl
    waits_live_by_cases (Ended k r) e = refl
    waits_live_by_cases Joined e = absurd (false≢true e)

-- a heap's level has only chunks of its task
level_is_own : (v : Memory) (l : Ledger) (t n : ℕ) → BelongingsStand v l t → LevelHasChunk (frozen_chunks (v.belongings t).chunks) n → v.owner n ≡ Some t
level_is_own v l t n H has =
    let k = map_in frozen_chunk (v.belongings t).chunks has.0 has.1 in
    ap v.owner (sym (ap (λ (c : Chunk). c.number) k.2 ∙ has.2)) ∙ H.owned k.0 k.1

-- A FORK
module _ (v v' : Memory) (l l' : Ledger) (t a b g h : ℕ) (x : Task) (S : SoundLedger l) (V : MemoryStands v l) (T : EachGives v l) (rests : Rests l t) (runs : x.status ≡ Running)
    (live : is_joined (slice_get l.machine.tasks t) ≡ false) (F : ForksTask l l' t a b g h x) (C : ForksBelongings v v' t a b g h)
    (same : (z : ℕ) → (z ≡ a → ⊥) → (z ≡ b → ⊥) → (v'.belongings z).view ≡ (v.belongings z).view) where
  not_left : (u : ℕ) → is_waiting (slice_get l'.machine.tasks u) ≡ true → u ≡ a → ⊥
  not_left u w e = both_ways (is_waiting (slice_get l'.machine.tasks u)) (ap (λ z. is_waiting (slice_get l'.machine.tasks z)) e ∙ ap is_waiting F.left) w

  not_right : (u : ℕ) → is_waiting (slice_get l'.machine.tasks u) ≡ true → u ≡ b → ⊥
  not_right u w e = both_ways (is_waiting (slice_get l'.machine.tasks u)) (ap (λ z. is_waiting (slice_get l'.machine.tasks z)) e ∙ ap is_waiting F.right) w

  rest : (u : ℕ) → (u ≡ t → ⊥) → (u ≡ a → ⊥) → (u ≡ b → ⊥) → Rests l' u → Rests l u
  rest u nt na nb r = ap (λ (z : Heap). z.worker) (sym (F.heaps u nt na nb)) ∙ r

  waits : (u : ℕ) → (u ≡ t → ⊥) → (u ≡ a → ⊥) → (u ≡ b → ⊥) → is_waiting (slice_get l'.machine.tasks u) ≡ true → is_waiting (slice_get l.machine.tasks u) ≡ true
  waits u nt na nb w = ap is_waiting (sym (F.tasks u nt na nb)) ∙ w

  -- its own level
  gives_own : (z : ℕ) → (v'.belongings z).view ≡ frozen_chunks (v.belongings t).chunks ∷ (v.belongings t).view → GivesLevel v' t z
  gives_own z new = record {
    place = 0;
    behind = ap (drop 1) new ∙ ap (λ (i : Belongings). i.view) (sym C.belongings);
    apart = λ i n level lt. absurd (omega (arith, lt));
  }

  -- and the others, after it
  gives_more : (z u : ℕ) → (v'.belongings z).view ≡ frozen_chunks (v.belongings t).chunks ∷ (v.belongings t).view → (v'.belongings u).view ≡ (v.belongings u).view → (u ≡ t → ⊥) → GivesLevel v u t → GivesLevel v' u z
  gives_more z u new eu nt G = record {
    place = suc G.place;
    behind = ap (drop (suc (suc G.place))) new ∙ (G.behind ∙ sym eu);
    apart = λ i n level lt at has o. gives_more_by_cases i n level lt (ap (λ ls. slice_get ls i) (sym new) ∙ at) has (sym (C.owner n) ∙ o);
  }
    where
      gives_more_by_cases : (i n : ℕ) (level : List Chunk) → i < suc G.place → slice_get (frozen_chunks (v.belongings t).chunks ∷ (v.belongings t).view) i ≡ Some level → LevelHasChunk level n → v.owner n ≡ Some u → ⊥
      gives_more_by_cases zero n level lt at has o =
          let is : frozen_chunks (v.belongings t).chunks ≡ level = same_Some (frozen_chunks (v.belongings t).chunks) level at in
          nt (same_Some u t (sym o ∙ level_is_own v l t n (V.belongings t rests) (subst (λ ks. LevelHasChunk ks n) (sym is) has)))
      gives_more_by_cases (suc i) n level lt at has o = G.apart i n level (omega (arith, lt)) at has o

  -- to a child
  gives_child : (z u : ℕ) → ((y : ℕ) → is_on_path l'.machine.tasks y z ≡ true → (y ≡ z) ⊎ (is_on_path l.machine.tasks y t ≡ true)) → (v'.belongings z).view ≡ frozen_chunks (v.belongings t).chunks ∷ (v.belongings t).view
      → is_on_path l'.machine.tasks u z ≡ true → (u ≡ z → ⊥) → is_waiting (slice_get l'.machine.tasks u) ≡ true → Rests l' u → GivesLevel v' u z
  gives_child z u above new up ne w r = elim (above u up) [
    | inl e ↦ absurd (ne e)
    | inr p ↦ elim (cases_eq u t) [
      | inl e ↦ subst (λ y. GivesLevel v' y z) (sym e) (gives_own z new)
      | inr nt ↦
          let na = not_left u w in
          let nb = not_right u w in
          gives_more z u new (same u na nb) nt (T t u rests live p nt (waits u nt na nb w) (rest u nt na nb r))
    ]
  ]

  -- to any other
  gives_rest : (z u : ℕ) → (z ≡ a → ⊥) → (z ≡ b → ⊥) → Rests l z → is_joined (slice_get l.machine.tasks z) ≡ false → is_on_path l'.machine.tasks u z ≡ true → (u ≡ z → ⊥) → is_waiting (slice_get l'.machine.tasks u) ≡ true → Rests l' u → GivesLevel v' u z
  gives_rest z u na nb rz lz up ne w r =
      let up1 : is_on_path l.machine.tasks u z ≡ true = sym (F.paths u z na nb) ∙ up in
      let nt : u ≡ t → ⊥ = λ e. ne (leaf_alone l S u z (ap (λ y. is_waiting (slice_get l.machine.tasks y)) e ∙ runs_idle x F.task runs) lz up1) in
      let ua = not_left u w in
      let ub = not_right u w in
      gives_kept v v' u z (same z na nb) (same u ua ub) (λ n o. sym (C.owner n) ∙ o) (T z u rz lz up1 ne (waits u nt ua ub w) (rest u nt ua ub r))

  pub fork_gives : (z u : ℕ) → ((z ≡ a → ⊥) → (z ≡ b → ⊥) → Rests l z) → ((z ≡ a → ⊥) → (z ≡ b → ⊥) → is_joined (slice_get l.machine.tasks z) ≡ false) → is_on_path l'.machine.tasks u z ≡ true → (u ≡ z → ⊥)
      → is_waiting (slice_get l'.machine.tasks u) ≡ true → Rests l' u → GivesLevel v' u z
  fork_gives z u rz lz up ne w r = elim (cases_eq z a) [
    | inl e ↦ subst (GivesLevel v' u) (sym e) (gives_child a u F.above_left (ap (λ (i : Belongings). i.view) C.left) (subst (λ y. is_on_path l'.machine.tasks u y ≡ true) e up) (λ f. ne (f ∙ sym e)) w r)
    | inr na ↦ elim (cases_eq z b) [
      | inl e ↦ subst (GivesLevel v' u) (sym e) (gives_child b u F.above_right (ap (λ (i : Belongings). i.view) C.right) (subst (λ y. is_on_path l'.machine.tasks u y ≡ true) e up) (λ f. ne (f ∙ sym e)) w r)
      | inr nb ↦ gives_rest z u na nb (rz na nb) (lz na nb) up ne w r
    ]
  ]
