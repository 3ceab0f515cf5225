-- A seat is split from worker 0's, or joined with it, and the turn begins and ends.
use Rattle.turn_lock.proofs.Common.{◌≡◌, ◌≢◌, ◌⊎◌, ℕ, zero, suc, ◌+◌, ◌-◌, ◌*◌, ◌<◌, ◌≤◌, true, true≢false, List, [], ◌∷◌, ◌++◌, length, set, sym, refl, ap, ◌∙◌, subst, arith, ⊎_elim, inl, inr, Option, Some, None, append-nil, lt_of_not-le, none_some, some_apart, State, Splits, Joins, Seen, opening, at_set, set_else, at_longer, at_last, SeatView, NoneBy, AllBelow, opening_view, HasAll, Numbered, Sees, IsFree, IsTaken, Turning, with_seat_more, split_view, with_joined, spent_view}
use mathlib.Core.Logic.{dite}
use mathlib.Core.Option.{some, some-injective, some-ne-none}
use native.Mathlib.Decide.{ℕ_discrete, dec_le}
use lib.ListN.{get_elem?}
use Rattle.turn_lock.proofs.Views.{set_hit, one_there}

abbrev first_of : {A : Type 0} → List A → Option A
first_of [] = None
first_of (x ∷ xs) = Some x

-- an element of a list with one more is an old one or the last
at_snoc : {A : Type 0} (l : List A) (a b : A) (j : ℕ) → get_elem? (l ++ a ∷ []) j ≡ some b → (get_elem? l j ≡ some b) ⊎ ((j ≡ length l) × (a ≡ b))
at_snoc [] a b zero e = inr (refl, some-injective a b e)
at_snoc [] a b (suc j) e = absurd (some-ne-none b (sym e))
at_snoc (x ∷ xs) a b zero e = inl e
at_snoc (x ∷ xs) a b (suc j) e = ⊎_elim (λ h. inl h) (λ (t : (j ≡ length xs) × (a ≡ b)). inr (ap suc t.0, t.1)) (at_snoc xs a b j e)

within : {A : Type 0} (l : List A) (j : ℕ) (b : A) → get_elem? l j ≡ some b → j < length l
within [] j b e = absurd (some-ne-none b (sym e))
within (x ∷ xs) zero b e = omega arith
within (x ∷ xs) (suc j) b e = let h = within xs j b e in omega arith

module _ {E : Type 0} (by : E → ℕ) where
  below_more : (n : ℕ) (es : List E) → AllBelow by n es → AllBelow by (n + 1) es
  below_more n [] f = tt
  below_more n (e ∷ es) f = ((let h = f.0 in omega arith), below_more n es f.1)

  below_apart : (n : ℕ) (es : List E) → AllBelow by n es → NoneBy by n es
  below_apart n [] f = tt
  below_apart n (e ∷ es) f = ((λ is. let h = f.0 in omega arith), below_apart n es f.1)

module _ {T E P S : Type 0} where
  numbers_after_split : (l : List (SeatView T E P S)) (id : ℕ) (v : SeatView T E P S) → get_elem? l id ≡ some v → v.live ≡ true → v.worker ≡ 0 → Numbered l → Numbered (set l id (with_seat_more v) ++ split_view v ∷ [])
  numbers_after_split l id v at live first r = record {
    once = λ i j a b p q la lb e. let x = was i a p la in let y = was j b q lb in ⊎_elim
        (λ (t : Old i a). ⊎_elim (λ (u : Old j b). r.once i j t.0 u.0 t.1 u.1 t.2 u.2 (t.3 ∙ (e ∙ sym u.3)))
        (λ (u : New j b). let h = r.counted id i v t.0 at t.1 live t.2 first in let e' : t.0.worker ≡ v.count = t.3 ∙ (e ∙ sym (ap (λ (z : SeatView T E P S). z.worker) u.1)) in absurd (omega arith)) y)
        (λ (t : New i a). ⊎_elim (λ (u : Old j b). let h = r.counted id j v u.0 at u.1 live u.2 first in let e' : u.0.worker ≡ v.count = u.3 ∙ (sym e ∙ sym (ap (λ (z : SeatView T E P S). z.worker) t.1)) in absurd (omega arith))
        (λ (u : New j b). t.0 ∙ sym u.0) y) x;
    counted = λ i j a b p q la lb e. let x = was i a p la in let y = was j b q lb in let few = r.counted id id v v at at live live first in
        ⊎_elim (λ (t : Old i a). let is : i ≡ id = r.once i id t.0 v t.1 at t.2 live (t.3 ∙ (e ∙ sym first)) in
        let count : a.count ≡ v.count + 1 = t.4 is in
        ⊎_elim (λ (u : Old j b). let h = r.counted id j v u.0 at u.1 live u.2 first in let w = u.3 in omega arith)
        (λ (u : New j b). let w : v.count ≡ b.worker = ap (λ (z : SeatView T E P S). z.worker) u.1 in omega arith) y)
        (λ (t : New i a). let w : v.count ≡ a.worker = ap (λ (z : SeatView T E P S). z.worker) t.1 in absurd (omega arith)) x;
    each = λ i n a p la e h. let x = was i a p la in let few = r.counted id id v v at at live live first in
        ⊎_elim (λ (t : Old i a). let is : i ≡ id = r.once i id t.0 v t.1 at t.2 live (t.3 ∙ (e ∙ sym first)) in let count : a.count ≡ v.count + 1 = t.4 is in
        dite (ℕ_discrete n v.count)
        (λ last. (length (set l id (with_seat_more v)), split_view v, at_last (set l id (with_seat_more v)) (split_view v) (length (set l id (with_seat_more v))) refl, refl, sym last))
        (λ not. let u = r.each id n v at live first (omega arith) in dite (ℕ_discrete u.0 id)
        (λ here. let one = one_there l u.0 id u.1 v u.2 at here in (id, with_seat_more v, at_longer (set l id (with_seat_more v)) (split_view v ∷ []) id (with_seat_more v) (set_hit l id v (with_seat_more v) at), live, ap (λ (z : SeatView T E P S). z.worker) (sym one) ∙ u.4))
        (λ there. (u.0, u.1, at_longer (set l id (with_seat_more v)) (split_view v ∷ []) u.0 u.1 (set_else l id u.0 (with_seat_more v) there ∙ u.2), u.3, u.4))))
        (λ (t : New i a). let w : v.count ≡ a.worker = ap (λ (z : SeatView T E P S). z.worker) t.1 in absurd (omega arith)) x;
  }
    where
      Old : ℕ → SeatView T E P S → Type 0
      Old j b = (a : SeatView T E P S) × (get_elem? l j ≡ some a) × (a.live ≡ true) × (a.worker ≡ b.worker) × (j ≡ id → b.count ≡ v.count + 1)

      New : ℕ → SeatView T E P S → Type 0
      New j b = (j ≡ length (set l id (with_seat_more v))) × (split_view v ≡ b)

      was : (j : ℕ) (b : SeatView T E P S) → get_elem? (set l id (with_seat_more v) ++ split_view v ∷ []) j ≡ some b → b.live ≡ true → Old j b ⊎ New j b
      was j b e lb = ⊎_elim (λ (h : get_elem? (set l id (with_seat_more v)) j ≡ some b). inl (⊎_elim
          (λ (t : (j ≡ id) × (with_seat_more v ≡ b)). (v, ap (λ (k : ℕ). get_elem? l k) t.0 ∙ at, live, ap (λ (z : SeatView T E P S). z.worker) t.1, λ _. ap (λ (z : SeatView T E P S). z.count) (sym t.1)))
          (λ (t : (j ≢ id) × (get_elem? l j ≡ some b)). (b, t.1, lb, refl, λ is. absurd (t.0 is))) (at_set l id j (with_seat_more v) b h)))
          (λ (t : (j ≡ length (set l id (with_seat_more v))) × (split_view v ≡ b)). inr t) (at_snoc (set l id (with_seat_more v)) (split_view v) b j e)

  numbers_after_join : (l : List (SeatView T E P S)) (id other : ℕ) (v w : SeatView T E P S) → get_elem? l id ≡ some v → get_elem? l other ≡ some w → other ≢ id → v.live ≡ true → w.live ≡ true → v.worker ≡ 0 → w.worker ≡ v.count - 1
      → Numbered l → Numbered (set (set l id (with_joined v w)) other spent_view)
  numbers_after_join l id other v w at at_w apart live live_w first last r = record {
    once = λ i j a b p q la lb e. let x = was i a p la in let y = was j b q lb in r.once i j x.0 y.0 x.1 y.1 x.2 y.2 (x.3 ∙ (e ∙ sym y.3));
    counted = λ i j a b p q la lb e. let x = was i a p la in let y = was j b q lb in let is : i ≡ id = r.once i id x.0 v x.1 at x.2 live (x.3 ∙ (e ∙ sym first)) in
        let count : a.count ≡ v.count - 1 = x.5 is in let h = r.counted id j v y.0 at y.1 live y.2 first in let same_worker : y.0.worker ≡ b.worker = y.3 in
        let not_last : ¬ (y.0.worker ≡ v.count - 1) = λ e'. y.4 (r.once j other y.0 w y.1 at_w y.2 live_w (e' ∙ sym last)) in less y.0.worker b.worker v.count a.count h not_last same_worker count;
    each = λ i n a p la e h. let x = was i a p la in let is : i ≡ id = r.once i id x.0 v x.1 at x.2 live (x.3 ∙ (e ∙ sym first)) in let count : a.count ≡ v.count - 1 = x.5 is in
        let u = r.each id n v at live first (omega arith) in let there : u.0 ≢ other = λ o. let one = one_there l u.0 other u.1 w u.2 at_w o in let e1 = u.4 in let e2 : u.1.worker ≡ w.worker = ap (λ (z : SeatView T E P S). z.worker) one in omega arith in
        dite (ℕ_discrete u.0 id)
        (λ here. let one = one_there l u.0 id u.1 v u.2 at here in
        (id, with_joined v w, set_else (set l id (with_joined v w)) other id spent_view (λ o. apart (sym o)) ∙ set_hit l id v (with_joined v w) at, live, ap (λ (z : SeatView T E P S). z.worker) (sym one) ∙ u.4))
        (λ away. (u.0, u.1, set_else (set l id (with_joined v w)) other u.0 spent_view there ∙ (set_else l id u.0 (with_joined v w) away ∙ u.2), u.3, u.4));
  }
    where
      less : (k k' n m : ℕ) → k < n → ¬ (k ≡ n - 1) → k ≡ k' → m ≡ n - 1 → k' < m
      less k k' n m h a e e' = dite (dec_le m k') (λ le. absurd (a (omega arith))) (λ not. lt_of_not-le not)

      was : (j : ℕ) (b : SeatView T E P S) → get_elem? (set (set l id (with_joined v w)) other spent_view) j ≡ some b → b.live ≡ true
          → (a : SeatView T E P S) × (get_elem? l j ≡ some a) × (a.live ≡ true) × (a.worker ≡ b.worker) × (j ≢ other) × (j ≡ id → b.count ≡ v.count - 1)
      was j b e lb = ⊎_elim (λ (t : (j ≡ other) × (spent_view ≡ b)). absurd (true≢false (sym lb ∙ ap (λ (z : SeatView T E P S). z.live) (sym t.1))))
          (λ (t : (j ≢ other) × (get_elem? (set l id (with_joined v w)) j ≡ some b)). ⊎_elim
          (λ (u : (j ≡ id) × (with_joined v w ≡ b)). (v, ap (λ (k : ℕ). get_elem? l k) u.0 ∙ at, live, ap (λ (z : SeatView T E P S). z.worker) u.1, t.0, λ _. ap (λ (z : SeatView T E P S). z.count) (sym u.1)))
          (λ (u : (j ≢ id) × (get_elem? l j ≡ some b)). (b, u.1, lb, refl, t.0, λ is. absurd (u.0 is))) (at_set l id j (with_joined v w) b t.1))
          (at_set (set l id (with_joined v w)) other j spent_view b e)

module _ {T E P S : Type 0} (journal : T → List E) (by : E → ℕ) (fits : T → ℕ → P → Type 0) (setup : T → S) where
  abbrev V : Type 0
  V = SeatView T E P S

  abbrev St : Type 0
  St = State (Option T) V

  abbrev Rule : St → Type 0
  Rule = Turning journal by fits setup

  abbrev SeesIt : T → V → Type 0
  SeesIt = Sees journal by fits setup

  abbrev All : T → V → Type 0
  All = HasAll journal by fits setup

  abbrev Free : St → T → Type 0
  Free = IsFree journal by fits setup

  abbrev Held : St → T → Type 0
  Held = IsTaken journal by fits setup

  pub hires : (id : ℕ) (v : V) → v.live ≡ true → v.worker ≡ 0 → v.taken ≡ None → v.joined ≡ [] → Splits Rule id v (with_seat_more v) (split_view v)
  hires id v live first idle none_joined s r at = let k = r.knows id v at live in let few = r.seats.counted id id v v at at live live first in
      let k0 : AllBelow by v.count k.known.rest = k.below first none_joined in let views : List V = set s.views id (with_seat_more v) ++ split_view v ∷ [] in record {
        value = r.value;
        wide = r.wide;
        turn = ⊎_elim (λ (f : Free s r.value). inl (f.0, f.1, λ i u e. new_taken s f.2 i u e))
            (λ (h : Held s r.value). let apart : h.1 ≢ id = λ is. some_apart v.taken r.value (ap (λ (z : V). z.taken) (sym (one_there s.views h.1 id h.2 v h.3 at is)) ∙ h.5) idle in
            inr (
              h.0,
              h.1,
              h.2,
              at_longer (set s.views id (with_seat_more v)) (split_view v ∷ []) h.1 h.2 (set_else s.views id h.1 (with_seat_more v) apart ∙ h.3),
              h.4,
              h.5,
              λ i u e not. ⊎_elim (λ (g : get_elem? (set s.views id (with_seat_more v)) i ≡ some u). ⊎_elim (λ (t : (i ≡ id) × (with_seat_more v ≡ u)). ap (λ (z : V). z.taken) (sym t.1) ∙ idle) (λ (t : (i ≢ id) × (get_elem? s.views i ≡ some u)). h.6 i u t.1 not) (at_set s.views id i (with_seat_more v) u g))
                  (λ (t : (i ≡ length (set s.views id (with_seat_more v))) × (split_view v ≡ u)). ap (λ (z : V). z.taken) (sym t.1)) (at_snoc (set s.views id (with_seat_more v)) (split_view v) u i e),
            ))
            r.turn;
        knows = λ i u e lu. ⊎_elim (λ (g : get_elem? (set s.views id (with_seat_more v)) i ≡ some u). ⊎_elim
            (λ (t : (i ≡ id) × (with_seat_more v ≡ u)). subst (SeesIt r.value) t.1 record {
              known = record {
                rest = k.known.rest;
                begins = k.known.begins;
                others = k.known.others;
                looked = k.known.looked;
                part = k.known.part;
                setup_is = k.known.setup_is;
              };
              below = λ _ _. below_more by v.count k.known.rest k0;
              joined = λ j n l e'. absurd (some-ne-none (n, l) (sym e' ∙ ap (λ (z : List (ℕ × List E)). get_elem? z j) none_joined));
            })
            (λ (t : (i ≢ id) × (get_elem? s.views i ≡ some u)). r.knows i u t.1 lu) (at_set s.views id i (with_seat_more v) u g))
            (λ (t : (i ≡ length (set s.views id (with_seat_more v))) × (split_view v ≡ u)). subst (SeesIt r.value) t.1 record {
              known = record {
                rest = k.known.rest;
                begins = k.known.begins;
                others = below_apart by v.count k.known.rest k0;
                looked = omega arith;
                part = λ p is. none_some is;
                setup_is = k.known.setup_is;
              };
              below = λ z _. absurd (omega arith);
              joined = λ j n l e'. absurd (some-ne-none (n, l) (sym e'));
            }) (at_snoc (set s.views id (with_seat_more v)) (split_view v) u i e);
        whole = (let h = r.whole in dite (ℕ_discrete h.0 id)
            (λ is. let one = one_there s.views h.0 id h.1 v h.2 at is in (id, with_seat_more v, at_longer (set s.views id (with_seat_more v)) (split_view v ∷ []) id (with_seat_more v) (set_hit s.views id v (with_seat_more v) at), live, subst (All r.value) one h.4))
            (λ apart. (h.0, h.1, at_longer (set s.views id (with_seat_more v)) (split_view v ∷ []) h.0 h.1 (set_else s.views id h.0 (with_seat_more v) apart ∙ h.2), h.3, h.4)));
        seats = numbers_after_split s.views id v at live first r.seats;
      }
    where
      new_taken : (s : St) → ((i : ℕ) (u : V) → get_elem? s.views i ≡ some u → u.taken ≡ None) → (i : ℕ) (u : V) → get_elem? (set s.views id (with_seat_more v) ++ split_view v ∷ []) i ≡ some u → u.taken ≡ None
      new_taken s f i u e = ⊎_elim
          (λ (g : get_elem? (set s.views id (with_seat_more v)) i ≡ some u). ⊎_elim (λ (t : (i ≡ id) × (with_seat_more v ≡ u)). ap (λ (z : V). z.taken) (sym t.1) ∙ idle) (λ (t : (i ≢ id) × (get_elem? s.views i ≡ some u)). f i u t.1) (at_set s.views id i (with_seat_more v) u g))
          (λ (t : (i ≡ length (set s.views id (with_seat_more v))) × (split_view v ≡ u)). ap (λ (z : V). z.taken) (sym t.1)) (at_snoc (set s.views id (with_seat_more v)) (split_view v) u i e)

  -- what worker 0 knows after it has taken over what another saw
  knows_joined : (x : T) (v w : V) → SeesIt x v → SeesIt x w → v.worker ≡ 0 → w.worker ≡ v.count - 1 → SeesIt x (with_joined v w)
  knows_joined x v w k m first last = record {
    known = record {
      rest = k.known.rest;
      begins = k.known.begins;
      others = k.known.others;
      looked = k.known.looked;
      part = k.known.part;
      setup_is = k.known.setup_is;
    };
    below = λ _ none_joined. absurd (some_apart (first_of ((w.worker, w.seen) ∷ v.joined)) (w.worker, w.seen) refl (ap first_of none_joined));
    joined = seen_too;
  }
    where
      seen_too : (i n : ℕ) (l : List E) → get_elem? ((w.worker, w.seen) ∷ v.joined) i ≡ some (n, l) → (v.worker ≡ 0) × (v.count - 1 ≤ n) × (more : List E) × (journal x ≡ l ++ more) × NoneBy by n more
      seen_too zero n l e = let p = some-injective (w.worker, w.seen) (n, l) e in subst (λ (z : ℕ × List E). (v.worker ≡ 0) × (v.count - 1 ≤ z.0) × (more : List E) × (journal x ≡ z.1 ++ more) × NoneBy by z.0 more) p
          (first, (omega arith), m.known.rest, m.known.begins, m.known.others)
      seen_too (suc i) n l e = let j = k.joined i n l e in let c = j.1 in (j.0, (omega arith), j.2, j.3, j.4)

  pub merges : (id other : ℕ) (v w : V) → v.live ≡ true → w.live ≡ true → v.worker ≡ 0 → w.worker ≡ v.count - 1 → v.taken ≡ None → w.taken ≡ None → Joins Rule id v other w (with_joined v w) spent_view
  merges id other v w live live_w first last idle idle_w s r at apart at_late = let at_w : get_elem? s.views other ≡ some w = sym (set_else s.views id other (with_joined v w) apart) ∙ at_late in
      let k = knows_joined r.value v w (r.knows id v at live) (r.knows other w at_w live_w) first last in record {
        value = r.value;
        wide = r.wide;
        turn = ⊎_elim (λ (f : Free s r.value). inl (f.0, f.1, λ i u e. still_none s i u (f.2 i u) e))
            (λ (h : Held s r.value). let not_id : h.1 ≢ id = λ is. some_apart v.taken r.value (ap (λ (z : V). z.taken) (sym (one_there s.views h.1 id h.2 v h.3 at is)) ∙ h.5) idle in
            let not_other : h.1 ≢ other = λ is. some_apart w.taken r.value (ap (λ (z : V). z.taken) (sym (one_there s.views h.1 other h.2 w h.3 at_w is)) ∙ h.5) idle_w in
            inr (h.0, h.1, h.2, set_else (set s.views id (with_joined v w)) other h.1 spent_view not_other ∙ (set_else s.views id h.1 (with_joined v w) not_id ∙ h.3), h.4, h.5, λ i u e not. still_none s i u (λ e'. h.6 i u e' not) e))
            r.turn;
        knows = λ i u e lu. ⊎_elim (λ (t : (i ≡ other) × (spent_view ≡ u)). absurd (true≢false (sym lu ∙ ap (λ (z : V). z.live) (sym t.1))))
            (λ (t : (i ≢ other) × (get_elem? (set s.views id (with_joined v w)) i ≡ some u)). ⊎_elim (λ (t : (i ≡ id) × (with_joined v w ≡ u)). subst (SeesIt r.value) t.1 k) (λ (t : (i ≢ id) × (get_elem? s.views i ≡ some u)). r.knows i u t.1 lu) (at_set s.views id i (with_joined v w) u t.1))
            (at_set (set s.views id (with_joined v w)) other i spent_view u e);
        whole = (let h = r.whole in let here = set_else (set s.views id (with_joined v w)) other id spent_view (λ e. apart (sym e)) ∙ set_hit s.views id v (with_joined v w) at in dite (ℕ_discrete h.0 id)
            (λ is. let one = one_there s.views h.0 id h.1 v h.2 at is in (id, with_joined v w, here, live, all_of_own r.value (subst (All r.value) one h.4)))
            (λ not_id. dite (ℕ_discrete h.0 other)
            (λ is. let one = one_there s.views h.0 other h.1 w h.2 at_w is in (id, with_joined v w, here, live, all_of_other s r at at_w (subst (All r.value) one h.4)))
            (λ not_other. (h.0, h.1, set_else (set s.views id (with_joined v w)) other h.0 spent_view not_other ∙ (set_else s.views id h.0 (with_joined v w) not_id ∙ h.2), h.3, h.4))));
        seats = numbers_after_join s.views id other v w at at_w apart live live_w first last r.seats;
      }
    where
      all_of_own : (x : T) → All x v → All x (with_joined v w)
      all_of_own x h = ⊎_elim (λ (e : v.seen ≡ journal x). inl e)
          (λ (t : (i : ℕ) × (k : ℕ) × (l : List E) × (get_elem? v.joined i ≡ some (k, l)) × (l ≡ journal x)). inr (suc t.0, t.1, t.2, t.3, t.4)) h

      all_of_other : (s : St) (r : Rule s) → get_elem? s.views id ≡ some v → get_elem? s.views other ≡ some w → All r.value w → All r.value (with_joined v w)
      all_of_other s r at at_w h = ⊎_elim (λ (e : w.seen ≡ journal r.value). inr (0, w.worker, w.seen, refl, e))
          (λ (t : (i : ℕ) × (k : ℕ) × (l : List E) × (get_elem? w.joined i ≡ some (k, l)) × (l ≡ journal r.value)). let j = (r.knows other w at_w live_w).joined t.0 t.1 t.2 t.3 in
          absurd (apart (r.seats.once other id w v at_w at live_w live (j.0 ∙ sym first))))
          h

      still_none : (s : St) (i : ℕ) (u : V) → (get_elem? s.views i ≡ some u → u.taken ≡ None) → get_elem? (set (set s.views id (with_joined v w)) other spent_view) i ≡ some u → u.taken ≡ None
      still_none s i u old e = ⊎_elim (λ (t : (i ≡ other) × (spent_view ≡ u)). ap (λ (z : V). z.taken) (sym t.1))
          (λ (t : (i ≢ other) × (get_elem? (set s.views id (with_joined v w)) i ≡ some u)). ⊎_elim (λ (t : (i ≡ id) × (with_joined v w ≡ u)). ap (λ (z : V). z.taken) (sym t.1) ∙ idle) (λ (t : (i ≢ id) × (get_elem? s.views i ≡ some u)). old t.1) (at_set s.views id i (with_joined v w) u t.1))
          (at_set (set s.views id (with_joined v w)) other i spent_view u e)

  pub opens : (x : T) (word : ℕ) → word ≡ 2 * length (journal x) → Rule (opening (word ∷ []) (Some x ∷ []) (opening_view journal setup x))
  opens x word is = record {
    value = x;
    wide = refl;
    turn = inl (is, refl, λ i u e. ap (λ (z : V). z.taken) (sym (only i u e).1));
    knows = λ i u e lu. subst (SeesIt x) (only i u e).1 record {
      known = record {
        rest = [];
        begins = sym (append-nil (journal x));
        others = tt;
        looked = omega arith;
        part = λ p none_there. none_some none_there;
        setup_is = refl;
      };
      below = λ _ _. tt;
      joined = λ j n l none_there. absurd (some-ne-none (n, l) (sym none_there));
    };
    whole = (0, opening_view journal setup x, refl, refl, inl refl);
    seats = record {
      once = λ i j a b p q la lb e. (only i a p).0 ∙ sym (only j b q).0;
      counted = λ i j a b p q la lb e. let ca = ap (λ (z : V). z.count) (only i a p).1 in let wb = ap (λ (z : V). z.worker) (only j b q).1 in let ca' : 1 ≡ a.count = ca in let wb' : 0 ≡ b.worker = wb in omega arith;
      each = λ i n a p la e h. let ca : 1 ≡ a.count = ap (λ (z : V). z.count) (only i a p).1 in (0, opening_view journal setup x, refl, refl, (let goal : 0 ≡ n = omega arith in goal));
    };
  }
    where
      only : (i : ℕ) (u : V) → get_elem? (opening_view journal setup x ∷ []) i ≡ some u → (i ≡ 0) × (opening_view journal setup x ≡ u)
      only zero u e = (refl, some-injective (opening_view journal setup x) u e)
      only (suc i) u e = absurd (some-ne-none u (sym e))

  -- with one seat left, without the turn, the value is in its slot and the seat has seen all
  pub ends : (id : ℕ) (v : V) (s : St) → Seen Rule id v s → v.live ≡ true → v.worker ≡ 0 → v.count ≡ 1 → v.taken ≡ None
      → (x : T) × (get_elem? s.homes 0 ≡ some (some (Some x))) × All x v × SeesIt x v
  ends id v s seen live first one_left idle = let r = seen.0 in let at = seen.1 in
      let alone : (i : ℕ) (u : V) → get_elem? s.views i ≡ some u → u.live ≡ true → i ≡ id = λ i u e lu. let h = r.seats.counted id i v u at e live lu first in let z : u.worker ≡ v.worker = omega arith in r.seats.once i id u v e at lu live z in
      let h = r.whole in let one = one_there s.views h.0 id h.1 v h.2 at (alone h.0 h.1 h.2 h.3) in
      ⊎_elim (λ (f : Free s r.value). (r.value, f.1, subst (All r.value) one h.4, r.knows id v at live))
      (λ (g : Held s r.value). absurd (some_apart v.taken r.value (ap (λ (z : V). z.taken) (sym (one_there s.views g.1 id g.2 v g.3 at (alone g.1 g.2 g.3 g.4))) ∙ g.5) idle))
      r.turn

  pub opens_at : (x key : T) (items : List (Option T)) (word : ℕ) → items ≡ Some x ∷ [] → key ≡ x → word ≡ 2 * length (journal x) → Rule (opening (word ∷ []) items (opening_view journal setup key))
  opens_at x key items word as_items as_key is =
      subst (λ (z : List (Option T)). Rule (opening (word ∷ []) z (opening_view journal setup key))) (sym as_items) (subst (λ (k : T). Rule (opening (word ∷ []) (Some x ∷ []) (opening_view journal setup k))) (sym as_key) (opens x word is))
