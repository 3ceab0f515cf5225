-- Each step of the turn keeps its invariant.
use Rattle.turn_lock.proofs.Common.{◌≡◌, ◌≢◌, ◌⊎◌, ℕ, ◌+◌, ◌-◌, ◌*◌, ◌/◌, ◌%◌, ◌^◌, ◌<◌, ◌≤◌, true, List, [], ◌∷◌, ◌++◌, length, slice_index, set, sym, refl, ap, ◌∙◌, subst, arith, ⊎_elim, inl, inr, Option, Some, None, length-set, get_or-set_same, length-append, append-nil, append_assoc, unwrap_or, option_map, IfSome, eq-zero-or-pos, same_Some, none_some, some_apart, State, Me, step, keeps, takes, gives, Allows, at_set, set_else, SeatView, NoneBy, AllBelow, Knows, Extends, IsAlike, with_looked, with_taken, with_given, Sees, IsFree, IsTaken, Turning, HasAll, looks, returns}
use mathlib.Core.Logic.{dite}
use mathlib.Core.Option.{none, some}
use mathlib.Core.Option as maybe
use native.Mathlib.Decide.{ℕ_discrete}
use lib.ListN.{get_elem?}
use denote.Ref.{Bor}
use lib.Bits.{bit_or, or_shifted, or_add_and, and_mask}
use Rattle.turn_lock.specs.Rule.{takes as took, gives as gave}
use Rattle.turn_lock.proofs.Views.{Same, same_as_itself, renumbered, set_hit, one_there}

pub set_last : (a : ℕ) → bit_or a 1 ≡ a / 2 * 2 + 1
set_last a =
    elim (eq-zero-or-pos (a % 2)) [
      | inl z ↦ let e : a ≡ a / 2 * 2 ^ 1 = omega arith in ap (λ (k : ℕ). bit_or k 1) e ∙ or_shifted (a / 2) 1 1 (omega arith)
      | inr p ↦ omega (arith, or_add_and a 1, and_mask a 1)
    ]

apart_snoc : {E : Type 0} (by : E → ℕ) (w : ℕ) (es : List E) (e : E) → NoneBy by w es → by e ≢ w → NoneBy by w (es ++ e ∷ [])
apart_snoc by w [] e f apart = (apart, tt)
apart_snoc by w (x ∷ xs) e f apart = (f.0, apart_snoc by w xs e f.1 apart)

below_snoc : {E : Type 0} (by : E → ℕ) (n : ℕ) (es : List E) (e : E) → AllBelow by n es → by e < n → AllBelow by n (es ++ e ∷ [])
below_snoc by n [] e f h = (h, tt)
below_snoc by n (x ∷ xs) e f h = (f.0, below_snoc by n xs e f.1 h)

first_or : {T : Type 0} → T → List (ℕ × Option T) → T
first_or d [] = d
first_or d (x ∷ xs) = unwrap_or x.1 d

abbrev only : {T : Type 0} → T → List (ℕ × Option T)
only x = (0, Some x) ∷ []

held_one : {T : Type 0} (x y : T) → only x ≡ only y → x ≡ y
unfolding first_or
held_one x y e = ap (first_or x) e

home_hit : {A : Type 0} (l : List A) (x : A) → length l ≡ 1 → get_elem? (set l 0 x) 0 ≡ some x
home_hit [] x e = absurd (omega arith)
home_hit (y ∷ ys) x e = refl

module _ {T E P S : Type 0} (journal : T → List E) (by : E → ℕ) (fits : T → ℕ → P → Type 0) (setup : T → S) where
  abbrev V : Type 0
  V = SeatView T E P S

  abbrev St : Type 0
  St = State (Option T) V

  abbrev M : Type 0
  M = Me (Option T) V

  abbrev Rule : St → Type 0
  Rule = Turning journal by fits setup

  abbrev SeesIt : T → V → Type 0
  SeesIt = Sees journal by fits setup

  abbrev All : T → V → Type 0
  All = HasAll journal by fits setup

  abbrev Free : St → T → Type 0
  Free = IsFree journal by fits setup

  abbrev Held : St → T → Type 0
  Held = IsTaken journal by fits setup

  moved : (s : St) (r : Rule s) (id n : ℕ) (v w : V) (homes : List (maybe.Option (Option T))) (x : T) → get_elem? s.views id ≡ some v → Same v w
      → Free record { words = set s.words 0 n; homes = homes; views = set s.views id w } x ⊎ Held record { words = set s.words 0 n; homes = homes; views = set s.views id w } x
      → SeesIt x w → ((j : ℕ) (u : V) → j ≢ id → get_elem? s.views j ≡ some u → u.live ≡ true → SeesIt x u)
      → (i : ℕ) (u : V) → get_elem? (set s.views id w) i ≡ some u → u.live ≡ true → All x u
      → Rule record { words = set s.words 0 n; homes = homes; views = set s.views id w }
  moved s r id n v w homes x at st turn mine others i u whole_at whole_live whole_is = record {
    value = x;
    wide = length-set s.words 0 n ∙ r.wide;
    turn = turn;
    knows = λ j b e live. ⊎_elim (λ (t : (j ≡ id) × (w ≡ b)). subst (SeesIt x) t.1 mine) (λ (t : (j ≢ id) × (get_elem? s.views j ≡ some b)). others j b t.0 t.1 live) (at_set s.views id j w b e);
    whole = (i, u, whole_at, whole_live, whole_is);
    seats = renumbered s.views id v w at st r.seats;
  }

  -- a step that changes neither the word nor the holder of the turn
  still : (s : St) (r : Rule s) (id n : ℕ) (v w : V) → n ≡ slice_index s.words 0 → get_elem? s.views id ≡ some v → w.live ≡ v.live → w.taken ≡ v.taken
      → Free record { words = set s.words 0 n; homes = s.homes; views = set s.views id w } r.value ⊎ Held record { words = set s.words 0 n; homes = s.homes; views = set s.views id w } r.value
  still s r id n v w same_word at live taken = let wide = r.wide in let word : slice_index (set s.words 0 n) 0 ≡ slice_index s.words 0 = get_or-set_same s.words 0 n 0 (omega arith) ∙ same_word in
      ⊎_elim (λ (f : Free s r.value). inl (word ∙ f.0, f.1, λ i u e. ⊎_elim (λ (t : (i ≡ id) × (w ≡ u)). ap (λ (z : V). z.taken) (sym t.1) ∙ (taken ∙ f.2 id v at)) (λ (t : (i ≢ id) × (get_elem? s.views i ≡ some u)). f.2 i u t.1) (at_set s.views id i w u e)))
      (λ (h : Held s r.value). dite (ℕ_discrete h.1 id)
      (λ is. let one = one_there s.views h.1 id h.2 v h.3 at is in inr (
        word ∙ h.0,
        id,
        w,
        set_hit s.views id v w at,
        live ∙ (ap (λ (z : V). z.live) (sym one) ∙ h.4),
        taken ∙ (ap (λ (z : V). z.taken) (sym one) ∙ h.5),
        λ i u e not. ⊎_elim (λ (t : (i ≡ id) × (w ≡ u)). absurd (not t.0)) (λ (t : (i ≢ id) × (get_elem? s.views i ≡ some u)). h.6 i u t.1 (λ same_place. not (same_place ∙ is))) (at_set s.views id i w u e),
      ))
      (λ apart. inr (
        word ∙ h.0,
        h.1,
        h.2,
        set_else s.views id h.1 w apart ∙ h.3,
        h.4,
        h.5,
        λ i u e not. ⊎_elim (λ (t : (i ≡ id) × (w ≡ u)). ap (λ (z : V). z.taken) (sym t.1) ∙ (taken ∙ h.6 id v at (λ e'. apart (sym e')))) (λ (t : (i ≢ id) × (get_elem? s.views i ≡ some u)). h.6 i u t.1 not) (at_set s.views id i w u e),
      )))
      r.turn

  half : (s : St) (r : Rule s) → slice_index s.words 0 / 2 ≡ length (journal r.value)
  half s r = ⊎_elim (λ (f : Free s r.value). let e = f.0 in omega arith) (λ (h : Held s r.value). let e = h.0 in omega arith) r.turn

  -- the longest journal that was seen, after a step that changes no view's `seen`
  whole_still : (s : St) (r : Rule s) (id : ℕ) (v w : V) → get_elem? s.views id ≡ some v → Same v w → (All r.value v → All r.value w)
      → (i : ℕ) × (u : V) × (get_elem? (set s.views id w) i ≡ some u) × (u.live ≡ true) × All r.value u
  whole_still s r id v w at st all = let h = r.whole in dite (ℕ_discrete h.0 id)
      (λ is. let one = one_there s.views h.0 id h.1 v h.2 at is in (id, w, set_hit s.views id v w at, st.live ∙ (ap (λ (z : V). z.live) (sym one) ∙ h.3), all (subst (All r.value) one h.4)))
      (λ apart. (h.0, h.1, set_else s.views id h.0 w apart ∙ h.2, h.3, h.4))

  seen_le : (x : T) (v : V) → SeesIt x v → length v.seen ≤ length (journal x)
  seen_le x v k = let e : length (journal x) ≡ length v.seen + length k.known.rest = ap length k.known.begins ∙ length-append v.seen k.known.rest in omega arith

  pub looks_keep : (slots id : ℕ) (m : M) → m.0.live ≡ true → Allows Rule slots id m 0 (λ n. n) (looks (step slots 0 0 0 none) m)
  looks_keep slots id m live s r wide at small = let v : V = m.0 in let n : ℕ = slice_index s.words 0 in let w : V = with_looked v (n / 2) in let k = r.knows id v at live in let st : Same v w = record { live = refl; worker = refl; count = refl } in
      let h = half s r in let t = whole_still s r id v w at st (λ a. a) in (
        w,
        keeps,
        tt,
        moved s r id n v w s.homes r.value at st (still s r id n v w refl at refl refl)
            record { known = record { rest = k.known.rest; begins = k.known.begins; others = k.known.others; looked = omega arith; part = k.known.part; setup_is = k.known.setup_is }; below = k.below; joined = k.joined }
            (λ j u _ e l. r.knows j u e l) t.0 t.1 t.2 t.3 t.4,
        (refl, (let a = seen_le r.value v k in omega arith), (let a = k.known.looked in omega arith)),
      )

  pub takes_keep : (slots id : ℕ) (m : M) → m.0.live ≡ true → m.0.taken ≡ None → m.1 ≡ [] → Allows Rule slots id m 0 (λ n. bit_or n 1) (took journal by fits setup (step slots 0 1 0 none) m)
  takes_keep slots id m live idle bare s r wide at small = let v : V = m.0 in let n : ℕ = slice_index s.words 0 in let k = r.knows id v at live in let long = r.wide in
      let last : bit_or n 1 ≡ n / 2 * 2 + 1 = set_last n in let word : slice_index (set s.words 0 (bit_or n 1)) 0 ≡ bit_or n 1 = get_or-set_same s.words 0 (bit_or n 1) 0 (omega arith) in ⊎_elim
      (λ (f : Free s r.value). let w : V = with_taken v r.value in let st : Same v w = record { live = refl; worker = refl; count = refl } in let t = whole_still s r id v w at st (λ a. a) in let even : n ≡ 2 * length (journal r.value) = f.0 in (
        w,
        takes 0 (Some r.value),
        f.1,
        moved s r id (bit_or n 1) v w (set s.homes 0 none) r.value at st
            (inr (word ∙ (last ∙ (omega arith)), id, w, set_hit s.views id v w at, live, refl, λ i u e not. ⊎_elim (λ (t : (i ≡ id) × (w ≡ u)). absurd (not t.0)) (λ (t : (i ≢ id) × (get_elem? s.views i ≡ some u)). f.2 i u t.1) (at_set s.views id i w u e)))
            record { known = record { rest = k.known.rest; begins = k.known.begins; others = k.known.others; looked = k.known.looked; part = k.known.part; setup_is = k.known.setup_is }; below = k.below; joined = k.joined }
            (λ j u _ e l. r.knows j u e l) t.0 t.1 t.2 t.3 t.4,
        ((λ _. (r.value, k.known, λ i. (w, (0, Some r.value) ∷ bare i))), λ odd. absurd (omega arith)),
      ))
      (λ (h : Held s r.value). let t = whole_still s r id v v at (same_as_itself v) (λ a. a) in let odd : n ≡ 2 * length (journal r.value) + 1 = h.0 in (
        v,
        keeps,
        tt,
        moved s r id (bit_or n 1) v v s.homes r.value at (same_as_itself v) (still s r id (bit_or n 1) v v (last ∙ (omega arith)) at refl refl) k (λ j u _ e l. r.knows j u e l) t.0 t.1 t.2 t.3 t.4,
        ((λ even. absurd (omega arith)), λ _. refl),
      ))
      r.turn

  -- what the holder of the turn knows
  holder : (s : St) (r : Rule s) (id : ℕ) (v : V) (t : T) → get_elem? s.views id ≡ some v → v.taken ≡ Some t
      → (slice_index s.words 0 ≡ 2 * length (journal t) + 1) × (r.value ≡ t) × ((i : ℕ) (u : V) → get_elem? s.views i ≡ some u → i ≢ id → u.taken ≡ None)
  holder s r id v t at has = ⊎_elim (λ (f : Free s r.value). absurd (some_apart v.taken t has (f.2 id v at)))
      (λ (h : Held s r.value). dite (ℕ_discrete id h.1)
      (λ is. let one = one_there s.views h.1 id h.2 v h.3 at (sym is) in let is_t : r.value ≡ t = same_Some r.value t (sym h.5 ∙ (ap (λ (z : V). z.taken) one ∙ has)) in
      (h.0 ∙ ap (λ (z : T). 2 * length (journal z) + 1) is_t, is_t, λ i u e not. h.6 i u e (λ e'. not (e' ∙ sym is))))
      (λ apart. absurd (some_apart v.taken t has (h.6 id v at apart))))
      r.turn

  hands : (s : St) (r : Rule s) (id n : ℕ) (v : V) (t x : T) (part : Option P) → length s.homes ≡ 1 → get_elem? s.views id ≡ some v → v.live ≡ true → v.taken ≡ Some t → n ≡ 2 * length (journal x)
      → SeesIt x (with_given v x (journal x) part) → ((j : ℕ) (u : V) → j ≢ id → get_elem? s.views j ≡ some u → u.live ≡ true → SeesIt x u)
      → Rule record { words = set s.words 0 n; homes = set s.homes 0 (some (Some x)); views = set s.views id (with_given v x (journal x) part) }
  hands s r id n v t x part one_home at live has is mine others = let w : V = with_given v x (journal x) part in let h = holder s r id v t at has in let long = r.wide in
      moved s r id n v w (set s.homes 0 (some (Some x))) x at record { live = refl; worker = refl; count = refl }
      (inl (
        get_or-set_same s.words 0 n 0 (omega arith) ∙ is,
        home_hit s.homes (some (Some x)) one_home,
        λ i u e. ⊎_elim (λ (t : (i ≡ id) × (w ≡ u)). ap (λ (z : V). z.taken) (sym t.1)) (λ (t : (i ≢ id) × (get_elem? s.views i ≡ some u)). h.2 i u t.1 t.0) (at_set s.views id i w u e),
      ))
      mine others id w (set_hit s.views id v w at) live (inl refl)

  -- what was seen by those that were joined, with one more entry
  joined_more : (t x : T) (u : V) (worker : ℕ) (more : Extends journal by fits setup t x worker) → SeesIt t u → (u.worker ≡ 0 → by more.entry < u.count)
      → (i k : ℕ) (l : List E) → get_elem? u.joined i ≡ some (k, l) → (u.worker ≡ 0) × (u.count ≤ k) × (m : List E) × (journal x ≡ l ++ m) × NoneBy by k m
  joined_more t x u worker more know below i k l e = let j = know.joined i k l e in let b = below j.0 in let c = j.1 in (
    j.0,
    j.1,
    j.2 ++ more.entry ∷ [],
    more.longer ∙ (ap (λ (z : List E). z ++ more.entry ∷ []) j.3 ∙ append_assoc l j.2 (more.entry ∷ [])),
    apart_snoc by k j.2 more.entry j.4 (λ is. below_ne is b c),
  )
    where
      below_ne : {a b c : ℕ} → a ≡ b → a < c → c ≤ b → ⊥
      below_ne is b c = omega arith

  -- what a view knows of the value, with one more entry
  knows_more : (t x : T) (u : V) (worker : ℕ) (more : Extends journal by fits setup t x worker) → SeesIt t u → by more.entry ≢ u.worker → (u.worker ≡ 0 → by more.entry < u.count) → SeesIt x u
  knows_more t x u worker more k apart below = record {
    known = record {
      rest = k.known.rest ++ more.entry ∷ [];
      begins = more.longer ∙ (ap (λ (l : List E). l ++ more.entry ∷ []) k.known.begins ∙ append_assoc u.seen k.known.rest (more.entry ∷ []));
      others = apart_snoc by u.worker k.known.rest more.entry k.known.others apart;
      looked = (let e : length (journal x) ≡ length (journal t) + 1 = ap length more.longer ∙ length-append (journal t) (more.entry ∷ []) in let a = k.known.looked in omega arith);
      part = λ p is. more.others_fit u.worker p (λ e. apart (more.by_worker ∙ sym e)) (k.known.part p is);
      setup_is = k.known.setup_is ∙ ap Some (sym more.same_setup);
    };
    below = λ z none_joined. below_snoc by u.count k.known.rest more.entry (k.below z none_joined) (below z);
    joined = joined_more t x u worker more k below;
  }

  gives_at : (slots id : ℕ) (v : V) (t x : T) (part : Option P) → slots ≡ 1 → v.live ≡ true → v.taken ≡ Some t → Extends journal by fits setup t x v.worker → ((p : P) → part ≡ Some p → fits x v.worker p)
      → Allows Rule slots id (v, (0, Some x) ∷ []) 0 (λ n. (n + 1) % 2 ^ 64) (gave journal by fits setup part (step slots 0 1 0 none) (v, (0, Some x) ∷ []))
  gives_at slots id v t x part single live has more fit s r wide at small = let n : ℕ = slice_index s.words 0 in let h = holder s r id v t at has in
      let word : n ≡ 2 * length (journal t) + 1 = h.0 in let long : length (journal x) ≡ length (journal t) + 1 = ap length more.longer ∙ length-append (journal t) (more.entry ∷ []) in let short = more.short in
      let k : SeesIt t v = subst (λ (z : T). SeesIt z v) h.1 (r.knows id v at live) in let before : SeesIt t v = k in (
        with_given v x (journal x) part,
        gives,
        tt,
        hands s r id ((n + 1) % 2 ^ 64) v t x part (wide ∙ single) at live has (omega arith)
            record {
              known = record {
                rest = [];
                begins = sym (append-nil (journal x));
                others = tt;
                looked = (let a = k.known.looked in omega arith);
                part = fit;
                setup_is = k.known.setup_is ∙ ap Some (sym more.same_setup);
              };
              below = λ _ _. tt;
              joined = joined_more t x v v.worker more k (λ zero_worker. subst (λ (z : ℕ). z < v.count) (sym more.by_worker) (r.seats.counted id id v v at at live live zero_worker));
            }
            (λ j u not e l. knows_more t x u v.worker more (subst (λ (z : T). SeesIt z u) h.1 (r.knows j u e l)) (λ e'. not (r.seats.once j id u v e at l live (sym e' ∙ more.by_worker)))
            (λ zero_worker. subst (λ (z : ℕ). z < u.count) (sym more.by_worker) (r.seats.counted j id u v e at l live zero_worker))),
        ((λ y e. λ i. (with_given v (held_one x y e i) (journal (held_one x y e i)) part, [])), λ y e. subst (λ (z : T). Knows journal by fits setup z v) (same_Some t y (sym has ∙ e)) before.known),
      )

  pub gives_keep : (slots id : ℕ) (m : M) (v : V) (t x : T) (part : Option P) → slots ≡ 1 → v.live ≡ true → v.taken ≡ Some t → m ≡ (v, (0, Some x) ∷ []) → Extends journal by fits setup t x v.worker
      → ((p : P) → part ≡ Some p → fits x v.worker p) → Allows Rule slots id m 0 (λ n. (n + 1) % 2 ^ 64) (gave journal by fits setup part (step slots 0 1 0 none) m)
  gives_keep slots id m v t x part single live has is more fit =
      subst (λ (c : M). Allows Rule slots id c 0 (λ n. (n + 1) % 2 ^ 64) (gave journal by fits setup part (step slots 0 1 0 none) c)) (sym is) (gives_at slots id v t x part single live has more fit)

  knows_same : (t x : T) (u : V) → IsAlike journal by fits setup t x → SeesIt t u → SeesIt x u
  knows_same t x u alike k = record {
    known = record {
      rest = k.known.rest;
      begins = alike.same_journal ∙ k.known.begins;
      others = k.known.others;
      looked = subst (λ (l : List E). u.looked ≤ length l) (sym alike.same_journal) k.known.looked;
      part = λ p is. alike.fit u.worker p (k.known.part p is);
      setup_is = k.known.setup_is ∙ ap Some (sym alike.same_setup);
    };
    below = k.below;
    joined = λ i n l e. let j = k.joined i n l e in (j.0, j.1, j.2, alike.same_journal ∙ j.3, j.4);
  }

  returns_at : (slots id : ℕ) (v : V) (t x : T) → slots ≡ 1 → v.live ≡ true → v.taken ≡ Some t → IsAlike journal by fits setup t x
      → Allows Rule slots id (v, (0, Some x) ∷ []) 0 (λ n. (n + (2 ^ 64 - 1)) % 2 ^ 64) (returns journal by fits setup (step slots 0 1 0 none) (v, (0, Some x) ∷ []))
  returns_at slots id v t x single live has alike s r wide at small = let n : ℕ = slice_index s.words 0 in let h = holder s r id v t at has in
      let word : n ≡ 2 * length (journal t) + 1 = h.0 in let long : length (journal x) ≡ length (journal t) = ap length alike.same_journal in
      let before : SeesIt t v = subst (λ (z : T). SeesIt z v) h.1 (r.knows id v at live) in let k : SeesIt x v = knows_same t x v alike before in (
        with_given v x (journal x) v.part,
        gives,
        tt,
        hands s r id ((n + (2 ^ 64 - 1)) % 2 ^ 64) v t x v.part (wide ∙ single) at live has (omega arith)
            record { known = record { rest = []; begins = sym (append-nil (journal x)); others = tt; looked = k.known.looked; part = k.known.part; setup_is = k.known.setup_is }; below = λ _ _. tt; joined = k.joined }
            (λ j u not e l. knows_same t x u alike (subst (λ (z : T). SeesIt z u) h.1 (r.knows j u e l))),
        ((λ y e. λ i. (with_given v (held_one x y e i) (journal (held_one x y e i)) v.part, [])), λ y e. subst (λ (z : T). Knows journal by fits setup z v) (same_Some t y (sym has ∙ e)) before.known),
      )

  pub returns_keep : (slots id : ℕ) (m : M) (v : V) (t x : T) → slots ≡ 1 → v.live ≡ true → v.taken ≡ Some t → m ≡ (v, (0, Some x) ∷ []) → IsAlike journal by fits setup t x
      → Allows Rule slots id m 0 (λ n. (n + (2 ^ 64 - 1)) % 2 ^ 64) (returns journal by fits setup (step slots 0 1 0 none) m)
  returns_keep slots id m v t x single live has is alike =
      subst (λ (c : M). Allows Rule slots id c 0 (λ n. (n + (2 ^ 64 - 1)) % 2 ^ 64) (returns journal by fits setup (step slots 0 1 0 none) c)) (sym is) (returns_at slots id v t x single live has alike)

pub fitting : {P : Type 0} (fit : P → Type 0) (part : Option (Bor P)) (p : P) → option_map (λ (b : Bor P). b.now) part ≡ Some p → IfSome part (λ (b : Bor P). fit b.now) → fit p
fitting fit None p e h = none_some e
fitting fit (Some b) p e h = subst fit (same_Some b.now p e) h
