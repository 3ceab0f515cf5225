-- The races found are the report.
use Rattle.race_report.proofs.Common.{◌≡◌, ℕ, zero, suc, ◌<◌, Bool, true, false, not, ◌||◌, ◌&&◌, Option, Some, None, List, [], ◌∷◌, length, map, slice_get, get_or, Contains, ◌⊎◌, inl, inr, refl, ap, ap₂, sym, subst, ◌∙◌, arith, both_ways, false_from_ne_true, get_or_from_slice_get, same_Some, Less, BTreeMap, btree_map_get_place, place_from_lookup, Less-from_sorted, not-not, In, in_from_contains, contains_from_in, got_in, got_within, got_map, in_got, map_got, and_not_parts, ProgramText, Edge, Precedes, precedes, run, start, IsForkJoinState, run_is_fork_join_state, start_is_fork_join_state, Field, FieldAccess, Race, Seen, Sight, Open, Watch, Found, looked, label_precedes, IsPair, RaceAt, IsReport, race_key, Key, clash, watched_from, key_cmp, key_of, kind_key, race_between, races_in}
use Rattle.std.specs.BTreeMap as tree
use Rattle.race_report.specs.declared.data.Watch.TheVariants.{Open as Waits}
use Rattle.race_report.specs.Watch.{seen}
use Rattle.race_report.proofs.Exact.{Clash, Good, Pair, kept_good, key}
use Rattle.race_report.proofs.Alike.{StrandsTell}
use Rattle.race_report.proofs.Keys.{key_total}
use Rattle.race_report.proofs.SeenLabels.{seen_accesses, seen_tells}

-- LISTS

-- KEYS

kind_same : (a b : Bool) → kind_key a ≡ kind_key b → a ≡ b
kind_same true true e = refl
kind_same true false e = absurd (omega arith)
kind_same false true e = absurd (omega arith)
kind_same false false e = refl

key_tells : (f g : Field) → key_of f ≡ key_of g → f ≡ g
key_tells f g e =
    let t : f.name.task ≡ g.name.task = ap (λ (k : Key). k.0.0) e in
    let c : f.name.count ≡ g.name.count = ap (λ (k : Key). k.0.1) e in
    let n : f.is_number ≡ g.is_number = kind_same f.is_number g.is_number (ap (λ (k : Key). k.1.0) e) in
    let x : f.index ≡ g.index = ap (λ (k : Key). k.1.1) e in
    λ i. record { name = record { task = t i; count = c i }; is_number = n i; index = x i }

race_field : (u v : FieldAccess) → race_key (race_between u v) ≡ key_of v.field
race_field u v = ap (λ b. ((v.field.name.task, v.field.name.count), (kind_key b, v.field.index))) (not-not v.field.is_number)

-- RACES BY LABELS AND BY WALKS

clash_parts : (u v : FieldAccess) → clash u v ≡ true → ((u.writes ≡ true) ⊎ (v.writes ≡ true)) × ((u.swaps ≡ false) ⊎ (v.swaps ≡ false))
clash_parts u v = clash_parts_by_cases u.writes v.writes u.swaps v.swaps
  where
    clash_parts_by_cases : (a b c d : Bool) → ((a || b) && not (c && d)) ≡ true → ((a ≡ true) ⊎ (b ≡ true)) × ((c ≡ false) ⊎ (d ≡ false))
    clash_parts_by_cases true b true true h = absurd cc
    clash_parts_by_cases true b true false h = (inl refl, inr refl)
    clash_parts_by_cases true b false d h = (inl refl, inl refl)
    clash_parts_by_cases false true true true h = absurd cc
    clash_parts_by_cases false true true false h = (inr refl, inr refl)
    clash_parts_by_cases false true false d h = (inr refl, inl refl)
    clash_parts_by_cases false false c d h = absurd cc

clash_from : (u v : FieldAccess) → (u.writes ≡ true) ⊎ (v.writes ≡ true) → (u.swaps ≡ false) ⊎ (v.swaps ≡ false) → clash u v ≡ true
clash_from u v = clash_from_by_cases u.writes v.writes u.swaps v.swaps
  where
    clash_from_by_cases : (a b c d : Bool) → (a ≡ true) ⊎ (b ≡ true) → (c ≡ false) ⊎ (d ≡ false) → ((a || b) && not (c && d)) ≡ true
    clash_from_by_cases true b false d x y = refl
    clash_from_by_cases true b true false x y = refl
    clash_from_by_cases true b true true x (inl e) = absurd cc
    clash_from_by_cases true b true true x (inr e) = absurd cc
    clash_from_by_cases false true false d x y = refl
    clash_from_by_cases false true true false x y = refl
    clash_from_by_cases false true true true x (inl e) = absurd cc
    clash_from_by_cases false true true true x (inr e) = absurd cc
    clash_from_by_cases false false c d (inl e) y = absurd cc
    clash_from_by_cases false false c d (inr e) y = absurd cc

module _ (sight : Sight) (p : ProgramText) (limit : ℕ) (ts : List ℕ) where
  abbrev edges : List Edge
  edges = (run p limit ts).edges

  abbrev all : List FieldAccess
  all = looked sight p limit ts

  abbrev ss : List Seen
  ss = seen sight p limit ts

  K : IsForkJoinState (start p limit)
  K = start_is_fork_join_state p limit

  mapped : map (λ (v : Seen). v.access) ss ≡ all
  mapped = seen_accesses sight p (start p limit) ts

  tells : (i j : ℕ) (u v : Seen) → i < j → slice_get ss i ≡ Some u → slice_get ss j ≡ Some v → (label_precedes u.label v.label ≡ true → Precedes edges u.access.strand v.access.strand) × (Precedes edges u.access.strand v.access.strand → label_precedes u.label v.label ≡ true)
  tells i j u v lt eu ev =
      let e = seen_tells sight p (start p limit) K ts u v i j lt eu ev in
      let right = (run_is_fork_join_state p (start p limit) ts K).tree.right u.access.strand v.access.strand in
      ((λ h. right.0 (sym e ∙ h)), (λ w. e ∙ right.1 w))

  race_from : (q : Key) (i j : ℕ) (u v : Seen) → Clash q ss i j u v → RaceAt edges all v.access.field i j u.access v.access
  race_from q i j u v C =
      let both = and_not_parts (clash u.access v.access) (label_precedes u.label v.label) C.clash in
      let parts = clash_parts u.access v.access both.0 in
      record {
        order = C.order;
        first = ap (λ xs. slice_get xs i) (sym mapped) ∙ got_map (λ (z : Seen). z.access) ss i u C.first;
        second = ap (λ xs. slice_get xs j) (sym mapped) ∙ got_map (λ (z : Seen). z.access) ss j v C.second;
        of_field = refl;
        race = record {
          field = key_tells u.access.field v.access.field (C.key_u ∙ sym C.key_v);
          writes = parts.0;
          plain = parts.1;
          apart = λ w. both_ways (label_precedes u.label v.label) both.1 ((tells i j u v C.order C.first C.second).1 w);
        };
      }

  abbrev FromRace : Field → ℕ → ℕ → FieldAccess → FieldAccess → Type 0
  FromRace field i j a b = (u : Seen) × (v : Seen) × Clash (key_of field) ss i j u v × (u.access ≡ a) × (v.access ≡ b)

  clash_at : (field : Field) (i j : ℕ) (a b : FieldAccess) → RaceAt edges all field i j a b → FromRace field i j a b
  clash_at field i j a b R =
      let u = map_got (λ (z : Seen). z.access) ss i a (ap (λ xs. slice_get xs i) mapped ∙ R.first) in
      let v = map_got (λ (z : Seen). z.access) ss j b (ap (λ xs. slice_get xs j) mapped ∙ R.second) in
      let kv : key v.0 ≡ key_of field = ap (λ (x : FieldAccess). key_of x.field) v.2 ∙ ap key_of R.of_field in
      let ku : key u.0 ≡ key_of field = ap (λ (x : FieldAccess). key_of x.field) u.2 ∙ (ap key_of R.race.field ∙ ap key_of R.of_field) in
      let cl : clash u.0.access v.0.access ≡ true = ap₂ clash u.2 v.2 ∙ clash_from a b R.race.writes R.race.plain in
      let free : label_precedes u.0.label v.0.label ≡ false =
      false_from_ne_true (label_precedes u.0.label v.0.label) (λ h. R.race.apart (subst (λ (x : FieldAccess). Precedes edges x.strand b.strand) u.2 (subst (λ (x : FieldAccess). Precedes edges u.0.access.strand x.strand) v.2 ((tells i j u.0 v.0 R.order u.1 v.1).0 h)))) in (
        u.0,
        v.0,
        record {
          order = R.order;
          first = u.1;
          second = v.1;
          key_u = ku;
          key_v = kv;
          clash = ap₂ (λ x y. x && not y) cl free;
        },
        u.2,
        v.2,
      )

  pair_from : (q : Key) (u v : Seen) → Pair q ss u v → IsPair edges all v.access.field u.access v.access
  pair_from q u v P =
      let of : key_of v.access.field ≡ q = P.clash.key_v in
      record {
        i = P.i;
        j = P.j;
        race = race_from q P.i P.j u v P.clash;
        earliest_second = λ k l w z R.
            let C = clash_at v.access.field k l w z R in
            P.earliest_second k l C.0 C.1 (subst (λ x. Clash x ss k l C.0 C.1) of C.2);
        earliest_first = λ k w R.
            let C = clash_at v.access.field k P.j w v.access R in
            let same : C.1 ≡ v = same_Some C.1 v (sym C.2.second ∙ P.clash.second) in
            P.earliest_first k C.0 (subst (λ z. Clash q ss k P.j C.0 z) same (subst (λ x. Clash x ss k P.j C.0 C.1) of C.2));
      }

-- THE LIST

race_in : (ws : List Watch) (r : Race) → In (races_in ws) r → In ws (Found r)
race_in [] r h = h
race_in (Waits o ∷ ws) r h = inr (race_in ws r h)
race_in (Found s ∷ ws) r (inl e) = inl (ap (λ x. Found x) e)
race_in (Found s ∷ ws) r (inr h) = inr (race_in ws r h)

same_found : (r s : Race) → Found r ≡ Found s → r ≡ s
same_found r s e = cc

waits_not : (o : Open) (r : Race) → Waits o ≡ Found r → ⊥
waits_not o r e = cc

in_races : (ws : List Watch) (r : Race) → In ws (Found r) → In (races_in ws) r
in_races [] r h = h
in_races (Waits o ∷ ws) r (inl e) = absurd (waits_not o r e)
in_races (Waits o ∷ ws) r (inr h) = in_races ws r h
in_races (Found s ∷ ws) r (inl e) = inl (same_found s r e)
in_races (Found s ∷ ws) r (inr h) = inr (in_races ws r h)

-- indices of races among those kept
race_place : (ws : List Watch) (i : ℕ) (r : Race) → slice_get (races_in ws) i ≡ Some r → (k : ℕ) × (slice_get ws k ≡ Some (Found r))
race_place [] i r e = absurd cc
race_place (Waits o ∷ ws) i r e = let k = race_place ws i r e in (suc k.0, k.1)
race_place (Found s ∷ ws) zero r e = (0, ap (λ x. Some (Found x)) (same_Some s r e))
race_place (Found s ∷ ws) (suc i) r e = let k = race_place ws i r e in (suc k.0, k.1)

race_places : (ws : List Watch) (i j : ℕ) (r s : Race) → i < j → slice_get (races_in ws) i ≡ Some r → slice_get (races_in ws) j ≡ Some s
    → (k : ℕ) × (l : ℕ) × (k < l) × (slice_get ws k ≡ Some (Found r)) × (slice_get ws l ≡ Some (Found s))
race_places [] i j r s lt e e' = absurd cc
race_places (Waits o ∷ ws) i j r s lt e e' = let k = race_places ws i j r s lt e e' in (suc k.0, suc k.1, let l = k.2 in omega arith, k.3, k.4)
race_places (Found x ∷ ws) i zero r s lt e e' = absurd (omega arith)
race_places (Found x ∷ ws) zero (suc j) r s lt e e' = let k = race_place ws j s e' in (0, suc k.0, omega arith, ap (λ y. Some (Found y)) (same_Some x r e), k.1)
race_places (Found x ∷ ws) (suc i) (suc j) r s lt e e' = let k = race_places ws i j r s (omega arith) e e' in (suc k.0, suc k.1, let l = k.2 in omega arith, k.3, k.4)

-- accesses of one strand happen before the same later ones
strands_tell : (sight : Sight) (p : ProgramText) (limit : ℕ) (ts : List ℕ) → StrandsTell (seen sight p limit ts)
strands_tell sight p limit ts i k j u w v li lk eu ew ev same =
    seen_tells sight p (start p limit) (start_is_fork_join_state p limit) ts u v i j li eu ev
    ∙ ap (λ s. precedes (run p limit ts).edges s v.access.strand) same
    ∙ sym (seen_tells sight p (start p limit) (start_is_fork_join_state p limit) ts w v k j lk ew ev)

module _ (sight : Sight) (p : ProgramText) (limit : ℕ) (ts : List ℕ) (kept : BTreeMap Key Watch) (ordered : tree.IsOrdered key_cmp kept)
    (is : (q : Key) → tree.get key_cmp kept q ≡ watched_from q None (seen sight p limit ts)) where
  -- a race that is kept is the pair of its key's field
  pub record Told (q : Key) (r : Race) : Type 0 where
    pub u : FieldAccess
    pub v : FieldAccess
    pub pair : IsPair (run p limit ts).edges (looked sight p limit ts) v.field u v
    pub same : r ≡ race_between u v
    pub at : key_of v.field ≡ q

  told_by : (q : Key) (r : Race) → Good q (seen sight p limit ts) (Some (Found r)) → Told q r
  told_by q r G = record { u = G.0.access; v = G.1.access; pair = pair_from sight p limit ts q G.0 G.1 G.2; same = G.3; at = G.2.clash.key_v }

  told_at : (q : Key) (r : Race) → tree.get key_cmp kept q ≡ Some (Found r) → Told q r
  told_at q r e = told_by q r (subst (Good q (seen sight p limit ts)) (sym (is q) ∙ e) (kept_good q (seen sight p limit ts) (strands_tell sight p limit ts)))

  told_place : (k : ℕ) (r : Race) → slice_get (tree.values kept) k ≡ Some (Found r) → (q : Key) × Told q r × (slice_get (tree.keys kept) k ≡ Some q)
  told_place k r e =
      let m = map_got (λ (x : Key × Watch). x.1) kept.entries k (Found r) e in
      let got : tree.get key_cmp kept m.0.0 ≡ Some m.0.1 = btree_map_get_place key_total kept k m.0.0 m.0.1 ordered m.1 in
      (m.0.0, told_at m.0.0 r (got ∙ ap (λ w. Some w) m.2), got_map (λ (x : Key × Watch). x.0) kept.entries k m.0 m.1)

  each : (r : Race) → Contains (races_in (tree.values kept)) r → (field : Field) × (u : FieldAccess) × (v : FieldAccess) × IsPair (run p limit ts).edges (looked sight p limit ts) field u v × (r ≡ race_between u v)
  each r c =
      let at = in_got (tree.values kept) (Found r) (race_in (tree.values kept) r (in_from_contains (races_in (tree.values kept)) r c)) in
      let t = (told_place at.0 r at.1).1 in
      (t.v.field, t.u, t.v, t.pair, t.same)

  abbrev Has : Field → Type 0
  Has field = (w : FieldAccess) × (z : FieldAccess) × IsPair (run p limit ts).edges (looked sight p limit ts) field w z × Contains (races_in (tree.values kept)) (race_between w z)

  has_by : (field : Field) (i j : ℕ) (u v : Seen) → Clash (key_of field) (seen sight p limit ts) i j u v → (w : Option Watch) → watched_from (key_of field) None (seen sight p limit ts) ≡ w → Good (key_of field) (seen sight p limit ts) w → Has field
  has_by field i j u v C None e G = absurd (G i u C.first C.key_u)
  has_by field i j u v C (Some (Waits o)) e W = absurd (W.none i j u v C)
  has_by field i j u v C (Some (Found r)) e G =
      let t = told_by (key_of field) r G in
      let place = place_from_lookup (tree.is_at (key_cmp (key_of field))) kept.entries (Found r) (is (key_of field) ∙ e) in
      let there : slice_get (tree.values kept) place.0 ≡ Some (Found r) = got_map (λ (x : Key × Watch). x.1) kept.entries place.0 (place.1, Found r) place.2 in (
        t.u,
        t.v,
        subst (λ f. IsPair (run p limit ts).edges (looked sight p limit ts) f t.u t.v) (key_tells t.v.field field t.at) t.pair,
        subst (Contains (races_in (tree.values kept))) t.same (contains_from_in (races_in (tree.values kept)) r (in_races (tree.values kept) r (got_in (tree.values kept) place.0 (Found r) there))),
      )

  every : (field : Field) (i j : ℕ) (u v : FieldAccess) → RaceAt (run p limit ts).edges (looked sight p limit ts) field i j u v → Has field
  every field i j u v R =
      let C = clash_at sight p limit ts field i j u v R in
      has_by field i j C.0 C.1 C.2 (watched_from (key_of field) None (seen sight p limit ts)) refl (kept_good (key_of field) (seen sight p limit ts) (strands_tell sight p limit ts))

  key_is : (q : Key) (r : Race) → Told q r → race_key r ≡ q
  key_is q r T = ap race_key T.same ∙ (race_field T.u T.v ∙ T.at)

  rising : (i j : ℕ) (r s : Race) → i < j → slice_get (races_in (tree.values kept)) i ≡ Some r → slice_get (races_in (tree.values kept)) j ≡ Some s → key_cmp (race_key r) (race_key s) ≡ Less
  rising i j r s lt er es =
      let at = race_places (tree.values kept) i j r s lt er es in
      let x = told_place at.0 r at.3 in
      let y = told_place at.1 s at.4 in
      let size : at.1 < length (tree.keys kept) = got_within (tree.keys kept) at.1 y.0 y.2 in
      let less : key_cmp (get_or (tree.keys kept) at.0 x.0) (get_or (tree.keys kept) at.1 x.0) ≡ Less = Less-from_sorted key_cmp (tree.keys kept) at.0 at.1 x.0 ordered at.2 size in
      ap₂ key_cmp (key_is x.0 r x.1 ∙ sym (get_or_from_slice_get (tree.keys kept) at.0 x.0 x.0 x.2)) (key_is y.0 s y.1 ∙ sym (get_or_from_slice_get (tree.keys kept) at.1 y.0 x.0 y.2)) ∙ less

  pub reported : IsReport (run p limit ts).edges (looked sight p limit ts) (races_in (tree.values kept))
  reported = record { each = each; every = every; rising = rising }
