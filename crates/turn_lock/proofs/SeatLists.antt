-- The seats as `new` makes them, and as `close` joins them.
use Rattle.turn_lock.proofs.Common.{◌≡◌, ◌⊎◌, ℕ, zero, suc, ◌+◌, ◌-◌, ◌<◌, true, List, [], ◌∷◌, ◌++◌, length, slice_get, get_or, remove, sym, refl, ap, ◌∙◌, subst, arith, ⊎_elim, Option, Some, None, length-append, append_assoc, same_Some, none_some, got_middle, got_more, TableId, Seat, SeatView, NoneBy, opening_view, newcomer, view, HasNoTurn, AreAllSeats, IsFinalFor, Sees, HasAll, split_view, with_joined}
pub use Rattle.std.proofs.lemmas.List.{nil_from_length as emptied}
use mathlib.Core.Option.{some, some-injective, some-ne-none}
use lib.ListN.{get_elem?}

pub removed_first : {A : Type 0} (l : List A) (x : A) → 0 < length l → x ≡ get_or l 0 x → l ≡ x ∷ remove l 0
removed_first [] x h e = absurd (omega arith)
removed_first (y ∷ ys) x h e = λ i. sym e i ∷ ys

module _ {T E P S : Type 0} where
  -- every seat of the list is the next worker's, from 1 on
  abbrev pub AreNext : TableId → SeatView T E P S → List (Seat (Option T) (SeatView T E P S)) → Type 0
  AreNext z v seats = (k : ℕ) (s : Seat (Option T) (SeatView T E P S)) → slice_get seats k ≡ Some s → HasNoTurn z s × (view s ≡ newcomer v (suc k) 0)

  pub one_more : (z : TableId) (v : SeatView T E P S) (seats : List (Seat (Option T) (SeatView T E P S))) (t : Seat (Option T) (SeatView T E P S)) → AreNext z v seats → HasNoTurn z t → view t ≡ newcomer v (suc (length seats)) 0
      → AreNext z v (seats ++ t ∷ [])
  one_more z v seats t r idle is k s e = ⊎_elim (λ (h : slice_get seats k ≡ Some s). r k s h)
      (λ (h : (k ≡ length seats) × (t ≡ s)). (subst (HasNoTurn z) h.1 idle, ap view (sym h.1) ∙ (is ∙ ap (λ (n : ℕ). newcomer v (suc n) 0) (sym h.0)))) (got_more seats t s k e)

  abbrev pub joined_all : SeatView T E P S → List (Seat (Option T) (SeatView T E P S)) → SeatView T E P S
  joined_all v [] = v
  joined_all v (s ∷ ss) = with_joined (joined_all v ss) (view s)

  pub record Lasts (v w : SeatView T E P S) (n : ℕ) : Type 0 where
    pub live : w.live ≡ v.live
    pub worker : w.worker ≡ v.worker
    pub taken : w.taken ≡ v.taken
    pub setup : w.setup ≡ v.setup
    pub count : w.count ≡ v.count - n
    pub seen : w.seen ≡ v.seen

  pub lasts : (v : SeatView T E P S) (ss : List (Seat (Option T) (SeatView T E P S))) → Lasts v (joined_all v ss) (length ss)
  lasts v [] = record { live = refl; worker = refl; taken = refl; setup = refl; count = omega arith; seen = refl }
  lasts v (s ∷ ss) = let h = lasts v ss in record { live = h.live; worker = h.worker; taken = h.taken; setup = h.setup; count = (let c = h.count in omega arith); seen = h.seen }

  joined_at : (v : SeatView T E P S) (ss : List (Seat (Option T) (SeatView T E P S))) (k : ℕ) (s : Seat (Option T) (SeatView T E P S)) → slice_get ss k ≡ Some s → get_elem? (joined_all v ss).joined k ≡ some ((view s).worker, (view s).seen)
  joined_at v [] k s e = none_some e
  joined_at v (d ∷ ds) zero s e = ap (λ (z : Seat (Option T) (SeatView T E P S)). some ((view z).worker, (view z).seen)) (same_Some d s e)
  joined_at v (d ∷ ds) (suc k) s e = joined_at v ds k s e

  joined_from : (v : SeatView T E P S) (ss : List (Seat (Option T) (SeatView T E P S))) (j k : ℕ) (l : List E) → v.joined ≡ [] → get_elem? (joined_all v ss).joined j ≡ some (k, l)
      → (s : Seat (Option T) (SeatView T E P S)) × (slice_get ss j ≡ Some s) × ((view s).seen ≡ l)
  joined_from v [] j k l none_joined e = absurd (some-ne-none (k, l) (sym e ∙ ap (λ (z : List (ℕ × List E)). get_elem? z j) none_joined))
  joined_from v (d ∷ ds) zero k l none_joined e = (d, refl, ap (λ (z : ℕ × List E). z.1) (some-injective ((view d).worker, (view d).seen) (k, l) e))
  joined_from v (d ∷ ds) (suc j) k l none_joined e = joined_from v ds j k l none_joined e

  -- what the next join requires
  pub record MayJoin (z : TableId) (v w : SeatView T E P S) (other : Seat (Option T) (SeatView T E P S)) : Type 0 where
    pub live : w.live ≡ true
    pub first : w.worker ≡ 0
    pub idle : w.taken ≡ None
    pub other_idle : HasNoTurn z other
    pub last : (view other).worker ≡ w.count - 1

  pub may_join : (z : TableId) (all : List (Seat (Option T) (SeatView T E P S))) (s0 other : Seat (Option T) (SeatView T E P S)) (rest done : List (Seat (Option T) (SeatView T E P S))) → AreAllSeats z all → all ≡ s0 ∷ ((rest ++ other ∷ []) ++ done)
      → MayJoin z (view s0) (joined_all (view s0) done) other
  may_join z all s0 other rest done crew is = let h = lasts (view s0) done in let at0 : slice_get all 0 ≡ Some s0 = ap (λ l. slice_get l 0) is in
      let moved_done : (rest ++ other ∷ []) ++ done ≡ rest ++ other ∷ done = append_assoc rest (other ∷ []) done in
      let at : slice_get all (suc (length rest)) ≡ Some other = ap (λ l. slice_get l (suc (length rest))) (is ∙ ap (λ l. s0 ∷ l) moved_done) ∙ got_middle rest other done in
      let z0 = crew.each_seat 0 s0 at0 in let zk = crew.each_seat (suc (length rest)) other at in let f = crew.first_seat s0 at0 in
      let long : length all ≡ suc (length (rest ++ other ∷ done)) = ap length (is ∙ ap (λ l. s0 ∷ l) moved_done) in let long' = length-append rest (other ∷ done) in record {
        live = h.live ∙ z0.0.0.1;
        first = h.worker ∙ z0.1;
        idle = h.taken ∙ z0.0.1;
        other_idle = zk.0;
        last = (let c = h.count in let n = f.0 in let w = zk.1 in omega arith);
      }

  -- what the last seat is
  pub record IsLast (v w : SeatView T E P S) : Type 0 where
    pub live : w.live ≡ true
    pub first : w.worker ≡ 0
    pub idle : w.taken ≡ None
    pub alone : w.count ≡ 1

  pub is_last : (z : TableId) (all : List (Seat (Option T) (SeatView T E P S))) (s0 : Seat (Option T) (SeatView T E P S)) (done : List (Seat (Option T) (SeatView T E P S))) → AreAllSeats z all → all ≡ s0 ∷ done → IsLast (view s0) (joined_all (view s0) done)
  is_last z all s0 done crew is = let h = lasts (view s0) done in let at0 : slice_get all 0 ≡ Some s0 = ap (λ l. slice_get l 0) is in let z0 = crew.each_seat 0 s0 at0 in let f = crew.first_seat s0 at0 in
      let long : length all ≡ suc (length done) = ap length is in record {
        live = h.live ∙ z0.0.0.1;
        first = h.worker ∙ z0.1;
        idle = h.taken ∙ z0.0.1;
        alone = (let c = h.count in let n = f.0 in omega arith);
      }

module _ {T E P S : Type 0} (journal : T → List E) (by : E → ℕ) (fits : T → ℕ → P → Type 0) (setup : T → S) where
  abbrev Chair : Type 0
  Chair = Seat (Option T) (SeatView T E P S)

  pub split_next : (x : T) (v : SeatView T E P S) (i k : ℕ) → v ≡ opening_view journal setup x → i ≡ suc k → split_view (newcomer v 0 i) ≡ newcomer v (suc k) 0
  split_next x v i k is next = subst (λ (u : SeatView T E P S). split_view (newcomer u 0 i) ≡ newcomer u (suc k) 0) (sym is) (ap (λ (n : ℕ). split_view (newcomer (opening_view journal setup x) 0 n)) next)

  pub gathers : (x : T) (all : List Chair) (s0 : Chair) (done : List Chair) → all ≡ s0 ∷ done → (view s0).joined ≡ [] → ((k : ℕ) (s : Chair) → slice_get all k ≡ Some s → (view s).worker ≡ k)
      → Sees journal by fits setup x (joined_all (view s0) done) → HasAll journal by fits setup x (joined_all (view s0) done) → IsFinalFor journal by fits setup x all
  gathers x all s0 done is none_joined number knows whole = subst (IsFinalFor journal by fits setup x) (sym is) record {
    begins = λ k s e. let b = begins k s e in (b.0, b.1, subst (λ (n : ℕ). NoneBy by n b.0) (number k s (ap (λ (l : List Chair). slice_get l k) is ∙ e)) b.2);
    longest = ⊎_elim (λ (h : (joined_all (view s0) done).seen ≡ journal x). (0, s0, refl, sym (lasts (view s0) done).seen ∙ h))
        (λ (h : (j : ℕ) × (k : ℕ) × (l : List E) × (get_elem? (joined_all (view s0) done).joined j ≡ some (k, l)) × (l ≡ journal x)). let f = joined_from (view s0) done h.0 h.1 h.2 none_joined h.3 in (suc h.0, f.0, f.1, f.2 ∙ h.4)) whole;
    same_setup = λ s e. ap (λ (z : Chair). (view z).setup) (sym (same_Some s0 s e)) ∙ (sym (lasts (view s0) done).setup ∙ knows.known.setup_is);
  }
    where
      begins : (k : ℕ) (s : Chair) → slice_get (s0 ∷ done) k ≡ Some s → (more : List E) × (journal x ≡ (view s).seen ++ more) × NoneBy by (view s).worker more
      begins zero s e = subst (λ (z : Chair). (more : List E) × (journal x ≡ (view z).seen ++ more) × NoneBy by (view z).worker more) (same_Some s0 s e)
          (knows.known.rest, knows.known.begins ∙ ap (λ (l : List E). l ++ knows.known.rest) (lasts (view s0) done).seen, subst (λ (n : ℕ). NoneBy by n knows.known.rest) (lasts (view s0) done).worker knows.known.others)
      begins (suc k) s e = let j = knows.joined k (view s).worker (view s).seen (joined_at (view s0) done k s e) in (j.2, j.3, j.4)
