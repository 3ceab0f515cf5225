-- The hands as they are made.
use Rattle.steal_scheduler.proofs.Common.{◌≡◌, ℕ, List, length, slice_get, Some, sym, ap, ◌∙◌, subst, arith, got_within, got_some, worker_deque, Theft, Hand, IsNewHand, AreNewHands, thefts, Owner, Thief, EachPlace, StealFrom, AreTheftsOf, IsHandOf}

pub hand_of : (ss : List Thief) (h : Hand) (o : Owner) (ts : List Theft) → IsNewHand (length ts) h → h.own ≡ o → thefts h ≡ ts → AreTheftsOf ts ss → IsHandOf ss h o
hand_of ss h o ts new own is of = record { own = own; new = subst (λ n. IsNewHand n h) of.count new; reaches = subst (λ l. AreTheftsOf l ss) (sym is) of }

pub all_new : (n : ℕ) (hands : List Hand) (os : List Owner) (ss : List Thief) → length hands ≡ length os → length os ≡ n → StealFrom ss os → EachPlace (IsHandOf ss) hands os → AreNewHands n hands
all_new n hands os ss long count from each = record {
  count = long ∙ count;
  each_hand = λ k h e. let a = owner k h e in subst (λ m. IsNewHand m h) (from.count ∙ count) a.1.new;
  reaches = λ k j h g t eh eg et. let a = (owner k h eh).1 in let b = owner j g eg in let short = got_within (thefts h) j t et in let as_many = a.reaches.count in
      let s = got_some ss j (omega arith) in let x = a.reaches.each j t s.0 et s.1 in
      (x.0 ∙ (from.each j s.0 b.0 s.1 b.2 ∙ ap (λ (o : Owner). worker_deque o.worker) (sym b.1.own)), x.1, x.2);
}
  where
    owner : (k : ℕ) (h : Hand) → slice_get hands k ≡ Some h → (o : Owner) × IsHandOf ss h o × (slice_get os k ≡ Some o)
    owner k h e = let short = got_within hands k h e in let o = got_some os k (omega arith) in (o.0, each k h o.0 e o.1, o.1)
