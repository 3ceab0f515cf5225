-- What is known of a block after an act more.
use Rattle.log_births.proofs.Common.{◌≡◌, ◌<◌, ◌+◌, ◌∙◌, ◌⊎◌, inl, inr, ℕ, Bool, true, false, List, refl, sym, ap, subst, Option, Some, None, slice_get, arith, if◌then◌else◌, same_Some, nat_tests, option_is, below_next, GraphStrand, LogTasks, StrandStandsAt, IsPlaceOf, Act, Event, event, LineAt, BlockLines, Lifetimes, born, released, line_told, birth_noted, DoesToBlockAt, IsLineOf, Know, KnowAll}

option_true : (o : Option ℕ) (b : ℕ) → option_is o b ≡ true → o ≡ Some b
option_true None b e = absurd (let z : false ≡ true = e in cc)
option_true (Some c) b e = ap Some (let same : c ≡ b = grind (arith, nat_tests, e) in same)

option_false : (o : Option ℕ) (b : ℕ) → option_is o b ≡ false → o ≡ Some b → ⊥
option_false None b e s = (let z : None ≡ Some b = s in cc)
option_false (Some c) b e s = let same : c ≡ b = same_Some c b s in let z : false ≡ true = sym e ∙ (let t : option_is (Some c) b ≡ true = grind (arith, nat_tests, same) in t) in cc

module _ (does : Act → Option ℕ) (tasks : LogTasks) (order : List GraphStrand) (events : List Event) (n : ℕ) (s : GraphStrand) (a : Act) (b : ℕ) (at : slice_get events n ≡ Some (event s a)) where
  same_event : (m : ℕ) (e : Event) → m ≡ n → slice_get events m ≡ Some e → e ≡ event s a
  same_event m e is got = same_Some e (event s a) (sym got ∙ ap (slice_get events) is ∙ at)

  -- the next act isn't one of the block's
  pub none_more : ((e : Event) (place : ℕ) → e ≡ event s a → does e.act ≡ Some b → StrandStandsAt tasks order e.strand place → ⊥) → (old : Option LineAt)
      → IsLineOf does tasks order events n b old → IsLineOf does tasks order events (n + 1) b old
  none_more other None h = λ m place lt there. by_place m place there (below_next m n lt)
    where
      by_place : (m place : ℕ) → DoesToBlockAt does tasks order events b m place → (m < n) ⊎ (m ≡ n) → ⊥
      by_place m place there (inl below) = h m place below there
      by_place m place there (inr is) = other there.event place (same_event m there.event is there.at) there.block there.stands
  none_more other (Some line) h = h

  noted_by : (place : ℕ) → StrandStandsAt tasks order s place → (is : Bool) → option_is (does a) b ≡ is → (old : Option LineAt)
      → IsLineOf does tasks order events n b old → IsLineOf does tasks order events (n + 1) b (if is then Some (record { place = place; line = n }) else old)
  noted_by place stands true e old h = record { event = event s a; at = at; block = option_true (does a) b e; stands = stands }
  noted_by place stands false e old h = none_more (λ x p is block there. option_false (does a) b e (sym (ap (λ (y : Event). does y.act) is) ∙ block)) old h

  -- an act was noted
  pub noted_is : (place : Option ℕ) → IsPlaceOf tasks order s place → (old : Option LineAt)
      → IsLineOf does tasks order events n b old → IsLineOf does tasks order events (n + 1) b (birth_noted (does a) place n b old)
  noted_is None nowhere old h = none_more (λ x p is block there. nowhere p (subst (λ (y : Event). StrandStandsAt tasks order y.strand p) is there)) old h
  noted_is (Some place) stands old h = noted_by place stands (option_is (does a) b) refl old h

pub know_more : (does : Act → Option ℕ) (tasks : LogTasks) (order : List GraphStrand) (events : List Event) (n : ℕ) (s : GraphStrand) (a : Act) (place : Option ℕ) (old new : BlockLines) → slice_get events n ≡ Some (event s a)
    → IsPlaceOf tasks order s place → ((b : ℕ) → line_told new b ≡ birth_noted (does a) place n b (line_told old b)) → Know does tasks order events n old → Know does tasks order events (n + 1) new
know_more does tasks order events n s a place old new at stands told know b =
    subst (λ (o : Option LineAt). IsLineOf does tasks order events (n + 1) b o) (sym (told b)) (noted_is does tasks order events n s a b at place stands (line_told old b) (know b))

pub all_more : (tasks : LogTasks) (order : List GraphStrand) (events : List Event) (n : ℕ) (s : GraphStrand) (a : Act) (place : Option ℕ) (old new : Lifetimes) → slice_get events n ≡ Some (event s a) → IsPlaceOf tasks order s place
    → ((b : ℕ) → line_told new.births b ≡ birth_noted (born a) place n b (line_told old.births b)) → ((b : ℕ) → line_told new.releases b ≡ birth_noted (released a) place n b (line_told old.releases b))
    → KnowAll tasks order events n old → KnowAll tasks order events (n + 1) new
all_more tasks order events n s a place old new at stands births releases all = record {
  births = know_more born tasks order events n s a place old.births new.births at stands births all.births;
  releases = know_more released tasks order events n s a place old.releases new.releases at stands releases all.releases;
}

none_below : (does : Act → Option ℕ) (tasks : LogTasks) (order : List GraphStrand) (events : List Event) (b : ℕ) (o : Option LineAt) → o ≡ None → IsLineOf does tasks order events 0 b o
none_below does tasks order events b None e = λ m place lt there. omega (arith, lt)
none_below does tasks order events b (Some line) e = absurd (let z : Some line ≡ None = e in cc)

-- at first nothing is known
pub nothing_known : (tasks : LogTasks) (order : List GraphStrand) (events : List Event) (known : Lifetimes) → ((b : ℕ) → line_told known.births b ≡ None) → ((b : ℕ) → line_told known.releases b ≡ None) → KnowAll tasks order events 0 known
nothing_known tasks order events known births releases = record {
  births = λ b. none_below born tasks order events b (line_told known.births b) (births b);
  releases = λ b. none_below released tasks order events b (line_told known.releases b) (releases b);
}
