-- The words of the blocks of a small log.
use Rattle.log_size_laws.proofs.Common.{◌≡◌, ◌*◌, ◌^◌, ◌<◌, ◌≤◌, ◌==◌, ℕ, Bool, true, false, List, length, map, refl, subst, arith, length-map, sum_by-le, sorted_from_strictly_increasing, length-le_from_below, slice_get_within, In, got_in, all_from, map_in, Event, Act, Access, Yield, Store, Birth, Release, Work, Spawn, Join, Finish, words_born, AreThose, HasTooManyWords, IsBirth, at_depth, words_at, BlockBirth, LogTasks, AreSmallActs, IsSmallAct}

few_words : (act : Act) → IsSmallAct act → words_born act ≤ 2 ^ 32
few_words (Access a) small = omega arith
few_words (Yield r) small = omega arith
few_words (Store r) small = omega arith
few_words (Birth block length) small = small
few_words (Release block) small = omega arith
few_words (Work units) small = omega arith
few_words (Spawn c) small = omega arith
few_words (Join c) small = omega arith
few_words Finish small = omega arith

module _ (events : List Event) (log : LogTasks) (small : AreSmallActs events) (births : List BlockBirth) (are : AreThose (λ (b : BlockBirth). b.line) (IsBirth events log) births) where
  is : (b : BlockBirth) → In births b → IsBirth events log b
  is b i = (are.are b).0 i

  abbrev lines : List ℕ
  lines = map (λ (b : BlockBirth). b.line) births

  line_there : (n : ℕ) → In lines n → n < length events
  line_there n i =
      let b = map_in (λ (b : BlockBirth). b.line) births n i in
      let at = (is b.0 b.1).born_there in
      subst (λ k. k < length events) b.2 (slice_get_within events b.0.line _ at.at)

  few_births : length births ≤ length events
  few_births =
      let few = length-le_from_below (length events) lines (sorted_from_strictly_increasing lines are.ascending) (all_from (λ n. n < length events) lines line_there) in
      let same = length-map births (λ (b : BlockBirth). b.line) in
      omega (arith, few, same)

  block_words : (b : BlockBirth) → In births b → b.words ≤ 2 ^ 32
  block_words b i =
      let birth = is b i in
      let at = birth.born_there in
      let few = few_words at.act (small _ (got_in events b.line _ at.at)) in
      let same = birth.words_are in
      omega (arith, few, same)

  depth_words : (depth : ℕ) (b : BlockBirth) → In births b → at_depth depth b b.words ≤ 2 ^ 32
  depth_words depth b i = by (b.depth == depth) refl
    where
      by : (c : Bool) → (b.depth == depth) ≡ c → at_depth depth b b.words ≤ 2 ^ 32
      by true e = rw e (block_words b i)
      by false e = rw e (omega arith)

  all_words : (depth : ℕ) → words_at depth births ≤ length births * 2 ^ 32
  all_words depth = sum_by-le (λ (b : BlockBirth). at_depth depth b b.words) (2 ^ 32) births (all_from (λ (b : BlockBirth). at_depth depth b b.words ≤ 2 ^ 32) births (depth_words depth))

pub fitting_words : (events : List Event) (log : LogTasks) → AreSmallActs events → length events < 2 ^ 32 → HasTooManyWords events log → ⊥
fitting_words events log small few many =
    let births = few_births events log small many.births many.are_births in
    let words = all_words events log small many.births many.are_births many.depth in
    let over = many.many in
    absurd (omega (arith, births, words, over, few))
