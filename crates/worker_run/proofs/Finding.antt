-- How a worker's hand finds and puts tasks.
use Rattle.worker_run.proofs.Common.{◌≡◌, ◌≢◌, ◌⊎◌, inl, inr, ℕ, zero, suc, ◌+◌, ◌-◌, ◌*◌, ◌/◌, ◌%◌, ◌<◌, ◌≤◌, List, [], ◌∷◌, length, slice_get, slice_index_or, slice_set, get_or, refl, sym, ap, ◌∙◌, subst, arith, Option, Some, None, Snapshot, mul-le-mul_left, cases_order, slice_get_within, slice_get-get_or, ProgramText, Private, Hand, Theft, AreNewHands, ChangesAt, KeepsOwn, SameHand, TookNone, empty_pops, thefts, SameTheft, StoleNone, Ready, Paused as HasPaused, Copied as IsCopied, Found, OutOfMemory, ComesWith, AreHands, Finds, HaveRoot, Looks, Puts, SharesRight, TriedBefore, after_it}

-- ---- GOING ROUND

-- less than a whole round leads to another worker
elsewhere : (a d n : ℕ) → 0 < d → d < n → (a + d) % n ≡ a % n → ⊥
elsewhere a d n some less e = elim (cases_order (a / n) ((a + d) / n)) [
  | inl same ↦ (let h = ap (λ q. n * q) same in omega (arith, h, e, some, less, rest a, rest (a + d)))
  | inr (inl more) ↦ (let h = mul-le-mul_left n more in let m = by_suc n (a / n) in omega (arith, h, m, e, some, less, rest a, rest (a + d)))
  | inr (inr fewer) ↦ (let h = mul-le-mul_left n fewer in let m = by_suc n ((a + d) / n) in omega (arith, h, m, e, some, less, rest a, rest (a + d)))
]
  where
    by_suc : (n q : ℕ) → n * suc q ≡ n * q + n
    by_suc n q = omega arith

    rest : (x : ℕ) → n * (x / n) + x % n ≡ x
    rest x = omega arith

apart : (k n i j : ℕ) → i < j → j < n → after_it k n i ≡ after_it k n j → ⊥
apart k n i j less within e = elsewhere (k + i) (j - i) n (omega arith) (omega arith) (ap (λ x. x % n) (sums k i j less) ∙ sym e)
  where
    sums : (k i j : ℕ) → i < j → k + i + (j - i) ≡ k + j
    sums k i j h = omega arith

-- ---- THEFTS

pub none_tried : (k : ℕ) (old : List Theft) → TriedBefore k 1 old old
none_tried k old = record { count = refl; vain = λ i some less. absurd (omega arith); others = λ v ne. refl }

pub tried_more : (k j : ℕ) (old mid new : List Theft) → TriedBefore k j old mid → 0 < j → j < length old → length new ≡ length mid → ChangesAt mid new (after_it k (length old) j) StoleNone → TriedBefore k (j + 1) old new
tried_more k j old mid new T some within long change = record {
  count = long ∙ T.count;
  vain = λ i low less t u was is. tried_more_at i low (cases_order i j) less t u was is;
  others = λ v ne. change.others v (ne j some (omega arith)) ∙ T.others v (λ i low less. ne i low (omega (arith, less)));
}
  where
    tried_more_at : (i : ℕ) → 0 < i → (i ≡ j) ⊎ ((i < j) ⊎ (j < i)) → i < j + 1 → (t u : Theft) → slice_get old (after_it k (length old) i) ≡ Some t → slice_get new (after_it k (length old) i) ≡ Some u → SameTheft t u × StoleNone t u
    tried_more_at i low (inl e) less t u was is = change.at_victim t u
        (T.others (after_it k (length old) j) (λ x l s same. apart k (length old) x j s within (sym same)) ∙ subst (λ x. slice_get old (after_it k (length old) x) ≡ Some t) e was)
        (subst (λ x. slice_get new (after_it k (length old) x) ≡ Some u) e is)
    tried_more_at i low (inr (inl before)) less t u was is = T.vain i low before t u was (sym (change.others (after_it k (length old) i) (λ same. apart k (length old) i j before within same)) ∙ is)
    tried_more_at i low (inr (inr beyond)) less t u was is = absurd (omega (arith, beyond, less))

pub tried_all : (k j : ℕ) (old new : List Theft) → TriedBefore k j old new → length old ≤ j → (1 ≤ length old → j ≤ length old) → TriedBefore k (length old) old new
tried_all k j [] [] T all most = record { count = refl; vain = λ i some less. absurd (omega (arith, some, less)); others = λ v ne. refl }
tried_all k j [] (x ∷ xs) T all most = absurd (let e = T.count in omega (arith, e))
tried_all k j (t ∷ ts) new T all most = let e : j ≡ length (t ∷ ts) = (let m = most (omega arith) in omega (arith, m, all)) in subst (λ x. TriedBefore k x (t ∷ ts) new) e T

-- there were no own tasks, and only the hand's thefts changed
pub none_then : (a b c : Hand) → TookNone a b → KeepsOwn b c → empty_pops c ≡ empty_pops b → TookNone a c
none_then a b c N K e = record {
  list_was = N.list_was;
  list_is = K.list_is ∙ N.list_is;
  view_is = K.view_is ∙ N.view_is;
  index_falls = (let x = N.index_falls in let y = K.index_is in omega (arith, x, y));
  empty_pops_rose = e ∙ N.empty_pops_rose;
  was_empty = N.was_empty;
}

pub same_then : (a b c : Hand) → SameHand a b → SameHand b c → SameHand a c
same_then a b c S T = record { deque = T.deque ∙ S.deque; port = T.port ∙ S.port; room = (let x = S.room in let y = T.room in omega (arith, x, y)); workers = T.workers ∙ S.workers }

-- ---- WHAT FOLLOWS FROM THE CALLS

pub finds_same : (k : ℕ) (a b : Hand) (o : Option ℕ) → Finds k a b o → SameHand a b
finds_same k a b (Some task) (inl f) = f.same
finds_same k a b (Some task) (inr s) = s.same
finds_same k a b None f = f.same

pub comes_looking : (p : ProgramText) (k : ℕ) (kept : Option (Snapshot Private)) (a b : Hand) (ready : Ready) → Looks k a b ready → ComesWith p k kept ready
comes_looking p k kept a b (HasPaused part why) h = absurd h
comes_looking p k kept a b (IsCopied c) h = absurd h
comes_looking p k kept a b (Found o) h = tt
comes_looking p k kept a b OutOfMemory h = absurd h

pub comes_sharing : (p : ProgramText) (k left right : ℕ) (kept : Option (Snapshot Private)) (a b : Hand) (ready : Ready) → SharesRight left right a b ready → ComesWith p k kept ready
comes_sharing p k left right kept a b (HasPaused part why) h = absurd h
comes_sharing p k left right kept a b (IsCopied c) h = absurd h
comes_sharing p k left right kept a b (Found o) h = tt
comes_sharing p k left right kept a b OutOfMemory h = tt

-- ---- THE FIRST HANDS

pub root_put : (n : ℕ) (before : List Hand) (h g : Hand) → 0 < length before → h ≡ slice_index_or before 0 h → Puts h g 0 → AreNewHands n before → HaveRoot n (slice_set before 0 g)
root_put n [] h g some is P new = absurd (omega arith)
root_put n (x ∷ xs) h g some is P new = record {
  count = new.count;
  before = x ∷ xs;
  were_new = new;
  root = λ a b was now. subst (λ (y : Hand). Puts y b 0) (is ∙ some_one x a was) (subst (λ (y : Hand). Puts h y 0) (some_one g b now) P);
  others = other;
}
  where
    some_one : (a b : Hand) → Some a ≡ Some b → a ≡ b
    some_one a b e = cc

    other : (j : ℕ) → j ≢ 0 → slice_get (g ∷ xs) j ≡ slice_get (x ∷ xs) j
    other zero ne = absurd (ne refl)
    other (suc j) ne = refl

pub root_hands : (n : ℕ) (hands : List Hand) → HaveRoot n hands → AreHands n hands
root_hands n hands R = (R.count, each)
  where
    each : (k : ℕ) (h : Hand) → slice_get hands k ≡ Some h → length (thefts h) ≡ n
    each zero h at =
        let within = slice_get_within hands 0 h at in
        let long : length R.before ≡ length hands = R.were_new.count ∙ sym R.count in
        let was : slice_get R.before 0 ≡ Some (get_or R.before 0 h) = slice_get-get_or R.before 0 h (omega (arith, within, long)) in
        (R.root (get_or R.before 0 h) h was at).same.workers ∙ (R.were_new.each_hand 0 (get_or R.before 0 h) was).workers
    each (suc k) h at = (R.were_new.each_hand (suc k) h (sym (R.others (suc k) (λ e. absurd (omega (arith, e)))) ∙ at)).workers
