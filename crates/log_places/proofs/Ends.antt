-- The ends of stretches.
use Rattle.log_places.proofs.Common.{slice_get, Option, Some, None, IfNone, Result, Ok, Err, OnOk, ◌≡◌, ℕ, zero, suc, ◌+◌, ◌-◌, ◌<◌, ◌≤◌, ◌==◌, ◌&&◌, true, cond, nat_le, List, [], ◌∷◌, ◌++◌, length, get_or, take, drop, inl, inr, refl, ap, sym, subst, ◌∙◌, arith, take-append-drop, length-drop, take_all, le-leb, cases_lt, get_or_from_slice_get, slice_get_within, In, Stretch, marked, tiles, Ascending, Has}
use Rattle.log_places.proofs.Marking.{ascending_in}
use Rattle.log_places.proofs.Tiling.{marked_front, same_marked}

at_in : (ss : List Stretch) (k : ℕ) (d : Stretch) → k < length ss → In ss (get_or ss k d)
at_in [] k d lt = absurd (omega arith)
at_in (s ∷ ss) zero d lt = inl refl
at_in (s ∷ ss) (suc k) d lt = inr (at_in ss k d (omega arith))

-- ends rise
pub ends_rise : (ss : List Stretch) (low : ℕ) → Ascending low ss → (k m : ℕ) (d e : Stretch) → k ≤ m → m < length ss → (get_or ss k d).end ≤ (get_or ss m e).end
ends_rise [] low up k m d e le lt = absurd (omega arith)
ends_rise (s ∷ ss) low up zero zero d e le lt = omega arith
ends_rise (s ∷ ss) low up zero (suc m) d e le lt =
    let r = ascending_in s.end ss (get_or ss m e) up.2 (at_in ss m e (omega arith)) in
    omega (arith, r.0, r.1)
ends_rise (s ∷ ss) low up (suc k) zero d e le lt = absurd (omega arith)
ends_rise (s ∷ ss) low up (suc k) (suc m) d e le lt = ends_rise ss s.end up.2 k m d e (omega arith) (omega arith)

-- one more has ended
pub ended_more : (ss : List Stretch) → Ascending 0 ss → (m a : ℕ) (e : Stretch) → m < length ss → (get_or ss m e).end ≤ a → (k : ℕ) (d : Stretch) → k < m + 1 → (get_or ss k d).end ≤ a
ended_more ss up m a e lt le k d below =
    let r = ends_rise ss 0 up k m d e (omega arith) lt in
    omega arith

in_taken : (ss : List Stretch) (n : ℕ) (s : Stretch) → In (take n ss) s → (k : ℕ) × (k < n) × (get_or ss k s ≡ s)
in_taken [] zero s i = absurd i
in_taken [] (suc n) s i = absurd i
in_taken (x ∷ xs) zero s i = absurd i
in_taken (x ∷ xs) (suc n) s (inl e) = (zero, omega arith, e)
in_taken (x ∷ xs) (suc n) s (inr i) = let r = in_taken xs n s i in (suc r.0, omega (arith, r.1), r.2)

in_whole : (ss : List Stretch) (n : ℕ) (s : Stretch) → In (take n ss) s → In ss s
in_whole [] zero s i = absurd i
in_whole [] (suc n) s i = absurd i
in_whole (x ∷ xs) zero s i = absurd i
in_whole (x ∷ xs) (suc n) s (inl e) = inl e
in_whole (x ∷ xs) (suc n) s (inr i) = inr (in_whole xs n s i)

pub ascending_dropped : (ss : List Stretch) (n low : ℕ) → Ascending low ss → (k : ℕ) × Ascending k (drop n ss)
ascending_dropped [] zero low up = (low, tt)
ascending_dropped [] (suc n) low up = (low, tt)
ascending_dropped (x ∷ xs) zero low up = (low, up)
ascending_dropped (x ∷ xs) (suc n) low up = ascending_dropped xs n x.end up.2

-- those that have ended stay, and the rest is marked
pub marked_behind : (ss : List Stretch) (n a b : ℕ) → Ascending 0 ss → a ≤ b → ((k : ℕ) (d : Stretch) → k < n → (get_or ss k d).end ≤ a)
    → take n ss ++ marked a b (drop n ss) ≡ marked a b ss
marked_behind ss n a b up order ended =
    sym (marked_front (take n ss) (drop n ss) a b 0 order
    (λ s i.
    let r = in_taken ss n s i in
    ((ascending_in 0 ss s up (in_whole ss n s i)).1, subst (λ (x : Stretch). x.end ≤ a) r.2 (ended r.0 s r.1))))
    ∙ ap (marked a b) (take-append-drop n ss)

-- marking changes nothing where those that haven't ended begin with just what is marked
pub tiled : (ss : List Stretch) (n a b : ℕ) → Ascending 0 ss → a < b → ((k : ℕ) (d : Stretch) → k < n → (get_or ss k d).end ≤ a)
    → tiles a b (drop n ss) ≡ true → ss ≡ marked a b ss
tiled ss n a b up lt ended is =
    let low = ascending_dropped ss n 0 up in
    sym (take-append-drop n ss)
    ∙ (ap (λ l. take n ss ++ l) (sym (same_marked (drop n ss) a b low.0 (omega arith) low.1 (λ le. absurd (omega arith)) is))
    ∙ marked_behind ss n a b up (omega arith) ended)

pub tiles_done : (ss : List Stretch) (a b : ℕ) → b ≤ a → tiles a b ss ≡ true
tiles_done [] a b le = le-leb b a le
tiles_done (s ∷ ss) a b le = ap (λ c. cond c true ((s.start == a) && nat_le s.end b && tiles s.end b ss)) (le-leb b a le)

-- ---- as the code tells it

pub rest_is : (ss ys : List Stretch) (n : ℕ) → ys ≡ ss → take (length ys - n) (drop n ys) ≡ drop n ss
rest_is ss ys n same =
    ap (λ l. take (length l - n) (drop n l)) same
    ∙ (ap (λ k. take k (drop n ss)) (sym (length-drop n ss)) ∙ take_all (length (drop n ss)) (drop n ss) (omega arith))

pub ended_of : (ss xs : List Stretch) (n a : ℕ) → xs ≡ ss → ((k : ℕ) (d : Stretch) → k < n → (get_or xs k d).end ≤ a) → (k : ℕ) (d : Stretch) → k < n → (get_or ss k d).end ≤ a
ended_of ss xs n a same ended = subst (λ (l : List Stretch). (k : ℕ) (d : Stretch) → k < n → (get_or l k d).end ≤ a) same ended

pub tiled_rest : (ss xs ys : List Stretch) (n a b : ℕ) → xs ≡ ss → ys ≡ ss → Ascending 0 ss → a < b → ((k : ℕ) (d : Stretch) → k < n → (get_or xs k d).end ≤ a)
    → tiles a b (take (length ys - n) (drop n ys)) ≡ true → ss ≡ marked a b ss
tiled_rest ss xs ys n a b same same' up lt ended is =
    tiled ss n a b up lt (ended_of ss xs n a same ended) (sym (ap (tiles a b) (rest_is ss ys n same')) ∙ is)

pub marked_rest : (ss xs ys empty into : List Stretch) (n a b : ℕ) → xs ≡ ss → ys ≡ ss → Ascending 0 ss → a < b → ((k : ℕ) (d : Stretch) → k < n → (get_or xs k d).end ≤ a)
    → empty ≡ [] → into ≡ empty ++ marked a b (take (length ys - n) (drop n ys)) → take n ss ++ into ≡ marked a b ss
marked_rest ss xs ys empty into n a b same same' up lt ended none is =
    ap (λ l. take n ss ++ l) (is ∙ (ap (λ l. l ++ marked a b (take (length ys - n) (drop n ys))) none ∙ ap (marked a b) (rest_is ss ys n same')))
    ∙ marked_behind ss n a b up (omega arith) (ended_of ss xs n a same ended)

pub on_ok : {V E : Type 0} (r : Result V E) (P Q : Type 0) → (P → Q) → OnOk r P → OnOk r Q
on_ok (Ok v) P Q f h = f h
on_ok (Err e) P Q f h = h

-- ---- the stretch of a location

starts_rise : (ss : List Stretch) (low : ℕ) → Ascending low ss → (k m : ℕ) (d e : Stretch) → k ≤ m → m < length ss → (get_or ss k d).start ≤ (get_or ss m e).start
starts_rise [] low up k m d e le lt = absurd (omega arith)
starts_rise (s ∷ ss) low up zero zero d e le lt = omega arith
starts_rise (s ∷ ss) low up zero (suc m) d e le lt =
    let r = ascending_in s.end ss (get_or ss m e) up.2 (at_in ss m e (omega arith)) in
    let some : s.start < s.end = up.1 in
    omega (arith, r.0)
starts_rise (s ∷ ss) low up (suc k) zero d e le lt = absurd (omega arith)
starts_rise (s ∷ ss) low up (suc k) (suc m) d e le lt = starts_rise ss s.end up.2 k m d e (omega arith) (omega arith)

in_at : (ss : List Stretch) (s : Stretch) → In ss s → (k : ℕ) × (k < length ss) × (get_or ss k s ≡ s)
in_at [] s i = absurd i
in_at (x ∷ xs) s (inl e) = (zero, omega arith, e)
in_at (x ∷ xs) s (inr i) = let r = in_at xs s i in (suc r.0, omega (arith, r.1), r.2)

-- no stretch has the location where the first that ends behind it begins behind it
pub none_has : (ss : List Stretch) (n x : ℕ) → Ascending 0 ss → ((k : ℕ) (d : Stretch) → k < n → (get_or ss k d).end ≤ x)
    → ((d : Stretch) → n < length ss → x < (get_or ss n d).start) → (s : Stretch) → In ss s → Has s x → ⊥
none_has ss n x up ended behind s i h =
    let at = in_at ss s i in
    let st : (get_or ss at.0 s).start ≤ x = subst (λ (t : Stretch). t.start ≤ x) (sym at.2) h.0 in
    let en : x < (get_or ss at.0 s).end = subst (λ (t : Stretch). x < t.end) (sym at.2) h.1 in
    elim (cases_lt at.0 n) [
      | inl l ↦ let e = ended at.0 s l in omega arith
      | inr g ↦
          let b : x < (get_or ss n s).start = behind s (omega (arith, at.1)) in
          let r = starts_rise ss 0 up n at.0 s s g at.1 in
          omega arith
    ]

pub got_at : (ss : List Stretch) (k : ℕ) → k < length ss → (s : Stretch) × (slice_get ss k ≡ Some s) × ((d : Stretch) → get_or ss k d ≡ s)
got_at [] k lt = absurd (omega arith)
got_at (s ∷ ss) zero lt = (s, refl, λ d. refl)
got_at (s ∷ ss) (suc k) lt = got_at ss k (omega arith)

pub none_behind : (ss : List Stretch) (n x : ℕ) → Ascending 0 ss → ((k : ℕ) (d : Stretch) → k < n → (get_or ss k d).end ≤ x)
    → (t : Stretch) → slice_get ss n ≡ Some t → x < t.start → (s : Stretch) → In ss s → Has s x → ⊥
none_behind ss n x up ended t got lt =
    none_has ss n x up ended (λ d within. subst (λ (u : Stretch). x < u.start) (sym (get_or_from_slice_get ss n t d got)) lt)

pub none_past : (ss : List Stretch) (n x : ℕ) → Ascending 0 ss → ((k : ℕ) (d : Stretch) → k < n → (get_or ss k d).end ≤ x)
    → slice_get ss n ≡ None → (s : Stretch) → In ss s → Has s x → ⊥
none_past ss n x up ended none =
    none_has ss n x up ended
    (λ d within. let g = got_at ss n within in absurd (let e : None ≡ Some g.0 = sym none ∙ g.1 in cc))

pub has_there : (ss : List Stretch) (n x : ℕ) (t : Stretch) → slice_get ss n ≡ Some t → t.start ≤ x → ((d : Stretch) → n < length ss → x < (get_or ss n d).end) → Has t x
has_there ss n x t got le next =
    (le, subst (λ (u : Stretch). x < u.end) (get_or_from_slice_get ss n t t got) (next t (slice_get_within ss n t got)))

pub none_too : {A : Type 0} (o : Option A) (P : Type 0) → P → IfNone o P
none_too None P h = h
none_too (Some x) P h = tt
