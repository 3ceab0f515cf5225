-- The record determines what is owed.
use Rattle.heap_marking.proofs.Common.{◌≡◌, ℕ, ◌+◌, ◌<◌, ◌&&◌, not, Bool, true, false, cond, Option, Some, None, List, [], ◌∷◌, ◌++◌, length, slice_get, inl, inr, refl, ap, sym, subst, ◌∙◌, arith, is_some, nat_le, length-append, both_ways, cases_lt, same_Some, got_back, got_front, got_within, and_not_parts, Strand, is_waiting, joined, SettingsValue, Ledger, Owed, Nothing, Previous, Other as OtherEntry, Forked as ForkedEntry, WorkerPace, heap_of, words_in, is_to_mark, is_under_way, is_unmarked, more_of, owed_after, owed_to_marks, waits_on, Pace, PreviousKind, IsLastGoing, IsOver, KeepsMarks, KeepsPace, KeepsPrevious, TellsFork, TellsMark, is_going, is_to_begin}
use Rattle.core_invariant.specs.below.run_ledger.{Mark as OwesMark, Ran as RanEntry}
use Rattle.heap_marking.specs.declared.pace.Fork.{Fork}
use Rattle.heap_marking.specs.declared.pace.PreviousKind.TheVariants.{Other, Ran, Forked}
use Rattle.heap_marking.proofs.PaceKeeps.{gone_waits, waits_tells}

-- BY A FORK
module _ (l : Ledger) (f : Fork) (s : Strand) (T : TellsFork l f s) where
  -- any test of the heap's account, while the task waits on the fork
  tested : (test : ℕ → Bool) (b : Bool) → joined l.machine.tasks f.left ≡ b → (not b && (is_waiting (slice_get l.machine.tasks f.task) && test f.task)) ≡ (waits_on l s && test s.task)
  tested test true e = sym (ap (λ v. v && test s.task) (gone_waits l s (T.past e)))
  tested test false e =
      let q = waits_tells l s (T.waits e) in
      ap (λ u. is_waiting (slice_get l.machine.tasks u) && test u) T.task
      ∙ (ap (λ o. is_waiting o && test s.task) q.1 ∙ (ap (λ v. v && test s.task) q.2 ∙ sym (ap (λ v. v && test s.task) (T.waits e))))

  pub going_is : is_going l f ≡ is_under_way l s
  going_is = tested (λ u. not (heap_of l u).swept) (joined l.machine.tasks f.left) refl

  pub begins_is : (limits : SettingsValue) → is_to_begin limits l f ≡ is_to_mark limits l s
  begins_is limits = tested (λ u. is_unmarked (heap_of l u) && nat_le limits.inner (words_in l.machine (heap_of l u))) (joined l.machine.tasks f.left) refl

over_stops : (l : Ledger) (s : Strand) → IsOver l s → is_under_way l s ≡ false
over_stops l s (inl g) = ap (λ v. v && not (heap_of l s.task).swept) (gone_waits l s g)
over_stops l s (inr o) = ap (λ v. v && not (heap_of l s.task).swept) o.0 ∙ ap not o.1

-- THE LAST LIST
snoc_last : (front : List Fork) (f : Fork) → slice_get (front ++ f ∷ []) (length front) ≡ Some f
snoc_last front f = ap (slice_get (front ++ f ∷ [])) (let e : length front ≡ length front + 0 = omega arith in e) ∙ got_back front (f ∷ []) 0

snoc_front : (front : List Fork) (f : Fork) (k : ℕ) (g : Fork) → slice_get front k ≡ Some g → slice_get (front ++ f ∷ []) k ≡ Some g
snoc_front front f k g e = got_front front (f ∷ []) k (got_within front k g e) ∙ e

snoc_length : (front : List Fork) (f : Fork) → length (front ++ f ∷ []) ≡ length front + 1
snoc_length front f = length-append front (f ∷ [])

-- if the last of a list is under way it is the last that is
last_here : (l : Ledger) (front : List Fork) (f : Fork) (r : Option Fork) → is_going l f ≡ true → IsLastGoing l (front ++ f ∷ []) r → r ≡ Some f
last_here l front f None on L = absurd (both_ways (is_going l f) (L (length front) f (snoc_last front f)) on)
last_here l front f (Some g) on L = elim (cases_lt (L.0) (length front)) [
  | inl lt ↦ absurd (both_ways (is_going l f) (L.3 (length front) f lt (snoc_last front f)) on)
  | inr ge ↦
      let within : L.0 < length (front ++ f ∷ []) = got_within (front ++ f ∷ []) L.0 g L.1 in
      let count : length (front ++ f ∷ []) ≡ length front + 1 = snoc_length front f in
      let e : L.0 ≡ length front = omega arith in
      sym L.1 ∙ (ap (slice_get (front ++ f ∷ [])) e ∙ snoc_last front f)
]

-- and if it isn't, the last of those before it is
last_before : (l : Ledger) (front : List Fork) (f : Fork) (r : Option Fork) → is_going l f ≡ false → IsLastGoing l (front ++ f ∷ []) r → IsLastGoing l front r
last_before l front f None off L = λ k g e. L k g (snoc_front front f k g e)
last_before l front f (Some g) off L = elim (cases_lt (L.0) (length front)) [
  | inl lt ↦ (L.0, sym (got_front front (f ∷ []) L.0 lt) ∙ L.1, L.2, λ j h more e. L.3 j h more (snoc_front front f j h e))
  | inr ge ↦
      let within : L.0 < length (front ++ f ∷ []) = got_within (front ++ f ∷ []) L.0 g L.1 in
      let count : length (front ++ f ∷ []) ≡ length front + 1 = snoc_length front f in
      let e : L.0 ≡ length front = omega arith in
      let same : Some g ≡ Some f = sym L.1 ∙ (ap (slice_get (front ++ f ∷ [])) e ∙ snoc_last front f) in
      absurd (both_ways (is_going l f) off (ap (is_going l) (sym (same_Some g f same)) ∙ L.2))
]

last_none : (l : Ledger) (r : Option Fork) → IsLastGoing l [] r → r ≡ None
last_none l None L = refl
last_none l (Some f) L = absurd (let e : None ≡ Some f = L.1 in cc)

-- OWED TO MARKINGS
abbrev pub owed_to : Ledger → Option Fork → Owed
owed_to l None = Nothing
owed_to l (Some f) = more_of l f.task

-- what follows while a marking is under way
abbrev pub IsMarkedThen : Ledger → Option Fork → Type 0
IsMarkedThen l None = Unit {0}
IsMarkedThen l (Some f) = (is_going l f ≡ true) × (is_some (heap_of l f.task).marked ≡ true)

marked_now : (l : Ledger) (f : Fork) (s : Strand) → TellsMark l f s → is_going l f ≡ true → is_some (heap_of l f.task).marked ≡ true
marked_now l f s T on =
    let q = and_not_parts (waits_on l s) (heap_of l s.task).swept (sym (going_is l f s T.fork) ∙ on) in
    ap (λ u. is_some (heap_of l u).marked) (T.fork).task ∙ elim (T.marked q.0) [ inl m ↦ m | inr sw ↦ absurd (both_ways (heap_of l s.task).swept q.1 sw) ]

pub owed_marks : (l : Ledger) (forks : List Fork) (ss : List Strand) (r : Option Fork) → KeepsMarks l forks ss → IsLastGoing l forks r → (owed_to_marks l ss ≡ owed_to l r) × IsMarkedThen l r
owed_marks l forks [] r K L =
    let e : r ≡ None = last_none l r (subst (λ (fs : List Fork). IsLastGoing l fs r) K L) in
    (sym (ap (owed_to l) e), subst (IsMarkedThen l) (sym e) tt)
owed_marks l forks (s ∷ ss) r (inl K) L =
    let rest = owed_marks l forks ss r K.1 L in
    (ap (λ b. cond b (more_of l s.task) (owed_to_marks l ss)) (over_stops l s K.0) ∙ rest.0, rest.1)
owed_marks l forks (s ∷ ss) r (inr K) L = owed_marks_by_cases (is_going l K.1) refl (owed_marks l K.0 ss r K.4)
  where
    L' : IsLastGoing l (K.0 ++ K.1 ∷ []) r
    L' = subst (λ (fs : List Fork). IsLastGoing l fs r) K.2 L

    owed_marks_by_cases : (b : Bool) → is_going l K.1 ≡ b → (IsLastGoing l K.0 r → (owed_to_marks l ss ≡ owed_to l r) × IsMarkedThen l r) → (cond (is_under_way l s) (more_of l s.task) (owed_to_marks l ss) ≡ owed_to l r) × IsMarkedThen l r
    owed_marks_by_cases true e rest =
        let here : r ≡ Some K.1 = last_here l K.0 K.1 r e L' in (
          ap (λ b. cond b (more_of l s.task) (owed_to_marks l ss)) (sym (going_is l K.1 s (K.3).fork) ∙ e) ∙ (ap (more_of l) (sym ((K.3).fork).task) ∙ sym (ap (owed_to l) here)),
          subst (IsMarkedThen l) (sym here) (e, marked_now l K.1 s K.3 e),
        )
    owed_marks_by_cases false e rest =
        let more = rest (last_before l K.0 K.1 r e L') in
        (ap (λ b. cond b (more_of l s.task) (owed_to_marks l ss)) (sym (going_is l K.1 s (K.3).fork) ∙ e) ∙ more.0, more.1)

-- DROPPING THE LAST
snoc_same : (xs ys : List Fork) (a b : Fork) → xs ++ a ∷ [] ≡ ys ++ b ∷ [] → (xs ≡ ys) × (a ≡ b)
snoc_same [] [] a b e = (refl, let q : slice_get (a ∷ []) 0 ≡ slice_get (b ∷ []) 0 = ap (λ (zs : List Fork). slice_get zs 0) e in same_Some a b q)
snoc_same [] (y ∷ ys) a b e = absurd (let q : length (a ∷ []) ≡ length (y ∷ (ys ++ b ∷ [])) = ap (λ (zs : List Fork). length zs) e in let n : length (ys ++ b ∷ []) ≡ length ys + 1 = snoc_length ys b in omega arith)
snoc_same (x ∷ xs) [] a b e = absurd (let q : length (x ∷ (xs ++ a ∷ [])) ≡ length (b ∷ []) = ap (λ (zs : List Fork). length zs) e in let n : length (xs ++ a ∷ []) ≡ length xs + 1 = snoc_length xs a in omega arith)
snoc_same (x ∷ xs) (y ∷ ys) a b e =
    let rest = snoc_same xs ys a b (ap tail_of e) in
    let head : x ≡ y = same_Some x y (ap (λ (zs : List Fork). slice_get zs 0) e) in
    (let P = rest.0 in λ i. head i ∷ P i, rest.1)
  where
    tail_of : List Fork → List Fork
    tail_of [] = []
    tail_of (z ∷ zs) = zs

not_snoc : (front : List Fork) (f : Fork) → front ++ f ∷ [] ≡ [] → ⊥
not_snoc [] f e = let q : length (f ∷ []) ≡ 0 = ap (λ (zs : List Fork). length zs) e in omega arith
not_snoc (x ∷ front) f e = let q : length (x ∷ (front ++ f ∷ [])) ≡ 0 = ap (λ (zs : List Fork). length zs) e in omega arith

stopped_over : (l : Ledger) (f : Fork) (s : Strand) → TellsMark l f s → is_going l f ≡ false → (b : Bool) → joined l.machine.tasks f.left ≡ b → IsOver l s
stopped_over l f s T off true e = inl ((T.fork).past e)
stopped_over l f s T off false e = stopped_over_by_cases (heap_of l s.task).swept refl
  where
    w : waits_on l s ≡ true
    w = (T.fork).waits e

    stopped_over_by_cases : (b : Bool) → (heap_of l s.task).swept ≡ b → IsOver l s
    stopped_over_by_cases true q = inr (w, q)
    stopped_over_by_cases false q = absurd (both_ways (is_under_way l s) (sym (going_is l f s T.fork) ∙ off) (ap (λ v. v && not (heap_of l s.task).swept) w ∙ ap not q))

pub drop_last : (l : Ledger) (front : List Fork) (f : Fork) (ss : List Strand) → is_going l f ≡ false → KeepsMarks l (front ++ f ∷ []) ss → KeepsMarks l front ss
drop_last l front f [] off K = absurd (not_snoc front f K)
drop_last l front f (s ∷ ss) off (inl K) = inl (K.0, drop_last l front f ss off K.1)
drop_last l front f (s ∷ ss) off (inr K) =
    let e = snoc_same front K.0 f K.1 K.2 in
    inl (stopped_over l K.1 s K.3 (ap (is_going l) (sym e.1) ∙ off) (joined l.machine.tasks (K.1).left) refl, subst (λ (fs : List Fork). KeepsMarks l fs ss) (sym e.0) K.4)

-- OWED BY WHAT CAME BEFORE
abbrev pub owed_told : SettingsValue → Ledger → List Strand → PreviousKind → Owed
owed_told limits l marks Other = Nothing
owed_told limits l marks Ran = owed_to_marks l marks
owed_told limits l marks (Forked f) = cond (is_to_begin limits l f) (OwesMark f.task) (owed_to_marks l marks)

pub owed_is : (limits : SettingsValue) (l : Ledger) (marks : List Strand) (a : PreviousKind) (b : Previous) → KeepsPrevious l a b → owed_told limits l marks a ≡ owed_after limits l marks b
owed_is limits l marks Other OtherEntry k = refl
owed_is limits l marks Other RanEntry k = absurd k
owed_is limits l marks Other (ForkedEntry s) k = absurd k
owed_is limits l marks Ran OtherEntry k = absurd k
owed_is limits l marks Ran RanEntry k = refl
owed_is limits l marks Ran (ForkedEntry s) k = absurd k
owed_is limits l marks (Forked f) OtherEntry k = absurd k
owed_is limits l marks (Forked f) RanEntry k = absurd k
owed_is limits l marks (Forked f) (ForkedEntry s) k =
    ap (λ b. cond b (OwesMark f.task) (owed_to_marks l marks)) (begins_is l f s k limits) ∙ ap (λ u. cond (is_to_mark limits l s) (OwesMark u) (owed_to_marks l marks)) k.task

-- a record without its last marking, which is over
pub drop_keeps : (l : Ledger) (q q' : Pace) (f : Fork) (x : WorkerPace) → q'.previous ≡ q.previous → q.marks.items ≡ q'.marks.items ++ f ∷ [] → is_going l f ≡ false → KeepsPace l q x → KeepsPace l q' x
drop_keeps l q q' f x ep em off K = record {
  previous = subst (λ a. KeepsPrevious l a x.previous) (sym ep) K.previous;
  marks = drop_last l q'.marks.items f x.marks off (subst (λ (fs : List Fork). KeepsMarks l fs x.marks) em K.marks);
}
