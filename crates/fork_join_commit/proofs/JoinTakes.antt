-- Slots that a join takes from and puts into, one after another.
use Rattle.fork_join_commit.proofs.Common.{◌≡◌, ℕ, ◌<◌, false, Option, Some, None, List, length, length-set, slice_get, slice_set, option_map, ap, sym, subst, ◌∙◌, option_flatten, got_other, got_set, LeafHeapValue, FramesValue, SetOf, bare_noted, Content, content_at, content_of, MarkingValue, Private, TaskSlot, ParkedTask, Calls, TaskSlotsValue, marks_at, rest_at, nothing_noted, RestsJoin}

-- nothing is left of a task
abbrev pub left_by : TaskSlotsValue → ℕ → TaskSlotsValue
left_by h t = record h { rests = slice_set h.rests t None; sets = slice_set h.sets t (bare_noted false); marks = slice_set h.marks t None; blocks = slice_set h.blocks t false }

-- all that belongs to both children is taken, and the parked state of their parent, and what is noted for its heap
pub record TaskSlotsTaken (h h1 h2 h3 h4 : TaskSlotsValue) (t s q : ℕ) (own beside : TaskSlot) (above : ParkedTask) (set : SetOf) : Type 0 where
  pub own_set : slice_get h.sets t ≡ Some own.set
  pub own_left : h1 ≡ left_by h t
  pub beside_rest : beside.rest ≡ rest_at h1.rests s
  pub beside_set : slice_get h1.sets s ≡ Some beside.set
  pub beside_left : h2 ≡ left_by h1 s
  pub above_is : rest_at h2.rests q ≡ Some above
  pub rest_taken : h3 ≡ record h2 { rests = slice_set h2.rests q None }
  pub set_is : slice_get h3.sets q ≡ Some set
  pub set_taken : h4 ≡ record h3 { sets = slice_set h3.sets q (bare_noted false) }

-- and both are put for the parent
pub record TaskSlotsPut (h4 h5 h6 : TaskSlotsValue) (q : ℕ) (rest : ParkedTask) (set : SetOf) : Type 0 where
  pub rest_put : h5 ≡ record h4 { rests = slice_set h4.rests q (Some rest) }
  pub set_put : h6 ≡ record h5 { sets = slice_set h5.sets q set }

module _ (h h1 h2 h3 h4 : TaskSlotsValue) (p : Private) (s q : ℕ) (own beside : TaskSlot) (above : ParkedTask) (set : SetOf) (T : TaskSlotsTaken h h1 h2 h3 h4 p.task s q own beside above set) where
  abbrev t : ℕ
  t = p.task

  rests_two : h2.rests ≡ slice_set (slice_set h.rests t None) s None
  rests_two = ap (λ (z : TaskSlotsValue). z.rests) T.beside_left ∙ ap (λ (z : TaskSlotsValue). slice_set z.rests s None) T.own_left

  sets_two : h3.sets ≡ slice_set (slice_set h.sets t (bare_noted false)) s (bare_noted false)
  sets_two = ap (λ (z : TaskSlotsValue). z.sets) T.rest_taken ∙ (ap (λ (z : TaskSlotsValue). z.sets) T.beside_left ∙ ap (λ (z : TaskSlotsValue). slice_set z.sets s (bare_noted false)) T.own_left)

  -- WHAT IS TAKEN
  pub beside_was : (s ≡ t → ⊥) → beside.rest ≡ rest_at h.rests s
  beside_was st = T.beside_rest ∙ (ap (λ (z : TaskSlotsValue). rest_at z.rests s) T.own_left ∙ ap option_flatten (got_other h.rests t s None st))

  pub beside_set_was : (s ≡ t → ⊥) → slice_get h.sets s ≡ Some beside.set
  beside_set_was st = sym (got_other h.sets t s (bare_noted false) st) ∙ (sym (ap (λ (z : TaskSlotsValue). slice_get z.sets s) T.own_left) ∙ T.beside_set)

  pub above_was : (q ≡ t → ⊥) → (q ≡ s → ⊥) → rest_at h.rests q ≡ Some above
  above_was qt qs =
      sym (ap option_flatten (got_other (slice_set h.rests t None) s q None qs ∙ got_other h.rests t q None qt))
      ∙ (sym (ap (λ (xs : List (Option ParkedTask)). rest_at xs q) rests_two) ∙ T.above_is)

  pub set_was : (q ≡ t → ⊥) → (q ≡ s → ⊥) → slice_get h.sets q ≡ Some set
  set_was qt qs =
      sym (got_other (slice_set h.sets t (bare_noted false)) s q (bare_noted false) qs ∙ got_other h.sets t q (bare_noted false) qt)
      ∙ (sym (ap (λ (xs : List SetOf). slice_get xs q) sets_two) ∙ T.set_is)

  -- WHAT IS THERE AFTERWARDS
  module _ (h5 h6 : TaskSlotsValue) (rest : ParkedTask) (put : SetOf) (P : TaskSlotsPut h4 h5 h6 q rest put) where
    rests_then : h6.rests ≡ slice_set (slice_set (slice_set (slice_set h.rests t None) s None) q None) q (Some rest)
    rests_then =
        ap (λ (z : TaskSlotsValue). z.rests) P.set_put
        ∙ (ap (λ (z : TaskSlotsValue). z.rests) P.rest_put
        ∙ (ap (λ (z : TaskSlotsValue). slice_set z.rests q (Some rest)) T.set_taken
        ∙ (ap (λ (z : TaskSlotsValue). slice_set z.rests q (Some rest)) T.rest_taken
        ∙ ap (λ (xs : List (Option ParkedTask)). slice_set (slice_set xs q None) q (Some rest)) rests_two)))

    sets_then : h6.sets ≡ slice_set (slice_set (slice_set (slice_set h.sets t (bare_noted false)) s (bare_noted false)) q (bare_noted false)) q put
    sets_then =
        ap (λ (z : TaskSlotsValue). z.sets) P.set_put
        ∙ (ap (λ (z : TaskSlotsValue). slice_set z.sets q put) P.rest_put
        ∙ (ap (λ (z : TaskSlotsValue). slice_set z.sets q put) T.set_taken
        ∙ ap (λ (xs : List SetOf). slice_set (slice_set xs q (bare_noted false)) q put) sets_two))

    marks_then : h6.marks ≡ slice_set (slice_set h.marks t None) s None
    marks_then =
        ap (λ (z : TaskSlotsValue). z.marks) P.set_put
        ∙ (ap (λ (z : TaskSlotsValue). z.marks) P.rest_put
        ∙ (ap (λ (z : TaskSlotsValue). z.marks) T.set_taken
        ∙ (ap (λ (z : TaskSlotsValue). z.marks) T.rest_taken
        ∙ (ap (λ (z : TaskSlotsValue). z.marks) T.beside_left ∙ ap (λ (z : TaskSlotsValue). slice_set z.marks s None) T.own_left))))

    pub unmarked : (u : ℕ) → (u ≡ t → ⊥) → (u ≡ s → ⊥) → marks_at h6.marks u ≡ marks_at h.marks u
    unmarked u nt ns = ap (λ (ms : List (Option MarkingValue)). marks_at ms u) marks_then ∙ ap option_flatten (got_other (slice_set h.marks t None) s u None ns ∙ got_other h.marks t u None nt)

    pub sets_many : length h6.sets ≡ length h.sets
    sets_many =
        ap (λ (xs : List SetOf). length xs) sets_then
        ∙ (length-set (slice_set (slice_set (slice_set h.sets t (bare_noted false)) s (bare_noted false)) q (bare_noted false)) q put
        ∙ (length-set (slice_set (slice_set h.sets t (bare_noted false)) s (bare_noted false)) q (bare_noted false)
        ∙ (length-set (slice_set h.sets t (bare_noted false)) s (bare_noted false) ∙ length-set h.sets t (bare_noted false))))

    away : (u : ℕ) → (u ≡ q → ⊥) → content_at h6.sets u ≡ content_at (slice_set (slice_set h.sets t (bare_noted false)) s (bare_noted false)) u
    away u nq =
        ap (λ (xs : List SetOf). content_at xs u) sets_then
        ∙ ap (option_map content_of) (got_other (slice_set (slice_set (slice_set h.sets t (bare_noted false)) s (bare_noted false)) q (bare_noted false)) q u put nq ∙ got_other (slice_set (slice_set h.sets t (bare_noted false)) s (bare_noted false)) q u (bare_noted false) nq)

    pub set_others : (u : ℕ) → (u ≡ q → ⊥) → (u ≡ t → ⊥) → (u ≡ s → ⊥) → content_at h6.sets u ≡ content_at h.sets u
    set_others u nq nt ns = away u nq ∙ ap (option_map content_of) (got_other (slice_set h.sets t (bare_noted false)) s u (bare_noted false) ns ∙ got_other h.sets t u (bare_noted false) nt)

    pub own_empty : (q ≡ t → ⊥) → (s ≡ t → ⊥) → t < length h.sets → content_at h6.sets t ≡ Some nothing_noted
    own_empty qt st lt =
        away t (λ e. qt (sym e))
        ∙ ap (option_map content_of) (got_other (slice_set h.sets t (bare_noted false)) s t (bare_noted false) (λ e. st (sym e)) ∙ got_set h.sets t (bare_noted false) lt)

    pub beside_empty : (q ≡ s → ⊥) → s < length h.sets → content_at h6.sets s ≡ Some nothing_noted
    beside_empty qs lt =
        away s (λ e. qs (sym e))
        ∙ ap (option_map content_of) (got_set (slice_set h.sets t (bare_noted false)) s (bare_noted false) (subst (λ n. s < n) (sym (length-set h.sets t (bare_noted false))) lt))

    pub parent_set : q < length h.sets → (c : Content) → content_of put ≡ c → content_at h6.sets q ≡ Some c
    parent_set lt c e =
        let long : length (slice_set (slice_set (slice_set h.sets t (bare_noted false)) s (bare_noted false)) q (bare_noted false)) ≡ length h.sets =
        length-set (slice_set (slice_set h.sets t (bare_noted false)) s (bare_noted false)) q (bare_noted false)
        ∙ (length-set (slice_set h.sets t (bare_noted false)) s (bare_noted false) ∙ length-set h.sets t (bare_noted false)) in
        ap (λ (xs : List SetOf). content_at xs q) sets_then
        ∙ (ap (option_map content_of) (got_set (slice_set (slice_set (slice_set h.sets t (bare_noted false)) s (bare_noted false)) q (bare_noted false)) q put (subst (λ n. q < n) (sym long) lt)) ∙ ap Some e)

    rest_off : (u : ℕ) → (u ≡ q → ⊥) → rest_at h6.rests u ≡ rest_at (slice_set (slice_set h.rests t None) s None) u
    rest_off u nq =
        ap (λ (xs : List (Option ParkedTask)). rest_at xs u) rests_then
        ∙ ap option_flatten (got_other (slice_set (slice_set (slice_set h.rests t None) s None) q None) q u (Some rest) nq ∙ got_other (slice_set (slice_set h.rests t None) s None) q u None nq)

    two_long : length (slice_set (slice_set h.rests t None) s None) ≡ length h.rests
    two_long = length-set (slice_set h.rests t None) s None ∙ length-set h.rests t None

    three_long : length (slice_set (slice_set (slice_set h.rests t None) s None) q None) ≡ length h.rests
    three_long = length-set (slice_set (slice_set h.rests t None) s None) q None ∙ two_long

    pub rests_join : (frames : FramesValue) (heap : LeafHeapValue) → (q ≡ t → ⊥) → (q ≡ s → ⊥) → (s ≡ t → ⊥) → t < length h.rests → s < length h.rests → q < length h.rests
        → rest ≡ record above { work = Calls frames; heap = heap } → RestsJoin h.rests h6.rests p q s frames heap above
    rests_join frames heap qt qs st own_made other_made made er = record {
      many = ap (λ (xs : List (Option ParkedTask)). length xs) rests_then ∙ (length-set (slice_set (slice_set (slice_set h.rests t None) s None) q None) q (Some rest) ∙ three_long);
      parent_slot = ap (λ (xs : List (Option ParkedTask)). rest_at xs q) rests_then
          ∙ (ap option_flatten (got_set (slice_set (slice_set (slice_set h.rests t None) s None) q None) q (Some rest) (subst (λ n. q < n) (sym three_long) made)) ∙ ap Some er);
      own_slot = rest_off t (λ e. qt (sym e)) ∙ ap option_flatten (got_other (slice_set h.rests t None) s t None (λ e. st (sym e)) ∙ got_set h.rests t None own_made);
      other_slot = rest_off s (λ e. qs (sym e)) ∙ ap option_flatten (got_set (slice_set h.rests t None) s None (subst (λ n. s < n) (sym (length-set h.rests t None)) other_made));
      others = λ u nq nt ns. rest_off u nq ∙ ap option_flatten (got_other (slice_set h.rests t None) s u None ns ∙ got_other h.rests t u None nt);
    }
