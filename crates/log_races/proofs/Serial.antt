-- The accesses of a log come in the serial order of their strands.
use Rattle.log_races.proofs.Common.{◌≡◌, ◌<◌, ◌≤◌, ◌+◌, ◌++◌, ◌∷◌, ◌∙◌, ℕ, suc, Option, Some, None, List, [], AllPairs, length, inl, inr, refl, sym, ap, arith, filter, append_assoc, append-nil, AllPairs-cons, In, flat_in, in_append_cases, all_from, GraphStrand, Event, is_on, LogTasks, touches_of_act, numbered_from, regions_of_events, touches_behind, Touch, act_strand, told_strand, touches_told, touches_at, touches_from}

abbrev strand_of : Touch → ℕ
strand_of t = t.access.strand

-- OF ONE STRAND

behind_strand : (all events : List Event) (u : GraphStrand) (s n : ℕ) (t : Touch) → In (touches_behind (regions_of_events all) u s n events) t → strand_of t ≡ s
behind_strand all events u s n t i =
    let m = flat_in (λ (p : ℕ × Event). touches_of_act (regions_of_events all) s p.0 p.1.act) (filter (λ (p : ℕ × Event). is_on u p.1) (numbered_from n events)) t i in
    act_strand (regions_of_events all) s m.1.0 m.1.1.act t m.3

told_strands : (events : List Event) (o : Option GraphStrand) (s : ℕ) (t : Touch) → In (touches_told events o s) t → strand_of t ≡ s
told_strands events None s t i = absurd i
told_strands events (Some u) s t i = behind_strand events events u s 0 t i

-- OF ALL

module _ (events : List Event) (log : LogTasks) where
  pub within : (s : ℕ) (us : List GraphStrand) (t : Touch) → In (touches_from events log s us) t → (s ≤ strand_of t) × (strand_of t < s + length us)
  within s [] t i = absurd i
  within s (u ∷ us) t i =
      elim (in_append_cases (touches_at events log u s) (touches_from events log (s + 1) us) t i) [
        | inl j ↦ let e = told_strands events (told_strand log u) s t j in (omega (arith, e), omega (arith, e))
        | inr j ↦ let w = within (s + 1) us t j in let a : s + 1 ≤ strand_of t = w.0 in let b : strand_of t < s + 1 + length us = w.1 in (omega arith, omega arith)
      ]

  put_before : (s : ℕ) (xs ys : List Touch) → ((t : Touch) → In xs t → strand_of t ≡ s) → ((t : Touch) → In ys t → s ≤ strand_of t) → AllPairs (λ (t u : Touch). strand_of t ≤ strand_of u) ys
      → AllPairs (λ (t u : Touch). strand_of t ≤ strand_of u) (xs ++ ys)
  put_before s [] ys same later sorted = sorted
  put_before s (x ∷ xs) ys same later sorted =
      AllPairs-cons (λ (t u : Touch). strand_of t ≤ strand_of u) x (xs ++ ys)
      (all_from (λ (u : Touch). strand_of x ≤ strand_of u) (xs ++ ys)
      (λ u i. let e = same x (inl refl) in
      elim (in_append_cases xs ys u i) [
        | inl j ↦ let f = same u (inr j) in omega (arith, e, f)
        | inr j ↦ let f = later u j in omega (arith, e, f)
      ]))
      (put_before s xs ys (λ t i. same t (inr i)) later sorted)

  pub sorted : (s : ℕ) (us : List GraphStrand) → AllPairs (λ (t u : Touch). strand_of t ≤ strand_of u) (touches_from events log s us)
  sorted s [] = λ i j d less there. absurd (omega arith)
  sorted s (u ∷ us) =
      put_before s (touches_at events log u s) (touches_from events log (s + 1) us) (told_strands events (told_strand log u) s)
      (λ t i. let a : s + 1 ≤ strand_of t = (within (s + 1) us t i).0 in omega arith) (sorted (s + 1) us)

  -- one strand more
  pub strand_more : (s : ℕ) (us : List GraphStrand) (u : GraphStrand) → touches_from events log s (us ++ u ∷ []) ≡ touches_from events log s us ++ touches_at events log u (s + length us)
  strand_more s [] u =
      append-nil (touches_at events log u s) ∙ ap (touches_at events log u) (let e : s ≡ s + 0 = omega arith in e)
  strand_more s (v ∷ us) u =
      ap (λ l. touches_at events log v s ++ l) (strand_more (s + 1) us u ∙ ap (λ m. touches_from events log (s + 1) us ++ touches_at events log u m) (let e : s + 1 + length us ≡ s + suc (length us) = omega arith in e))
      ∙ sym (append_assoc (touches_at events log v s) (touches_from events log (s + 1) us) (touches_at events log u (s + suc (length us))))
