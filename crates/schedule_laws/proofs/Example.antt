-- A whole run in order, and another of the same program in which tasks have other numbers: the law isn't vacuous.
use Rattle.schedule_laws.proofs.Common.{◌≡◌, ℕ, pos, ◌&&◌, ◌||◌, not, Bool, true, false, Some, List, [], ◌∷◌, ◌⊎◌, inl, inr, refl, sym, subst, ◌∙◌, and_parts, false≢true, In, Set, Calc, Newm, Geti, Puti, Par, Ret, Out, Add, ProgramText, fun, Edge, Strand, Done, Precedes, precedes, parents, run, FieldAccess, accesses, fork_join_here, Clash, SomeRunSpeaksUp}
use Rattle.schedule_laws.proofs.Splits.{InOrder, from_order}

-- the root makes an object with one number field, writes it and forks two tasks; each forks two, which read the field.
-- The sums are joined, and the root prints 84
p : ProgramText
p = record {
  functions =
      fun (Set 1 (pos 1) ∷ Newm 2 15 1 ∷ Set 2 (pos 21) ∷ Puti 2 15 2 ∷ Par 1 1 ∷ Calc Add 0 0 1 ∷ Out 0 ∷ Ret ∷ [])
      ∷ fun (Par 2 2 ∷ Calc Add 0 0 1 ∷ Ret ∷ [])
      ∷ fun (Geti 0 2 15 ∷ Ret ∷ [])
      ∷ [];
  main = 0;
}

-- the left task forks first, or the right one
ts : List ℕ
ts = 0 ∷ 0 ∷ 0 ∷ 0 ∷ 0 ∷ 1 ∷ 2 ∷ 3 ∷ 3 ∷ 4 ∷ 4 ∷ 5 ∷ 5 ∷ 6 ∷ 6 ∷ 1 ∷ 1 ∷ 2 ∷ 2 ∷ 0 ∷ 0 ∷ 0 ∷ []

us : List ℕ
us = 0 ∷ 0 ∷ 0 ∷ 0 ∷ 0 ∷ 2 ∷ 1 ∷ 3 ∷ 3 ∷ 4 ∷ 4 ∷ 5 ∷ 5 ∷ 6 ∷ 6 ∷ 1 ∷ 1 ∷ 2 ∷ 2 ∷ 0 ∷ 0 ∷ 0 ∷ []

-- TESTS of order

abbrev first_tested : List Edge → FieldAccess → List FieldAccess → Bool
first_tested es a [] = true
first_tested es a (b ∷ bs) = (not (a.writes || b.writes) || precedes es a.strand b.strand) && first_tested es a bs

abbrev tested : List Edge → List FieldAccess → Bool
tested es [] = true
tested es (a ∷ rest) = first_tested es a rest && tested es rest

module _ (es : List Edge) (right : (u v : Strand) → precedes es u v ≡ true → Precedes es u v) where
  pair : (a b : FieldAccess) → (not (a.writes || b.writes) || precedes es a.strand b.strand) ≡ true → Clash a b → Precedes es a.strand b.strand
  pair a b h C = right a.strand b.strand (pair_by_cases a.writes b.writes (precedes es a.strand b.strand) h C.writes)
    where
      pair_by_cases : (x y z : Bool) → (not (x || y) || z) ≡ true → (x ≡ true) ⊎ (y ≡ true) → z ≡ true
      pair_by_cases true y z h w = h
      pair_by_cases false true z h w = h
      pair_by_cases false false z h (inl w) = absurd (false≢true w)
      pair_by_cases false false z h (inr w) = absurd (false≢true w)

  first_right : (a : FieldAccess) (rest : List FieldAccess) → first_tested es a rest ≡ true → (b : FieldAccess) → In rest b → Clash a b → Precedes es a.strand b.strand
  first_right a [] h b i C = absurd i
  first_right a (c ∷ rest) h b (inl e) C =
      let k = and_parts (not (a.writes || c.writes) || precedes es a.strand c.strand) (first_tested es a rest) h in
      subst (λ (w : FieldAccess). Precedes es a.strand w.strand) e (pair a c k.0 (subst (Clash a) (sym e) C))
  first_right a (c ∷ rest) h b (inr j) C = first_right a rest (and_parts (not (a.writes || c.writes) || precedes es a.strand c.strand) (first_tested es a rest) h).1 b j C

  pub in_order : (all : List FieldAccess) → tested es all ≡ true → InOrder es all
  in_order [] h = tt
  in_order (a ∷ rest) h = let k = and_parts (first_tested es a rest) (tested es rest) h in (first_right a rest k.0, in_order rest k.1)

done : (run p 1022 ts).end ≡ Some Done
unfolding p ts
done = refl

done_too : (run p 1022 us).end ≡ Some Done
unfolding p us
done_too = refl

test : tested (run p 1022 ts).edges (accesses p 1022 ts) ≡ true
unfolding p ts
test = refl

left_first : parents (run p 1022 ts).tasks 3 ≡ Some 1
unfolding p ts
left_first = refl

right_first : parents (run p 1022 us).tasks 3 ≡ Some 2
unfolding p us
right_first = refl

pub some_run_speaks_up : SomeRunSpeaksUp
some_run_speaks_up = (
  p,
  1022,
  ts,
  us,
  record {
    done = done;
    ordered = from_order (run p 1022 ts).edges (accesses p 1022 ts) (in_order (run p 1022 ts).edges (λ u v e. ((fork_join_here p 1022 ts).tree.right u v).0 e) (accesses p 1022 ts) test);
  },
  done_too,
  3,
  λ e. (let h : Some 1 ≡ Some 2 = sym left_first ∙ (e ∙ right_first) in cc),
)
