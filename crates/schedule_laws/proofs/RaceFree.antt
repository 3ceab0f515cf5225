-- Runs in order are those without races and without contending compare and swaps; and the consequences for journals.
use Rattle.schedule_laws.proofs.Common.{◌≡◌, ℕ, true, List, [], inl, inr, refl, ap, sym, ◌∙◌, both_ways, cases_Bool, in_from_contains, ProgramText, field_limit, Edge, Precedes, precedes, run, tasks_of, FieldAccess, accesses, HasNoRace, fork_join_here, JournalsAgree, IsOrdered, OrderedIsRaceFree, SwapsContend}
use Rattle.schedule_laws.proofs.Schedules.{every_end_agrees}

module _ (p : ProgramText) (limit : ℕ) (ts : List ℕ) where
  abbrev edges : List Edge
  edges = (run p limit ts).edges

  abbrev all : List FieldAccess
  all = accesses p limit ts

  forth : IsOrdered p limit ts → HasNoRace edges all × (SwapsContend edges all → ⊥)
  forth h = (
    (λ field i j u v r. r.race.apart (h i j u v r.order r.first r.second (record { field = r.race.field; writes = r.race.writes }))),
    (λ s. s.10 (h s.0 s.1 s.2 s.3 s.4 s.5 s.6 s.7)),
  )

  pub back : HasNoRace edges all → (SwapsContend edges all → ⊥) → IsOrdered p limit ts
  back none calm i j u v lt iu iv C = elim (cases_Bool (precedes edges u.strand v.strand)) [
    | inl yes_then ↦ right.0 yes_then
    | inr not_then ↦
        let apart : Precedes edges u.strand v.strand → ⊥ = λ w. both_ways (precedes edges u.strand v.strand) not_then (right.1 w) in
        absurd (elim (cases_Bool u.swaps) [
          | inr plain ↦ none v.field i j u v (record { order = lt; first = iu; second = iv; of_field = refl; race = record { field = C.field; writes = C.writes; plain = inl plain; apart = apart } })
          | inl swaps ↦ elim (cases_Bool v.swaps) [
            | inr plain ↦ none v.field i j u v (record { order = lt; first = iu; second = iv; of_field = refl; race = record { field = C.field; writes = C.writes; plain = inr plain; apart = apart } })
            | inl swaps' ↦ calm (i, j, u, v, lt, iu, iv, C, swaps, swaps', apart)
          ]
        ])
  ]
    where
      right : (precedes edges u.strand v.strand ≡ true → Precedes edges u.strand v.strand) × (Precedes edges u.strand v.strand → precedes edges u.strand v.strand ≡ true)
      right = (fork_join_here p limit ts).tree.right u.strand v.strand

pub ordered_is_race_free : OrderedIsRaceFree
ordered_is_race_free p limit ts = (forth p limit ts, (λ h. back p limit ts h.0 h.1))

pub journals_agree : JournalsAgree
journals_agree p s s' journal journal' e same done report calm is =
    let ts = tasks_of journal in
    let none : HasNoRace (run p (field_limit s.version) ts).edges (accesses p (field_limit s.version) ts) = λ field i j u v r. (let pair = report.every field i j u v r in in_from_contains [] _ pair.3) in
    every_end_agrees p (field_limit s.version) ts (tasks_of journal') e (record { done = done; ordered = back p (field_limit s.version) ts none calm })
    (ap (λ k. (run p k (tasks_of journal')).end) (sym same) ∙ is)
