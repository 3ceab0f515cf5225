-- A report is empty if and only if there is no race.
use Rattle.schedule_report.proofs.Common.{◌≡◌, ℕ, List, [], ◌∷◌, inl, refl, contains_from_in, in_from_contains, Edge, FieldAccess, Race, IsPair, IsReport, HasNoRace}

pub none_races : (es : List Edge) (all : List FieldAccess) (rs : List Race) → IsReport es all rs → rs ≡ [] → HasNoRace es all
none_races es all [] R e field i j u v r = let pair = R.every field i j u v r in in_from_contains [] _ pair.3
none_races es all (x ∷ rs) R e field i j u v r = absurd cc

pub empty_report : (es : List Edge) (all : List FieldAccess) (rs : List Race) → IsReport es all rs → HasNoRace es all → rs ≡ []
empty_report es all [] R none = refl
empty_report es all (r ∷ rs) R none =
    let e = R.each r (contains_from_in (r ∷ rs) r (inl refl)) in
    let P : IsPair es all e.0 e.1 e.2 = e.3 in
    absurd (none e.0 P.i P.j e.1 e.2 P.race)
