-- Small facts of the races of a log.
use Rattle.log_races.proofs.Common.{◌≡◌, ◌<◌, ◌+◌, ◌++◌, ◌∷◌, ◌∙◌, ℕ, zero, suc, Option, None, List, [], length, take, get_or, slice_get, refl, sym, ap, arith, take_more, length-take, some_none, GraphStrand, Event, LogTasks, regions_of_events, of_numbers, AreOver, NumberError, OverLimit, NoMemory, told_strand, touches_told, touches_at, touches_from, IsTooLargeFor}
use Rattle.log_races.proofs.Serial.{strand_more}

pub none_there : (xs : List ℕ) (k : ℕ) → slice_get xs k ≡ None → 0 ≡ get_or xs k 0
none_there [] k e = refl
none_there (x ∷ xs) zero e = some_none e
none_there (x ∷ xs) (suc k) e = none_there xs k e

pub over_for : (events : List Event) (limit : ℕ) (e : NumberError) → (e ≡ OverLimit → AreOver (regions_of_events events) limit) → IsTooLargeFor events limit (of_numbers e)
over_for events limit OverLimit f = f refl
over_for events limit NoMemory f = tt

-- the accesses of the strands up to one, and its own
pub told_more : (events : List Event) (log : LogTasks) (order : List GraphStrand) (serial : ℕ) (d : GraphStrand) (told : Option GraphStrand) → serial < length order → told ≡ told_strand log (get_or order serial d)
    → touches_from events log 0 (take serial order) ++ touches_told events told serial ≡ touches_from events log 0 (take (serial + 1) order)
told_more events log order serial d told lt is =
    let n : serial ≡ 0 + length (take serial order) = (let l = length-take serial order in omega (arith, l, lt)) in
    ap (λ o. touches_from events log 0 (take serial order) ++ touches_told events o serial) is
    ∙ (ap (λ s. touches_from events log 0 (take serial order) ++ touches_at events log (get_or order serial d) s) n
    ∙ (sym (strand_more events log 0 (take serial order) (get_or order serial d)) ∙ ap (touches_from events log 0) (sym (take_more order serial d lt))))
