-- Small logs aren't too large.
use Rattle.log_size_laws.proofs.Common.{◌≡◌, ◌*◌, ◌-◌, ◌^◌, ◌<◌, ◌≤◌, ℕ, Bool, List, length, refl, arith, mul-le-mul, inl, inr, sum, tasks_in, events_of, LogIsTooLarge, order_of, Extent, IsLog, LogTasks, weights_of, ReportError, TooLong, TooManyStretches, TooMuchWork, TooManyWords, NoMemory, IsSmallLog, SmallLogsAreNotTooLarge, work_told}
use Rattle.log_size_laws.proofs.Strands.{few_strands}
use Rattle.log_size_laws.proofs.Weights.{little_work}
use Rattle.log_size_laws.proofs.Places.{few_stretches}
use Rattle.log_size_laws.proofs.Words.{fitting_words}

-- few things of little weight weigh little
fits : (n weight total : ℕ) → n ≤ 2 ^ 32 → weight < 2 ^ 32 → total ≤ n * weight → total < 2 ^ 64
fits n weight total few little at =
    let below : weight ≤ 4294967295 = omega (arith, little) in
    let most : n * weight ≤ 4294967296 * 4294967295 = mul-le-mul few below in
    omega (arith, at, most)

module _ (texts : List (List ℕ)) (extent : Extent) (log : LogTasks) (is : IsLog (events_of texts) extent log) (small : IsSmallLog (events_of texts) log) where
  strands : length (order_of log) ≤ 2 ^ 32
  strands =
      let at = few_strands (tasks_in log.turns) (length log.turns) is.nested.nested is.nested.some is.nested.below in
      let tasks = small.tasks in
      omega (arith, at, tasks)

  not_large : (asked : Bool) (cause : ReportError) → LogIsTooLarge asked texts log cause → cause ≡ NoMemory
  not_large asked TooLong (inl many) = absurd (let s = strands in omega (arith, many, s))
  not_large asked TooLong (inr many) = absurd (let s = small.few in omega (arith, many, s))
  not_large asked TooManyStretches over = absurd (few_stretches (events_of texts) (2 ^ 64 - 1) small.acts (let s = small.few in omega (arith, s)) over)
  not_large asked TooMuchWork much =
      let total = fits (length (order_of log)) (work_told (events_of texts)) (sum (weights_of (events_of texts) log (order_of log))) strands small.work (little_work (events_of texts) log (order_of log)) in
      absurd (omega (arith, much, total))
  not_large asked TooManyWords many = absurd (fitting_words (events_of texts) log small.acts small.few many.1)
  not_large asked NoMemory any = refl

pub small_logs_are_not_too_large : SmallLogsAreNotTooLarge
small_logs_are_not_too_large texts extent log is small asked cause large = not_large texts extent log is small asked cause large
