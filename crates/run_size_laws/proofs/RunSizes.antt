-- A run's log is small, and its work is the number of steps.
use Rattle.run_size_laws.proofs.Common.{◌≡◌, ◌*◌, ◌^◌, ◌<◌, ◌≤◌, ℕ, true, All, List, [], length, ap, sym, subst, ◌∙◌, arith, sum, le-leb, In, read_in, start, runs_are_counted, EntryValue, IsEntry, IsSmallRun, run_texts, ProgramText, events_of, logs_are_within_limits, logs_tell_runs, events_told, turns_told, Event, file_begin, is_legal, machine_of, tasks_of, lines_of, SettingsValue, field_limit, IsRunTold, logs_are_cut_runs, logs_tell_tasks, IsGraphTold, Extent, HasStrand, IsAncestor, TaskTurns, IsLog, LogTasks, logs_tell_graphs, own_task, event_stands, kept_above, kept_strand, IsSmallLog, work_told, order_of, weights_of, IsKnownAct, knows, told_work, IsSizeOfRun, RunLogsAreSmall}
use Rattle.run_size_laws.proofs.Acts.{run_acts_are_small}
use Rattle.run_size_laws.proofs.Lines.{TellSteps, all_work, entries_tell, few_told}

module _ (p : ProgramText) (s : SettingsValue) (journal : List EntryValue) (legal : is_legal p s journal ≡ true) (entries : All IsEntry journal) (small : IsSmallRun p journal) where
  abbrev told : List Event
  told = events_told (lines_of p s journal)

  abbrev steps : ℕ
  steps = length (tasks_of journal)

  lines_tell : TellSteps steps (lines_of p s journal)
  lines_tell = entries_tell p (start p (field_limit s.version)) journal (λ e i. (read_in IsEntry journal e i entries).1)

  few_acts : length told < 2 ^ 32
  few_acts =
      let lines = lines_tell.0 in
      let acts = few_told (file_begin []) (lines_of p s journal) in
      let few = small.steps in
      omega (arith, lines, acts, few)

  work_is : work_told told ≡ steps
  work_is =
      let lines = lines_tell.1 in
      let all = all_work (file_begin []) (lines_of p s journal) (logs_are_within_limits p s journal legal small) in
      omega (arith, lines, all)

  R : IsRunTold (machine_of p s journal) told
  R = logs_tell_tasks p s journal legal

  module _ (extent : Extent) (log : LogTasks) (is : IsLog told extent log) where
    G : IsGraphTold told extent (length (machine_of p s journal).tasks) log
    G = logs_tell_graphs (length (machine_of p s journal).tasks) told extent log R.tasks is

    few_tasks : 3 * length log.turns ≤ 2 ^ 32
    few_tasks =
        let made = (runs_are_counted p (field_limit s.version) (tasks_of journal)).made in
        let count = G.count in
        let few = small.steps in
        omega (arith, made, count, few)

    small_told : IsSmallLog told log
    small_told = record {
      few = few_acts;
      work = let same = work_is in let few = small.steps in omega (arith, same, few);
      acts = run_acts_are_small p s journal legal;
      tasks = few_tasks;
    }

    -- each act is on a strand of the graph
    known : (e : Event) → In told e → IsKnownAct log e
    known e i =
        let turns : TaskTurns = turns_told told in
        let lt = (R.tasks.tasks e.strand.task).0 (own_task told e i) in
        let stands : HasStrand turns e.strand = event_stands told e R.tasks.order i in
        record {
          stands = subst (λ tasks. HasStrand tasks e.strand) (sym G.turns) (kept_strand extent turns e.strand stands);
          rooted = subst (λ tasks. IsAncestor tasks 0 e.strand.task) (sym G.turns) (kept_above extent turns e.strand.task ((logs_are_cut_runs p s journal legal).reached e.strand.task lt));
          known = ap (λ o. knows o e.strand.index) (G.known e.strand.task lt) ∙ le-leb e.strand.index (length (turns e.strand.task)) stands;
        }

    work_of_steps : sum (weights_of told log (order_of log)) ≡ steps
    work_of_steps =
        told_work log is.nested (λ t lt. G.numbers t (let count = G.count in omega (arith, lt, count))) told known ∙ work_is

    size_told : IsSizeOfRun journal told log
    size_told = record { small = small_told; work = work_of_steps }

pub run_logs_are_small : RunLogsAreSmall
run_logs_are_small p s journal legal entries small extent log is =
    let tells : events_of (run_texts p s journal) ≡ events_told (lines_of p s journal) = (logs_tell_runs p s journal legal small).tells in
    subst (λ events. IsSizeOfRun journal events log) (sym tells) (size_told p s journal legal entries small extent log (subst (λ events. IsLog events extent log) tells is))
