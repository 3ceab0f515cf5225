-- The results of runs by workers.
use Rattle.command_core.proofs.Common.{◌≡◌, true, refl, sym, subst, Option, Some, None, IfSome, ProgramText, SettingsValue, is_paced, Extras, SharedValue, without_journal, IsRunOf, Answer, Wanted, Amid, IsWanted, remains_of, IsReplayedRun, IsWorkersRun, LeavesPaced, handed}

-- a run by workers has ended in this way
pub workers_run : (p : ProgramText) (s : SettingsValue) (extras : Extras) (w : SharedValue) (a : Answer) → IsRunOf p s w → IsReplayedRun w.program w.settings extras w.journal.items a
    → IsWorkersRun p s extras a
workers_run p s extras w a run h =
    let at : IsReplayedRun p s extras w.journal.items a =
    subst (λ l. IsReplayedRun p l extras w.journal.items a) run.settings (subst (λ q. IsReplayedRun q w.settings extras w.journal.items a) run.program h) in
    (at.0, subst (λ j. is_paced p s j ≡ true) (sym at.1) run.paced)

-- an allocation failed during it
pub workers_left : (p : ProgramText) (s : SettingsValue) (w : SharedValue) (found : Wanted) → IsRunOf p s w → found ≡ Amid w.journal.items (without_journal w) → IsWanted (LeavesPaced p s) found
workers_left p s w found run is =
    subst (IsWanted (LeavesPaced p s)) (sym is) (handed p s w w.journal.items (Some (without_journal w)) run.stands run.program run.settings refl refl, run.paced)

-- of what they have left, whatever it is
pub left_wanted : (p : ProgramText) (s : SettingsValue) (o : Option SharedValue) (found : Wanted) → IfSome o (IsRunOf p s) → found ≡ remains_of o → IsWanted (LeavesPaced p s) found
left_wanted p s None found run is = subst (IsWanted (LeavesPaced p s)) (sym is) tt
left_wanted p s (Some w) found run is = workers_left p s w found run is
