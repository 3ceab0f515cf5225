-- The log of a run is refused for no line and no task, nor for its size.
use Rattle.std.proofs.Common.{◌≡◌, Bool, true, false, refl, subst, inl, inr}
use Rattle.log_replies.specs.Shown.{ShowsFault, extent_of, log_extent}
use Rattle.run_answer_laws.specs.Answers.{RunLogsAreAccepted, RunLogsAreReported}
use Rattle.run_refusal_laws.specs.below.fork_graph.{Whole}
use Rattle.run_refusal_laws.proofs.Refused.{runs_have_no_fault}
use Rattle.run_size_laws.specs.below.run_limit_laws.{is_cut, run_texts}
use Rattle.run_size_laws.proofs.RunSizes.{run_logs_are_small}
use Rattle.run_size_laws.proofs.below.log_size_laws.{small_logs_are_not_too_large}

uncut : (b : Bool) → extent_of b ≡ Whole → b ≡ false
uncut true e = absurd cc
uncut false e = refl

pub run_logs_are_accepted : RunLogsAreAccepted
run_logs_are_accepted p s journal legal small names view reply shown =
    let texts = run_texts p s journal in
    let none = runs_have_no_fault p s journal legal small in
    elim (subst (λ fault. ShowsFault names texts view fault reply) none.lines shown) [
      | inl r ↦ absurd (none.tasks (log_extent texts) (uncut (is_cut texts)) r.fault r.is_first)
      | inr rest ↦ rest
    ]

pub run_logs_are_reported : RunLogsAreReported
run_logs_are_reported p s journal legal entries small names view reply shown =
    let texts = run_texts p s journal in
    elim (run_logs_are_accepted p s journal legal small names view reply shown) [
      | inl r ↦
          let fits = (run_logs_are_small p s journal legal entries small (log_extent texts) r.tasks r.are).small in
          absurd (r.no_memory (small_logs_are_not_too_large texts (log_extent texts) r.tasks r.are fits view.heaps r.cause r.too_large))
      | inr report ↦ report
    ]
