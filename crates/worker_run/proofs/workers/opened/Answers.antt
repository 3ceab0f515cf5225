use Rattle.worker_run.proofs.Common.{rules, ℕ, ◌≡◌, ◌<◌, ◌^◌, Some, refl, sym, ap, subst, vec_len, ◌∙◌, opening_view, identity, Run, journal_of, setup_of, AreHands, HaveRoot}
use Rattle.worker_run.proofs.Finding.{root_hands}
use Rattle.worker_run.proofs.Giving.{same_text}
use Rattle.worker_run.proofs.Rows.{new_worker_states}
use Rattle.worker_run.proofs.workers.opened.Goals as goal

pub worker_states_of-requires-clause-hands : goal.worker_states_of-requires-clause-hands
worker_states_of-requires-clause-hands g c =
    let many : c.workers-workers.result ≡ vec_len c.in_ok-turn.seats = search rules in
    subst (λ (n : ℕ). AreHands n c.in_ok-hands.hands.items) many (root_hands c.workers-workers.result c.in_ok-hands.hands.items c.in_ok-hands.ensures)

pub returns-clause-new : goal.returns-clause-new
returns-clause-new g c =
    let many : c.workers-workers.result ≡ c.args.settings.workers = c.workers-workers.ensures.value in
    record {
      new = c.in_ok-worker_states.ensures.new;
      hands = subst (HaveRoot c.args.settings.workers) (sym c.in_ok-worker_states.ensures.hands) (subst (λ (n : ℕ). HaveRoot n c.in_ok-hands.hands.items) many c.in_ok-hands.ensures);
    }

pub returns-clause-all : goal.returns-clause-all
returns-clause-all g c =
    let opening : Run g.row.P.Denot = c.new-2.result in
    let s = c.args.settings in
    let many = c.workers-workers.ensures.value in
    let some : 0 < c.workers-workers.result = search rules in
    let few : s.workers < 2 ^ 32 = search rules in
    new_worker_states (identity c.in_ok-turn.turn) (opening_view (journal_of g.P.EntryCalls.value) (setup_of g.P.EntryCalls.value) opening) c.workers-workers.result c.args.program.now s c.in_ok-turn.seats.items c.in_ok-worker_states.worker_states.items some many few
    (ap (journal_of g.P.EntryCalls.value) c.new-2.ensures ∙ c.in_ok-paced.ensures.journal) refl (ap (λ (r : Run g.row.P.Denot). Some (setup_of g.P.EntryCalls.value r)) c.new-2.ensures ∙ ap Some (same_text (g.P.EntryCalls.value c.in_ok-paced.paced) c.args.program.now s c.in_ok-paced.ensures.program c.in_ok-paced.ensures.settings)) c.in_ok-turn.ensures
    c.in_ok-worker_states.ensures.seats c.in_ok-worker_states.ensures.new
