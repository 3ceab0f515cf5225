-- The entangled lines of a log are those told.
use Rattle.std.proofs.Common.{◌≡◌, ◌<◌, ℕ, Option, Some, List, length, slice_get, inl, inr, ap, sym, subst, ◌∙◌, arith}
use Rattle.std.specs.Prelude.{◌↔◌}
use Rattle.std.proofs.lemmas.Bool.{le-leb}
use Rattle.ancestor_laws.proofs.Trees.{up_cases}
use Rattle.ancestor_laws.proofs.Walks.{IsRooted, attached_rooted, rooted_attached}
use Rattle.log_births.specs.Blocks.{born}
use Rattle.log_births.specs.Findings.{DoesToBlock, IsEntangled}
use Rattle.log_births.specs.declared.findings.Finding.{Finding}
use Rattle.log_strands.specs.Places.{is_up_to}
use Rattle.plain_vec.proofs.Members.{got_in}
use Rattle.told_graph_laws.specs.ToldGraph.{AreToldInOrder, IsGraphTold}
use Rattle.told_graph_laws.specs.below.fork_graph.{Extent, GraphStrand, HasStrand, IsAncestor, StrandPrecedes, TaskTurns, strand, tasks_in}
use Rattle.told_graph_laws.specs.below.log_form.{Event}
use Rattle.told_graph_laws.specs.below.log_tasks.{IsLog, LogTasks, log_strand}
use Rattle.told_graph_laws.specs.below.run_log_laws.{IsCutRun}
use Rattle.told_graph_laws.specs.below.run_turn_laws.{Act, turns_told}
use Rattle.told_graph_laws.proofs.Graphs.{logs_tell_graphs, own_task}
use Rattle.told_graph_laws.proofs.Kept.{kept_strand, kept_above, kept_order, event_stands}
use Rattle.told_birth_laws.specs.ToldBirths.{IsToldEntangled, LogBirthsAreTold}

abbrev told_as : GraphStrand → Act → Event
told_as u act = record { strand = u; act = act }

module _ (n : ℕ) (events : List Event) (extent : Extent) (log : LogTasks) (told : AreToldInOrder n events) (cut : IsCutRun (turns_told events) n) (is : IsLog events extent log) where
  abbrev T : TaskTurns
  T = turns_told events

  I : IsGraphTold events extent n log
  I = logs_tell_graphs n events extent log told is

  order_told : (u v : GraphStrand) → HasStrand T v → StrandPrecedes T u v ↔ StrandPrecedes (tasks_in log.turns) u v
  order_told u v st = subst (λ tasks. StrandPrecedes T u v ↔ StrandPrecedes tasks u v) (sym I.turns) (kept_order extent T n cut u v st)

  few : (u : GraphStrand) → IsRooted (tasks_in log.turns) u → u.task < n
  few u r = elim (up_cases (tasks_in log.turns) 0 u.task r.rooted) [
    | inl e ↦ let s = is.nested.some in let z = I.count in omega (arith, e, s, z)
    | inr up ↦ let lt = is.nested.below up.0 up.2.0 u.task up.2.1 in let z = I.count in omega (arith, lt, z)
  ]

  -- where it is told
  named : (u : GraphStrand) → u.task < n → log_strand log.numbers u ≡ u
  named u lt = ap (λ t. strand t u.index) (I.numbers u.task lt)

  stands : (i : ℕ) (e : Event) → slice_get events i ≡ Some e → HasStrand T e.strand
  stands i e at = event_stands events e told.order (got_in events i e at)

  module _ (does : Act → Option ℕ) (b i : ℕ) where
    event_of : (u : GraphStrand) (D : DoesToBlock does events log b i u) → slice_get events i ≡ Some (told_as u D.act)
    event_of u D = D.at ∙ ap (λ v. Some (told_as v D.act)) (named u (few u (attached_rooted (tasks_in log.turns) is.nested.nested.fork_join u D.attached)))

    does_of : (e : Event) → slice_get events i ≡ Some e → does e.act ≡ Some b → DoesToBlock does events log b i e.strand
    does_of e at h =
        let st = stands i e at in
        let lt : e.strand.task < n = (told.tasks e.strand.task).0 (own_task events e (got_in events i e at)) in
        record {
          act = e.act;
          at = at ∙ ap (λ v. Some (told_as v e.act)) (sym (named e.strand lt));
          block = h;
          known = ap (is_up_to e.strand.index) (I.known e.strand.task lt) ∙ le-leb e.strand.index (length (T e.strand.task)) st;
          attached = rooted_attached (tasks_in log.turns) e.strand (record {
            stands = subst (λ tasks. HasStrand tasks e.strand) (sym I.turns) (kept_strand extent T e.strand st);
            rooted = subst (λ tasks. IsAncestor tasks 0 e.strand.task) (sym I.turns) (kept_above extent T e.strand.task (cut.reached e.strand.task lt));
          });
        }

  module _ (sees : Act → Option ℕ) (f : Finding) where
    to_told : IsEntangled sees events log f → IsToldEntangled sees events f
    to_told E =
        let b = event_of born f.block f.other E.birth E.born_there in
        let s = event_of sees f.block f.line E.strand E.seen_here in
        record {
          birth = told_as E.birth E.born_there.act;
          sight = told_as E.strand E.seen_here.act;
          born_there = b;
          seen_here = s;
          bears = E.born_there.block;
          is_seen = E.seen_here.block;
          not_before = λ h. E.not_before ((order_told E.birth E.strand (stands f.line (told_as E.strand E.seen_here.act) s)).0 h);
        }

    from_told : IsToldEntangled sees events f → IsEntangled sees events log f
    from_told R = record {
      birth = R.birth.strand;
      strand = R.sight.strand;
      born_there = does_of born f.block f.other R.birth R.born_there R.bears;
      seen_here = does_of sees f.block f.line R.sight R.seen_here R.is_seen;
      not_before = λ h. R.not_before ((order_told R.birth.strand R.sight.strand (stands f.line R.sight R.seen_here)).1 h);
    }

pub log_births_are_told : LogBirthsAreTold
log_births_are_told n events extent log told cut is sees f = (to_told n events extent log told cut is sees f, from_told n events extent log told cut is sees f)
