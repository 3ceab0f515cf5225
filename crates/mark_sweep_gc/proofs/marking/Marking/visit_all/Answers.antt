use Rattle.mark_sweep_gc.proofs.Common.{◌≡◌, ◌+◌, Contains, get_or, refl, arith, slice_get-get_or, Addr, contains_from_in, got_in_take, in_take}
use Rattle.mark_sweep_gc.proofs.Finding as finding
use Rattle.mark_sweep_gc.proofs.marking.Marking.visit_all.Goals as goal

abbrev none : Addr
none = record { chunk = 0; offset = 0 }

pub note-requires-clause-slots : goal.note-requires-clause-slots
note-requires-clause-slots c =
    let r = c.requires.room in
    finding.has_slot r.0 c.loop-object.self (c.loop-object.invariant.room r.0 r.1 r.2)

pub note-requires-clause-spare : goal.note-requires-clause-spare
note-requires-clause-spare c =
    let r = c.requires.room in
    finding.has_spare r.0 c.loop-object.self (c.loop-object.invariant.room r.0 r.1 r.2)

pub loop-object-preserved : goal.loop-object-preserved
loop-object-preserved c =
    let k = c.loop-object.object-index in
    let object : Addr = get_or c.args.objects.now k none in
    let there : Contains c.args.objects.now object =
    contains_from_in c.args.objects.now object (in_take (k + 1) c.args.objects.now object (got_in_take c.args.objects.now k object (slice_get-get_or c.args.objects.now k none c.loop-object-test.true))) in
    record {
      finds =
          finding.finds_more_at (Contains c.args.objects.now) c.args.objects.now k none c.args.self.now c.loop-object.self c.note.new.self c.loop-object-test.true there
          c.loop-object.invariant.finds
          (finding.finds_noted (λ a. object ≡ a) c.loop-object.self c.note.new.self object refl (λ x p. p) c.note.ensures.found c.note.ensures.marked c.note.ensures.followed);
      room = λ h all was.
          finding.room_noted h c.loop-object.self c.note.new.self object (c.loop-object.invariant.room h all was) (all k none c.loop-object-test.true)
          c.note.ensures.found c.note.ensures.slots c.note.ensures.spare c.note.ensures.places;
    }

pub returns-clause-finds : goal.returns-clause-finds
returns-clause-finds c =
    finding.finds_list (Contains c.args.objects.now) (Contains c.args.objects.now) (λ a. a) c.args.objects.now c.loop-object.object-index c.args.self.now c.loop-object.self (omega arith)
    (λ a p. (p, p)) (λ a p. p.1) c.loop-object.invariant.finds
