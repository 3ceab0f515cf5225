use Rattle.mark_sweep_gc.proofs.Common.{◌≡◌, Some, sym, ◌∙◌, subst, HasObjectAt, IsSoundReference}
use Rattle.mark_sweep_gc.proofs.Finding as finding
use Rattle.mark_sweep_gc.proofs.marking.Marking.visit.Goals as goal

pub note-requires-clause-slots : goal.note-requires-clause-slots
note-requires-clause-slots c = finding.has_slot c.args.heap.now.chunks c.args.self.now c.requires.room

pub note-requires-clause-spare : goal.note-requires-clause-spare
note-requires-clause-spare c = finding.has_spare c.args.heap.now.chunks c.args.self.now c.requires.room

pub returns-then-owns-clause-finds : goal.returns-then-owns-clause-finds
returns-then-owns-clause-finds c =
    let sound : IsSoundReference c.args.heap.now.chunks (Some c.in-Some.address) = subst (IsSoundReference c.args.heap.now.chunks) c.in-Some.is c.requires.sound in
    let held = finding.owned_held c.args.heap.now.chunks c.in-Some.address sound (sym c.owns.ensures ∙ c.if-owns.true) in
    finding.finds_noted (λ a. HasObjectAt c.args.heap.now.chunks a × (c.args.reference ≡ Some a)) c.args.self.now c.note.new.self c.in-Some.address
    (held, c.in-Some.is)
    (λ x p. finding.some_same (sym c.in-Some.is ∙ p.1))
    c.note.ensures.found c.note.ensures.marked c.note.ensures.followed

pub returns-then-owns-clause-room : goal.returns-then-owns-clause-room
returns-then-owns-clause-room c =
    let sound : IsSoundReference c.args.heap.now.chunks (Some c.in-Some.address) = subst (IsSoundReference c.args.heap.now.chunks) c.in-Some.is c.requires.sound in
    let held = finding.owned_held c.args.heap.now.chunks c.in-Some.address sound (sym c.owns.ensures ∙ c.if-owns.true) in
    finding.room_noted c.args.heap.now.chunks c.args.self.now c.note.new.self c.in-Some.address c.requires.room held
    c.note.ensures.found c.note.ensures.slots c.note.ensures.spare c.note.ensures.places

pub returns-else-owns-clause-finds : goal.returns-else-owns-clause-finds
returns-else-owns-clause-finds c =
    finding.finds_none (λ a. HasObjectAt c.args.heap.now.chunks a × (c.args.reference ≡ Some a)) c.args.self.now
    (λ a p. absurd (finding.not_owned c.args.heap.now.chunks c.in-Some.address (sym c.owns.ensures ∙ c.if-owns.false) (subst (HasObjectAt c.args.heap.now.chunks) (sym (finding.some_same (sym c.in-Some.is ∙ p.1))) p.0)))
