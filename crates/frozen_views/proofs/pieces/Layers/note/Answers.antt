use Rattle.std.proofs.Common.{◌∙◌, sym}
use Rattle.frozen_views.proofs.PieceLists as lists
use Rattle.frozen_views.proofs.pieces.Layers.note.Goals as goal

pub returns-then-ends_in-clause-noted : goal.returns-then-ends_in-clause-noted
returns-then-ends_in-clause-noted c = λ e n. lists.known_before c.args.self.now.stale.items c.args.number (rw c.deref.ensures.value at (c.ends_in.ensures c.if-ends_in.true)) n

pub returns-then-len-capacity-clause-noted : goal.returns-then-len-capacity-clause-noted
returns-then-len-capacity-clause-noted c = λ e n. lists.known_before c.args.self.now.stale.items c.args.number (sym (rw c.deref-then-len-capacity.ensures.value at c.has.ensures) ∙ e) n
