use Rattle.std.proofs.Common.{◌≡◌, take, ap, ◌∙◌, ℕ, List}
use Rattle.object_layout.proofs.HoldLemmas as hold
use Rattle.object_layout.proofs.chunk.Chunk.copy.Goals as goal

pub returns : goal.returns
returns c =
    let items : c.in_ok-words.words.items ≡ take c.self.inside.used c.self.inside.words.items = c.in_ok-words.ensures.items ∙ ap (λ (ws : List ℕ). take c.self.inside.used ws) c.deref.ensures.value in
    hold.seen_cut c.self.inside.number c.self.inside.words.items c.self.inside.used c.args.self.now c.self.view_is c.self.invariant c.in_ok-words.words.items items
