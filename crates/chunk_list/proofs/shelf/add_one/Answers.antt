use Rattle.chunk_list.proofs.Common.{◌≡◌, ◌∙◌, ℕ, None, Option, ap, cond, eqb, option_or, on_ok_weaker, PieceValue, level_of, piece_in}
use Rattle.chunk_list.proofs.ViewLemmas as view
use Rattle.chunk_list.proofs.shelf.add_one.Goals as goal

pub returns-in-None : goal.returns-in-None
returns-in-None c = λ n. view.none_added c.args.chunks.now c.args.base c.args.number (c.in-None.ensures.value ∙ c.requires.table c.args.number) n (piece_in c.args.layer.now n)

pub returns-in-Some : goal.returns-in-Some
returns-in-Some c =
    let ks = c.args.chunks.now in
    let new = view.one_added ks c.args.base c.args.number c.in-Some.before.now c.index-chunks-base.result c.requires.base (c.in-Some.ensures.value ∙ c.requires.table c.args.number) c.index-chunks-base.is in
    on_ok_weaker {Q = (n : ℕ) → piece_in c.add.new.self n ≡ option_or (piece_in c.args.layer.now n) (cond (eqb c.args.number n) (piece_in (level_of ks) n) None)} c.add.result
    (λ adds n. adds n ∙ ap (λ (o : Option PieceValue). option_or (piece_in c.args.layer.now n) o) (new n)) c.add.ensures
