use Rattle.page_data.proofs.Common.{codes, on_ok_weaker, word_with_number}
use Rattle.page_data.proofs.Pieces.{three}
use Rattle.page_data.proofs.run.add_three.Goals as goal

pub returns : goal.returns
returns c =
    on_ok_weaker c.add_named-3.result
    (three c.args.text.now.items (word_with_number (codes "{\"workers\":") c.args.workers) (word_with_number (codes ",\"fuel\":") c.args.fuel) (word_with_number (codes ",\"chunks\":") c.args.chunks)
    c.add_named.new.text.items c.add_named-2.new.text.items c.add_named-3.new.text.items
    c.in_ok-add_named.ensures c.in_ok-add_named-2.ensures)
    c.add_named-3.ensures
