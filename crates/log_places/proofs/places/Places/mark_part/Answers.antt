use Rattle.log_places.proofs.Common.{◌≡◌, ◌-◌, ◌*◌, arith, page_key}
use Rattle.log_places.proofs.Cutting.{page_keeps, page_cut, part_cut}
use Rattle.log_places.proofs.places.Places.mark_part.Goals as goal
use Rattle.log_places.proofs.places.Places.mark_part.Goals.{then-base-start, else-base-start}

pub returns-clause-keeps : goal.returns-clause-keeps
returns-clause-keeps c =
    page_keeps c.args.self.now c.mark_page.new.self (page_key c.args.block c.args.page) c.if-base-start.first c.min-last.result c.mark_page.ensures.others
    c.mark_page.result c.mark_page.ensures.ok c.mark_page.ensures.err c.mark_page.ensures.order

pub returns-clause-cut : goal.returns-clause-cut
returns-clause-cut c =
    let is_first : c.if-base-start.first ≡ c.args.start - c.args.page * 4096 =
    elim c.if-base-start.branch [ then-base-start w ↦ omega arith | else-base-start w ↦ omega arith ] in
    part_cut c.mark_page.result c.mark_page.new.self c.args.block c.args.page c.args.start c.args.end c.if-base-start.first c.min-last.result
    is_first (omega arith)
    (page_cut c.args.self.now c.mark_page.new.self (page_key c.args.block c.args.page) c.if-base-start.first c.min-last.result c.mark_page.ensures.others
    c.mark_page.result c.mark_page.ensures.ok c.mark_page.ensures.order)
