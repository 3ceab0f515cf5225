use Rattle.log_places.proofs.Numbering.{page_found, page_absent}
use Rattle.log_places.proofs.numbers.Numbers.page.Goals as goal

pub returns-clause-some : goal.returns-clause-some
returns-clause-some c =
    page_found c.args.self.now c.self.inside.known.keys c.self.inside.pages.items c.args.key c.get_index_of.result c.self.view_is c.get_index_of.ensures.index

pub returns-clause-none : goal.returns-clause-none
returns-clause-none c =
    page_absent c.args.self.now c.self.inside.known.keys c.self.inside.pages.items c.args.key c.get_index_of.result c.self.view_is c.get_index_of.ensures.index
