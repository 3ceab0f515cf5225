use Rattle.program_reader.proofs.Common.{ap, ◌∙◌, sym, not, ◌≡◌, true, false, Bool, is_some, with_name}
use Rattle.program_reader.proofs.Tables.{added_last, kept_all, shown}
use Rattle.program_reader.proofs.names.NameTable.note.Goals as goal

turned : (a b : Bool) → a ≡ not b → b ≡ true → a ≡ false
turned a b e f = e ∙ ap not f

turned_back : (a b : Bool) → a ≡ not b → b ≡ false → a ≡ true
turned_back a b e f = e ∙ ap not f

pub returns-in_ok-insert-clause-ok : goal.returns-in_ok-insert-clause-ok
returns-in_ok-insert-clause-ok c =
    ap shown c.in_ok-insert.ensures.entries
    ∙ added_last c.args.name c.args.number c.self.inside.numbers (sym c.get_index_of.ensures.found ∙ turned (is_some c.get_index_of.result) c.is_none.result c.is_none.ensures c.if-is_none.true)
    ∙ ap (λ es. with_name es c.args.name.now c.args.number) c.self.view_is

pub returns-else-is_none-clause-ok : goal.returns-else-is_none-clause-ok
returns-else-is_none-clause-ok c =
    sym c.self.view_is
    ∙ kept_all c.args.name.now c.args.number c.self.inside.numbers.entries (sym c.get_index_of.ensures.found ∙ turned_back (is_some c.get_index_of.result) c.is_none.result c.is_none.ensures c.if-is_none.false)
    ∙ ap (λ es. with_name es c.args.name.now c.args.number) c.self.view_is
