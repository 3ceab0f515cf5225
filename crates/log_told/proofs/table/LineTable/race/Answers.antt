use Rattle.log_told.proofs.table.LineTable.race.Goals as goal

pub returns : goal.returns
returns c = λ texts wanted is h.
    let first = c.told.ensures texts wanted is h.0 in
    let second = c.told-2.ensures texts wanted is h.1 in
    λ i. record { block = c.args.found.block; start = c.args.found.slot.start; end = c.args.found.slot.end; first = first i; second = second i }
