use Rattle.log_told.proofs.table.LineTable.finding.Goals as goal

pub returns : goal.returns
returns c = λ texts wanted is h.
    let line = c.told.ensures texts wanted is h.0 in
    let other = c.told-2.ensures texts wanted is h.1 in
    λ i. record { block = c.args.finding.block; line = line i; other = (other i).at }
