use Rattle.object_layout.proofs.Common.{None, pos, length, ap, sym, subst, ◌∙◌, length-replicate, Cell, IsObject, new_cell, with_ints, with_refs}
use Rattle.object_layout.proofs.FillLemmas as fill
use Rattle.object_layout.proofs.chunk.write_filled.Goals as goal

pub fill_refs-requires-clause-object : goal.fill_refs-requires-clause-object
fill_refs-requires-clause-object c =
    let read = fill.last_read c.args.chunk.now c.args.at c.requires.behind c.write_new.new.chunk (new_cell c.args.header c.args.birth) c.write_new.ensures in
    subst (λ (d : Cell). IsObject d.mark) (sym read) tt

pub fill_refs-requires-clause-fields : goal.fill_refs-requires-clause-fields
fill_refs-requires-clause-fields c =
    let read = fill.last_read c.args.chunk.now c.args.at c.requires.behind c.write_new.new.chunk (new_cell c.args.header c.args.birth) c.write_new.ensures in
    sym c.requires.refs ∙ (sym (length-replicate c.args.header.nrefs None) ∙ ap (λ (d : Cell). length d.refs) (sym read))

pub fill_ints-requires-clause-object : goal.fill_ints-requires-clause-object
fill_ints-requires-clause-object c =
    let refs = fill.last_filled c.args.chunk.now c.args.at c.requires.behind c.write_new.new.chunk c.fill_refs.new.chunk (new_cell c.args.header c.args.birth) (λ d. with_refs d c.args.refs.now) c.write_new.ensures c.fill_refs.ensures in
    let read = fill.last_read c.args.chunk.now c.args.at c.requires.behind c.fill_refs.new.chunk (with_refs (new_cell c.args.header c.args.birth) c.args.refs.now) refs in
    subst (λ (d : Cell). IsObject d.mark) (sym read) tt

pub fill_ints-requires-clause-fields : goal.fill_ints-requires-clause-fields
fill_ints-requires-clause-fields c =
    let refs = fill.last_filled c.args.chunk.now c.args.at c.requires.behind c.write_new.new.chunk c.fill_refs.new.chunk (new_cell c.args.header c.args.birth) (λ d. with_refs d c.args.refs.now) c.write_new.ensures c.fill_refs.ensures in
    let read = fill.last_read c.args.chunk.now c.args.at c.requires.behind c.fill_refs.new.chunk (with_refs (new_cell c.args.header c.args.birth) c.args.refs.now) refs in
    sym c.requires.ints ∙ (sym (length-replicate c.args.header.nints (pos 0)) ∙ ap (λ (d : Cell). length d.ints) (sym read))

pub returns : goal.returns
returns c =
    let refs = fill.last_filled c.args.chunk.now c.args.at c.requires.behind c.write_new.new.chunk c.fill_refs.new.chunk (new_cell c.args.header c.args.birth) (λ d. with_refs d c.args.refs.now) c.write_new.ensures c.fill_refs.ensures in
    fill.last_filled c.args.chunk.now c.args.at c.requires.behind c.fill_refs.new.chunk c.fill_ints.new.chunk (with_refs (new_cell c.args.header c.args.birth) c.args.refs.now) (λ d. with_ints d c.args.ints.now) refs c.fill_ints.ensures
