use Rattle.part_scenes.proofs.Common.{rules, ◌≡◌, start, first_frames, nowhere}
use Rattle.part_scenes.proofs.parts.root_of.Goals as goal

pub returns-then-setup-eq0-clause-fits : goal.returns-then-setup-eq0-clause-fits
returns-then-setup-eq0-clause-fits c =
    let p = c.args.program.now in
    let first : c.in_ok-frames.frames ≡ first_frames p = search rules in
    (start p c.args.setup.fields, nowhere, c.bare_root-part.ensures.fits p first)

pub returns-then-add_first_chunk-clause-fits : goal.returns-then-add_first_chunk-clause-fits
returns-then-add_first_chunk-clause-fits c =
    let p = c.args.program.now in
    let m = start p c.args.setup.fields in
    let first : c.in_ok-frames.frames ≡ first_frames p = search rules in
    (m, nowhere, c.add_first_chunk.ensures.fits c.if-add_first_chunk.true p m (c.bare_root-part.ensures.fits p first))
