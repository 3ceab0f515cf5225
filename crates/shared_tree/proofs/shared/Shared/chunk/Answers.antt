use Rattle.shared_tree.proofs.Common.{Result, refl, sym, ◌∙◌, NotEntered, GetsChunk}
use Rattle.shared_tree.proofs.HandedOn.{for_memory}
use Rattle.shared_tree.proofs.shared.Shared.chunk.Goals as goal

pub returns-in-Some : goal.returns-in-Some
returns-in-Some c = record { refused = sym c.chunk_refused.ensures ∙ c.in-Some.is; same = refl; back = refl; rest = refl; enters = tt; fits = c.requires.fits; others = tt }

pub returns : goal.returns
returns c = record {
  refused = sym c.chunk_refused.ensures ∙ c.in_default.is;
  same = tt;
  back = tt;
  rest = c.give_chunk.ensures.rest;
  enters = c.in_ok-give_chunk.ensures.enters;
  fits = c.give_chunk.ensures.fits;
  others = c.in_ok-give_chunk.ensures.others;
}

pub returns-in_err-give_chunk : goal.returns-in_err-give_chunk
returns-in_err-give_chunk c =
    for_memory (λ (r : Result (Unit {0}) NotEntered). GetsChunk c.args.self.now c.give_chunk.new.self c.args.worker c.args.part.now c.give_chunk.new.part r)
    (record {
      refused = sym c.chunk_refused.ensures ∙ c.in_default.is;
      same = c.in_err-give_chunk.ensures.same;
      back = c.in_err-give_chunk.ensures.back;
      rest = c.give_chunk.ensures.rest;
      enters = tt;
      fits = c.give_chunk.ensures.fits;
      others = tt;
    })
    c.from_residual.result c.from_residual.ensures.1
