use Rattle.shared_tree.proofs.Common.{Result, refl, sym, ◌∙◌, Vec, Global, Addr, ToChunks, NotEntered, BeginsLeaf}
use Rattle.shared_tree.proofs.HandedOn.{for_memory}
use Rattle.shared_tree.proofs.shared.Shared.leaf_begin.Goals as goal

pub returns-in-Some : goal.returns-in-Some
returns-in-Some c = record { refused = sym c.leaf_begin_refused.ensures ∙ c.in-Some.is; same = refl; back = refl; begun = tt; enters = tt; fits = c.requires.fits; others = tt }

pub returns : goal.returns
returns c = record {
  refused = sym c.leaf_begin_refused.ensures ∙ c.in_default.is;
  same = tt;
  back = tt;
  begun = c.in_ok-enter_begin.ensures.begun;
  enters = c.in_ok-enter_begin.ensures.enters;
  fits = c.enter_begin.ensures.fits;
  others = c.in_ok-enter_begin.ensures.others;
}

pub returns-in_err-enter_begin : goal.returns-in_err-enter_begin
returns-in_err-enter_begin c =
    for_memory (λ (r : Result (Vec Addr Global × ToChunks) NotEntered). BeginsLeaf c.args.self.now c.enter_begin.new.self c.args.worker c.args.part.now c.enter_begin.new.part r)
    (record {
      refused = sym c.leaf_begin_refused.ensures ∙ c.in_default.is;
      same = c.in_err-enter_begin.ensures.same;
      back = c.in_err-enter_begin.ensures.back;
      begun = tt;
      enters = tt;
      fits = c.enter_begin.ensures.fits;
      others = tt;
    })
    c.from_residual.result c.from_residual.ensures.1
