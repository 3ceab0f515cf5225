use Rattle.shared_image.proofs.Common.{◌++◌, map, take_all, ap, sym, subst, ◌∙◌, slice_get-get_or, In, SharedValue, drawn_object}
use Rattle.heap_picture.proofs.Rounds.{objects_step, words_all, words_step}
use Rattle.shared_image.proofs.picture.draw_objects.Goals as goal

pub loop-chunk-preserved : goal.loop-chunk-preserved
loop-chunk-preserved c =
    let w : SharedValue = c.args.shared.now in
    let cs = c.args.in_use.now in
    let i = c.loop-chunk.chunk-index in
    let is = slice_get-get_or cs i _ c.loop-chunk-test.true in
    record {
      objects = objects_step w c.stands.ensures cs i _ c.requires is c.loop-chunk.objects c.add_objects.new.objects c.loop-chunk.invariant.objects (c.in_ok-add_objects.ensures ∙ ap (λ zs. c.loop-chunk.objects ++ map drawn_object zs) c.in_ok-seen.ensures.objects);
      words = words_step w c.stands.ensures cs i _ c.requires is c.loop-chunk.invariant.words c.in_ok-seen.ensures.words;
    }

pub returns-clause-words : goal.returns-clause-words
returns-clause-words c = words_all c.args.shared.now c.stands.ensures c.args.in_use.now c.requires (λ d i. c.loop-chunk.invariant.words d (subst (λ zs. In zs d) (sym (take_all c.loop-chunk.chunk-index c.args.in_use.now c.loop-chunk-test.false)) i))
