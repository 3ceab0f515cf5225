use Rattle.shared_image.proofs.Common.{sym, subst, IfOk-weaker, SharedValue, IsPictureOf}
use Rattle.heap_picture.proofs.Keeping.{just_kept}
use Rattle.heap_picture.proofs.Rounds.{picture_of}
use Rattle.heap_picture.proofs.Sounds.{picture_sound}
use Rattle.shared_image.proofs.picture.draw_all.Goals as goal

pub returns-clause-drawn : goal.returns-clause-drawn
returns-clause-drawn c =
    let w : SharedValue = c.args.shared.now in
    IfOk-weaker c.whole_picture.result _ _
    (λ p e. subst (IsPictureOf w) (sym e)
    (picture_of w c.stands.ensures c.args.live.now c.args.in_use.now c.in_ok-objects.objects c.in_ok-fields.fields c.requires.live c.requires.in_use c.in_ok-objects.ensures.objects c.in_ok-fields.ensures))
    c.whole_picture.ensures

pub returns-clause-sound : goal.returns-clause-sound
returns-clause-sound c =
    IfOk-weaker c.whole_picture.result _ _ (λ p drawn. picture_sound c.args.shared.now c.stands.ensures c.requires.sized c.in_ok-objects.ensures.words p drawn) (returns-clause-drawn c)

pub returns-clause-held : goal.returns-clause-held
returns-clause-held c =
    IfOk-weaker c.whole_picture.result _ _ (λ p drawn. just_kept c.args.shared.now c.stands.ensures c.in_ok-objects.ensures.words p drawn) (returns-clause-drawn c)
