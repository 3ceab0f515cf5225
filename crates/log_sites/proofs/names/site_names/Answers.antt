use Rattle.log_sites.proofs.Common.{◌∙◌, ℕ, sym, refl, name_of}
use Rattle.log_sites.proofs.Known.{file_next, files_last}
use Rattle.log_sites.proofs.names.site_names.Goals as goal

pub loop-text-preserved : goal.loop-text-preserved
loop-text-preserved c = λ s.
    file_next s c.args.texts.now c.loop-text.text-index c.text-item.result c.as_slice.result.now (name_of c.loop-text.names s) (name_of c.take_text.new.self s) c.loop-text-test.true c.text-item.is c.as_slice.ensures (c.in_ok-take_text.ensures s)
    ∙ c.loop-text.invariant s
