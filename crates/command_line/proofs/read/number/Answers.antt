use Rattle.command_line.proofs.Common.{◌∙◌, ap, sym, Option, option_map_or, ExplainsUnsignedError, HasUnsignedDigitsIfOk, ParsesUnsigned, digits_value, without_leading_plus, found_of, one_text-rows}
use Rattle.clap.specs.Words.{Text}
use Rattle.command_line.proofs.Numbers.{number_read}
use Rattle.command_line.proofs.read.number.Goals as goal

pub returns : goal.returns
returns c =
    let f = found_of c.args.matches.now in
    let has = c.requires in
    let read = c.get_one.ensures.value has.0 (one_text-rows f c.args.id.now ∙ has.1) in
    c.unwrap_or.ensures ∙ number_read (λ bs r. ParsesUnsigned 32 10 bs r × ExplainsUnsignedError 10 bs r × HasUnsignedDigitsIfOk bs r) has.0 c.get_one.result read (λ r g. g.0) has.2
    ∙ ap (λ (o : Option Text). option_map_or (λ t. digits_value 10 (without_leading_plus t)) o 0) (sym has.1)
