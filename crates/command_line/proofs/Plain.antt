-- A command without global arguments is added as a subcommand of its shape.
use Rattle.command_line.proofs.Common.{◌≡◌, true, ap, ◌∙◌, and_parts, not-true, App, app_of, with_subcommand, Command, SubcommandIsShaped}

pub shaped : (m : Command) (a : App) → app_of m ≡ a → a.top.is_plain ≡ true → SubcommandIsShaped a.top m
shaped m a e plain = λ old new adds.
    let all : (app_of m).top.is_plain ≡ true = ap (λ (b : App). b.top.is_plain) e ∙ plain in
    adds.shape (not-true _ (and_parts _ _ (and_parts _ _ (and_parts _ _ all).1).1).0) ∙ ap (λ (b : App). with_subcommand (app_of old) b.top) e
