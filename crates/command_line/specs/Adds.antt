-- A command as a subcommand.
use Rattle.std.specs.Prelude.{◌≡◌}
use Rattle.command_line.specs.Common.{AddsSubcommand, Shape, app_of, with_subcommand, Command}

-- a command with c as a subcommand gets this shape
abbrev pub SubcommandIsShaped : Shape → Command → Type 0
SubcommandIsShaped s c = (old new : Command) → AddsSubcommand old c new → app_of new ≡ with_subcommand (app_of old) s
