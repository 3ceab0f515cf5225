-- The names of lower crates that these specifications use. Declares nothing.
pub use Rattle.clap.specs.Lexer.{strip_byte}
pub use Rattle.clap.specs.Simple.{new_shape}
pub use Rattle.clap.specs.ValueTests.{is_unsigned_in}
pub use Rattle.clap.specs.Walk.{is_empty}
pub use Rattle.clap.specs.Words.{AddsSubcommand, Shape, app_of, with_subcommand, App, Rule, Text, new_rule, Row, fault_of, first_of, one_of, subcommand_of, IsUnsignedIn}
pub use Rattle.clap.specs.declared.builder.action.ArgAction.TheVariants.{SetTrue}
pub use Rattle.clap.specs.declared.builder.command.Command.{Command}
pub use Rattle.clap.specs.declared.builder.value_parser.ValueParser.TheVariants.{Unsigned}
pub use Rattle.program_make.specs.Text.{size_limit}
pub use Rattle.run_trace.specs.Settings.{chunk_limit, fuel_limit, words_limit, worker_limit, SettingsValue, usual_settings}
pub use Rattle.run_trace.specs.declared.settings.Version.TheVariants.{Two}
