-- The words after `heaps`, in the terms of the parser's definition of a simple command.
use Rattle.std.specs.Prelude.{[], ◌∷◌, Some, codes, true}
use Rattle.clap.specs.Words.{App, Rule, Text, new_rule}
use Rattle.clap.specs.Simple.{new_shape}
use Rattle.command_line.specs.App.{file}

-- `--name VALUE`, any text, optional
abbrev pub option : Text → Rule
option name = record (new_rule name) { long = Some name }

-- before its first argument: without help or version words
abbrev pub bare_view : App
bare_view = record {
  top = record (new_shape (codes "heaps")) {
    no_binary_name = true;
    disable_help_flag = true;
    disable_help_subcommand = true;
    disable_version_flag = true;
  };
  subs = [];
}

abbrev pub heaps_app : App
heaps_app = record bare_view { top = record bare_view.top { rules = file ∷ option (codes "path") ∷ option (codes "limit") ∷ [] } }
