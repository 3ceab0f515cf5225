-- The command line, in the terms of the parser's definition of a simple command.
use Rattle.std.specs.Prelude.{ℕ, [], ◌∷◌, Some, codes, true, false}
use Rattle.command_line.specs.Common.{size_limit, chunk_limit, fuel_limit, words_limit, worker_limit, App, Rule, Shape, Text, new_rule, new_shape, SetTrue, Unsigned}

-- FILE, any text, optional
abbrev pub file : Rule
file = new_rule (codes "FILE")

-- a number from `least` to `most`, required
abbrev pub number : Text → ℕ → ℕ → Rule
number id least most = record (new_rule id) { required = true; parser = Some (Unsigned least most) }

-- `--name N`, a number from `least` to `most`, with its default
abbrev pub option : Text → ℕ → ℕ → Text → Rule
option name least most default = record (new_rule name) {
  long = Some name;
  parser = Some (Unsigned least most);
  defaults = default ∷ [];
}

-- `--name`
abbrev pub flag : Text → Rule
flag name = record (new_rule name) { long = Some name; action = Some SetTrue }

-- the limits of a run
abbrev pub workers : Rule
workers = option (codes "workers") 1 worker_limit (codes "1")

abbrev pub fuel : Rule
fuel = option (codes "fuel") 1 fuel_limit (codes "1000000")

abbrev pub chunks : Rule
chunks = option (codes "chunks") 2 chunk_limit (codes "4096")

abbrev pub leaf : Rule
leaf = option (codes "leaf") 16 words_limit (codes "4096")

abbrev pub inner : Rule
inner = option (codes "inner") 16 words_limit (codes "8192")

abbrev pub check : Shape
check = record (new_shape (codes "check")) { rules = file ∷ [] }

-- a command that runs a program: its limits, and what is written besides its outputs
abbrev pub runner : Text → Shape
runner name = record (new_shape name) {
  rules = file
      ∷ workers
      ∷ fuel
      ∷ chunks
      ∷ leaf
      ∷ inner
      ∷ flag (codes "report")
      ∷ flag (codes "trace")
      ∷ [];
}

abbrev pub run : Shape
run = runner (codes "run")

abbrev pub replay : Shape
replay = runner (codes "replay")

abbrev pub model : Shape
model = runner (codes "model")

-- a command that reads a program with its trace, and writes nothing besides its answer: it only has limits
abbrev pub limited : Text → Shape
limited name = record (new_shape name) {
  rules = file
      ∷ workers
      ∷ fuel
      ∷ chunks
      ∷ leaf
      ∷ inner
      ∷ [];
}

abbrev pub races : Shape
races = limited (codes "races")

abbrev pub image : Shape
image = limited (codes "image")

abbrev pub make : Shape
make = record (new_shape (codes "make")) {
  rules = number (codes "SEED") 0 4294967295 ∷ number (codes "SIZE") 1 size_limit ∷ flag (codes "run") ∷ [];
}

abbrev pub verify : Shape
verify = record (new_shape (codes "verify")) { rules = file ∷ [] }

-- one of the commands, without help or version words
abbrev pub app : App
app = record {
  top = record (new_shape (codes "hheap")) {
    is_leaf = false;
    no_binary_name = true;
    disable_help_flag = true;
    disable_help_subcommand = true;
    disable_version_flag = true;
    subcommand_required = true;
  };
  subs = check ∷ run ∷ replay ∷ model ∷ races ∷ image ∷ make ∷ verify ∷ [];
}

-- before its first subcommand
abbrev pub bare_app : App
bare_app = record app { top = record app.top { is_leaf = true }; subs = [] }
