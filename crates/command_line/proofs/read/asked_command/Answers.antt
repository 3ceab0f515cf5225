use Rattle.command_line.proofs.Common.{◌∙◌, Some, ap, sym, codes, arith, found_of, rows_of, asked_command, Check, Run, Replay, Model, Races, Image, Verify}
use Rattle.clap.specs.Words.{Text}
use Rattle.command_line.proofs.Ranges.{wider}
use Rattle.command_line.proofs.read.asked_command.Goals as goal

pub returns-in-check : goal.returns-in-check
returns-in-check c = (λ j. Some (Check (c.file.ensures j))) ∙ ap (λ (n : Text). asked_command n (rows_of (found_of c.args.matches.now))) (sym c.in-check.is)

pub returns-in-run : goal.returns-in-run
returns-in-run c = (λ j. Some (Run (c.file-in-run.ensures j) (c.options.ensures j))) ∙ ap (λ (n : Text). asked_command n (rows_of (found_of c.args.matches.now))) (sym c.in-run.is)

pub returns-in-replay : goal.returns-in-replay
returns-in-replay c = (λ j. Some (Replay (c.file-in-replay.ensures j) (c.options-in-replay.ensures j))) ∙ ap (λ (n : Text). asked_command n (rows_of (found_of c.args.matches.now))) (sym c.in-replay.is)

pub returns-in-model : goal.returns-in-model
returns-in-model c = (λ j. Some (Model (c.file-in-model.ensures j) (c.options-in-model.ensures j))) ∙ ap (λ (n : Text). asked_command n (rows_of (found_of c.args.matches.now))) (sym c.in-model.is)

pub returns-in-races : goal.returns-in-races
returns-in-races c = (λ j. Some (Races (c.file-in-races.ensures j) (c.settings.ensures j))) ∙ ap (λ (n : Text). asked_command n (rows_of (found_of c.args.matches.now))) (sym c.in-races.is)

pub returns-in-image : goal.returns-in-image
returns-in-image c = (λ j. Some (Image (c.file-in-image.ensures j) (c.settings-in-image.ensures j))) ∙ ap (λ (n : Text). asked_command n (rows_of (found_of c.args.matches.now))) (sym c.in-image.is)

pub returns-in-verify : goal.returns-in-verify
returns-in-verify c = (λ j. Some (Verify (c.file-in-verify.ensures j))) ∙ ap (λ (n : Text). asked_command n (rows_of (found_of c.args.matches.now))) (sym c.in-verify.is)

pub options-requires : goal.options-requires
options-requires c = c.requires.run c.in-run.is

pub options-requires-in-replay : goal.options-requires-in-replay
options-requires-in-replay c = c.requires.replay c.in-replay.is

pub options-requires-in-model : goal.options-requires-in-model
options-requires-in-model c = c.requires.model c.in-model.is

pub settings-requires : goal.settings-requires
settings-requires c = c.requires.races c.in-races.is

pub settings-requires-in-image : goal.settings-requires-in-image
settings-requires-in-image c = c.requires.image c.in-image.is

pub number-requires : goal.number-requires
number-requires c = (c.requires.make c.in-make.is).seed

pub number-requires-in-make : goal.number-requires-in-make
number-requires-in-make c = wider (codes "SIZE") 1 1000 (rows_of (found_of c.args.matches.now)) (omega arith) (c.requires.make c.in-make.is).size
