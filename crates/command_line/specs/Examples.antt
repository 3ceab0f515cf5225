-- What some command lines ask for.
use Rattle.std.specs.Prelude.{◌≡◌, List, [], ◌∷◌, Some, None, codes, true, false}
use Rattle.command_line.specs.Common.{Text, usual_settings}
use Rattle.command_line.specs.CommandLine.{command_line}
use Rattle.command_line.specs.declared.line.CommandLine.{CommandLine}
use Rattle.command_line.specs.declared.line.Options.{Options}
use Rattle.command_line.specs.declared.line.CommandLine.TheVariants.{Check, Run, Replay, Model, Races, Image, Make, Verify}

-- the words ask for this
abbrev pub AskFor : List Text → CommandLine → Type 0
AskFor words line = command_line words ≡ Some line

-- the words are no command line
abbrev pub AreRefused : List Text → Type 0
AreRefused words = command_line words ≡ None

-- the options if none are given
abbrev pub usual_options : Options
usual_options = record { settings = usual_settings; report = false; trace = false }

-- FILE is optional, and an empty word is a name
abbrev pub FilesAreNamed : Type 0
FilesAreNamed =
    AskFor (codes "check" ∷ []) (Check None)
    × AskFor (codes "check" ∷ codes "a.hh" ∷ []) (Check (Some (codes "a.hh")))
    × AskFor (codes "run" ∷ [] ∷ []) (Run (Some []) usual_options)
    × AskFor (codes "run" ∷ codes "--" ∷ codes "-V" ∷ []) (Run (Some (codes "-V")) usual_options)
    × AskFor (codes "replay" ∷ codes "a.hh" ∷ []) (Replay (Some (codes "a.hh")) usual_options)
    × AskFor (codes "verify" ∷ []) (Verify None)
    × AskFor (codes "verify" ∷ codes "a.image" ∷ []) (Verify (Some (codes "a.image")))

abbrev pub OptionsAreRead : Type 0
OptionsAreRead =
    AskFor (codes "run" ∷ []) (Run None usual_options)
    × AskFor (codes "run" ∷ codes "--workers=4" ∷ codes "a.hh" ∷ codes "--trace" ∷ [])
    (Run (Some (codes "a.hh")) (record { settings = record usual_settings { workers = 4 }; report = false; trace = true }))
    × AskFor (codes "replay" ∷ []) (Replay None usual_options)
    × AskFor (codes "replay" ∷ codes "--chunks" ∷ codes "2" ∷ codes "--report" ∷ [])
    (Replay None (record { settings = record usual_settings { chunks = 2 }; report = true; trace = false }))
    × AskFor (codes "model" ∷ []) (Model None usual_options)
    × AskFor (codes "model" ∷ codes "a.hh" ∷ codes "--report" ∷ []) (Model (Some (codes "a.hh")) (record usual_options { report = true }))
    × AskFor (codes "model" ∷ codes "--workers" ∷ codes "64" ∷ codes "--inner=16" ∷ codes "--trace" ∷ [])
    (Model None (record { settings = record usual_settings { workers = 64; inner = 16 }; report = false; trace = true }))
    × AskFor (codes "races" ∷ []) (Races None usual_settings)
    × AskFor (codes "races" ∷ codes "a.hh" ∷ codes "--workers=2" ∷ []) (Races (Some (codes "a.hh")) (record usual_settings { workers = 2 }))
    × AskFor (codes "image" ∷ []) (Image None usual_settings)
    × AskFor (codes "image" ∷ codes "--leaf" ∷ codes "16" ∷ codes "a.hh" ∷ []) (Image (Some (codes "a.hh")) (record usual_settings { leaf = 16 }))
    × AskFor (codes "make" ∷ codes "1" ∷ codes "2" ∷ codes "--run" ∷ []) (Make 1 2 true)
    × AskFor (codes "make" ∷ codes "--run" ∷ codes "1" ∷ codes "2" ∷ []) (Make 1 2 true)

abbrev pub NumbersAreRead : Type 0
NumbersAreRead =
    AskFor (codes "make" ∷ codes "4294967295" ∷ codes "1000" ∷ []) (Make 4294967295 1000 false)
    × AskFor (codes "make" ∷ codes "+5" ∷ codes "007" ∷ []) (Make 5 7 false)
    × AreRefused (codes "make" ∷ codes "4294967296" ∷ codes "1" ∷ [])
    × AreRefused (codes "make" ∷ codes "1" ∷ codes "1001" ∷ [])
    × AreRefused (codes "model" ∷ codes "--workers" ∷ codes "65" ∷ [])
    × AreRefused (codes "model" ∷ codes "--fuel" ∷ codes "0" ∷ [])

abbrev pub OthersAreRefused : Type 0
OthersAreRefused =
    AreRefused []
    × AreRefused (codes "walk" ∷ [])
    × AreRefused (codes "help" ∷ [])
    × AreRefused (codes "--help" ∷ [])
    × AreRefused (codes "-V" ∷ [])
    × AreRefused (codes "check" ∷ codes "-h" ∷ [])
    × AreRefused (codes "run" ∷ codes "--run" ∷ [])
    × AreRefused (codes "make" ∷ codes "1" ∷ codes "1" ∷ codes "--report" ∷ [])
    × AreRefused (codes "check" ∷ codes "--report" ∷ [])
    × AreRefused (codes "--report" ∷ codes "model" ∷ [])
    × AreRefused (codes "races" ∷ codes "--report" ∷ [])
    × AreRefused (codes "image" ∷ codes "--trace" ∷ [])
    × AreRefused (codes "verify" ∷ codes "--trace" ∷ [])
    × AreRefused (codes "model" ∷ codes "--rep" ∷ [])
    × AreRefused (codes "model" ∷ codes "--report=true" ∷ [])
    × AreRefused (codes "model" ∷ codes "--report" ∷ codes "--report" ∷ [])
    × AreRefused (codes "model" ∷ codes "--leaf=64" ∷ codes "--leaf=64" ∷ [])
