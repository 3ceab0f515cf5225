-- Numbers of matches in their ranges.
use Rattle.command_line.proofs.Common.{◌≡◌, ◌≤◌, ℕ, Bool, cond, codes, true, false, refl, ap, arith, List, Option, Some, None, option_map_or, bytes_eq, digits_value, without_leading_plus, bytes_eq-Decides, AreSettings, HasSize, asked_command, file_in, flag_in, number_in, settings_in, options_in, FitsCommand, FitsFound, ArgumentIsNumber, HasSettings, Check, Run, Replay, Model, Races, Image, Make, Verify}
use Rattle.std.specs.Option.{option_and_then}
use Rattle.clap.specs.Words.{Row, Text}
use Rattle.command_line.specs.declared.line.CommandLine.{CommandLine}

pub wider : (id : Text) (least most : ℕ) (rows : List Row) → most ≤ 4294967295 → ArgumentIsNumber id least most rows → ArgumentIsNumber id 0 4294967295 rows
wider id least most rows lt h = (h.0, h.1, (h.2.0, h.2.1, omega arith, omega (arith, h.2.3, lt)))

pub in_range : (id : Text) (least most : ℕ) (rows : List Row) → ArgumentIsNumber id least most rows → (least ≤ number_in id rows) × (number_in id rows ≤ most)
in_range id least most rows h =
    let is : number_in id rows ≡ digits_value 10 (without_leading_plus h.0) = ap (λ (o : Option Text). option_map_or (λ t. digits_value 10 (without_leading_plus t)) o 0) h.1 in
    rw is (h.2.2, h.2.3)

pub limits : (rows : List Row) → HasSettings rows → AreSettings (settings_in rows)
limits rows h = record {
  workers = in_range (codes "workers") 1 64 rows h.workers;
  fuel = in_range (codes "fuel") 1 1000000000 rows h.fuel;
  chunks = in_range (codes "chunks") 2 65536 rows h.chunks;
  leaf = in_range (codes "leaf") 16 1000000 rows h.leaf;
  inner = in_range (codes "inner") 16 1000000 rows h.inner;
}

-- the size that is asked for
module _ (name : Text) (rows : List Row) (h : FitsCommand name rows) where
  abbrev or_verify : Option CommandLine
  or_verify = cond (bytes_eq name (codes "verify")) (Some (Verify (file_in rows))) None

  abbrev or_make : Option CommandLine
  or_make = cond (bytes_eq name (codes "make")) (Some (Make (number_in (codes "SEED") rows) (number_in (codes "SIZE") rows) (flag_in (codes "run") rows))) or_verify

  abbrev or_image : Option CommandLine
  or_image = cond (bytes_eq name (codes "image")) (Some (Image (file_in rows) (settings_in rows))) or_make

  abbrev or_races : Option CommandLine
  or_races = cond (bytes_eq name (codes "races")) (Some (Races (file_in rows) (settings_in rows))) or_image

  abbrev or_model : Option CommandLine
  or_model = cond (bytes_eq name (codes "model")) (Some (Model (file_in rows) (options_in rows))) or_races

  abbrev or_replay : Option CommandLine
  or_replay = cond (bytes_eq name (codes "replay")) (Some (Replay (file_in rows) (options_in rows))) or_model

  abbrev or_run : Option CommandLine
  or_run = cond (bytes_eq name (codes "run")) (Some (Run (file_in rows) (options_in rows))) or_replay

  by_verify : (b : Bool) → HasSize (cond b (Some (Verify (file_in rows))) None)
  by_verify true = tt
  by_verify false = tt

  by_make : (b : Bool) → bytes_eq name (codes "make") ≡ b → HasSize (cond b (Some (Make (number_in (codes "SEED") rows) (number_in (codes "SIZE") rows) (flag_in (codes "run") rows))) or_verify)
  by_make true e = in_range (codes "SIZE") 1 1000 rows (h.make ((bytes_eq-Decides name (codes "make")).0 e)).size
  by_make false e = by_verify (bytes_eq name (codes "verify"))

  by_image : (b : Bool) → HasSize (cond b (Some (Image (file_in rows) (settings_in rows))) or_make)
  by_image true = tt
  by_image false = by_make (bytes_eq name (codes "make")) refl

  by_races : (b : Bool) → HasSize (cond b (Some (Races (file_in rows) (settings_in rows))) or_image)
  by_races true = tt
  by_races false = by_image (bytes_eq name (codes "image"))

  by_model : (b : Bool) → HasSize (cond b (Some (Model (file_in rows) (options_in rows))) or_races)
  by_model true = tt
  by_model false = by_races (bytes_eq name (codes "races"))

  by_replay : (b : Bool) → HasSize (cond b (Some (Replay (file_in rows) (options_in rows))) or_model)
  by_replay true = tt
  by_replay false = by_model (bytes_eq name (codes "model"))

  by_run : (b : Bool) → HasSize (cond b (Some (Run (file_in rows) (options_in rows))) or_replay)
  by_run true = tt
  by_run false = by_replay (bytes_eq name (codes "replay"))

  by_check : (b : Bool) → HasSize (cond b (Some (Check (file_in rows))) or_run)
  by_check true = tt
  by_check false = by_run (bytes_eq name (codes "run"))

  pub asked_size : HasSize (asked_command name rows)
  asked_size = by_check (bytes_eq name (codes "check"))

pub found_size : (o : Option (Text × List Row)) → FitsFound o → HasSize (option_and_then (λ p. asked_command p.0 p.1) o)
found_size None h = tt
found_size (Some p) h = asked_size p.0 p.1 h
