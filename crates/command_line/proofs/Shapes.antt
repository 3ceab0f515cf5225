-- The command as it is built, and its subcommands.
use Rattle.command_line.proofs.Common.{refl, inl, inr, ℕ, zero, suc, List, [], ◌∷◌, Text, Shape, built, app}
use Rattle.clap.specs.Simple.{App}
use Rattle.command_line.proofs.Rows.{IsPlain, each}

abbrev pub whole : App
whole = built app

-- the built subcommands
abbrev pub nth : ℕ → List Shape → Shape
nth n [] = app.top
nth zero (s ∷ ss) = s
nth (suc n) (s ∷ ss) = nth n ss

abbrev pub check_shape : Shape
check_shape = nth 0 whole.subs

-- a command that runs a program, by its name
abbrev pub runner_shape : Text → Shape
runner_shape name = record (nth 1 whole.subs) { name = name }

-- a command that only has limits, by its name
abbrev pub limited_shape : Text → Shape
limited_shape name = record (nth 4 whole.subs) { name = name }

abbrev pub make_shape : Shape
make_shape = nth 6 whole.subs

abbrev pub verify_shape : Shape
verify_shape = nth 7 whole.subs

abbrev pub EachPlain : Shape → Type 0
EachPlain s = each (IsPlain s.rules) s.rules

pub plain_runner : (name : Text) → EachPlain (runner_shape name)
plain_runner name = (
  record { own = refl; sets = inl refl; reads = refl; filled = refl },
  (
    record { own = refl; sets = inl refl; reads = refl; filled = refl },
    (
      record { own = refl; sets = inl refl; reads = refl; filled = refl },
      (
        record { own = refl; sets = inl refl; reads = refl; filled = refl },
        (
          record { own = refl; sets = inl refl; reads = refl; filled = refl },
          (
            record { own = refl; sets = inl refl; reads = refl; filled = refl },
            (
              record { own = refl; sets = inr refl; reads = refl; filled = refl },
              (record { own = refl; sets = inr refl; reads = refl; filled = refl }, tt),
            ),
          ),
        ),
      ),
    ),
  ),
)

pub plain_limited : (name : Text) → EachPlain (limited_shape name)
plain_limited name = (
  record { own = refl; sets = inl refl; reads = refl; filled = refl },
  (
    record { own = refl; sets = inl refl; reads = refl; filled = refl },
    (
      record { own = refl; sets = inl refl; reads = refl; filled = refl },
      (
        record { own = refl; sets = inl refl; reads = refl; filled = refl },
        (
          record { own = refl; sets = inl refl; reads = refl; filled = refl },
          (record { own = refl; sets = inl refl; reads = refl; filled = refl }, tt),
        ),
      ),
    ),
  ),
)

pub plain_make : EachPlain make_shape
plain_make = (
  record { own = refl; sets = inl refl; reads = refl; filled = refl },
  (
    record { own = refl; sets = inl refl; reads = refl; filled = refl },
    (record { own = refl; sets = inr refl; reads = refl; filled = refl }, tt),
  ),
)
