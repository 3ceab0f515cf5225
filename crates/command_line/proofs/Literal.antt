-- The examples, computed.
use Rattle.command_line.proofs.Common.{refl, FilesAreNamed, NumbersAreRead, OptionsAreRead, OthersAreRefused}
use Rattle.clap.proofs.OnLiterals.{clap_on_literals}

pub files : FilesAreNamed
unfolding clap_on_literals
files = (refl, refl, refl, refl, refl, refl, refl)

pub options : OptionsAreRead
unfolding clap_on_literals
options = (refl, refl, refl, refl, refl, refl, refl, refl, refl, refl, refl, refl, refl)

pub numbers : NumbersAreRead
unfolding clap_on_literals
numbers = (refl, refl, refl, refl, refl, refl)

pub others : OthersAreRefused
unfolding clap_on_literals
others = (refl, refl, refl, refl, refl, refl, refl, refl, refl, refl, refl, refl, refl, refl, refl, refl, refl)
