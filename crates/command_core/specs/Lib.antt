pub use Rattle.run_answers.specs.below.command_answers.CommandStatus as CommandStatus
pub use Rattle.run_answers.specs.below.command_answers.Input as Input
pub use Rattle.run_answers.specs.below.command_answers.Runs as Runs
pub use Rattle.run_answers.specs.below.command_answers.Answers as Answers
pub use Rattle.run_answers.specs.below.command_answers.Delivery as Delivery
pub use Rattle.run_answers.specs.below.command_answers.Laws as Laws
pub use Rattle.run_answers.specs.below.command_answers.Headline as Headline
pub mod Left
pub mod Call
