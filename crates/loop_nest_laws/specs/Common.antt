-- The names of lower crates that these specifications use. Declares nothing.
pub use Rattle.hh_lang.specs.Form.{ProgramText}
pub use Rattle.hh_lang.specs.Loop.{Loop, IsLoop}
pub use Rattle.hh_lang.specs.declared.instr.Instr.{Instr}
pub use Rattle.hh_lang.specs.declared.instr.Instr.TheVariants.{Ret, Call, Par}
pub use Rattle.hh_lang.specs.declared.program.Line.{Line}
pub use Rattle.hh_model.specs.Effect.{int_in, with_int, with_ref, onward}
pub use Rattle.hh_model.specs.Step.{result_of, is_running}
pub use Rattle.hh_model.specs.Store.{IsNext}
pub use Rattle.hh_model.specs.declared.data.Frame.{Frame}
pub use Rattle.hh_model.specs.declared.data.Name.{Name}
pub use Rattle.hh_model.specs.declared.data.Task.{Task}
pub use Rattle.model_laws.specs.Winner.{after, IsTurn}
