-- Runs step by step, and a step that is taken.
use Rattle.std.proofs.Common.{◌∙◌, ap, add-one}
