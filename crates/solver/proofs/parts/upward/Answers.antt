-- `upward` meets its contract.
use Rattle.solver.proofs.In64Bits.{turnable}
use Rattle.solver.proofs.parts.upward.Goals as goal

pub turned-requires : goal.turned-requires
turned-requires c = turnable c.requires
