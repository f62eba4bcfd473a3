-- Operations as the code counts them.
use Rattle.std.specs.Prelude.{Bool, true, false}
use Rattle.rv_net.specs.declared.op.Op.{Op}
use Rattle.rv_net.specs.declared.op.Op.TheVariants.{H}

abbrev pub is_h : Op → Bool
is_h (H q) = true
is_h op = false
