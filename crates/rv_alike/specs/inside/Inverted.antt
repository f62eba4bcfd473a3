-- The operations that take back what others do.
use Rattle.std.specs.Prelude.{List, map, reverse}
use Rattle.rv_net.specs.declared.op.Op.{Op}
use Rattle.rv_pairs.specs.Cancelled.{inverse}

-- each undone, the last one first
unfoldable pub inverted : List Op → List Op
inverted ops = map inverse (reverse ops)
