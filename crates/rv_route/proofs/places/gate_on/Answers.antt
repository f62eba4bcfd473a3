use Rattle.rv_route.proofs.places.gate_on.Goals as goal

pub unreachable-requires : goal.unreachable-requires
unreachable-requires c = let o = c.placed_on.ensures c.requires.table.0 c.requires.table.1 in let n = c.in-None.is in cc
