use Rattle.rv_mct.proofs.inside.Gates.{gate_both}
use Rattle.rv_mct.proofs.flips.both.Goals as goal

pub unreachable-requires : goal.unreachable-requires
unreachable-requires c =
    let h = c.in-None.ensures in
    h (rw (c.place.ensures, c.place-2.ensures, c.wanted_place.ensures, c.wanted_place-2.ensures) (gate_both c.args.a c.args.b c.args.target c.requires))
