use Rattle.std.proofs.Common.{sym}
use Rattle.rv_gate.proofs.NameLemmas.{Contains-slice_get}
use Rattle.rv_mct.proofs.widening.add_name.Goals as goal

pub unreachable-requires-in-Err-Taken : goal.unreachable-requires-in-Err-Taken
unreachable-requires-in-Err-Taken c =
    c.requires.free
    (Contains-slice_get c.args.names.now c.in-Err-Taken.field-0-0 c.args.name.now ((c.push.ensures.taken c.in-Err-Taken.field-0-0).0 (rw (sym c.in-Err-Taken.field-0-is) c.in-Err-Taken.is)).1)
