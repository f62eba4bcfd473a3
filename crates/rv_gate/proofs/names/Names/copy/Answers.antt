use Rattle.std.proofs.Common.{◌∙◌, refl, arith}
use Rattle.std.proofs.lemmas.List.{take_more}
use Rattle.std.proofs.lemmas.Option.{get_or_from_slice_get}
use Rattle.rv_gate.proofs.NameLemmas.{free_before}
use Rattle.rv_gate.proofs.names.Names.copy.Goals as goal

pub loop-line-preserved : goal.loop-line-preserved
loop-line-preserved c =
    let name = c.name.result.now in
    let at = get_or_from_slice_get c.args.self.now c.loop-line.line name name c.name.ensures in
    c.in_ok-append_copy.ensures.ok
    ∙ rw (c.loop-line.invariant, take_more c.args.self.now c.loop-line.line name (omega arith), at) refl

pub append_copy-requires-clause-free : goal.append_copy-requires-clause-free
append_copy-requires-clause-free c =
    rw c.loop-line.invariant (free_before c.args.self.now c.loop-line.line c.name.result.now c.len-line-end.ensures.valid.apart c.name.ensures)
