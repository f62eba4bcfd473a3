use Rattle.std.proofs.Common.{◌<◌, ◌^◌, arith}
use Rattle.std.specs.Prelude.{length}
use Rattle.rv_draw.specs.Reading.{from_top, gate_of}
use Rattle.rv_draw.specs.Symbols.{symbol_on}
use Rattle.rv_draw.proofs.inside.CircuitBack.{gates_read}
use Rattle.rv_picture.specs.Titles.{gate_title}
use Rattle.rv_picture.proofs.TitleLines.{gate_titles}
use Rattle.rv_picture.proofs.SvgBack.{svg_back}
use Rattle.rv_picture.proofs.svg.svg_circuit.Goals as goal

pub returns-clause-back : goal.returns-clause-back
returns-clause-back g c =
    let circuit = c.args.circuit.now in
    let is = c.recall_invariant.ensures in
    let bounded = is.bounded in
    let few : length circuit.gates < 2 ^ 50 = omega (arith, bounded) in
    svg_back symbol_on gate_title gate_of from_top c.args.per_block circuit circuit.gates gate_titles c.requires.some is few (gates_read (length circuit.names) circuit.gates is.valid is.fitting)
