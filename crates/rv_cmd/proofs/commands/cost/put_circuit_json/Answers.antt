use Rattle.std.proofs.Common.{ℕ, ap, codes}
use Rattle.rv_io.proofs.Adding.{adds_as, adds_then}
use Rattle.rv_io.proofs.Written.{sends_added}
use Rattle.rv_cmd.specs.Commands.Cost.{circuit_cost_json, json_field}
use Rattle.rv_cmd.proofs.commands.cost.put_circuit_json.Goals as goal

pub returns : goal.returns
returns g c =
    let lines = adds_as (ap (json_field (codes "{\"") (codes "lines")) c.from.ensures) c.put_field.ensures in
    let gates = adds_as (ap (json_field (codes ",\"") (codes "gates")) c.from-2.ensures) c.put_field-2.ensures in
    let controls = adds_as (ap (json_field (codes ",\"") (codes "controls")) c.from-3.ensures) c.put_field-3.ensures in
    let depth = adds_as (ap (json_field (codes ",\"") (codes "depth")) c.from-4.ensures) c.put_field-5.ensures in
    sends_added (circuit_cost_json c.args.cost.now) c.finish.result c.new-writer.ensures.empty
    (adds_then lines (adds_then gates (adds_then controls (adds_then c.put_field-4.ensures (adds_then depth c.put.ensures))))) c.finish.ensures
