use Rattle.std.proofs.Common.{ℕ, ap, codes}
use Rattle.rv_io.proofs.Adding.{adds_as, adds_then}
use Rattle.rv_io.proofs.Written.{sends_added}
use Rattle.rv_cmd.specs.Commands.Cost.{circuit_cost_csv, csv_number}
use Rattle.rv_cmd.proofs.commands.cost.put_circuit_csv.Goals as goal

pub returns : goal.returns
returns g c =
    let lines = adds_as (ap (λ (n : ℕ). csv_number n (codes ",")) c.from.ensures) c.put_value.ensures in
    let gates = adds_as (ap (λ (n : ℕ). csv_number n (codes ",")) c.from-2.ensures) c.put_value-2.ensures in
    let controls = adds_as (ap (λ (n : ℕ). csv_number n (codes ",")) c.from-3.ensures) c.put_value-3.ensures in
    let depth = adds_as (ap (λ (n : ℕ). csv_number n (codes "\n")) c.from-4.ensures) c.put_value-5.ensures in
    sends_added (circuit_cost_csv c.args.cost.now) c.finish.result c.new-writer.ensures.empty
    (adds_then c.put.ensures (adds_then lines (adds_then gates (adds_then controls (adds_then c.put_value-4.ensures depth))))) c.finish.ensures
