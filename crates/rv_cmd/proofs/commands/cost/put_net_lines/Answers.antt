use Rattle.std.proofs.Common.{ℕ, ap, codes}
use Rattle.rv_io.proofs.Adding.{adds_as, adds_then}
use Rattle.rv_io.proofs.Written.{sends_added}
use Rattle.rv_cmd.specs.Commands.Cost.{net_cost_lines, report_line}
use Rattle.rv_cmd.proofs.commands.cost.put_net_lines.Goals as goal

pub returns : goal.returns
returns g c =
    let lines = adds_as (ap (report_line (codes "lines")) c.from.ensures) c.put_line.ensures in
    let operations = adds_as (ap (report_line (codes "operations")) c.from-2.ensures) c.put_line-2.ensures in
    let t = adds_as (ap (report_line (codes "t")) c.from-3.ensures) c.put_line-3.ensures in
    let h = adds_as (ap (report_line (codes "h")) c.from-4.ensures) c.put_line-4.ensures in
    let cnot = adds_as (ap (report_line (codes "cnot")) c.from-5.ensures) c.put_line-5.ensures in
    let depth = adds_as (ap (report_line (codes "depth")) c.from-6.ensures) c.put_line-6.ensures in
    let t_depth = adds_as (ap (report_line (codes "t-depth")) c.from-7.ensures) c.put_line-7.ensures in
    sends_added (net_cost_lines c.args.cost.now) c.finish.result c.new-writer.ensures.empty
    (adds_then lines (adds_then operations (adds_then t (adds_then h (adds_then cnot (adds_then depth t_depth)))))) c.finish.ensures
