use Rattle.std.proofs.Common.{ap, codes}
use Rattle.rv_io.proofs.Adding.{adds_as, adds_then}
use Rattle.rv_io.proofs.Written.{sends_added}
use Rattle.rv_cmd.specs.Commands.Cost.{report_line}
use Rattle.rv_cmd.specs.Commands.Demo.{summary_text}
use Rattle.rv_cmd.proofs.commands.demo.put_summary.Goals as goal

pub returns : goal.returns
returns g c =
    let lines = adds_as (ap (report_line (codes "lines")) c.from.ensures) c.put_line.ensures in
    let seed = adds_as (ap (report_line (codes "seed")) c.from-2.ensures) c.put_line-2.ensures in
    let synthesised = adds_as (ap (report_line (codes "synthesised")) c.from-3.ensures) c.put_line-3.ensures in
    let simplified = adds_as (ap (report_line (codes "simplified")) c.from-4.ensures) c.put_line-4.ensures in
    let decomposed = adds_as (ap (report_line (codes "decomposed")) c.from-5.ensures) c.put_line-5.ensures in
    let added = adds_as (ap (report_line (codes "added")) c.from-6.ensures) c.put_line-6.ensures in
    let operations = adds_as (ap (report_line (codes "operations")) c.from-7.ensures) c.put_line-7.ensures in
    let t = adds_as (ap (report_line (codes "t")) c.from-8.ensures) c.put_line-8.ensures in
    let depth = adds_as (ap (report_line (codes "depth")) c.from-9.ensures) c.put_line-9.ensures in
    sends_added (summary_text c.args.summary.now) c.finish.result c.new-writer.ensures.empty
    (adds_then lines (adds_then seed (adds_then synthesised (adds_then simplified (adds_then decomposed (adds_then added (adds_then operations (adds_then t depth)))))))) c.finish.ensures
