use Rattle.std.proofs.Common.{[], ap}
use Rattle.rv_io.proofs.Adding.{adds_then, adds_as}
use Rattle.rv_text.specs.Spelled.{spelled}
use Rattle.rv_perm.specs.Perm.{Table}
use Rattle.rv_perm.specs.Text.{number_lines, text_of}
use Rattle.rv_marks.proofs.inside.Row.{both_rows}
use Rattle.rv_perm.proofs.MarkTexts.{text_parts}
use Rattle.rv_perm.proofs.inside.ReadBack.{read_back}
use Rattle.rv_perm.proofs.write.write_perm.Goals as goal

pub returns-clause-sends : goal.returns-clause-sends
returns-clause-sends g c =
    let base = g.O.Sink.view c.args.sink.now in
    let numbers = adds_as (ap (λ (t : Table). spelled (number_lines t.images)) c.perm-perm.ensures.value) c.put_numbers.ensures in
    let marks = adds_as (both_rows c.constants.ensures c.garbage_marks.ensures) c.put_marks.ensures in
    let all = adds_as (text_parts c.args.spec.now) (adds_then marks numbers) in
    c.finish.ensures base (text_of c.args.spec.now) (all.written base [] (c.new-writer.ensures.begins base))

pub returns-clause-back : goal.returns-clause-back
returns-clause-back g c = read_back c.args.spec.now c.perm-perm.ensures.valid
