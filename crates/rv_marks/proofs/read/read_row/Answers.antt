use Rattle.std.proofs.Common.{[], drop, sym, ◌∙◌}
use Rattle.rv_text.specs.Tokens.{tokens_of, joined}
use Rattle.rv_marks.proofs.inside.Row.{row-length}
use Rattle.rv_marks.proofs.read.read_row.Goals as goal

pub returns-clause-len : goal.returns-clause-len
returns-clause-len g c =
    row-length g.M.RowMark.mark_of (λ row. row.items) c.read_marks.result (joined (tokens_of c.args.quotes [] (drop c.args.from c.args.line.now))) c.args.lines c.read_marks.ensures
    (sym c.joined_len.ensures ∙ c.if-joined_len-from.false ∙ c.from.ensures)
