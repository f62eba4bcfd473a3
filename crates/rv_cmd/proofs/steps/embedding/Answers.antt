use Rattle.rv_embed.specs.Embedding.{least_lines}
use Rattle.rv_cmd.proofs.inside.Common.{[], refl, sym}
use Rattle.rv_cmd.proofs.steps.embedding.Goals as goal

pub returns-in-Ok-clause-kept : goal.returns-in-Ok-clause-kept
returns-in-Ok-clause-kept c = (c.in-Ok.ensures.few, tt)

pub returns-in-Err-TooManyLines-clause-unmade : goal.returns-in-Err-TooManyLines-clause-unmade
returns-in-Err-TooManyLines-clause-unmade c =
    let e = c.in-Err-TooManyLines in
    let why = e.ensures.too_many e.count (rw e.field-0-is refl) in
    c.too_many_lines.ensures (least_lines c.args.pla.now) [] [] tt (sym why.0, why.1)
