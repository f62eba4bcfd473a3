use Rattle.std.proofs.Common.{◌<◌, ap, subst, sym, ◌∙◌}
use Rattle.rv_faults.specs.declared.fault.InputFault.TheVariants.{TooManyLines}
use Rattle.rv_cmd.proofs.refusals.too_many_lines.Goals as goal

pub returns : goal.returns
returns c lines first rest kept told =
    c.passed.ensures lines c.args.most (TooManyLines lines c.args.most) first rest kept (ap (λ n. TooManyLines n c.args.most) (told.0 ∙ sym c.from.ensures), subst (λ n. c.args.most < n) (sym told.0) told.1)
