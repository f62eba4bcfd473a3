use Rattle.std.proofs.Common.{length, sym, ◌∙◌}
use Rattle.std.proofs.lemmas.Result.{IfOk-weaker}
use Rattle.rv_perm.specs.declared.fault.PermFault.TheVariants.{Length, OutOfRange, Repeated}
use Rattle.rv_perm.proofs.inside.Tables.{table_some, table_none, lines_for-some, refused_for, refused_for_text}
use Rattle.rv_perm.proofs.perm.Perm.from_numbers.Goals as goal

pub returns-in_default-clause-length : goal.returns-in_default-clause-length
returns-in_default-clause-length c count e = table_none c.args.numbers.now (sym c.lines_of.ensures ∙ c.in_default.is) ∙ e

pub with_lines-requires : goal.with_lines-requires
with_lines-requires c = let lines = lines_for-some (length c.args.numbers.now) c.in-Some.lines (sym c.in-Some.ensures) in record { some = lines.0; few = lines.1; count = lines.2 }

pub returns-clause-table : goal.returns-clause-table
returns-clause-table c = IfOk-weaker c.with_lines.result _ _ (λ p h. table_some c.in-Some.lines c.args.numbers.now (sym c.in-Some.ensures) ∙ h) c.with_lines.ensures.table

pub returns-clause-length : goal.returns-clause-length
returns-clause-length c count e =
    refused_for c.in-Some.lines c.args.numbers.now c.with_lines.result (Length count) (sym c.in-Some.ensures) c.with_lines.ensures.fault (λ m. cc) e

pub returns-clause-out_of_range : goal.returns-clause-out_of_range
returns-clause-out_of_range c place e =
    refused_for c.in-Some.lines c.args.numbers.now c.with_lines.result (OutOfRange place) (sym c.in-Some.ensures) c.with_lines.ensures.fault (λ m. cc) e

pub returns-clause-repeated : goal.returns-clause-repeated
returns-clause-repeated c first second e =
    refused_for c.in-Some.lines c.args.numbers.now c.with_lines.result (Repeated first second) (sym c.in-Some.ensures) c.with_lines.ensures.fault (λ m. cc) e

pub returns-clause-no_text : goal.returns-clause-no_text
returns-clause-no_text c fault e = refused_for_text c.in-Some.lines c.args.numbers.now c.with_lines.result fault c.with_lines.ensures.fault e
