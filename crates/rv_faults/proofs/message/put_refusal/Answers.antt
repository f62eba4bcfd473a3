use Rattle.std.proofs.Common.{ℕ, ◌∙◌, ap, codes}
use Rattle.rv_io.proofs.Adding.{adds_as}
use Rattle.rv_faults.specs.Fault.{counted_to, template_of}
use Rattle.rv_faults.proofs.message.put_refusal.Goals as goal

pub returns-in-OutOfRange : goal.returns-in-OutOfRange
returns-in-OutOfRange g c = rw c.in-OutOfRange.is c.put_out_of_range.ensures

pub returns-in-Repeated : goal.returns-in-Repeated
returns-in-Repeated g c = rw c.in-Repeated.is c.put_repeated.ensures

pub returns-in-Conflict : goal.returns-in-Conflict
returns-in-Conflict g c = rw c.in-Conflict.is c.put_conflict.ensures

pub returns-in-WrongLength : goal.returns-in-WrongLength
returns-in-WrongLength g c = rw c.in-WrongLength.is c.put_counted.ensures

pub returns-in-TooManyLines : goal.returns-in-TooManyLines
returns-in-TooManyLines g c =
    rw c.in-TooManyLines.is
    (adds_as (ap (λ (n : ℕ). counted_to c.in-TooManyLines.count (codes " lines are more than ") n) c.from-in-TooManyLines.ensures)
    c.put_counted-in-TooManyLines.ensures)

pub returns-in-TooManyEnds : goal.returns-in-TooManyEnds
returns-in-TooManyEnds g c =
    rw c.in-TooManyEnds.is
    (adds_as (ap (λ (n : ℕ). counted_to c.in-TooManyEnds.count (codes " lines of inputs and outputs are more than ") n) c.from-in-TooManyEnds.ensures)
    c.put_counted-in-TooManyEnds.ensures)

pub returns-in-TooManyGates : goal.returns-in-TooManyGates
returns-in-TooManyGates g c = rw c.in-TooManyGates.is c.put_counted-in-TooManyGates.ensures

pub returns-in-MoreGates : goal.returns-in-MoreGates
returns-in-MoreGates g c = rw c.in-MoreGates.is c.put_more_gates.ensures

pub returns-in-TooManyOps : goal.returns-in-TooManyOps
returns-in-TooManyOps g c = rw c.in-TooManyOps.is c.put_counted-in-TooManyOps.ensures

pub returns-in-LargeCoefficient : goal.returns-in-LargeCoefficient
returns-in-LargeCoefficient g c = rw c.in-LargeCoefficient.is c.put_large_coefficient.ensures

pub returns-in-NotToffoli : goal.returns-in-NotToffoli
returns-in-NotToffoli g c = rw c.in-NotToffoli.is c.put_no_flip.ensures

pub returns-in-NotClassical : goal.returns-in-NotClassical
returns-in-NotClassical g c = rw c.in-NotClassical.is c.put_not_classical.ensures

pub returns-in-NotIdentity : goal.returns-in-NotIdentity
returns-in-NotIdentity g c = rw c.in-NotIdentity.is c.put_no_identity.ensures

pub returns-in-WideTemplate : goal.returns-in-WideTemplate
returns-in-WideTemplate g c =
    rw c.in-WideTemplate.is
    (adds_as (ap (λ (n : ℕ). template_of n (codes " lines is wider than ") c.from-in-WideTemplate.result) c.from.ensures
    ∙ ap (λ (n : ℕ). template_of c.in-WideTemplate.lines (codes " lines is wider than ") n) c.from-in-WideTemplate.ensures)
    c.put_template.ensures)

pub returns-in-LongTemplate : goal.returns-in-LongTemplate
returns-in-LongTemplate g c = rw c.in-LongTemplate.is c.put_template-in-LongTemplate.ensures

pub returns-in-Undecided : goal.returns-in-Undecided
returns-in-Undecided g c = rw c.in-Undecided.is c.put_undecided.ensures
