use Rattle.std.proofs.Common.{ℕ, ◌++◌, ap, codes}
use Rattle.rv_io.proofs.Adding.{adds_then, adds_as}
use Rattle.rv_faults.specs.Fault.{bits_of}
use Rattle.rv_cmd.proofs.commands.check.put_said.Goals as goal

pub returns-in-Same : goal.returns-in-Same
returns-in-Same g c = rw c.in-Same.is c.put.ensures

pub returns-in-Lines : goal.returns-in-Lines
returns-in-Lines g c = rw c.in-Lines.is c.put_line_counts.ensures

pub returns-in-Differs : goal.returns-in-Differs
returns-in-Differs g c =
    rw c.in-Differs.is
    (adds_as (ap (λ (n : ℕ). codes "differs at word " ++ bits_of c.args.lines n) c.from.ensures) (adds_then c.put-in-Differs.ensures c.put_bits.ensures))
