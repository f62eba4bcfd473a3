use Rattle.std.proofs.Common.{ℕ, ◌++◌, ap, codes, decimal}
use Rattle.rv_io.proofs.Adding.{adds_then, adds_as}
use Rattle.rv_faults.proofs.message.put_out_of_range.Goals as goal

pub returns : goal.returns
returns g c =
    adds_as (ap (λ (n : ℕ). codes ": image out of range at place " ++ decimal n) c.from.ensures)
    (adds_then c.put.ensures c.put_number.ensures)
