use Rattle.std.proofs.Common.{ℕ, ◌++◌, ◌∙◌, ap, codes, decimal}
use Rattle.rv_io.proofs.Adding.{adds_then, adds_as}
use Rattle.rv_faults.specs.Fault.{bits_of}
use Rattle.rv_faults.proofs.message.put_large_coefficient.Goals as goal

pub returns : goal.returns
returns g c =
    let i = c.args in
    adds_as (ap (λ (n : ℕ). codes ": coefficient too large at operation " ++ (decimal n ++ (codes " for word " ++ bits_of i.lines c.from-2.result))) c.from.ensures
    ∙ ap (λ (n : ℕ). codes ": coefficient too large at operation " ++ (decimal i.place ++ (codes " for word " ++ bits_of i.lines n))) c.from-2.ensures)
    (adds_then c.put.ensures (adds_then c.put_number.ensures (adds_then c.put-2.ensures c.put_bits.ensures)))
