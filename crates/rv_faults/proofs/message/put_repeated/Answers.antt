use Rattle.std.proofs.Common.{ℕ, ◌++◌, ◌∙◌, ap, codes, decimal}
use Rattle.rv_io.proofs.Adding.{adds_then, adds_as}
use Rattle.rv_faults.proofs.message.put_repeated.Goals as goal

pub returns : goal.returns
returns g c =
    adds_as (ap (λ (n : ℕ). codes ": image repeated at places " ++ (decimal n ++ (codes " and " ++ decimal c.from-2.result))) c.from.ensures
    ∙ ap (λ (n : ℕ). codes ": image repeated at places " ++ (decimal c.args.first ++ (codes " and " ++ decimal n))) c.from-2.ensures)
    (adds_then c.put.ensures (adds_then c.put_number.ensures (adds_then c.put-2.ensures c.put_number-2.ensures)))
