use Rattle.std.proofs.Common.{ℕ, ◌∷◌, decimal, ap}
use Rattle.rv_io.proofs.Adding.{adds_then, adds_as}
use Rattle.rv_real.proofs.write.put_kind.Goals as goal

pub returns : goal.returns
returns g c = adds_as (ap (λ (n : ℕ). c.args.letter ∷ decimal n) c.from.ensures) (adds_then c.put_byte.ensures c.put_number.ensures)
