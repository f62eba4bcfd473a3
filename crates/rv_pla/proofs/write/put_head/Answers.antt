use Rattle.std.proofs.Common.{ℕ, decimal, ap}
use Rattle.rv_io.proofs.Adding.{adds_then, adds_as}
use Rattle.rv_pla.proofs.Texts.{head_spelled}
use Rattle.rv_pla.proofs.write.put_head.Goals as goal

pub returns : goal.returns
returns g c =
    adds_as (head_spelled (decimal c.args.inputs) (decimal c.args.outputs) (decimal c.args.count))
    (adds_then c.put.ensures (adds_then (adds_as (ap (λ (n : ℕ). decimal n) c.from.ensures) c.put_number.ensures) (adds_then c.put-2.ensures (adds_then (adds_as (ap (λ (n : ℕ). decimal n) c.from-2.ensures) c.put_number-2.ensures) (adds_then c.put-3.ensures (adds_then c.put_number-3.ensures c.put-4.ensures))))))
