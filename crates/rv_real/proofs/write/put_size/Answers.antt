use Rattle.std.proofs.Common.{ℕ, decimal, ap, ◌∙◌}
use Rattle.rv_io.proofs.Adding.{adds_then, adds_as}
use Rattle.rv_real.proofs.Headers.{size_text, size_text-spelled}
use Rattle.rv_real.proofs.write.put_size.Goals as goal

pub returns : goal.returns
returns g c =
    adds_as (ap (λ (n : ℕ). size_text (decimal n)) c.from.ensures ∙ size_text-spelled (decimal c.args.lines))
    (adds_then c.put.ensures (adds_then c.put_number.ensures c.put-2.ensures))
