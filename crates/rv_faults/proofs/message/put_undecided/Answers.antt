use Rattle.std.proofs.Common.{ℕ, List, ◌++◌, ◌∙◌, ap, codes, decimal}
use Rattle.rv_io.proofs.Adding.{adds_then, adds_as}
use Rattle.rv_faults.proofs.message.put_undecided.Goals as goal

pub returns : goal.returns
returns g c =
    adds_as (ap (λ (n : ℕ). codes ": undecided with " ++ (decimal n ++ c.as_bytes.result.now)) c.from.ensures
    ∙ ap (λ (what : List ℕ). codes ": undecided with " ++ (decimal c.args.count ++ what)) (c.as_bytes.ensures.value ∙ c.measured.ensures))
    (adds_then c.put.ensures (adds_then c.put_number.ensures c.put-2.ensures))
