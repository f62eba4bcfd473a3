use Rattle.std.proofs.Common.{ℕ, ◌++◌, ◌∙◌, List, ap, codes, decimal}
use Rattle.rv_io.proofs.Adding.{adds_then, adds_as}
use Rattle.rv_faults.specs.Fault.{bits_of}
use Rattle.rv_faults.proofs.message.put_conflict.Goals as goal

pub returns : goal.returns
returns g c =
    let bits = bits_of c.args.inputs c.from-3.result in
    let said : ℕ → List ℕ = λ (n : ℕ). codes ": lines " ++ (decimal c.args.on ++ (codes " and " ++ (decimal c.args.off ++ (codes " conflict at word " ++ bits_of c.args.inputs n)))) in
    adds_as (ap (λ (n : ℕ). codes ": lines " ++ (decimal n ++ (codes " and " ++ (decimal c.from-2.result ++ (codes " conflict at word " ++ bits))))) c.from.ensures
    ∙ ap (λ (n : ℕ). codes ": lines " ++ (decimal c.args.on ++ (codes " and " ++ (decimal n ++ (codes " conflict at word " ++ bits))))) c.from-2.ensures
    ∙ ap said c.from-3.ensures)
    (adds_then c.put.ensures (adds_then c.put_number.ensures
    (adds_then c.put-2.ensures (adds_then c.put_number-2.ensures (adds_then c.put-3.ensures c.put_bits.ensures)))))
