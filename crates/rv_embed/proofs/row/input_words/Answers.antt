use Rattle.std.proofs.Common.{◌≡◌, ◌^◌, ap, arith}
use Rattle.std.proofs.lemmas.Nat.{one_shl}
use Rattle.rv_embed.proofs.TableLemmas.{pow_le}
use Rattle.rv_embed.proofs.row.input_words.Goals as goal

pub returns : goal.returns
returns c =
    let few = c.inputs.ensures.valid.few_inputs in
    let words = one_shl c.inputs.result 32 (omega (arith, c.inputs.ensures.value)) in
    let same : 2 ^ c.inputs.result ≡ 2 ^ c.args.pla.now.inputs = ap (λ k. 2 ^ k) c.inputs.ensures.value in
    let most = pow_le c.args.pla.now.inputs 16 few in
    record { count = omega arith; few = omega arith }
