use Rattle.std.proofs.Common.{◌≡◌, ℕ, ◌∷◌, [], ap, sym, ◌∙◌, arith}
use Rattle.std.proofs.lemmas.List.FromFn.{map-range_with_len_more}
use Rattle.rv_io.proofs.Adding.{adds_then, adds_as}
use Rattle.rv_gate.specs.Word.{has}
use Rattle.rv_pla.specs.Text.{output_part}
use Rattle.rv_text.specs.Bytes.{bit_byte}
use Rattle.rv_pla.proofs.write.put_outputs.Goals as goal

pub loop-output-preserved : goal.loop-output-preserved
loop-output-preserved g c =
    adds_as (sym (map-range_with_len_more (λ output. bit_byte (has c.args.cube.outs output)) 0 c.loop-output.output c.loop-output.output (omega arith)))
    (adds_then c.loop-output.invariant (adds_as (ap (λ byte. byte ∷ []) (c.bit_byte.ensures ∙ ap bit_byte c.has.ensures)) c.put.ensures))

pub returns : goal.returns
returns g c =
    let all : c.loop-output.output ≡ c.args.outputs = omega arith in
    adds_as (ap (λ (n : ℕ). output_part n c.args.cube) all) c.loop-output.invariant
