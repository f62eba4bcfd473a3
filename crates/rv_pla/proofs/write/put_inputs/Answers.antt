use Rattle.std.proofs.Common.{◌≡◌, ℕ, ◌∷◌, [], ap, sym, arith}
use Rattle.std.proofs.lemmas.List.FromFn.{map-range_with_len_more}
use Rattle.rv_io.proofs.Adding.{adds_then, adds_as}
use Rattle.rv_pla.specs.Cube.{symbol}
use Rattle.rv_pla.specs.Text.{input_character, input_part}
use Rattle.rv_pla.proofs.write.put_inputs.Goals as goal

pub loop-input-preserved : goal.loop-input-preserved
loop-input-preserved g c =
    adds_as (sym (map-range_with_len_more (λ input. input_character (symbol c.args.cube input)) 0 c.loop-input.input c.loop-input.input (omega arith)))
    (adds_then c.loop-input.invariant (adds_as (ap (λ byte. byte ∷ []) c.input_character.ensures) c.put.ensures))

pub returns : goal.returns
returns g c =
    let all : c.loop-input.input ≡ c.args.inputs = omega arith in
    adds_as (ap (λ (n : ℕ). input_part n c.args.cube) all) c.loop-input.invariant
