use Rattle.std.proofs.Common.{arith, ap, length, ◌≤◌, ◌∙◌, ℕ}
use Rattle.std.specs.List.{flat_map}
use Rattle.std.proofs.lemmas.List.{take_all}
use Rattle.rv_io.proofs.Adding.{adds_as}
use Rattle.rv_picture.specs.Labels.{digits, escaped}
use Rattle.rv_picture.specs.Markup.{escapes}
use Rattle.rv_picture.proofs.Texts.{flat_map-flat_map}
use Rattle.rv_picture.proofs.label.put_digits.Goals as goal

pub returns : goal.returns
returns g c =
    let bytes = c.args.bytes.now in
    let all : length bytes ≤ c.loop-byte.byte-index = omega arith in
    adds_as (ap (flat_map (λ (byte : ℕ). flat_map (escaped (escapes c.args.markup)) (digits byte))) (take_all c.loop-byte.byte-index bytes all)
    ∙ flat_map-flat_map (escaped (escapes c.args.markup)) digits bytes)
    c.loop-byte.invariant
