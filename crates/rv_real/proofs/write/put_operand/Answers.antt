use Rattle.std.proofs.Common.{[], ◌∷◌, ap, sym}
use Rattle.std.proofs.lemmas.Option.{get_or_from_slice_get}
use Rattle.rv_io.proofs.Adding.{adds_as}
use Rattle.rv_real.specs.Text.{control_word}
use Rattle.rv_real.proofs.write.put_operand.Goals as goal

pub returns-in-Some : goal.returns-in-Some
returns-in-Some g c = adds_as (c.in-Some.ensures c.args.names.now c.requires.texts) c.put_short.ensures

pub returns-in-None : goal.returns-in-None
returns-in-None g c =
    adds_as (ap (λ name. 32 ∷ control_word name c.args.wanted) (sym (get_or_from_slice_get c.args.names.now c.args.line c.name.result.now [] c.name.ensures))) c.put_control.ensures
