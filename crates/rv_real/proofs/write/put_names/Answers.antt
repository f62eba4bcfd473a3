use Rattle.std.proofs.Common.{ap, ◌∙◌, arith}
use Rattle.std.specs.List.{flat_map}
use Rattle.std.proofs.lemmas.List.{take_all}
use Rattle.rv_io.proofs.Adding.{adds_as}
use Rattle.rv_io.proofs.Pieces.{adds_more}
use Rattle.rv_text.proofs.Pieces.{spaced, more_words-pieces}
use Rattle.rv_real.proofs.write.put_names.Goals as goal

pub loop-line-preserved : goal.loop-line-preserved
loop-line-preserved g c = adds_more spaced c.args.names.now c.loop-line.line c.name.result.now c.name.ensures c.loop-line.invariant c.put_name.ensures

pub returns : goal.returns
returns g c =
    adds_as (ap (flat_map spaced) (take_all c.loop-line.line c.args.names.now (omega arith)) ∙ more_words-pieces c.args.names.now) c.loop-line.invariant
