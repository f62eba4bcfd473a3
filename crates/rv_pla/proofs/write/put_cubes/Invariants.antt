use Rattle.std.proofs.Common.{[], ◌∷◌, take}
use Rattle.std.specs.List.{flat_map}
use Rattle.rv_io.specs.Writer.{Adds}
use Rattle.rv_text.specs.Spelled.{spelled}
use Rattle.rv_pla.specs.Text.{cube_words}
use Rattle.rv_pla.proofs.write.put_cubes.Given as goal

abbrev pub invariant-loop-cube : goal.invariant-loop-cube
invariant-loop-cube g l =
    Adds l.initial.writer (g.O.Sink.view l.initial.sink) (flat_map (λ cube. spelled (cube_words l.inputs l.outputs cube ∷ [])) (take l.cube-index l.cubes)) l.writer (g.O.Sink.view l.sink)
