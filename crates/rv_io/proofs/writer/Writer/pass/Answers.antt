use Rattle.std.proofs.Common.{◌≡◌, ◌∙◌, ◌++◌, [], ap, take}
use Rattle.rv_io.proofs.Written.{writes_held}
use Rattle.rv_io.proofs.writer.Writer.pass.Goals as goal

pub returns : goal.returns
returns g c = λ base text writes.
    let none : take c.self.inside.len c.self.inside.room ≡ [] = ap (λ draft. draft.held) c.self.view_is ∙ c.requires in
    rw none (c.send-self-inside.ensures base (text ++ c.args.bytes.now)
    (writes_held base (g.O.Sink.view c.args.sink.now) text [] c.args.bytes.now c.self.inside.failed (rw none at (rw (← c.self.view_is) at writes))))
