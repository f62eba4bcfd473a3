use Rattle.std.proofs.Common.{◌≡◌, ◌<◌, ap, arith}
use Rattle.std.proofs.Math.Seq.{take-set-lt}
use Rattle.rv_perm.specs.Marked.{Marked}
use Rattle.rv_perm.proofs.spec.PermSpec.set_garbage.Goals as goal

pub returns : goal.returns
returns c =
    let lines : c.self.inside.perm.lines ≡ c.args.self.now.table.lines = ap (λ (m : Marked). m.table.lines) c.self.view_is in
    let within : c.args.line < c.self.inside.perm.lines = omega arith in
    rw (← c.self.view_is) (rw (c.from.ensures, take-set-lt c.self.inside.perm.lines c.self.inside.garbage c.args.line _ within))
