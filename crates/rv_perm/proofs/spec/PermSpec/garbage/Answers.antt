use Rattle.std.proofs.Common.{◌≡◌, ap, arith}
use Rattle.rv_perm.specs.Marked.{Marked}
use Rattle.rv_perm.proofs.Marks.{read_mark}
use Rattle.rv_perm.proofs.spec.PermSpec.garbage.Goals as goal

pub returns : goal.returns
returns c =
    let lines : c.self.inside.perm.lines ≡ c.args.self.now.table.lines = ap (λ (m : Marked). m.table.lines) c.self.view_is in
    rw (← c.self.view_is) (read_mark c.self.inside.perm.lines c.self.inside.garbage c.args.line c.from.result _ c.from.ensures (omega arith) (omega arith))
