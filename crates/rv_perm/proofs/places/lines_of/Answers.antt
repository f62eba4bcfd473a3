use Rattle.std.proofs.Common.{arith}
use Rattle.std.proofs.lemmas.Nat.{one_shl}
use Rattle.rv_perm.proofs.inside.Tables.{found_lines, no_lines}
use Rattle.rv_perm.proofs.places.lines_of.Goals as goal

pub returns-then-lines-count : goal.returns-then-lines-count
returns-then-lines-count c = found_lines c.args.count c.loop-lines.lines (omega arith) (omega arith)
    (let places = one_shl c.loop-lines.lines 64 (omega arith) in omega arith)

pub returns : goal.returns
returns c = no_lines c.args.count (λ n one most. c.loop-lines.invariant n one (omega arith))
