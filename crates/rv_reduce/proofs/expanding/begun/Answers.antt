use Rattle.std.proofs.Common.{◌≡◌, ◌∙◌, ap, arith, length}
use Rattle.rv_net.specs.Op.{Network}
use Rattle.rv_reduce.specs.Blocks.{in_blocks}
use Rattle.rv_reduce.proofs.Blocks.{blocks_fit}
use Rattle.rv_reduce.proofs.expanding.begun.Goals as goal

pub of_ops-requires : goal.of_ops-requires
of_ops-requires c =
    let net : Network = c.args.net.now in
    let ops : c.in_ok-ops.ops.items ≡ in_blocks net.ops = c.in_ok-ops.ensures ∙ ap in_blocks c.ops-2.ensures in
    let counted : c.length_in_blocks-count.result ≡ length (in_blocks net.ops) = c.length_in_blocks-count.ensures ∙ ap (λ l. length (in_blocks l)) c.ops.ensures in
    let lines : c.lines.result ≡ net.lines = c.lines.ensures.value in
    record {
      some = omega (arith, lines, c.recall_invariant.ensures.some);
      few = omega (arith, lines, c.recall_invariant.ensures.few);
      bounded = omega (arith, ap length ops, counted, c.if-count-gt-MOST_OPS.false);
      fitting = rw (ops, lines) (blocks_fit net.lines net.ops c.recall_invariant.ensures.fitting);
    }
