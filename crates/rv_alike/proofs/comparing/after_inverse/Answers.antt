use Rattle.std.proofs.Common.{ap₂, ◌++◌, ◌∙◌}
use Rattle.rv_alike.specs.inside.Inverted.{inverted}
use Rattle.rv_alike.proofs.Told.{both_valid}
use Rattle.rv_alike.proofs.comparing.after_inverse.Goals as goal

pub of_ops-requires : goal.of_ops-requires
of_ops-requires c =
    both_valid c.args.net.now c.args.other.now c.lines.result c.add_inverted.new.ops.items c.recall_invariant.ensures c.recall_invariant-2.ensures
    c.requires.lines c.requires.few c.lines.ensures.value
    (c.in_ok-add_inverted.ensures
    ∙ ap₂ (λ a b. a ++ inverted b) (c.in_ok-ops.ensures.items ∙ c.ops.ensures) c.ops-2.ensures)
