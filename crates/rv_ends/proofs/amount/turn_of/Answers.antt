use Rattle.std.proofs.Common.{get_or, ℕ, ◌∙◌, ap}
use Rattle.rv_ends.specs.Ends.{amount}
use Rattle.std.proofs.Common.{pos}
use Rattle.rv_ends.proofs.Ends.{turn, turns, turn_at}
use Rattle.rv_ends.proofs.amount.turn_of.Goals as goal

pub returns : goal.returns
returns c =
    ap (λ (i : ℕ). amount (get_or turns i (turn (pos 0) (pos 0) (pos 0) (pos 0)))) c.from.ensures ∙ turn_at c.args.turns c.requires
