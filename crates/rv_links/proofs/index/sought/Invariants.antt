use Rattle.std.proofs.Common.{◌≡◌, ◌+◌, ℕ, ◌<◌}
use Rattle.std.specs.Prelude.{IfSome}
use Rattle.rv_links.specs.inside.Index.{asked, AtMost, IsHere}
use Rattle.rv_links.proofs.index.sought.Given as goal

-- the numbers in the slots before
abbrev pub invariant-loop-i : goal.invariant-loop-i
invariant-loop-i l =
    IfSome l.best (λ b. IsHere l.gates l.order.ids l.gate l.from b)
    × ((x : ℕ) → IsHere l.gates l.order.ids l.gate l.from x → (j : ℕ) → j < l.i → asked l.slots l.gate j ≡ x + 1 → AtMost l.best x)
