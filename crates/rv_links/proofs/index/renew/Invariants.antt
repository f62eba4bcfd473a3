use Rattle.std.proofs.Common.{◌≡◌, ℕ, ◌<◌, length}
use Rattle.std.specs.Prelude.{IsTrue}
use Rattle.rv_links.specs.Order.{lists}
use Rattle.rv_links.specs.inside.Chains.{gate_at}
use Rattle.rv_links.specs.inside.Index.{Kept}
use Rattle.rv_links.proofs.index.renew.Given as goal

abbrev pub invariant-loop-id : goal.invariant-loop-id
invariant-loop-id l = (length l.slots ≡ length l.fn.slots) × ((x : ℕ) → x < l.id → IsTrue (lists x l.order.ids) → Kept l.slots (gate_at l.gates x) x)
