-- The statements of operations that are written one after another.
use Rattle.std.proofs.Common.{◌≡◌, ◌∙◌, ℕ, ◌+◌, ◌<◌, Bool, true, false, cond, not, List, [], ◌∷◌, ◌++◌, ap, get_or}
use Rattle.std.proofs.Common.{length, refl, sym, take}
use Rattle.std.specs.List.{flat_map}
use Rattle.std.proofs.lemmas.Bool.{false≢true}
use Rattle.std.proofs.lemmas.List.{append-nil}
use Rattle.std.proofs.lemmas.Grind.{flat_map-append}
use Rattle.rv_gate.specs.declared.gate.Shape.{Shape}
use Rattle.rv_io.specs.Sink.{SinkView}
use Rattle.rv_io.specs.Writer.{Writer, Adds}
use Rattle.rv_io.proofs.Adding.{adds_as, adds_then}
use Rattle.rv_mct.specs.declared.control.Control.{Control}
use Rattle.rv_net.specs.Network.{gate_ops, network_of, on_zero}
use Rattle.rv_net.specs.declared.op.Op.{Op}
use Rattle.rv_net.specs.declared.op.Op.TheVariants.{X}
use Rattle.rv_net.proofs.Counting.{network_more}
use Rattle.rv_qasm.specs.Text.{statement}

module _ {a b : Writer} {x y : SinkView} where
  pub adds_one : (op : Op) → Adds a x (statement op) b y → Adds a x (flat_map statement (op ∷ [])) b y
  adds_one op = adds_as (sym (append-nil (statement op)))

module _ {a b c : Writer} {x y z : SinkView} where
  pub adds_op : (op : Op) (ops : List Op) → Adds a x (statement op) b y → Adds b y (flat_map statement ops) c z → Adds a x (flat_map statement (op ∷ ops)) c z
  adds_op op ops first rest = adds_then first rest

  pub adds_ops : (first second : List Op) → Adds a x (flat_map statement first) b y → Adds b y (flat_map statement second) c z
      → Adds a x (flat_map statement (first ++ second)) c z
  adds_ops first second p q = adds_as (sym (flat_map-append statement first second)) (adds_then p q)

  -- the operations of one more gate
  pub adds_gate : (gates : List Shape) (i : ℕ) (g : Shape) → i < length gates → g ≡ get_or gates i g → Adds a x (flat_map statement (network_of (take i gates))) b y
      → Adds b y (flat_map statement (gate_ops g)) c z → Adds a x (flat_map statement (network_of (take (i + 1) gates))) c z
  adds_gate gates i g inside is so_far next =
      let more = network_more gates i g inside ∙ ap (λ h. network_of (take i gates) ++ gate_ops h) (sym is) in
      adds_as (ap (flat_map statement) (sym more)) (adds_ops (network_of (take i gates)) (gate_ops g) so_far next)

pub wants_zero : (c : Control) → not c.wanted ≡ true → X c.line ∷ [] ≡ on_zero c
wants_zero c zero = go c.wanted zero
  where
    go : (b : Bool) → not b ≡ true → X c.line ∷ [] ≡ cond b [] (X c.line ∷ [])
    go true e = absurd (false≢true e)
    go false e = refl
