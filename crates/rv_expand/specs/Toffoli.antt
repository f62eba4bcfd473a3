-- The network of a circuit of flips with at most two controls, over {x, cx, ccx, swap, cswap}.
use Rattle.std.specs.Prelude.{◌≡◌, ℕ, ◌==◌, ◌&&◌, Bool, false, List, [], ◌∷◌, ◌++◌, All, length, if◌then◌else◌, Option}
use Rattle.std.specs.Prelude.{Some, None, option_map}
use Rattle.rv_gate.specs.Circuit.{Cascade}
use Rattle.rv_gate.specs.Gate.{run}
use Rattle.rv_gate.specs.declared.gate.Shape.{Shape}
use Rattle.rv_gate.specs.declared.gate.Shape.TheVariants.{Flip, Swap as SwapGate, Peres}
use Rattle.rv_mct.specs.Blocks.{controls_of}
use Rattle.rv_mct.specs.Widened.{decomposed, helper_count, lines_with_helpers}
use Rattle.rv_mct.specs.declared.aux.Aux.{Aux}
use Rattle.rv_mct.specs.declared.control.Control.{Control}
use Rattle.rv_net.specs.Denotes.{Carries}
use Rattle.rv_net.specs.Network.{flip_ops, on_zero}
use Rattle.rv_net.specs.Op.{IsNetwork, Network}
use Rattle.rv_net.specs.declared.op.Op.{Op}
use Rattle.rv_net.specs.declared.op.Op.TheVariants.{X, Cx, Ccx, Swap, Cswap}

-- a flip under none, one or two controls: one operation, between X on the controls that want 0
unfoldable pub flip_op : List Control → ℕ → List Op
flip_op [] target = flip_ops [] target
flip_op (a ∷ []) target = flip_ops (a ∷ []) target
flip_op (a ∷ b ∷ []) target = (on_zero a ++ on_zero b) ++ (Ccx a.line b.line target ∷ (on_zero a ++ on_zero b))
flip_op (a ∷ b ∷ c ∷ more) target = []

abbrev pub gate_op : Shape → List Op
gate_op (Flip care want target) = flip_op (controls_of care want) target
gate_op (SwapGate care want a b) = []
gate_op (Peres a b c) = []

-- ---- three flips that are a swap

-- a swap under one control or none
abbrev pub swap_op : Option Control → ℕ → ℕ → List Op
swap_op None a b = Swap a b ∷ []
swap_op (Some c) a b = on_zero c ++ (Cswap c.line a b ∷ on_zero c)

-- a control that wants 1 on the line
abbrev pub is_on : ℕ → Control → Bool
is_on line c = c.wanted && (c.line == line)

-- the only control is such a one
abbrev pub is_only : ℕ → List Control → Bool
is_only line [] = false
is_only line (c ∷ []) = is_on line c
is_only line (c ∷ d ∷ more) = false

-- which control stands beside such a one, if at most one does
abbrev pub beside : ℕ → List Control → Option (Option Control)
beside line [] = None
beside line (c ∷ []) = if is_on line c then Some None else None
beside line (c ∷ d ∷ []) = if is_on line c then Some (Some d) else (if is_on line d then Some (Some c) else None)
beside line (c ∷ d ∷ e ∷ more) = None

-- a is flipped under b, b under a and at most one control more, and a again: a and b are exchanged
abbrev pub as_swap : Shape → Shape → Shape → Option (List Op)
as_swap (Flip care want a) (Flip inner_care inner_want b) (Flip last_care last_want c) =
    if (last_care == care) && (last_want == want) && (c == a) && is_only b (controls_of care want)
    then option_map (λ control. swap_op control a b) (beside a (controls_of inner_care inner_want))
    else None
as_swap g h l = None

-- ---- circuits

abbrev pub swap_else : Option (List Op) → List Op → List Op → List Op
swap_else (Some swap) rest other = swap ++ rest
swap_else None rest other = other

-- gate after gate; three that are a swap become one
unfoldable pub toffoli_ops : List Shape → List Op
toffoli_ops [] = []
toffoli_ops (g ∷ []) = gate_op g
toffoli_ops (g ∷ h ∷ []) = gate_op g ++ gate_op h
toffoli_ops (g ∷ h ∷ l ∷ rest) = swap_else (as_swap g h l) (toffoli_ops rest) (gate_op g ++ toffoli_ops (h ∷ l ∷ rest))

abbrev pub toffoli_net : Cascade → Network
toffoli_net c = record { lines = length c.names; ops = toffoli_ops c.gates }

-- an operation that moves words
abbrev pub IsClassical : Op → Type 0
IsClassical (X q) = Unit {0}
IsClassical (Cx a b) = Unit {0}
IsClassical (Ccx a b c) = Unit {0}
IsClassical (Swap a b) = Unit {0}
IsClassical (Cswap c a b) = Unit {0}
IsClassical _ = ⊥

-- A network on the lines of the decomposed circuit, of operations that move words. For each word and whatever the
-- helper lines may hold, it moves the word as the circuit does, and gives the helper lines back.
pub record MapsToffoli (aux : Aux) (c : Cascade) (net : Network) : Type 0 where
  pub valid : IsNetwork net
  pub lines : net.lines ≡ lines_with_helpers aux c
  pub is : net ≡ toffoli_net (decomposed aux c)
  pub classical : All IsClassical net.ops
  pub carries : Carries aux (length c.names) (helper_count aux c) net.ops (run c.gates)
