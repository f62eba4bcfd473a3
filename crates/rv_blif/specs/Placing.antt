-- The covers of a netlist in topological order: each after those of its operands.
--
-- Passes over the covers that are left place each whose operands are placed, there and back, until a round
-- places none. What is then left holds a cycle.
use Rattle.std.specs.Prelude.{ℕ, zero, suc, ◌+◌, ◌<◌, Bool, false, List, [], ◌∷◌, ◌++◌, length, map, replicate, ◌==◌, if◌then◌else◌, reverse, slice_get, slice_index_or, slice_set, is_some, IfSome, Option, None, Some, Result, Ok, Err}
use Rattle.std.specs.List.{list_all, range_with_len}
use Rattle.std.specs.Option.{unwrap_or}
use Rattle.rv_text.specs.declared.fault.TextFault.{TextFault}
use Rattle.rv_reader.specs.Rules.{◌>>=◌, broken}
use Rattle.rv_blif.specs.declared.code.TheConstants as code
use Rattle.rv_blif.specs.Logic.{AreNodes, Node, Output, Logic}
use Rattle.rv_blif.specs.declared.port.Port.{Port}
use Rattle.rv_blif.specs.Netlist.{Netlist, Cover, name_at}

pub record Placing : Type 0 where
  -- how many inputs there are
  pub inputs : ℕ
  -- of each name, its signal, where it is placed
  pub signals : List (Option ℕ)
  pub nodes : List Node
  -- the numbers of the covers that are left
  pub left : List ℕ

-- the signal of a name, where it is placed
abbrev pub signal_of : List (Option ℕ) → ℕ → Option ℕ
signal_of signals name = slice_index_or signals name None

abbrev pub is_placed : List (Option ℕ) → ℕ → Bool
is_placed signals name = is_some (signal_of signals name)

abbrev pub all_placed : List (Option ℕ) → List ℕ → Bool
all_placed signals names = list_all (is_placed signals) names

-- the signals of names that are placed
abbrev pub signals_by : List (Option ℕ) → List ℕ → List ℕ
signals_by signals names = map (λ name. unwrap_or (signal_of signals name) 0) names

-- a node over names as one over their signals
abbrev pub over_signals : List (Option ℕ) → Node → Node
over_signals signals node = record node { operands = signals_by signals node.operands }

-- a cover with its number: placed after the others, or left
abbrev pub with_cover : Placing → ℕ → Cover → Placing
with_cover p k cover =
    if all_placed p.signals cover.node.operands then record p {
      signals = slice_set p.signals cover.name (Some (p.inputs + length p.nodes));
      nodes = p.nodes ++ over_signals p.signals cover.node ∷ [];
    }
    else record p { left = p.left ++ k ∷ [] }

-- a cover by its number, where there is one
abbrev pub with_cover_at : Placing → ℕ → Option Cover → Placing
with_cover_at p k None = p
with_cover_at p k (Some cover) = with_cover p k cover

-- covers by their numbers
abbrev pub with_covers : List Cover → Placing → List ℕ → Placing
with_covers covers p [] = p
with_covers covers p (k ∷ rest) = with_covers covers (with_cover_at p k (slice_get covers k)) rest

-- those that are left, and what is then left the other way round
abbrev pub pass : List Cover → Placing → Placing
pass covers p =
    let q = with_covers covers (record p { left = [] }) p.left in
    record q { left = reverse q.left }

abbrev pub round : List Cover → Placing → Placing
round covers p = pass covers (pass covers p)

-- at most so many rounds, until one places none
abbrev pub rounds : ℕ → List Cover → Placing → Placing
rounds zero covers p = p
rounds (suc n) covers p =
    let q = round covers p in
    if length q.nodes == length p.nodes then q else rounds n covers q

-- the signals of the inputs, from a number on
abbrev pub with_inputs : ℕ → List (Option ℕ) → List ℕ → List (Option ℕ)
with_inputs signal signals [] = signals
with_inputs signal signals (name ∷ rest) = with_inputs (signal + 1) (slice_set signals name (Some signal)) rest

-- of so many names these are inputs, and placed; so many covers are left
abbrev pub started : ℕ → List ℕ → ℕ → Placing
started names inputs covers = record {
  inputs = length inputs;
  signals = with_inputs 0 (replicate names None) inputs;
  nodes = [];
  left = range_with_len 0 covers;
}

abbrev pub placed : ℕ → List ℕ → List Cover → Placing
placed names inputs covers = rounds (length covers + 1) covers (started names inputs (length covers))

-- ---- the network

-- unless there is a fault on a line
abbrev pub unless_on : {A : Type 0} → ℕ → Option ℕ → Result A TextFault → Result A TextFault
unless_on code None next = next
unless_on code (Some line) next = Err (record { line = line; code = code })

abbrev pub line_of : Option Cover → ℕ
line_of None = 0
line_of (Some cover) = cover.line

-- the line of the first cover that is left
abbrev pub first_left : List Cover → List ℕ → Option ℕ
first_left covers [] = None
first_left covers (k ∷ rest) = Some (line_of (slice_get covers k))

-- each operand of a cover is driven
abbrev pub has_driven : List Bool → Cover → Bool
has_driven driven cover = list_all (λ name. slice_index_or driven name false) cover.node.operands

-- the line of the first cover with an operand that nothing drives
abbrev pub first_undriven : List Bool → List Cover → Option ℕ
first_undriven driven [] = None
first_undriven driven (cover ∷ rest) = if has_driven driven cover then first_undriven driven rest else Some cover.line

-- an output has a signal
abbrev pub output_by : List (List ℕ) → Port → Option ℕ → Result Output TextFault
output_by names port None = Err (record { line = port.line; code = code.NEVER_DRIVEN })
output_by names port (Some signal) = Ok (record { name = name_at names port.name; signal = signal })

-- after others
abbrev pub outputs_by : List (List ℕ) → List (Option ℕ) → List Output → List Port → Result (List Output) TextFault
outputs_by names signals made [] = Ok made
outputs_by names signals made (port ∷ rest) =
    output_by names port (signal_of signals port.name) >>= λ output. outputs_by names signals (made ++ output ∷ []) rest

abbrev pub network_of : Netlist → Placing → List Output → Result Logic TextFault
network_of netlist p outputs =
    Ok (record { inputs = map (name_at netlist.names) netlist.inputs; nodes = p.nodes; outputs = outputs })

-- the network of what is placed, where nothing is left
abbrev pub placed_network : Netlist → Placing → Result Logic TextFault
placed_network netlist p =
    unless_on code.CYCLE (first_left netlist.covers p.left)
    (outputs_by netlist.names p.signals [] netlist.outputs >>= network_of netlist p)

-- the network of a netlist in a text of so many lines, by which names are driven
abbrev pub ordered : ℕ → List Bool → Netlist → Result Logic TextFault
ordered lines driven netlist =
    broken (length netlist.outputs == 0) (record { line = lines; code = code.NO_OUTPUTS })
    (unless_on code.NEVER_DRIVEN (first_undriven driven netlist.covers)
    (placed_network netlist (placed (length netlist.names) netlist.inputs netlist.covers)))

-- ---- what every placing keeps

pub record IsPlacing (p : Placing) : Type 0 where
  pub nodes : AreNodes p.inputs p.nodes
  pub signals : (name : ℕ) → IfSome (signal_of p.signals name) (λ signal. signal < p.inputs + length p.nodes)
