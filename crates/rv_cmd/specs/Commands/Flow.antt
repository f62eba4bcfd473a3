-- `flow`: the network of a permutation, or of the function of a PLA, with exact amplitudes.
use Rattle.std.specs.Prelude.{◌≡◌, ℕ, ◌+◌, ◌≤◌, Bool, List, ◌++◌, Ok}
use Rattle.rv_perm.specs.Marked.{Marked}
use Rattle.rv_pla.specs.Pla.{TwoLevel}
use Rattle.rv_embed.specs.Embedding.{embedding_of}
use Rattle.rv_embed.specs.Embeds.{Embeds}
use Rattle.rv_mct.specs.Widened.{helper_count}
use Rattle.rv_mct.specs.declared.aux.Aux.{Aux}
use Rattle.rv_net.specs.Denotes.{Carries}
use Rattle.rv_net.specs.Op.{IsNetwork, Network}
use Rattle.rv_qasm.specs.Reading.{in_register_q, qasm_of}
use Rattle.rv_qasm.specs.Text.{text_of}
use Rattle.rv_perm.specs.Perm.{permuted}
use Rattle.rv_flow.specs.Flow.{circuit_for}
use Rattle.rv_flow.specs.declared.synthesis.Synthesis.{Synthesis}
use Rattle.rv_flow.specs.declared.synthesis.Synthesis.TheVariants.{Rows, SingleTargets}
use Rattle.rv_words.specs.declared.command.Blocks.{Blocks}
use Rattle.rv_words.specs.declared.command.Blocks.TheVariants.{Joined}
use Rattle.rv_words.specs.declared.command.Synthesis as asked
use Rattle.rv_words.specs.declared.command.Synthesis.TheVariants as asks
use Rattle.rv_words.specs.declared.command.Form.{Form}
use Rattle.rv_words.specs.declared.command.Form.TheVariants as form
use Rattle.rv_inputs.specs.Formats.{permutation, table}
use Rattle.rv_cmd.specs.Commands.Embed.{embed_limits}
use Rattle.rv_cmd.specs.Commands.Map.{MapsBy, mapped, network_limits}
use Rattle.rv_cmd.specs.Limits.{Limit, LimitedText}
use Rattle.rv_cmd.specs.Row.{ReadsFirst, always, finds, one}

-- how the arguments ask for the circuit to be made
abbrev pub flow_synthesis : asked.Synthesis → Synthesis
flow_synthesis (asks.Rows method) = Rows method
flow_synthesis asks.SingleTargets = SingleTargets

module _ (method : Synthesis) (simplify : Bool) (blocks : Blocks) (aux : Aux) where
  -- of the network of the permutation's circuit; its lines are never too many
  abbrev pub flow_limits : Marked → List Limit
  flow_limits spec = network_limits blocks aux (circuit_for method simplify spec)

  abbrev pub flow_report : Marked → LimitedText
  flow_report spec =
      record { limits = flow_limits spec; text = text_of (mapped blocks aux (circuit_for method simplify spec)) }

  -- the embedding's limit, then those of its flow
  abbrev pub function_limits : TwoLevel → List Limit
  function_limits pla = embed_limits pla ++ flow_limits (embedding_of pla)

  abbrev pub function_report : TwoLevel → LimitedText
  function_report pla = record { limits = function_limits pla; text = (flow_report (embedding_of pla)).text }

  -- Read back, the text is the network of the permutation's circuit, in one register q, on its lines and the helper
  -- lines after them. It carries the permutation: for each word and whatever the helper lines may hold, its exact
  -- amplitudes are those of the permutation, which gives the helper lines back, times the root of two for each H; no
  -- phase is free.
  pub record IsFlow (spec : Marked) (text : List ℕ) : Type 0 where
    pub net : Network
    pub is : text ≡ text_of net
    pub read_back : qasm_of text ≡ Ok (in_register_q net)
    pub maps : MapsBy blocks aux (circuit_for method simplify spec) net
    pub valid : IsNetwork net
    pub lines : net.lines ≡ spec.table.lines + helper_count aux (circuit_for method simplify spec)
    pub few : net.lines ≤ spec.table.lines + 13
    pub carries : Carries aux spec.table.lines (helper_count aux (circuit_for method simplify spec)) net.ops
        (permuted spec.table)

  -- It carries the embedding, which gives what the PLA asks.
  pub record IsFunctionFlow (pla : TwoLevel) (text : List ℕ) : Type 0 where
    pub embeds : Embeds pla (embedding_of pla)
    pub carried : IsFlow (embedding_of pla) text

-- ---- by the form of the input

-- in blocks that are made by a rule
abbrev pub ruled_row : Form → Synthesis → Bool → Blocks → Aux → ReadsFirst
ruled_row form.Perm method simplify blocks aux =
    one permutation (flow_report method simplify blocks aux) (IsFlow method simplify blocks aux)
ruled_row _ method simplify blocks aux =
    one table (function_report method simplify blocks aux) (IsFunctionFlow method simplify blocks aux)

-- in joined blocks, which are found
abbrev pub joined_row : Form → Synthesis → Bool → Aux → ReadsFirst
joined_row form.Perm method simplify aux =
    finds permutation (flow_limits method simplify Joined aux) always (IsFlow method simplify Joined aux)
joined_row _ method simplify aux =
    finds table (function_limits method simplify Joined aux) always (IsFunctionFlow method simplify Joined aux)

abbrev pub flow_row : Form → Synthesis → Bool → Blocks → Aux → ReadsFirst
flow_row origin method simplify Joined aux = joined_row origin method simplify aux
flow_row origin method simplify blocks aux = ruled_row origin method simplify blocks aux
