-- What `map` writes: by the definitions alone, it is the text of a network that carries the circuit.
use Rattle.std.proofs.Common.{arith}
use Rattle.std.specs.Prelude.{IfErr, IfOk, Result, Ok, Err, count_by, ◌<◌, ◌↔◌}
use Rattle.rv_gate.specs.Gate.{run}
use Rattle.rv_mct.specs.Widened.{decomposed, helper_count, lines_with_helpers}
use Rattle.rv_mct.specs.declared.aux.Aux.{Aux}
use Rattle.rv_net.specs.Denotes.{Carries}
use Rattle.rv_net.specs.Network.{expanded, operation_count}
use Rattle.rv_net.specs.Op.{is_t}
use Rattle.rv_net.proofs.Mapping.{maps}
use Rattle.rv_joined.specs.Joined.{MapsJoined}
use Rattle.rv_ladder.specs.Counts.{operations, relative_count, turns}
use Rattle.rv_ladder.specs.Relative.{MapsRelative, relative_net}
use Rattle.rv_ladder.specs.declared.mapping.RelativeFault.{RelativeFault}
use Rattle.rv_ladder.specs.declared.mapping.RelativeFault.TheVariants as ladders
use Rattle.rv_expand.specs.Toffoli.{toffoli_net, toffoli_ops}
use Rattle.rv_expand.proofs.Classical.{maps-toffoli}
use Rattle.rv_near.specs.Near.{near_net, near_ops}
use Rattle.rv_near.proofs.Maps.{maps-near}
use Rattle.rv_qasm.specs.Text.{text_of}
use Rattle.rv_qasm.proofs.inside.ReadBack.{read-back}
use Rattle.rv_faults.specs.declared.fault.Refusal.{Refusal}
use Rattle.rv_words.specs.declared.command.Blocks.{Blocks}
use Rattle.rv_words.specs.declared.command.Blocks.TheVariants.{Exact, Joined, Near, Relative, Toffoli}
use Rattle.rv_cmd.specs.declared.product.Product.{Product}
use Rattle.rv_cmd.specs.declared.product.Product.TheVariants as product
use Rattle.rv_cmd.specs.Commands.Decompose.{decomposition_limits}
use Rattle.rv_cmd.specs.Commands.Map.{IsMapping, MapsBy, map_limits, map_report, mapped}
use Rattle.rv_cmd.specs.Limits.{found_within}
use Rattle.rv_cmd.proofs.inside.Common.{◌≡◌, ◌≤◌, ◌∙◌, ◌++◌, ◌∷◌, [], ℕ, length, AreKept, Cascade, IsCascade, IsNetwork, IsProductOf, IsRefusalOf, MOST_LINES, MOST_OPS, Network, ap, few-by, few-unless, of_ops, refl, refusal-after, subst, sym}

-- ---- what every network of a circuit is

pub record IsOn (aux : Aux) (c : Cascade) (net : Network) : Type 0 where
  pub valid : IsNetwork net
  pub lines : net.lines ≡ lines_with_helpers aux c
  pub carries : Carries aux (length c.names) (helper_count aux c) net.ops (run c.gates)

pub maps-on : (blocks : Blocks) (aux : Aux) (c : Cascade) (net : Network) → MapsBy blocks aux c net → IsOn aux c net
maps-on Exact aux c net m = record { valid = m.valid; lines = m.lines; carries = m.carries }
maps-on Relative aux c net m = record { valid = m.valid; lines = ap (λ (n : Network). n.lines) m.is; carries = m.carries }
maps-on Joined aux c net m = record { valid = m.valid; lines = m.lines; carries = m.carries }
maps-on Toffoli aux c net m = record { valid = m.valid; lines = m.lines; carries = m.carries }
maps-on Near aux c net m = record { valid = m.valid; lines = m.lines; carries = m.carries }

meant : (blocks : Blocks) (aux : Aux) (c : Cascade) → MapsBy blocks aux c (mapped blocks aux c) → IsMapping blocks aux c (text_of (mapped blocks aux c))
meant blocks aux c law =
    record { net = mapped blocks aux c; is = refl; read_back = read-back (mapped blocks aux c) (maps-on blocks aux c (mapped blocks aux c) law).valid; maps = law }

-- ---- of the decomposed circuit

pub exact-answers : (aux : Aux) (c : Cascade) → IsCascade c → AreKept (decomposition_limits aux c) → IsCascade (decomposed aux c)
    → operation_count (decomposed aux c).gates ≤ MOST_OPS → IsProductOf (map_report Exact aux c) (IsMapping Exact aux c) (product.Expansion (expanded (decomposed aux c)))
exact-answers aux c given kept valid few =
    record { kept = (kept.0, (kept.1.0, (few, tt))); is = refl; means = meant Exact aux c (maps aux c given kept.0 valid few) }

pub toffoli-answers : (aux : Aux) (c : Cascade) → IsCascade c → AreKept (decomposition_limits aux c) → IsCascade (decomposed aux c)
    → length (toffoli_ops (decomposed aux c).gates) ≤ MOST_OPS
    → IsProductOf (map_report Toffoli aux c) (IsMapping Toffoli aux c) (product.Toffolis (toffoli_net (decomposed aux c)))
toffoli-answers aux c given kept valid few =
    record { kept = (kept.0, (kept.1.0, (few, tt))); is = refl; means = meant Toffoli aux c (maps-toffoli aux c given kept.0 valid few) }

pub near-answers : (aux : Aux) (c : Cascade) → IsCascade c → AreKept (decomposition_limits aux c) → IsCascade (decomposed aux c)
    → length (near_ops (decomposed aux c).gates) ≤ MOST_OPS → IsProductOf (map_report Near aux c) (IsMapping Near aux c) (product.Network (near_net (decomposed aux c)))
near-answers aux c given kept valid few =
    record { kept = (kept.0, (kept.1.0, (few, tt))); is = refl; means = meant Near aux c (maps-near aux c given kept.0 valid few) }

-- the code makes a product of this circuit, which has so many operations
module _ (blocks : Blocks) (aux : Aux) (c : Cascade) (size : Cascade → ℕ) (written : Cascade → Product) where
  pub map-makes : (plain : Cascade) (result : Result Product Refusal)
      → (IsCascade (decomposed aux c) → size (decomposed aux c) ≤ MOST_OPS → IsProductOf (map_report blocks aux c) (IsMapping blocks aux c) (written (decomposed aux c)))
      → plain ≡ decomposed aux c → IsCascade plain → IfOk result (λ it. size plain ≤ MOST_OPS) → IfOk result (λ it. it ≡ written plain)
      → IfOk result (IsProductOf (map_report blocks aux c) (IsMapping blocks aux c))
  map-makes plain (Err refused) answers is valid few made = tt
  map-makes plain (Ok it) answers is valid few made =
      subst (IsProductOf (map_report blocks aux c) (IsMapping blocks aux c)) (sym (made ∙ ap written is))
      (answers (subst IsCascade is valid) (subst (λ d. size d ≤ MOST_OPS) is few))

  pub map-refuses : (plain : Cascade) (result : Result Product Refusal) → AreKept (decomposition_limits aux c) → plain ≡ decomposed aux c
      → IfErr result (IsRefusalOf 1 (of_ops (size plain) ∷ []))
      → IfErr result (IsRefusalOf 1 (decomposition_limits aux c ++ of_ops (size (decomposed aux c)) ∷ []))
  map-refuses plain (Ok it) kept is unmade = tt
  map-refuses plain (Err refused) kept is unmade =
      refusal-after 1 (decomposition_limits aux c) (of_ops (size (decomposed aux c)) ∷ []) refused kept (subst (λ d. IsRefusalOf 1 (of_ops (size d) ∷ []) refused) is unmade)

-- ---- by ladders

-- the limits are kept by what is mapped
module _ {X : Type 0} (aux : Aux) (c : Cascade) (x : X)
    (lines_exact : (n : ℕ) → (◌≡◌ {A = Result X RelativeFault} (Ok x) (Err (ladders.TooManyLines n))) ↔ ((lines_with_helpers aux c ≡ n) × (MOST_LINES < n)))
    (ops_exact : (n : ℕ) → (◌≡◌ {A = Result X RelativeFault} (Ok x) (Err (ladders.TooManyOps n)))
    ↔ ((lines_with_helpers aux c ≤ MOST_LINES) × (relative_count operations aux c ≡ n) × (MOST_OPS < n))) where
  few-lines : lines_with_helpers aux c ≤ MOST_LINES
  few-lines = few-by ladders.TooManyLines (lines_with_helpers aux c) MOST_LINES x lines_exact

  few-ops : relative_count operations aux c ≤ MOST_OPS
  few-ops =
      few-unless x (ladders.TooManyOps (relative_count operations aux c)) (relative_count operations aux c) MOST_OPS
      (λ many. (ops_exact (relative_count operations aux c)).1 (few-lines, refl, many))

  pub relative-answers : (net : Network) → MapsRelative aux c net → IsProductOf (map_report Relative aux c) (IsMapping Relative aux c) (product.Network net)
  relative-answers net law =
      let law_of : MapsRelative aux c (relative_net aux c) = subst (MapsRelative aux c) law.is law in
      record { kept = (few-lines, (few-ops, tt)); is = ap text_of law.is; means = meant Relative aux c law_of }

  pub joined-answers : (net : Network) → MapsJoined aux c net
      → IsProductOf (found_within (map_limits Joined aux c) (text_of net)) (IsMapping Joined aux c) (product.Network net)
  joined-answers net law = record {
    kept = (few-lines, (few-ops, tt));
    is = refl;
    means = record { net = net; is = refl; read_back = read-back net law.valid; maps = law };
  }

-- ladders, in the place of joined blocks
joins-by-ladders : (aux : Aux) (c : Cascade) (net : Network) → MapsRelative aux c net → MapsJoined aux c net
joins-by-ladders aux c net m =
    let turned : count_by is_t net.ops ≡ relative_count turns aux c = m.turned in
    record {
      valid = m.valid;
      lines = ap (λ (n : Network). n.lines) m.is;
      turned = omega (arith, turned);
      carries = m.carries;
    }

pub in-place-of-joined : (aux : Aux) (c : Cascade) (made : Product) → IsProductOf (map_report Relative aux c) (IsMapping Relative aux c) made
    → IsProductOf (map_report Joined aux c) (IsMapping Joined aux c) made
in-place-of-joined aux c made m = record {
  kept = m.kept;
  is = m.is;
  means = record {
    net = m.means.net;
    is = m.means.is;
    read_back = m.means.read_back;
    maps = joins-by-ladders aux c m.means.net m.means.maps;
  };
}
