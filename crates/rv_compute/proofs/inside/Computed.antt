-- The circuit that was made is one of the network.
use Rattle.std.proofs.Common.{◌≡◌, ℕ, ◌+◌, ◌<◌, ◌≤◌, List, length, get_or, sym, subst, ◌∙◌, ap, inl, inr, arith}
use Rattle.std.proofs.lemmas.Bool.{cases_lt}
use Rattle.std.specs.Prelude.{All}
use Rattle.rv_gate.specs.Gate.{FitsIn, IsGate}
use Rattle.rv_gate.specs.Circuit.{Cascade}
use Rattle.rv_gate.specs.declared.gate.Shape.{Shape}
use Rattle.rv_blif.specs.Logic.{Logic}
use Rattle.rv_forms.specs.Computing.{Computes}
use Rattle.rv_compute.specs.Lines.{logic_lines}
use Rattle.rv_compute.specs.Computed.{IsComputedWithin}
use Rattle.rv_compute.specs.inside.Computing.{IsWith, with_gates}
use Rattle.rv_compute.specs.inside.Held.{line_count}
use Rattle.rv_compute.specs.inside.Blocks.{AreGates}
use Rattle.rv_compute.proofs.Marks.{length-line_names}
use Rattle.rv_compute.proofs.inside.Standing.{by_default}

pub computed : (logic : Logic) (extra : ℕ) (c : Cascade) (gates : List Shape) → IsWith logic extra gates c
    → Computes logic extra gates → IsComputedWithin logic (line_count logic extra) c
computed logic extra c gates is computes =
    let same : c.gates ≡ gates = ap (λ (t : Cascade). t.gates) is in
    let P : List Shape → Type 0 = λ g. Computes logic extra g in
    let all : Computes logic extra c.gates = subst P (sym same) computes in
    record {
      computed = record {
        work = extra;
        lines = is ∙ ap (with_gates (logic_lines logic extra)) (sym same);
        adds = all.adds;
      };
      few =
          let e : length c.names ≡ line_count logic extra =
          ap (λ (t : Cascade). length t.names) is
          ∙ length-line_names (length logic.inputs) (length logic.outputs) extra in
          omega arith;
    }

-- with more lines allowed
pub within_more : (logic : Logic) (few many : ℕ) (c : Cascade) → few ≤ many → IsComputedWithin logic few c
    → IsComputedWithin logic many c
within_more logic few many c le h = record { computed = h.computed; few = (let e = h.few in omega arith) }

pub valid_gates : (lines : ℕ) (gates : List Shape) → AreGates lines gates → All IsGate gates
valid_gates lines gates are k d lt = (are k d lt).0

pub fit_gates : (lines names : ℕ) (gates : List Shape) → lines ≡ names → AreGates lines gates
    → All (λ gate. FitsIn gate names) gates
fit_gates lines names gates same are k d lt =
    let P : ℕ → Type 0 = λ n. FitsIn (get_or gates k d) n in subst P same (are k d lt).1

-- the first gates fit
pub record FitBelow (lines : ℕ) (gates : List Shape) (count : ℕ) : Type 0 where
  pub each : (k : ℕ) (d : Shape) → k < count → IsGate (get_or gates k d) × FitsIn (get_or gates k d) lines

pub fit_none : (lines : ℕ) (gates : List Shape) → FitBelow lines gates 0
fit_none lines gates = record { each = λ k d lt. absurd (omega arith) }

pub fit_more : (lines : ℕ) (gates : List Shape) (count : ℕ) (gate : Shape) → FitBelow lines gates count
    → count < length gates → gate ≡ get_or gates count gate → IsGate gate → FitsIn gate lines
    → FitBelow lines gates (count + 1)
fit_more lines gates count gate so_far here is valid fits = record {
  each = λ k d lt.
      elim (cases_lt k count) [
        | inl below ↦ so_far.each k d below
        | inr le ↦
            (let same : k ≡ count = omega arith in
            let at : gate ≡ get_or gates k d =
            is ∙ by_default gates count gate d here ∙ ap (λ i. get_or gates i d) (sym same) in
            let P : Shape → Type 0 = λ g. IsGate g × FitsIn g lines in
            subst P at (valid, fits))
      ];
}

pub fit_all : (lines : ℕ) (gates : List Shape) (count : ℕ) → length gates ≤ count → FitBelow lines gates count
    → AreGates lines gates
fit_all lines gates count le h k d lt = h.each k d (omega arith)
