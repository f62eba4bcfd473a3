-- Gates that compute the permutation of an embedding give what the table asks.
use Rattle.std.proofs.Common.{◌≡◌, ◌∙◌, ℕ, ◌<◌, ◌≤◌, List, Bool, length, subst, sym, ap, arith}
use Rattle.std.specs.Prelude.{Result, Err}
use Rattle.rv_embed.specs.Embedding.{least_lines}
use Rattle.rv_embed.specs.Least.{IsEmbedding, NoCircuitHasFewer}
use Rattle.rv_embed.specs.Realizes.{Meets, Realizes}
use Rattle.rv_gate.specs.Circuit.{Cascade}
use Rattle.rv_gate.specs.Gate.{run}
use Rattle.rv_gate.specs.Marks.{with_constants, without_garbage}
use Rattle.rv_gate.specs.declared.gate.Shape.{Shape}
use Rattle.rv_gate.proofs.Marks.{length-with_constants}
use Rattle.rv_gate.proofs.NameLemmas.{length-numbered}
use Rattle.rv_perm.specs.Lines.{circuit_on}
use Rattle.rv_perm.specs.Marked.{Marked}
use Rattle.rv_perm.specs.Perm.{Computes}
use Rattle.rv_pla.specs.FreeEntries.{HasNoFree}
use Rattle.rv_pla.specs.Pla.{TwoLevel}
use Rattle.rv_realize.specs.declared.options.RealizeFault.{RealizeFault}
use Rattle.rv_realize.specs.declared.options.RealizeFault.TheVariants.{TooManyLines}
use Rattle.rv_realize.specs.Realized.{IsEmbeddable, IsRealized, IsTooFew}

computed_realizes : (pla : TwoLevel) (m : Marked) (gates : List Shape) → IsEmbedding pla m → Computes m.table.lines gates m.table.images
    → Realizes pla (run gates) m.constants m.garbage
computed_realizes pla m gates embedding computes = record {
  inputs = embedding.realizes.inputs;
  outputs = embedding.realizes.outputs;
  gives =
      λ x len.
      subst (λ (word : List Bool). Meets pla x (without_garbage m.garbage word))
      (sym (computes (with_constants m.constants x) (length-with_constants m.constants x ∙ embedding.constants)))
      (embedding.realizes.gives x len);
}

pub realized_on : (pla : TwoLevel) (m : Marked) (most : ℕ) (gates : List Shape) (c : Cascade) → c ≡ circuit_on m gates → IsEmbedding pla m
    → Computes m.table.lines c.gates m.table.images → m.table.lines ≤ most → IsRealized pla most c
realized_on pla m most gates c is embedding computes few = record {
  realizes =
      rw (ap (λ (k : Cascade). k.constants) is, ap (λ (k : Cascade). k.garbage) is)
      (computed_realizes pla m c.gates embedding computes);
  lines = omega (arith, ap (λ (k : Cascade). length k.names) is, length-numbered 120 m.table.lines, few);
}

-- how many lines a fault tells
abbrev pub lines_told : {A : Type 0} → Result A RealizeFault → ℕ
lines_told (Err (TooManyLines n)) = n
lines_told _ = 0

pub too_few : (pla : TwoLevel) (m : Marked) (most n : ℕ) → n ≡ m.table.lines → m.table.lines ≡ least_lines pla → IsEmbeddable pla
    → (HasNoFree pla → NoCircuitHasFewer pla m.table.lines) → most < n → IsTooFew pla most n
too_few pla m most n is lines embeddable least over = record {
  over = over;
  embedded = λ _. is ∙ lines;
  least = λ _ free. subst (NoCircuitHasFewer pla) (sym is) (least free);
  beside = λ no. absurd (no embeddable);
}
