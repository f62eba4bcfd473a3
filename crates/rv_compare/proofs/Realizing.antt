-- A circuit agrees with a table everywhere exactly where it realizes it.
use Rattle.std.proofs.Common.{sym, ◌∙◌}
use Rattle.rv_gate.specs.Circuit.{Cascade, IsCascade}
use Rattle.rv_gate.specs.Gate.{run}
use Rattle.rv_gate.specs.Marks.{with_constants}
use Rattle.rv_gate.proofs.inside.GateLemmas.{length-run}
use Rattle.rv_gate.proofs.Marks.{length-with_constants, length-without_garbage}
use Rattle.rv_pla.specs.Pla.{TwoLevel}
use Rattle.rv_embed.specs.Realizes.{Realizes}
use Rattle.rv_compare.specs.Compare.{TableAnswer}
use Rattle.rv_compare.specs.declared.comparison.Comparison.TheVariants.{Same}

pub same_realizes : (c : Cascade) (pla : TwoLevel) → IsCascade c → TableAnswer c pla Same → Realizes pla (run c.gates) c.constants c.garbage
same_realizes c pla valid h = record {
  inputs = h.0;
  outputs = h.1;
  gives = λ x len. record {
    count = length-without_garbage c.garbage (run c.gates (with_constants c.constants x))
        (length-run c.gates (with_constants c.constants x) ∙ length-with_constants c.constants x ∙ valid.constants ∙ sym valid.garbage)
        ∙ h.1;
    allowed = h.2 x (len ∙ sym h.0);
  };
}

pub realizes_same : (c : Cascade) (pla : TwoLevel) → Realizes pla (run c.gates) c.constants c.garbage → TableAnswer c pla Same
realizes_same c pla r = (r.inputs, r.outputs, λ x len. (r.gives x (len ∙ r.inputs)).allowed)
