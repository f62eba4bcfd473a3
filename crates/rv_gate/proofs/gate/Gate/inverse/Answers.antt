use Rattle.std.proofs.Common.{◌≡◌, [], ◌∷◌, rules, sym, ◌∙◌, refl, inl, inr, ne_eqb}
use Rattle.std.proofs.lemmas.Nat.{one_shl}
use Rattle.rv_gate.specs.Gate.{inverse}
use Rattle.rv_gate.proofs.InverseLemmas.{run-undoing, FitsIn-inverse}
use Rattle.rv_gate.proofs.LineSets.{has-line, has-lines}
use Rattle.rv_gate.proofs.gate.Gate.inverse.Goals as goal

pub flip_under-first-requires-clause-free : goal.flip_under-first-requires-clause-free
flip_under-first-requires-clause-free c =
    let kept = rw (sym c.shape.ensures.value ∙ c.in-Peres.is) at c.shape.ensures.valid in
    rw (one_shl c.in-Peres.a 64 kept.0) (has-line c.in-Peres.a c.in-Peres.b ∙ ne_eqb c.in-Peres.b c.in-Peres.a (λ e. kept.3 (sym e)))

pub flip_under-second-requires-clause-free : goal.flip_under-second-requires-clause-free
flip_under-second-requires-clause-free c =
    let kept = rw (sym c.shape.ensures.value ∙ c.in-Peres.is) at c.shape.ensures.valid in
    rw (one_shl c.in-Peres.a 64 kept.0, one_shl c.in-Peres.b 64 kept.1)
    (has-lines c.in-Peres.a c.in-Peres.b c.in-Peres.c ∙ rw (ne_eqb c.in-Peres.c c.in-Peres.a (λ e. kept.4 (sym e)), ne_eqb c.in-Peres.c c.in-Peres.b (λ e. kept.5 (sym e))) refl)

pub returns-in-Peres-clause-undoes : goal.returns-in-Peres-clause-undoes
returns-in-Peres-clause-undoes c =
    let gates : c.flip_under-first.result ∷ c.flip_under-second.result ∷ [] ≡ inverse c.args.self = search rules in
    run-undoing c.args.self _ gates c.shape.ensures.valid

pub returns-in-Peres-clause-fit : goal.returns-in-Peres-clause-fit
returns-in-Peres-clause-fit c = FitsIn-inverse c.args.self

pub returns-in-Flip : goal.returns-in-Flip
returns-in-Flip c =
    let alone : c.args.self ∷ [] ≡ inverse c.args.self =
    elim c.in-Flip.is [
      | inl flip ↦ rw (sym c.shape.ensures.value ∙ flip.3) refl
      | inr swap ↦ rw (sym c.shape.ensures.value ∙ swap.4) refl
    ] in
    record { gates = alone; undoes = run-undoing c.args.self _ alone c.shape.ensures.valid; fit = FitsIn-inverse c.args.self }
