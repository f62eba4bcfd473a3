-- Limits in the subject's terms: a circuit can be taken as a template, and operations are classical.
use Rattle.std.proofs.Common.{◌≡◌, ◌↔◌, ℕ, suc, ◌+◌, ◌^◌, ◌<◌, ◌≤◌, Bool, true, false, not, List, [], ◌∷◌, length, All, Option, Some, None, nat_lt, if◌then◌else◌, refl, ap, sym, subst, ◌∙◌, arith, eq-eqb}
use Rattle.std.specs.Prelude.{option_and_then, option_map}
use Rattle.std.proofs.lemmas.Bool.{ltb-false}
use Rattle.std.proofs.lemmas.List.Elements.{All-nil, All-cons, All-head, All-tail}
use Rattle.rv_gate.specs.Circuit.{Cascade}
use Rattle.rv_gate.specs.Gate.{is_flip, run_on_number}
use Rattle.rv_gate.specs.Word.{number_of, word_of}
use Rattle.rv_gate.specs.inside.laws.WordLaws.{length-word_of, number_of-word_of_small}
use Rattle.rv_gate.specs.declared.gate.Shape.{Shape}
use Rattle.rv_gate.proofs.FirstAnswer.{none_at, none_first, or_none}
use Rattle.rv_templ.specs.Gates.{Flips, Identity, gate_in}
use Rattle.rv_templ.specs.Templates.{changed_at, first_changed, first_other, other_at, template_fault}
use Rattle.rv_templ.specs.declared.fault.LibFault.{LibFault}
use Rattle.rv_templ.specs.declared.fault.LibFault.TheVariants as template
use Rattle.rv_templ.specs.declared.image.TheConstants.{TEMPLATE_GATES, TEMPLATE_LINES}
use Rattle.rv_templ.proofs.inside.TemplateLaws.{fault_none, flips_from, identity_on}
use Rattle.rv_templ.proofs.WindowLaws.{flip_at}
use Rattle.rv_net.specs.declared.op.Op.{Op}
use Rattle.rv_qasm.specs.Back.{AreClassical, classical_length, is_classical}
use Rattle.rv_cmd.specs.Commands.Templates.{CanBeTemplate, no_template, template_limits}
use Rattle.rv_cmd.specs.Commands.ToReal.{toreal_limits}
use Rattle.rv_cmd.specs.Limits.{AreKept}
use Rattle.rv_faults.specs.declared.fault.InputFault.{InputFault}
use Rattle.rv_cmd.proofs.Laws.Templates.{no_memory}
use Rattle.rv_gate.proofs.Options.{unmapped}

-- no fault where a test is to fail
passes : {X : Type 0} (good : Bool) (fault : X) → (if good then None else Some fault) ≡ None → good ≡ true
passes true fault none = refl
passes false fault none = absurd (let z = none in cc)

failed : {X : Type 0} (bad : Bool) (fault : X) (rest : Option X) → (if bad then Some fault else rest) ≡ None → (bad ≡ false) × (rest ≡ None)
failed true fault rest none = absurd (let z = none in cc)
failed false fault rest none = (refl, none)

-- ---- flips

flips-only : (gates : List Shape) → first_other gates ≡ None → Flips gates
flips-only gates none =
    flips_from gates (λ i below. passes (is_flip (gate_in gates i)) (i + 1) (none_at (other_at gates) 0 (length gates) i none (omega arith) (omega arith)))

flips-each : (gates : List Shape) → Flips gates → first_other gates ≡ None
flips-each gates flips =
    none_first (other_at gates) 0 (length gates) (λ i from below. ap (λ (b : Bool). if b then None else Some (i + 1)) (flip_at gates i flips (omega arith)))

-- ---- identities

identity-each : (n : ℕ) (gates : List Shape) → Identity n gates → first_changed n gates ≡ None
identity-each n gates same =
    none_first (changed_at n gates) 0 (2 ^ n) (λ x from below.
    let small : x < 2 ^ n = omega (arith, below) in
    let is : run_on_number gates n x ≡ x = ap number_of (same (word_of n x) (length-word_of n x)) ∙ number_of-word_of_small n x small in
    ap (λ (b : Bool). if b then None else Some x) (eq-eqb (run_on_number gates n x) x is))

-- ---- templates

pub template-only : (c : Cascade) → template_fault c ≡ None → CanBeTemplate c
unfolding template_fault
template-only c none =
    let n : ℕ = length c.names in
    let wide = failed (nat_lt TEMPLATE_LINES n) (template.TooWide n) _ none in
    let long = failed (nat_lt TEMPLATE_GATES (length c.gates)) (template.TooLong (length c.gates)) _ wide.1 in
    let both = or_none (option_map template.NotToffoli (first_other c.gates)) (option_map (λ x. template.NotIdentity x (run_on_number c.gates n x)) (first_changed n c.gates)) long.1 in
    record {
      lines = ltb-false TEMPLATE_LINES n wide.0;
      gates = ltb-false TEMPLATE_GATES (length c.gates) long.0;
      flips = flips-only c.gates (unmapped template.NotToffoli (first_other c.gates) both.0);
      identity = identity_on n c.gates (unmapped _ (first_changed n c.gates) both.1);
    }

pub template-each : (c : Cascade) → CanBeTemplate c → template_fault c ≡ None
template-each c can = sym (fault_none c can.lines can.gates (sym (flips-each c.gates can.flips)) (sym (identity-each (length c.names) c.gates can.identity)))

pub template-kept : (c : Cascade) → AreKept (template_limits c) ↔ CanBeTemplate c
template-kept c = (λ kept. template-only c (unmatched (template_fault c) refl kept.0), λ can. (ap reason_of (template-each c can), tt))
  where
    reason_of : Option LibFault → Option InputFault
    reason_of = option_and_then (no_template (length c.names))

    unmatched : (fault : Option LibFault) → template_fault c ≡ fault → reason_of fault ≡ None → fault ≡ None
    unmatched None is none = refl
    unmatched (Some (template.TooWide n)) is none = absurd (let z = none in cc)
    unmatched (Some (template.TooLong n)) is none = absurd (let z = none in cc)
    unmatched (Some (template.NotToffoli place)) is none = absurd (let z = none in cc)
    unmatched (Some (template.NotIdentity word image)) is none = absurd (let z = none in cc)
    unmatched (Some template.Mem) is none = absurd (no_memory c is)

-- ---- operations

-- how many operations before the first that is not classical, by whether the first one is
abbrev with_first : Bool → ℕ → ℕ
with_first first rest = if not (not first) then 1 + rest else 0

classical-only : (ops : List Op) → length ops ≤ classical_length ops → All (λ op. is_classical op ≡ true) ops
classical-only [] all = All-nil (λ op. is_classical op ≡ true)
classical-only (op ∷ ops) all = by (classical-only ops) (is_classical op) refl
  where
    by : (length ops ≤ classical_length ops → All (λ op. is_classical op ≡ true) ops) → (first : Bool) → is_classical op ≡ first → All (λ op. is_classical op ≡ true) (op ∷ ops)
    by rest true is =
        let most : suc (length ops) ≤ 1 + classical_length ops = subst (λ b. suc (length ops) ≤ with_first b (classical_length ops)) is all in
        All-cons (λ op. is_classical op ≡ true) op ops is (rest (omega (arith, most)))
    by rest false is =
        let most : suc (length ops) ≤ 0 = subst (λ b. suc (length ops) ≤ with_first b (classical_length ops)) is all in
        absurd (omega (arith, most))

classical-each : (ops : List Op) → All (λ op. is_classical op ≡ true) ops → length ops ≤ classical_length ops
classical-each [] all = omega arith
classical-each (op ∷ ops) all =
    let rest = classical-each ops (All-tail (λ op. is_classical op ≡ true) op ops all) in
    let most : suc (length ops) ≤ 1 + classical_length ops = omega (arith, rest) in
    subst (λ b. suc (length ops) ≤ with_first b (classical_length ops)) (sym (All-head (λ op. is_classical op ≡ true) op ops all)) most

pub operations-kept : (ops : List Op) → AreKept (toreal_limits ops) ↔ AreClassical ops
operations-kept ops =
    (λ kept. record { each = classical-only ops kept.0; few = kept.1.0 }, λ classical. (classical-each ops classical.each, (classical.few, tt)))
