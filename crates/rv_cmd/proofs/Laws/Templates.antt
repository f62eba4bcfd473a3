-- What `templates` writes: by the definitions alone, it does the same as the circuit that is given, with no more gates.
use Rattle.std.proofs.Common.{◌≡◌, ℕ, ◌≤◌, ◌↔◌, Bool, true, false, nat_lt, if◌then◌else◌, List, length, Option, Some, None, Result, Ok, Err, refl, ap, sym, subst, ◌∙◌, arith}
use Rattle.std.proofs.lemmas.List.{length-map}
use Rattle.std.specs.Option.{option_or}
use Rattle.std.specs.Prelude.{option_and_then, option_map}
use Rattle.rv_gate.specs.Circuit.{Cascade, IsCascade}
use Rattle.rv_gate.specs.Gate.{run_on_number}
use Rattle.rv_gate.specs.declared.gate.Shape.{Shape}
use Rattle.rv_links.specs.Nodes.{Linkage, circuit_of, gates_in, incidences}
use Rattle.rv_real.specs.Text.{text_of}
use Rattle.rv_real.proofs.inside.ReadBack.{read_back}
use Rattle.rv_templ.specs.Gates.{Same}
use Rattle.rv_templ.specs.Simplified.{IsSimplifiedBy, NoStepLeft, simplified}
use Rattle.rv_templ.specs.Templates.{first_changed, first_other, template_fault}
use Rattle.rv_templ.specs.declared.fault.LibFault.{LibFault}
use Rattle.rv_templ.specs.declared.fault.LibFault.TheVariants as template
use Rattle.rv_templ.specs.declared.image.TheConstants.{TEMPLATE_GATES, TEMPLATE_LINES}
use Rattle.rv_faults.specs.declared.fault.InputFault.{InputFault}
use Rattle.rv_faults.specs.declared.fault.Refusal.{Refusal}
use Rattle.rv_faults.specs.declared.fault.Refusal.TheVariants.{Refused}
use Rattle.rv_inputs.specs.Formats.{refused_at}
use Rattle.rv_cmd.specs.declared.product.Product.TheVariants.{Circuit}
use Rattle.rv_cmd.specs.Commands.Templates.{IsSimplified, no_template, simplified_by, template_limits}
use Rattle.rv_cmd.specs.Limits.{AreKept, unlimited}
use Rattle.rv_cmd.specs.inside.Products.{IsProductOf, IsRefusalOf}

-- ---- a template

-- a template is never wanting memory
pub no_memory : (c : Cascade) → template_fault c ≡ Some template.Mem → ⊥
unfolding template_fault
no_memory c is = by_tests (nat_lt TEMPLATE_LINES (length c.names)) (nat_lt TEMPLATE_GATES (length c.gates)) (first_other c.gates) (first_changed (length c.names) c.gates) is
  where
    by_tests : (wide long : Bool) (other changed : Option ℕ)
        → (if wide then Some (template.TooWide (length c.names)) else if long then Some (template.TooLong (length c.gates))
        else option_or (option_map template.NotToffoli other) (option_map (λ x. template.NotIdentity x (run_on_number c.gates (length c.names) x)) changed)) ≡ Some template.Mem → ⊥
    by_tests true long other changed is = absurd (let z = is in cc)
    by_tests false true other changed is = absurd (let z = is in cc)
    by_tests false false (Some place) changed is = absurd (let z = is in cc)
    by_tests false false None (Some word) is = absurd (let z = is in cc)
    by_tests false false None None is = absurd (let z = is in cc)

-- what was answered of a circuit is its fault as a template
module _ {X : Type 0} (given : Cascade) (result : Result X LibFault)
    (wide : (n : ℕ) → (result ≡ Err (template.TooWide n)) ↔ (template_fault given ≡ Some (template.TooWide n)))
    (long : (n : ℕ) → (result ≡ Err (template.TooLong n)) ↔ (template_fault given ≡ Some (template.TooLong n)))
    (other : (place : ℕ) → (result ≡ Err (template.NotToffoli place)) ↔ (template_fault given ≡ Some (template.NotToffoli place)))
    (changed : (word image : ℕ) → (result ≡ Err (template.NotIdentity word image)) ↔ (template_fault given ≡ Some (template.NotIdentity word image))) where
  abbrev reason_of : Option LibFault → Option InputFault
  reason_of fault = option_and_then (no_template (length given.names)) fault

  pub template-taken : (x : X) → result ≡ Ok x → AreKept (template_limits given)
  template-taken x ok = (by_fault (template_fault given) refl, tt)
    where
      by_fault : (fault : Option LibFault) → template_fault given ≡ fault → reason_of (template_fault given) ≡ None
      by_fault None none = ap reason_of none
      by_fault (Some (template.TooWide n)) some = absurd (let z = sym ok ∙ (wide n).1 some in cc)
      by_fault (Some (template.TooLong n)) some = absurd (let z = sym ok ∙ (long n).1 some in cc)
      by_fault (Some (template.NotToffoli place)) some = absurd (let z = sym ok ∙ (other place).1 some in cc)
      by_fault (Some (template.NotIdentity word image)) some = absurd (let z = sym ok ∙ (changed word image).1 some in cc)
      by_fault (Some template.Mem) some = absurd (no_memory given some)

  abbrev refused : Option InputFault → Option Refusal
  refused reason = option_or (option_map (Refused 1) reason) None

  pub template-refused : (fault : LibFault) → result ≡ Err fault → IsRefusalOf 2 (template_limits given) (refused_at 1 (no_template (length given.names) fault))
  template-refused (template.TooWide n) err = (omega arith, ap (λ f. refused (reason_of f)) ((wide n).0 err))
  template-refused (template.TooLong n) err = (omega arith, ap (λ f. refused (reason_of f)) ((long n).0 err))
  template-refused (template.NotToffoli place) err = (omega arith, ap (λ f. refused (reason_of f)) ((other place).0 err))
  template-refused (template.NotIdentity word image) err = (omega arith, ap (λ f. refused (reason_of f)) ((changed word image).0 err))
  template-refused template.Mem err = tt

-- ---- the circuit

-- the law
pub templates-means : (library : List (List Shape)) (c : Cascade) → IsCascade (simplified_by library c) → Same (length c.names) c.gates (simplified library c.gates)
    → length (simplified library c.gates) ≤ length c.gates → incidences (simplified library c.gates) ≤ incidences c.gates → NoStepLeft library (simplified library c.gates)
    → IsSimplifiedBy library c.gates (simplified library c.gates) → IsSimplified library c (text_of (simplified_by library c))
templates-means library c valid same fewer no_more settled steps =
    record { read_back = read_back (simplified_by library c) valid; same = same; fewer = fewer; no_more = no_more; settled = settled; steps = steps }

-- of linked circuits
pub simplified-answers : (library : List (List Shape)) (c simpler : Cascade) (old new : Linkage) → circuit_of old ≡ c → simpler ≡ circuit_of new
    → gates_in new.nodes ≡ simplified library (gates_in old.nodes) → new.frame ≡ old.frame → Same (length old.frame.names) (gates_in old.nodes) (gates_in new.nodes)
    → NoStepLeft library (gates_in new.nodes) → length new.nodes ≤ length old.nodes → incidences (gates_in new.nodes) ≤ incidences (gates_in old.nodes)
    → IsSimplifiedBy library (gates_in old.nodes) (gates_in new.nodes) → IsCascade simpler
    → IsProductOf (unlimited (text_of (simplified_by library c))) (IsSimplified library c) (Circuit simpler)
simplified-answers library c simpler old new from to value frame same settled fewer no_more steps valid =
    let given : Cascade = circuit_of old in
    let Answers : Cascade → Type 0 = λ d. IsProductOf (unlimited (text_of (simplified_by library d))) (IsSimplified library d) (Circuit simpler) in
    let DoesAs : List Shape → Type 0 = λ gates. Same (length old.frame.names) (gates_in old.nodes) gates in
    let AddsNone : List Shape → Type 0 = λ gates. incidences gates ≤ incidences (gates_in old.nodes) in
    let is : simpler ≡ simplified_by library given =
    to ∙ ap (λ (f : Cascade). record f { gates = gates_in new.nodes }) frame ∙ ap (λ (gates : List Shape). record old.frame { gates = gates }) value in
    let few : length (simplified library given.gates) ≤ length given.gates =
    omega (arith, fewer, length-map new.nodes (λ n. n.gate), length-map old.nodes (λ n. n.gate), ap length value) in
    subst Answers from (record {
      kept = tt;
      is = ap text_of is;
      means = templates-means library given (subst IsCascade is valid) (subst DoesAs value same) few (subst AddsNone value no_more) (subst (NoStepLeft library) value settled)
          (subst (IsSimplifiedBy library (gates_in old.nodes)) value steps);
    })
