-- A circuit that adds the outputs of a network gives them by its marks.
use Rattle.std.proofs.Common.{◌≡◌, ℕ, ◌+◌, Bool, true, false, List, [], ◌∷◌, ◌++◌, length, replicate, refl, sym, subst, ◌∙◌, ap, append_assoc, append-nil}
use Rattle.std.specs.Prelude.{Option, Some, IfSome}
use Rattle.std.proofs.lemmas.List.{length-map, length-replicate, replicate-append-replicate}
use Rattle.rv_gate.specs.Gate.{run, xor}
use Rattle.rv_gate.specs.Circuit.{Cascade}
use Rattle.rv_gate.specs.declared.gate.Shape.{Shape}
use Rattle.rv_gate.specs.Marks.{with_constants, without_garbage}
use Rattle.rv_gate.proofs.Marks.{without_garbage-append, without_garbage-outputs, without_garbage-all, with_constants-filled}
use Rattle.rv_blif.specs.Logic.{Logic, outputs_of}
use Rattle.rv_compare.specs.Compare.{LogicAnswer, asked}
use Rattle.rv_compare.specs.declared.comparison.Comparison.TheVariants.{Same}
use Rattle.rv_forms.specs.Computing.{Computes}
use Rattle.rv_forms.specs.Followed.{xor_each, IsFollowed}
use Rattle.rv_forms.specs.Forms.{form_value, forms_at, with_terms}
use Rattle.rv_forms.specs.declared.form.Form.{Form}
use Rattle.rv_forms.specs.declared.term.Term.{Term}
use Rattle.rv_compute.specs.Lines.{logic_lines}
use Rattle.rv_compute.specs.inside.Computing.{IsWith, with_gates}
use Rattle.rv_compute.specs.Computed.{IsComputed, IsComputedWithin, Gives}
use Rattle.rv_compute.proofs.inside.Ends.{length-outputs_of, length-xor_each}

xor_zeros : (outs : List Bool) → xor_each (replicate (length outs) false) outs ≡ outs
unfolding xor_each
xor_zeros [] = refl
xor_zeros (b ∷ outs) = ap (λ c. c ∷ xor_each (replicate (length outs) false) outs) (none b) ∙ ap (λ l. b ∷ l) (xor_zeros outs)
  where
    none : (b : Bool) → xor false b ≡ b
    none true = refl
    none false = refl

left : (n o w : ℕ) (x y z : List Bool) → length x ≡ n → length y ≡ o → length z ≡ w
    → without_garbage (replicate n true ++ (replicate o false ++ replicate w true)) ((x ++ y) ++ z) ≡ y
left n o w x y z lx ly lz =
    ap (without_garbage (replicate n true ++ (replicate o false ++ replicate w true))) (append_assoc x y z)
    ∙ without_garbage-append (replicate n true) (replicate o false ++ replicate w true) x (y ++ z)
    (lx ∙ sym (length-replicate n true))
    ∙ ap (λ l. l ++ without_garbage (replicate o false ++ replicate w true) (y ++ z)) (without_garbage-all n x)
    ∙ without_garbage-append (replicate o false) (replicate w true) y z (ly ∙ sym (length-replicate o false))
    ∙ ap (λ l. without_garbage (replicate o false) y ++ l) (without_garbage-all w z)
    ∙ append-nil (without_garbage (replicate o false) y)
    ∙ ap (λ k. without_garbage (replicate k false) y) (sym ly)
    ∙ without_garbage-outputs y

-- what a circuit gives by its marks that adds a word to the lines of the outputs
pub gives_added : (logic : Logic) (work : ℕ) (c : Cascade) (x outs : List Bool)
    → c ≡ with_gates (logic_lines logic work) c.gates → length x ≡ length logic.inputs
    → length outs ≡ length logic.outputs
    → run c.gates ((x ++ replicate (length logic.outputs) false) ++ replicate work false)
    ≡ (x ++ xor_each (replicate (length logic.outputs) false) outs) ++ replicate work false
    → without_garbage c.garbage (run c.gates (with_constants c.constants x)) ≡ outs
gives_added logic w c x outs lines lx lo adds =
    let n = length logic.inputs in
    let o = length logic.outputs in
    let zeros : List Bool = replicate o false in
    let lz = length-replicate o false in
    let changed : List Bool = xor_each zeros outs in
    ap (λ (t : Cascade). without_garbage t.garbage (run c.gates (with_constants t.constants x))) lines
    ∙ ap (λ v. without_garbage (replicate n true ++ (replicate o false ++ replicate w true)) (run c.gates v))
    (with_constants-filled n (o + w) x lx
    ∙ ap (λ v. x ++ v) (sym (replicate-append-replicate o w false))
    ∙ sym (append_assoc x zeros (replicate w false)))
    ∙ ap (without_garbage (replicate n true ++ (replicate o false ++ replicate w true))) adds
    ∙ left n o w x changed (replicate w false) lx (length-xor_each zeros outs ∙ lz) (length-replicate w false)
    ∙ ap (λ k. xor_each (replicate k false) outs) (sym lo)
    ∙ xor_zeros outs

pub gives : (logic : Logic) (c : Cascade) → IsComputed logic c → Gives logic c
gives logic c h x lx =
    gives_added logic h.work c x (outputs_of logic x) h.lines lx (length-outputs_of logic x)
    (h.adds x (replicate (length logic.outputs) false) lx (length-replicate (length logic.outputs) false))

-- gates that were followed compute the network, if the circuit gives its outputs
pub computes_given : (logic : Logic) (work : ℕ) (terms : List Term) (outs : List Form) (gates : List Shape)
    (c : Cascade) → IsWith logic work gates c → length outs ≡ length logic.outputs
    → IsFollowed (length logic.inputs) terms outs work gates → Gives logic c → Computes logic work gates
computes_given logic work terms outs gates c is lo followed given =
    let same : c.gates ≡ gates = ap (λ (t : Cascade). t.gates) is in
    let o = length logic.outputs in
    let zeros : List Bool = replicate o false in
    let lz = length-replicate o false in
    let lines : c ≡ with_gates (logic_lines logic work) c.gates =
    is ∙ ap (with_gates (logic_lines logic work)) (sym same) in
    let P : List Shape → Type 0 = λ g. IsFollowed (length logic.inputs) terms outs work g in
    let followed_c : IsFollowed (length logic.inputs) terms outs work c.gates = subst P (sym same) followed in
    let told : (x : List Bool) → length x ≡ length logic.inputs → forms_at terms outs x ≡ outputs_of logic x =
    λ x lx.
    sym (gives_added logic work c x (forms_at terms outs x) lines lx
    (length-map outs (form_value (with_terms terms x)) ∙ lo)
    (followed_c.adds x zeros lx (lz ∙ sym lo)))
    ∙ given x lx in
    record {
      adds = λ x y lx ly.
          followed.adds x y lx (ly ∙ sym lo)
          ∙ ap (λ (t : List Bool). (x ++ xor_each y t) ++ replicate work false) (told x lx);
    }

pub gives_found : (logic : Logic) (lines : ℕ) (found : Option Cascade) (c : Cascade) → found ≡ Some c
    → IfSome found (IsComputedWithin logic lines) → Gives logic c
gives_found logic lines found c is h =
    let P : Option Cascade → Type 0 = λ o. IfSome o (IsComputedWithin logic lines) in
    let within : IsComputedWithin logic lines c = subst P is h in
    gives logic c within.computed

-- a circuit that was compared with the network, and is the same, gives its outputs
pub gives_same : (logic : Logic) (c : Cascade) → LogicAnswer (asked false c) logic Same → Gives logic c
gives_same logic c answer x lx = answer.2 x (lx ∙ sym answer.0)

-- the same, of gates and inputs by other names
pub computes_compared : (logic : Logic) (inputs work : ℕ) (terms : List Term) (outs : List Form)
    (gates ran : List Shape) (c : Cascade) → inputs ≡ length logic.inputs → ran ≡ gates
    → length outs ≡ length logic.outputs → IsWith logic work gates c → IsFollowed inputs terms outs work ran
    → Gives logic c → Computes logic work gates
computes_compared logic inputs work terms outs gates ran c ei eg lo is followed given =
    let P : List Shape → Type 0 = λ g. IsFollowed (length logic.inputs) terms outs work g in
    let of_inputs = subst (λ (n : ℕ). IsFollowed n terms outs work ran) ei followed in
    computes_given logic work terms outs gates c is lo (subst P eg of_inputs) given
