-- Marks that are set on one line after another, and the names of the lines.
use Rattle.std.proofs.Common.{◌≡◌, ℕ, suc, ◌+◌, ◌<◌, cond, List, [], ◌∷◌, ◌++◌, length, map, set, take, get_or, ◌∙◌, ap, arith, length-append, Bool}
use Rattle.std.specs.Prelude.{slice_get, Some}
use Rattle.std.proofs.lemmas.Bool.{false_from_ne_true}
use Rattle.std.proofs.lemmas.List.{take_more, map_more, length-map, length-take-le}
use Rattle.std.proofs.lemmas.Option.{get_or_from_slice_get, slice_get_within}
use Rattle.rv_gate.specs.Circuit.{Cascade, IsLabel}
use Rattle.rv_gate.specs.declared.circuit.Mark.{Mark}
use Rattle.rv_gate.specs.Names.{numbered}
use Rattle.rv_gate.proofs.NameLemmas.{length-numbered}
use Rattle.rv_compute.specs.Lines.{line_names, with_label, with_labels}

abbrev pub with_constants : Cascade → List Mark → Cascade
with_constants c marks = record c { constants = marks }

abbrev pub with_garbage : Cascade → List Bool → Cascade
with_garbage c garbage = record c { garbage = garbage }

abbrev pub with_inputs : Cascade → List (List ℕ) → Cascade
with_inputs c labels = record c { input_labels = labels }

abbrev pub with_outputs : Cascade → List (List ℕ) → Cascade
with_outputs c labels = record c { output_labels = labels }

pub length-line_names : (inputs outputs work : ℕ) → length (line_names inputs outputs work) ≡ inputs + outputs + work
length-line_names inputs outputs work =
    omega (
      arith,
      length-append (numbered 120 inputs ++ numbered 121 outputs) (numbered 119 work),
      length-append (numbered 120 inputs) (numbered 121 outputs),
      length-numbered 120 inputs,
      length-numbered 121 outputs,
      length-numbered 119 work,
    )

-- ---- labels

pub label_set : (labels : List (List ℕ)) (line : ℕ) (name : List ℕ) → IsLabel name
    → with_label labels line name ≡ set labels line name
label_set labels line name is = ap (λ t. cond t (set labels line name) labels) is

pub label_kept : (labels : List (List ℕ)) (line : ℕ) (name : List ℕ) → (IsLabel name → ⊥)
    → with_label labels line name ≡ labels
label_kept labels line name isnt = ap (λ t. cond t (set labels line name) labels) (false_from_ne_true _ isnt)

with_labels-push : (labels : List (List ℕ)) (line : ℕ) (names : List (List ℕ)) (name : List ℕ)
    → with_labels labels line (names ++ name ∷ []) ≡ with_label (with_labels labels line names) (line + length names) name
with_labels-push labels line [] name = let e : line ≡ line + 0 = omega arith in ap (λ k. with_label labels k name) e
with_labels-push labels line (first ∷ names) name =
    let e : line + 1 + length names ≡ line + suc (length names) = omega arith in
    with_labels-push (with_label labels line first) (line + 1) names name
    ∙ ap (λ k. with_label (with_labels (with_label labels line first) (line + 1) names) k name) e

pub labels_more : (labels : List (List ℕ)) (line i there : ℕ) (all : List (List ℕ)) (name : List ℕ) → line + i ≡ there
    → slice_get all i ≡ Some name
    → with_labels labels line (take (i + 1) all) ≡ with_label (with_labels labels line (take i all)) there name
labels_more labels line i there all name is at =
    let lt = slice_get_within all i name at in
    ap (with_labels labels line)
    (take_more all i name lt ∙ ap (λ n. take i all ++ n ∷ []) (get_or_from_slice_get all i name name at))
    ∙ with_labels-push labels line (take i all) name
    ∙ ap (λ k. with_label (with_labels labels line (take i all)) (line + k) name) (length-take-le i all (omega arith))
    ∙ ap (λ k. with_label (with_labels labels line (take i all)) k name) is

pub labels_more-map : {A : Type 0} → (f : A → List ℕ) (labels : List (List ℕ)) (line i : ℕ) (all : List A) (d : A)
    → i < length all
    → with_labels labels line (map f (take (i + 1) all))
    ≡ with_label (with_labels labels line (map f (take i all))) (line + i) (f (get_or all i d))
labels_more-map f labels line i all d lt =
    ap (with_labels labels line) (map_more f all i d lt)
    ∙ with_labels-push labels line (map f (take i all)) (f (get_or all i d))
    ∙ ap (λ k. with_label (with_labels labels line (map f (take i all))) (line + k) (f (get_or all i d)))
    (length-map (take i all) f ∙ length-take-le i all (omega arith))
