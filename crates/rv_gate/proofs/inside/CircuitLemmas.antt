-- What a circuit keeps.
use Rattle.std.proofs.Common.{◌≡◌, ℕ, ◌≤◌, true, not, ◌&&◌, List, [], ◌∷◌, length, refl, sym, inl, inr, arith, nat_lt, set, length-set, ◌∙◌, slice_index, ◌==◌, true≢false}
use Rattle.std.proofs.lemmas.Bool.{cases_eq, ne_eqb, and_parts}
use Rattle.std.proofs.lemmas.List.{length-replicate, map-set}
use Rattle.std.proofs.lemmas.List.Elements.{All-set, All-nil, All-weaker}
use Rattle.std.specs.List.{list_all}
use Rattle.std.specs.Global.{Vec}
use Rattle.std.specs.Vec.{with_item}
use Rattle.rv_gate.specs.Gate.{IsGate, FitsIn}
use Rattle.rv_gate.specs.Names.{is_name_byte, IsName, AreNames}
use Rattle.rv_gate.specs.Circuit.{Cascade, is_label_byte, IsLabel, AreLabels, IsCascade, fresh}
use Rattle.rv_gate.specs.inside.CircuitView.{labels_in}

-- a byte of a name is one of a label
label_byte : (byte : ℕ) → is_name_byte byte ≡ true → is_label_byte byte ≡ true
label_byte byte h =
    elim (cases_eq byte 34) [
      | inl quote ↦ absurd (true≢false (sym (rw quote at h)))
      | inr other ↦
          (elim (cases_eq byte 10) [
            | inl feed ↦ absurd (true≢false (sym (rw feed at h)))
            | inr neither ↦ rw (ne_eqb byte 34 other, ne_eqb byte 10 neither) refl
          ])
    ]

label_bytes : (name : List ℕ) → list_all is_name_byte name ≡ true → list_all is_label_byte name ≡ true
label_bytes [] h = refl
label_bytes (byte ∷ rest) h =
    let parts = and_parts (is_name_byte byte) (list_all is_name_byte rest) h in
    rw (label_byte byte parts.0, label_bytes rest parts.1) refl

pub IsLabel-from_IsName : (name : List ℕ) → IsName name → IsLabel name
IsLabel-from_IsName name is =
    label_bytes name (and_parts (nat_lt 0 (length name) && not (slice_index name 0 == 45) && not (slice_index name 0 == 46)) (list_all is_name_byte name) is).1

pub IsCascade-fresh : (names : List (List ℕ)) → 1 ≤ length names → AreNames names → IsCascade (fresh names)
IsCascade-fresh names some kept =
    let labels : AreLabels (length names) names = record { count = refl; each = All-weaker IsName IsLabel IsLabel-from_IsName names kept.each } in
    record {
      some = some;
      names = kept;
      input_labels = labels;
      output_labels = labels;
      constants = length-replicate _ _;
      garbage = length-replicate _ _;
      bounded = omega arith;
      valid = All-nil IsGate;
      fitting = All-nil (λ gate. FitsIn gate (length names));
    }

-- the labels after one is set
pub labels_in-with_item : (labels : Vec (Vec ℕ)) (line : ℕ) (label : Vec ℕ) → labels_in (with_item labels line label) ≡ set (labels_in labels) line label.items
labels_in-with_item labels line label = map-set (λ own. own.items) labels.items line label

AreLabels-set : (lines : ℕ) (labels : List (List ℕ)) (line : ℕ) (label : List ℕ) → AreLabels lines labels → IsLabel label → AreLabels lines (set labels line label)
AreLabels-set lines labels line label kept is = record { count = length-set labels line label ∙ kept.count; each = All-set IsLabel labels line label is kept.each }

pub IsCascade-input_label : (c : Cascade) (line : ℕ) (label : List ℕ) → IsCascade c → IsLabel label → IsCascade (record c { input_labels = set c.input_labels line label })
IsCascade-input_label c line label kept is = record {
  some = kept.some;
  names = kept.names;
  input_labels = AreLabels-set (length c.names) c.input_labels line label kept.input_labels is;
  output_labels = kept.output_labels;
  constants = kept.constants;
  garbage = kept.garbage;
  bounded = kept.bounded;
  valid = kept.valid;
  fitting = kept.fitting;
}

pub IsCascade-output_label : (c : Cascade) (line : ℕ) (label : List ℕ) → IsCascade c → IsLabel label → IsCascade (record c { output_labels = set c.output_labels line label })
IsCascade-output_label c line label kept is = record {
  some = kept.some;
  names = kept.names;
  input_labels = kept.input_labels;
  output_labels = AreLabels-set (length c.names) c.output_labels line label kept.output_labels is;
  constants = kept.constants;
  garbage = kept.garbage;
  bounded = kept.bounded;
  valid = kept.valid;
  fitting = kept.fitting;
}
