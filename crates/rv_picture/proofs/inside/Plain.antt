-- A label of plain bytes is written as it is.
use Rattle.std.proofs.Common.{◌≡◌, ◌∙◌, ℕ, zero, suc, true, false, not, List, [], ◌∷◌, ◌++◌, refl, sym, ap, arith, nat_lt}
use Rattle.std.specs.List.{flat_map, list_all}
use Rattle.std.specs.Prelude.{IsAscii}
use Rattle.std.specs.Str.{is_utf8}
use Rattle.std.proofs.lemmas.Bool.{and_from, and_parts, ltb-true, not-true}
use Rattle.std.proofs.lemmas.Str.{IsUtf8-from_ascii, is_utf8-from_IsUtf8}
use Rattle.rv_picture.specs.Labels.{Escape, escaped, is_printable, is_special, is_visible, written_label}
use Rattle.rv_picture.specs.inside.Plain.{is_plain}
use Rattle.rv_picture.proofs.LabelsBack.{plain_escaped}

are_ascii : (table : List Escape) (label : List ℕ) → list_all (is_plain table) label ≡ true → IsAscii label
are_ascii table [] are i = omega arith
are_ascii table (b ∷ label) are zero =
    ltb-true b 128 (and_parts (nat_lt b 128) _ (and_parts (is_plain table b) (list_all (is_plain table) label) are).0).0
are_ascii table (b ∷ label) are (suc i) = are_ascii table label (and_parts (is_plain table b) (list_all (is_plain table) label) are).1 i

are_visible : (table : List Escape) (label : List ℕ) → list_all (is_plain table) label ≡ true → list_all is_visible label ≡ true
are_visible table [] are = refl
are_visible table (b ∷ label) are =
    let both = and_parts (is_plain table b) (list_all (is_plain table) label) are in
    let shown = and_parts (nat_lt b 128) _ both.0 in
    and_from (is_visible b) (list_all is_visible label) (and_parts (is_visible b) (not (is_special table b)) shown.1).0 (are_visible table label both.1)

are_kept : (table : List Escape) (label : List ℕ) → list_all (is_plain table) label ≡ true → flat_map (escaped table) label ≡ label
are_kept table [] are = refl
are_kept table (b ∷ label) are =
    let both = and_parts (is_plain table b) (list_all (is_plain table) label) are in
    let shown = and_parts (nat_lt b 128) _ both.0 in
    let plain : is_special table b ≡ false = not-true _ (and_parts (is_visible b) (not (is_special table b)) shown.1).1 in
    ap (λ text. text ++ flat_map (escaped table) label) (plain_escaped table b plain) ∙ ap (λ rest. b ∷ rest) (are_kept table label both.1)

pub plain_written : (table : List Escape) (label : List ℕ) → list_all (is_plain table) label ≡ true → label ≡ written_label table label
plain_written table label are =
    let utf8 : is_utf8 label ≡ true = is_utf8-from_IsUtf8 label (IsUtf8-from_ascii label (are_ascii table label are)) in
    let shown : is_printable label ≡ true = and_from (is_utf8 label) (list_all is_visible label) utf8 (are_visible table label are) in
    rw shown (sym (are_kept table label are))
