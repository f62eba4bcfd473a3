-- Short names as numbers.
use Rattle.std.proofs.Common.{◌≡◌, ◌<◌, ℕ, List, [], ◌∷◌, get_or, set, get_or-set_same, get_or-set_other, length-set, replicate, arith, refl, sym, ap, ◌∙◌, inl, inr, Some}
use Rattle.std.proofs.lemmas.Bool.{cases_eq}
use Rattle.std.proofs.lemmas.List.{get_or-replicate}
use Rattle.rv_gate.specs.Names.{AreNames}
use Rattle.rv_real.specs.declared.places.Places.{Places}
use Rattle.rv_real.specs.Header.{line_of_name}
use Rattle.rv_real.specs.Text.{name_at}
use Rattle.rv_real.specs.inside.Places.{key_of, AreBytes, IsKeyOf, ArePlaces}
use Rattle.rv_real.proofs.ControlsBack.{line_found}

-- names that have one key are the same
same_key : (one other : List ℕ) → AreBytes one → AreBytes other → 0 < key_of one → key_of one ≡ key_of other → one ≡ other
same_key [] other p q some same = absurd (omega arith)
same_key (a ∷ []) [] p q some same = absurd (omega (arith, same))
same_key (a ∷ []) (x ∷ []) p q some same = let e0 : a ≡ x = omega (arith, same, p 0 0 (omega arith), q 0 0 (omega arith)) in rw (e0) refl
same_key (a ∷ []) (x ∷ y ∷ []) p q some same = absurd (omega (arith, same, p 0 0 (omega arith), q 0 0 (omega arith), q 1 0 (omega arith)))
same_key (a ∷ []) (x ∷ y ∷ z ∷ []) p q some same = absurd (omega (arith, same, p 0 0 (omega arith), q 0 0 (omega arith), q 1 0 (omega arith), q 2 0 (omega arith)))
same_key (a ∷ []) (x ∷ y ∷ z ∷ w ∷ rest) p q some same = absurd (omega (arith, same))
same_key (a ∷ b ∷ []) [] p q some same = absurd (omega (arith, same))
same_key (a ∷ b ∷ []) (x ∷ []) p q some same = absurd (omega (arith, same, p 0 0 (omega arith), p 1 0 (omega arith), q 0 0 (omega arith)))
same_key (a ∷ b ∷ []) (x ∷ y ∷ []) p q some same = let e0 : a ≡ x = omega (arith, same, p 0 0 (omega arith), p 1 0 (omega arith), q 0 0 (omega arith), q 1 0 (omega arith)) in let e1 : b ≡ y = omega (arith, same, p 0 0 (omega arith), p 1 0 (omega arith), q 0 0 (omega arith), q 1 0 (omega arith)) in rw (e0, e1) refl
same_key (a ∷ b ∷ []) (x ∷ y ∷ z ∷ []) p q some same = absurd (omega (arith, same, p 0 0 (omega arith), p 1 0 (omega arith), q 0 0 (omega arith), q 1 0 (omega arith), q 2 0 (omega arith)))
same_key (a ∷ b ∷ []) (x ∷ y ∷ z ∷ w ∷ rest) p q some same = absurd (omega (arith, same))
same_key (a ∷ b ∷ d ∷ []) [] p q some same = absurd (omega (arith, same))
same_key (a ∷ b ∷ d ∷ []) (x ∷ []) p q some same = absurd (omega (arith, same, p 0 0 (omega arith), p 1 0 (omega arith), p 2 0 (omega arith), q 0 0 (omega arith)))
same_key (a ∷ b ∷ d ∷ []) (x ∷ y ∷ []) p q some same = absurd (omega (arith, same, p 0 0 (omega arith), p 1 0 (omega arith), p 2 0 (omega arith), q 0 0 (omega arith), q 1 0 (omega arith)))
same_key (a ∷ b ∷ d ∷ []) (x ∷ y ∷ z ∷ []) p q some same = let e0 : a ≡ x = omega (arith, same, p 0 0 (omega arith), p 1 0 (omega arith), p 2 0 (omega arith), q 0 0 (omega arith), q 1 0 (omega arith), q 2 0 (omega arith)) in let e1 : b ≡ y = omega (arith, same, p 0 0 (omega arith), p 1 0 (omega arith), p 2 0 (omega arith), q 0 0 (omega arith), q 1 0 (omega arith), q 2 0 (omega arith)) in let e2 : d ≡ z = omega (arith, same, p 0 0 (omega arith), p 1 0 (omega arith), p 2 0 (omega arith), q 0 0 (omega arith), q 1 0 (omega arith), q 2 0 (omega arith)) in rw (e0, e1, e2) refl
same_key (a ∷ b ∷ d ∷ []) (x ∷ y ∷ z ∷ w ∷ rest) p q some same = absurd (omega (arith, same))
same_key (a ∷ b ∷ d ∷ e ∷ more) other p q some same = absurd (omega arith)

-- the line that a key leads to has the name
pub found_by_key : (names : List (List ℕ)) (line : ℕ) (name : List ℕ) → AreNames names → AreBytes name → 0 < key_of name → IsKeyOf names line (key_of name)
    → line_of_name names name ≡ Some line
found_by_key names line name are bytes some is =
    let same : name ≡ name_at names line = same_key name (name_at names line) bytes is.bytes some (sym is.same) in
    ap (line_of_name names) same ∙ line_found names line are is.within

pub none_yet : (names : List (List ℕ)) → ArePlaces names (record { keys = replicate 256 0; lines = replicate 256 0 })
none_yet names = record {
  keys = refl;
  lines = refl;
  each = λ place below some. (let zero : ℕ = 0 in let none : get_or (replicate 256 zero) place 0 ≡ zero = get_or-replicate 256 place 0 0 below in absurd (omega (arith, none, some)));
}

pub one_more : (names : List (List ℕ)) (places : Places) (place key line : ℕ) → place < 256 → ArePlaces names places → (0 < key → IsKeyOf names line key)
    → ArePlaces names (record { keys = set places.keys place key; lines = set places.lines place line })
one_more names places place key line below are is = record {
  keys = length-set _ _ _ ∙ are.keys;
  lines = length-set _ _ _ ∙ are.lines;
  each = λ k low. elim (cases_eq k place) [
    | inl here ↦ rw (here, get_or-set_same places.keys place key 0 (omega (arith, are.keys)), get_or-set_same places.lines place line 0 (omega (arith, are.lines))) is
    | inr other ↦ rw (get_or-set_other places.keys place k key 0 other, get_or-set_other places.lines place k line 0 other) (are.each k low)
  ];
}
