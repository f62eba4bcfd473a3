-- Names in a set by their bytes.
use Rattle.std.proofs.Common.{◌≡◌, ℕ, ◌+◌, ◌<◌, Bool, true, false, not, List, [], ◌∷◌, ◌++◌, length, map, None, Some, refl, sym, ap, ◌∙◌, inl, inr, arith}
use Rattle.std.proofs.lemmas.List.{map-append}
use Rattle.std.specs.List.{list_any, position, prefix_len}
use Rattle.std.proofs.lemmas.Bool.{cases_Bool, false≢true, lt-ltb}
use Rattle.std.specs.Global.{Vec}
use Rattle.std.specs.Str.{bytes_eq}
use Rattle.indexmap.specs.IndexSet.{insert_key}
use Rattle.rv_gate.proofs.NameLemmas.{position-map}

-- the bytes of vectors
abbrev pub bytes_of : Vec ℕ → List ℕ
bytes_of name = name.items

-- an element that passes stands before the end
found : {A : Type 0} (p : A → Bool) (xs : List A) → list_any p xs ≡ true → prefix_len (λ x. not (p x)) xs < length xs
found p [] t = absurd (false≢true t)
found p (x ∷ xs) t =
    elim (cases_Bool (p x)) [
      | inl passes ↦ rw passes (omega arith)
      | inr fails ↦ (let rest = found p xs (rw fails at t) in rw fails (omega arith))
    ]

-- no element passes, where none is found
pub absent : {A : Type 0} (p : A → Bool) (xs : List A) → position p xs ≡ None → list_any p xs ≡ false
absent p xs none =
    elim (cases_Bool (list_any p xs)) [
      | inl some ↦
          (let lt = lt-ltb (prefix_len (λ x. not (p x)) xs) (length xs) (found p xs some) in
          let e : position p xs ≡ Some (prefix_len (λ x. not (p x)) xs) = rw lt refl in
          absurd cc)
      | inr fails ↦ fails
    ]

-- the names after an insertion
pub pushed : (old new : List (Vec ℕ)) (name : Vec ℕ) → position (bytes_eq name.items) (map bytes_of old) ≡ None
    → new ≡ insert_key (λ x y. bytes_eq x.items y.items) old name → map bytes_of new ≡ map bytes_of old ++ name.items ∷ []
pushed old new name none e =
    let free = absent (λ key. bytes_eq name.items key.items) old (sym (position-map bytes_of (bytes_eq name.items) old) ∙ none) in
    ap (map bytes_of) e ∙ rw (free, map-append) refl
