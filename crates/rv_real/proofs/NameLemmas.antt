-- Names among names.
use Rattle.std.proofs.Common.{arith}
use Rattle.std.proofs.Common.{◌≡◌, ℕ, zero, suc, ◌+◌, ◌<◌, Bool, true, false, List, [], ◌∷◌, ◌++◌, length, get_or, slice_get, is_some, Option, Some, None, Ok, Err, refl, sym, ap, ◌∙◌, true≢false}
use Rattle.std.specs.Prelude.{Contains, IfSome, ◌↔◌}
use Rattle.std.specs.List.{position_from}
use Rattle.std.specs.Str.{bytes_eq}
use Rattle.std.proofs.lemmas.Iterator.Adapters.{position_from-zero}
use Rattle.std.proofs.lemmas.List.Quantifiers.{position-Some}
use Rattle.std.proofs.lemmas.Option.{slice_get-get_or, slice_get_within}
use Rattle.std.proofs.lemmas.Slice.Eq.{bytes_eq-Decides}
use Rattle.rv_gate.specs.Names.{is_name, IsName}
use Rattle.rv_real.specs.declared.code.TheConstants as code
use Rattle.rv_real.specs.Header.{line_of_name, with_name}

-- a line that is found has the name
pub at_line : (names : List (List ℕ)) (name : List ℕ) (line : ℕ) → line_of_name names name ≡ Some line → slice_get names line ≡ Some name
at_line names name line e =
    let first = position-Some (bytes_eq name) names line name e in
    slice_get-get_or names line name first.0 ∙ ap Some (sym ((bytes_eq-Decides name (get_or names line name)).0 first.1))

-- where no line has it, none is found
pub none_found : (names : List (List ℕ)) (name : List ℕ) → ((line : ℕ) → slice_get names line ≡ Some name → ⊥) → (o : Option ℕ) → line_of_name names name ≡ o → o ≡ None
none_found names name free None e = refl
none_found names name free (Some line) e = absurd (free line (at_line names name line e))

some_from : (name : List ℕ) (names : List (List ℕ)) (from line : ℕ) → slice_get names line ≡ Some name → is_some (position_from (bytes_eq name) from names) ≡ true
some_from name [] from line at = absurd cc
some_from name (n ∷ names) from zero at = grind (arith, bytes_eq-Decides)
some_from name (n ∷ names) from (suc line) at = let rest = some_from name names (from + 1) line at in grind (arith, rest)

-- a name that a line has is found
pub is_found : (names : List (List ℕ)) (name : List ℕ) (line : ℕ) → slice_get names line ≡ Some name → is_some (line_of_name names name) ≡ true
is_found names name line at = ap is_some (position_from-zero (bytes_eq name) names) ∙ some_from name names 0 line at

-- the first line that has a name is the one that is found
pub found_unique : (names : List (List ℕ)) (name : List ℕ) (line : ℕ) → slice_get names line ≡ Some name
    → ((k : ℕ) → slice_get names k ≡ Some name → k ≡ line) → (o : Option ℕ) → line_of_name names name ≡ o → o ≡ Some line
found_unique names name line at only None e = absurd (true≢false (sym (is_found names name line at) ∙ ap is_some e))
found_unique names name line at only (Some k) e = ap Some (only k (at_line names name k e))

true_or_not : (b : Bool) → ((b ≡ true → ⊥) → ⊥) → b ≡ true
true_or_not true h = refl
true_or_not false h = absurd (h (λ e. cc))

-- a name that was added is one, and was free
pub name_added : (names : List (List ℕ)) (name : List ℕ) (closed : Bool) → ((IsName name → ⊥) → ⊥) → ((line : ℕ) → IsName name → slice_get names line ≡ Some name → ⊥)
    → with_name names (record { bytes = name; quoted = false; closed = closed }) ≡ Ok (names ++ name ∷ [])
name_added names name closed is free = grind (arith, is_name, true_or_not, line_of_name, none_found)

-- a name that a line has is refused
pub name_taken : (names : List (List ℕ)) (name : List ℕ) (line : ℕ) (closed : Bool) → IsName name → slice_get names line ≡ Some name
    → with_name names (record { bytes = name; quoted = false; closed = closed }) ≡ Err code.REPEATED_LABEL
name_taken names name line closed is at = grind (arith, is_name, is_found)

-- a look-up that is exact on each line is the first line that has the name
pub found_is : (names : List (List ℕ)) (name : List ℕ) (found : Option ℕ) → ((line : ℕ) → (found ≡ Some line) ↔ (slice_get names line ≡ Some name))
    → ((found ≡ None) ↔ (Contains names name → ⊥)) → found ≡ line_of_name names name
found_is names name found at absent = from (line_of_name names name) refl
  where
    from : (o : Option ℕ) → line_of_name names name ≡ o → found ≡ line_of_name names name
    from (Some line) e = (at line).1 (at_line names name line e) ∙ sym e
    from None e = absent.1 (λ there. not_absent there) ∙ sym e
      where
        not_absent : Contains names name → ⊥
        not_absent (k, lt, same) =
            let here : slice_get names k ≡ Some name = slice_get-get_or names k name lt ∙ ap Some same in
            true≢false (sym (is_found names name k here) ∙ ap is_some e)

pub found_below : (names : List (List ℕ)) (name : List ℕ) (found : Option ℕ) → ((line : ℕ) → (found ≡ Some line) ↔ (slice_get names line ≡ Some name))
    → IfSome found (λ line. line < length names)
found_below names name None at = tt
found_below names name (Some line) at = slice_get_within names line name ((at line).0 refl)
