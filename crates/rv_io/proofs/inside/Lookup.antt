-- The first entry of a name, and what the map that the entries make holds there.
use Rattle.std.proofs.Common.{◌≡◌, ◌∙◌, ◌<◌, ◌≤◌, ◌⊎◌, ℕ, ◌+◌, suc, Bool, true, false, cond, not, List, [], ◌∷◌, length, get_or, Option, Some, None, IfSome, IsNone, refl, ap, sym, subst, inl, inr, arith, String, string_bytes, Vec, nat_lt}
use Rattle.std.specs.List.{position, position_or_len}
use Rattle.std.proofs.lemmas.Bool.Decides.{nat_tests}
use Rattle.std.specs.Str.{bytes_eq}
use Rattle.std.specs.Ordering.{nat_cmp}
use Rattle.std.specs.Cmp.Lexicographic.{slice_cmp, nat_list_cmp_total}
use Rattle.std.specs.FinMap as finite
use Rattle.std.specs.FinMap.{find}
use Rattle.std.proofs.lemmas.Map.Text.{is_eq-slice_cmp}
use Rattle.std.proofs.lemmas.Slice.Eq.{bytes_eq-Decides}
use Rattle.std.specs.declared.alloc.Global.{Global}
use Rattle.rv_io.specs.inside.Entries.{IsFirst, names_of, pairs}

abbrev pub is_named : List ℕ → String Global × Vec ℕ Global → Bool
is_named name e = bytes_eq name (string_bytes e.0)

-- the entry at the index is the first of the name, found in the list
record Found (name : List ℕ) (entries : List (List ℕ × List ℕ)) (i : ℕ) : Type 0 where
  within : i < length entries
  named : (get_or entries i ([], [])).0 ≡ name
  first : find (slice_cmp nat_cmp) name entries ≡ Some (get_or entries i ([], [])).1

found_here : (name : List ℕ) (e : List ℕ × List ℕ) (es : List (List ℕ × List ℕ)) → bytes_eq name e.0 ≡ true → Found name (e ∷ es) 0
found_here name e es h = record {
  within = omega arith;
  named = sym ((bytes_eq-Decides name e.0).0 h);
  first = ap (λ b. cond b (Some e.1) (find (slice_cmp nat_cmp) name es)) (is_eq-slice_cmp name e.0 ∙ h);
}

found_later : (name : List ℕ) (e : List ℕ × List ℕ) (es : List (List ℕ × List ℕ)) (i : ℕ) → bytes_eq name e.0 ≡ false → Found name es i → Found name (e ∷ es) (suc i)
found_later name e es i h f = record {
  within = omega (arith, f.within);
  named = f.named;
  first = ap (λ b. cond b (Some e.1) (find (slice_cmp nat_cmp) name es)) (is_eq-slice_cmp name e.0 ∙ h) ∙ f.first;
}

abbrev Seeks : List ℕ → List (String Global × Vec ℕ Global) → ℕ → Type 0
Seeks name es n = ((n < length es) × Found name (pairs es) n) ⊎ ((length es ≤ n) × (find (slice_cmp nat_cmp) name (pairs es) ≡ None))

one_more : (name : List ℕ) (e : String Global × Vec ℕ Global) (es : List (String Global × Vec ℕ Global)) (n : ℕ) → is_named name e ≡ false → Seeks name es n → Seeks name (e ∷ es) (1 + n)
one_more name e es n h (inl w) = inl (omega (arith, w.0), let s : suc n ≡ 1 + n = omega arith in subst (Found name (pairs (e ∷ es))) s (found_later name (string_bytes e.0, e.1.items) (pairs es) n h w.1))
one_more name e es n h (inr w) = inr (omega (arith, w.0), ap (λ b. cond b (Some e.1.items) (find (slice_cmp nat_cmp) name (pairs es))) (is_eq-slice_cmp name (string_bytes e.0) ∙ h) ∙ w.1)

seeks : (name : List ℕ) (es : List (String Global × Vec ℕ Global)) → Seeks name es (position_or_len (is_named name) es)
seeks name [] = inr (omega arith, refl)
seeks name (e ∷ es) =
    elim (is_named name e) as (λ b. is_named name e ≡ b → Seeks name (e ∷ es) (cond (not b) (1 + position_or_len (is_named name) es) 0)) [
      | true ↦ λ h. inl (omega arith, found_here name (string_bytes e.0, e.1.items) (pairs es) h)
      | false ↦ λ h. one_more name e es _ h (seeks name es)
    ] refl

some_of : (name : List ℕ) (es : List (String Global × Vec ℕ Global)) (n i : ℕ) → Seeks name es n → cond (nat_lt n (length es)) (Some n) None ≡ Some i → Found name (pairs es) i
some_of name es n i (inl w) h = let s : n ≡ i = grind (arith, nat_tests, w.0, h) in subst (Found name (pairs es)) s w.1
some_of name es n i (inr w) h = absurd (grind (arith, nat_tests, w.0, h))

none_of : (name : List ℕ) (es : List (String Global × Vec ℕ Global)) (n : ℕ) → Seeks name es n → cond (nat_lt n (length es)) (Some n) None ≡ None → find (slice_cmp nat_cmp) name (pairs es) ≡ None
none_of name es n (inl w) h = absurd (grind (arith, nat_tests, w.0, h))
none_of name es n (inr w) h = w.1

in_map : (name : List ℕ) (es : List (String Global × Vec ℕ Global)) → finite.get (names_of (pairs es)) name ≡ find (slice_cmp nat_cmp) name (pairs es)
in_map name es = finite.get-from_entries nat_list_cmp_total (pairs es) name

-- if the search finds no entry, the map holds nothing
pub none_held : (name : List ℕ) (es : List (String Global × Vec ℕ Global)) (found : Option ℕ) → found ≡ position (is_named name) es → IsNone found → finite.get (names_of (pairs es)) name ≡ None
none_held name es None is none = in_map name es ∙ none_of name es _ (seeks name es) (sym is)
none_held name es (Some i) is none = absurd cc

-- if the search finds an entry, the map holds its bytes
pub first_held : (name : List ℕ) (es : List (String Global × Vec ℕ Global)) (found : Option ℕ) → found ≡ position (is_named name) es → IfSome found (IsFirst name (pairs es))
first_held name es None is = tt
first_held name es (Some i) is = let f : Found name (pairs es) i = some_of name es _ i (seeks name es) (sym is) in record { within = f.within; named = f.named; held = in_map name es ∙ f.first }
