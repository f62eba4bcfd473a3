-- The reduced vector is the whole one in lowest terms.
use Rattle.std.proofs.Common.{◌≡◌, ◌≢◌, ℕ, zero, suc, Bool, true, false, cond, ◌&&◌, List, [], ◌∷◌, map, take, refl, sym, ap, ap₂, ◌∙◌, arith, inl, inr, ◌⊎◌}
use Rattle.std.proofs.lemmas.Bool.{false≢true}
use Rattle.std.specs.List.{list_all}
use Rattle.rv_net.specs.Cyclotomic.{Cyclotomic, power, root2, times}
use Rattle.rv_net.proofs.Cyclotomic.{unity_times}
use Rattle.rv_net.specs.Op.{Network}
use Rattle.rv_net.specs.Amplitude.{count_h}
use Rattle.rv_gate.specs.Word.{word_of}
use Rattle.rv_check.specs.Laws.{AreInLowestTerms, IsInLowestTerms}
use Rattle.rv_check.specs.Reduced.{is_multiple, quotient, reduced, vector}
use Rattle.rv_check.proofs.inside.Multiples.{multiple-root2, root2_quotient}
use Rattle.rv_check.proofs.inside.Scaled.{root2-times}

undivided : (members : List Cyclotomic) → members ≡ map (times (power root2 0)) members
unfolding power
undivided [] = refl
undivided (u ∷ members) = ap₂ (λ v l. v ∷ l) (sym (unity_times u)) (undivided members)

divided_once : (members : List Cyclotomic) → list_all is_multiple members ≡ true → members ≡ map (times root2) (map quotient members)
divided_once [] e = refl
divided_once (u ∷ members) e = let i0 = divided_once members in grind (arith, i0, ap₂, root2_quotient)

once_more : (divisions : ℕ) (members : List Cyclotomic) → map (times root2) (map (times (power root2 divisions)) members) ≡ map (times (power root2 (suc divisions))) members
unfolding power
once_more divisions [] = refl
once_more divisions (u ∷ members) = ap₂ (λ v l. v ∷ l) (sym (root2-times (power root2 divisions) u)) (once_more divisions members)

products_are_multiples : (members : List Cyclotomic) → list_all is_multiple (map (times root2) members) ≡ true
products_are_multiples [] = refl
products_are_multiples (u ∷ members) = ap₂ (λ a b. a && b) (multiple-root2 u) (products_are_multiples members)

pub reduced-is : (roots : ℕ) (whole : List Cyclotomic) → IsInLowestTerms roots whole (reduced roots whole)
unfolding reduced
reduced-is zero whole = record { divisions = 0; whole_is = undivided whole; most = omega arith; greatest = inl refl }
reduced-is (suc roots) whole = go (list_all is_multiple whole) refl (reduced-is roots (map quotient whole)) where
  go : (b : Bool) → list_all is_multiple whole ≡ b → IsInLowestTerms roots (map quotient whole) (reduced roots (map quotient whole))
      → IsInLowestTerms (suc roots) whole (cond b (reduced roots (map quotient whole)) whole)
  go true e r = record {
    divisions = suc r.divisions;
    whole_is = divided_once whole e ∙ ap (map (times root2)) r.whole_is ∙ once_more r.divisions (reduced roots (map quotient whole));
    most = omega (arith, r.most);
    greatest = more r.greatest;
  } where
    more : (r.divisions ≡ roots) ⊎ ((further : List Cyclotomic) → reduced roots (map quotient whole) ≢ map (times root2) further)
        → (suc r.divisions ≡ suc roots) ⊎ ((further : List Cyclotomic) → reduced roots (map quotient whole) ≢ map (times root2) further)
    more (inl all) = inl (ap suc all)
    more (inr stop) = inr stop
  go false e r = record {
    divisions = 0;
    whole_is = undivided whole;
    most = omega arith;
    greatest = inr (λ further same. false≢true (sym e ∙ ap (list_all is_multiple) same ∙ products_are_multiples further));
  }

pub lowest_terms : (net : Network) → AreInLowestTerms net
lowest_terms net number place =
    reduced-is (count_h (take place net.ops)) (vector (take place net.ops) (word_of net.lines number))
