-- The test of whether two networks do the same.
use Rattle.std.proofs.Common.{◌≡◌, ℕ, zero, suc, ◌&&◌, ◌==◌, ◌≢◌, Bool, true, false, [], ◌∷◌, length, refl, ap, ap₂, ◌∙◌}
use Rattle.std.proofs.lemmas.Bool.{eq-eqb, ne_eqb}
use Rattle.std.proofs.lemmas.List.Folds.{list_all-append, list_all-map}
use Rattle.std.specs.List.{list_all}
use Rattle.std.specs.Prelude.{map}
use Rattle.rv_net.specs.Op.{Network}
use Rattle.rv_check.specs.Reduced.{words}
use Rattle.rv_check.proofs.inside.Deciding.{are_same-same}
use Rattle.rv_check.proofs.inside.Sparse.{Word, same_from}
use Rattle.rv_check.proofs.inside.Vectors.{each_word}
use Rattle.rv_alike.specs.Alike.{AreAlike, AreAlikeFrom, are_alike, are_alike_from}

all_words : (f : Word → Bool) (n : ℕ) → ((y : Word) → length y ≡ n → f y ≡ true) → list_all f (words n) ≡ true
unfolding words
all_words f zero holds = ap (λ b. b && true) (holds [] refl)
all_words f (suc n) holds =
    list_all-append f (map (λ v. false ∷ v) (words n)) (map (λ v. true ∷ v) (words n))
    ∙ ap₂ (λ a b. a && b)
    (list_all-map f (λ v. false ∷ v) (words n) ∙ all_words (λ v. f (false ∷ v)) n (λ y e. holds (false ∷ y) (ap suc e)))
    (list_all-map f (λ v. true ∷ v) (words n) ∙ all_words (λ v. f (true ∷ v)) n (λ y e. holds (true ∷ y) (ap suc e)))

module _ (a b : Network) where
  pub found_alike : a.lines ≡ b.lines → AreAlike a b → are_alike a b ≡ true
  unfolding are_alike
  found_alike lines alike =
      ap₂ (λ p q. p && q) (eq-eqb a.lines b.lines lines)
      (all_words (are_alike_from a b) a.lines (λ x e. all_words _ a.lines (λ y l. are_same-same _ _ (alike x e y l))))

  pub found_apart : (x : Word) → length x ≡ a.lines → (¬ AreAlikeFrom a b x) → are_alike a b ≡ false
  unfolding are_alike
  found_apart x e apart = go (list_all (are_alike_from a b) (words a.lines)) refl
    where
      go : (all : Bool) → list_all (are_alike_from a b) (words a.lines) ≡ all → ((a.lines == b.lines) && all) ≡ false
      go true is = absurd (apart (λ y l. same_from _ _ (each_word _ a.lines (each_word (are_alike_from a b) a.lines is x e) y l)))
      go false is = none (a.lines == b.lines)
        where
          none : (p : Bool) → (p && false) ≡ false
          none true = refl
          none false = refl

  pub apart_by_lines : a.lines ≢ b.lines → are_alike a b ≡ false
  unfolding are_alike
  apart_by_lines other = ap (λ p. p && list_all (are_alike_from a b) (words a.lines)) (ne_eqb a.lines b.lines other)
