-- What is spelled, as pieces that are added one after another.
use Rattle.std.proofs.Common.{◌≡◌, ◌∙◌, ℕ, List, [], ◌∷◌, ◌++◌, map, map-id, refl, ap, sym, append_assoc}
use Rattle.std.specs.List.{flat_map}
use Rattle.rv_text.specs.Spelled.{more_words, words_line, spelled}

-- a word after a space
abbrev pub spaced : List ℕ → List ℕ
spaced word = 32 ∷ word

pub more_words-map : {X : Type 0} (f : X → List ℕ) (xs : List X) → flat_map (λ x. spaced (f x)) xs ≡ more_words (map f xs)
more_words-map f [] = refl
more_words-map f (x ∷ xs) = ap (λ rest. 32 ∷ (f x ++ rest)) (more_words-map f xs)

pub more_words-pieces : (words : List (List ℕ)) → flat_map spaced words ≡ more_words words
more_words-pieces words = more_words-map (λ w. w) words ∙ ap more_words (map-id words)

pub more_words-append : (a b : List (List ℕ)) → more_words (a ++ b) ≡ more_words a ++ more_words b
more_words-append [] b = refl
more_words-append (w ∷ ws) b = ap (λ rest. 32 ∷ (w ++ rest)) (more_words-append ws b) ∙ ap (λ rest. 32 ∷ rest) (sym (append_assoc w (more_words ws) (more_words b)))

pub spelled-append : (a b : List (List (List ℕ))) → spelled (a ++ b) ≡ spelled a ++ spelled b
spelled-append [] b = refl
spelled-append (ws ∷ lines) b = ap (λ rest. words_line ws ++ (10 ∷ rest)) (spelled-append lines b) ∙ sym (append_assoc (words_line ws) (10 ∷ spelled lines) (spelled b))

pub spelled-map : {X : Type 0} (f : X → List (List ℕ)) (xs : List X) → flat_map (λ x. spelled (f x ∷ [])) xs ≡ spelled (map f xs)
spelled-map f [] = refl
spelled-map f (x ∷ xs) = ap (λ rest. spelled (f x ∷ []) ++ rest) (spelled-map f xs) ∙ append_assoc (words_line (f x)) (10 ∷ []) (spelled (map f xs))
