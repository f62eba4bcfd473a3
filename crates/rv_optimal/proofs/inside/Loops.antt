-- What loops over gates, moves and keys keep.
use Rattle.std.proofs.Common.{◌≡◌, ℕ, ◌+◌, ◌<◌, ◌≤◌, List, [], ◌∷◌, ◌++◌, length, map, get_or, take, sym, ◌∙◌, ap, append_assoc}
use Rattle.std.proofs.lemmas.List.{map_more, take_all}

pub pushed_map : {X : Type 0} (f : X → ℕ) (xs : List X) (i : ℕ) (x : X) (old new : List ℕ) (y : ℕ) → i < length xs → x ≡ get_or xs i x
    → old ≡ map f (take i xs) → y ≡ f x → new ≡ old ++ y ∷ [] → new ≡ map f (take (i + 1) xs)
pushed_map f xs i x old new y within at so_far is pushed =
    pushed ∙ ap (λ l. l ++ y ∷ []) so_far ∙ ap (λ v. map f (take i xs) ++ v ∷ []) (is ∙ ap f at) ∙ sym (map_more f xs i x within)

pub all_mapped : {X : Type 0} (f : X → ℕ) (xs : List X) (i : ℕ) (made : List ℕ) → length xs ≤ i → made ≡ map f (take i xs) → made ≡ map f xs
all_mapped f xs i made past e = e ∙ ap (map f) (take_all i xs past)

pub grown_more : (f : ℕ → ℕ) (start moves : List ℕ) (key i y : ℕ) (old new : List ℕ) → i < length moves → y ≡ f (get_or moves i 0)
    → old ≡ start ++ key ∷ map f (take i moves) → new ≡ old ++ y ∷ [] → new ≡ start ++ key ∷ map f (take (i + 1) moves)
grown_more f start moves key i y old new within is so_far pushed =
    pushed ∙ ap (λ l. l ++ y ∷ []) so_far
    ∙ append_assoc start (key ∷ map f (take i moves)) (y ∷ [])
    ∙ ap (λ t. start ++ key ∷ t) (ap (λ v. map f (take i moves) ++ v ∷ []) is ∙ sym (map_more f moves i 0 within))

pub all_pushed : (f : ℕ → ℕ) (start moves : List ℕ) (key i : ℕ) (made : List ℕ) → length moves ≤ i → made ≡ start ++ key ∷ map f (take i moves) → made ≡ start ++ key ∷ map f moves
all_pushed f start moves key i made past e = e ∙ ap (λ l. start ++ key ∷ map f l) (take_all i moves past)
