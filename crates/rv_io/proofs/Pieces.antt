-- Texts that are added one piece after another.
use Rattle.std.proofs.Common.{◌≡◌, ◌∙◌, ℕ, ◌+◌, List, [], ◌∷◌, ◌++◌, take, get_or, slice_get, Some, ap, sym}
use Rattle.std.specs.List.{flat_map}
use Rattle.std.proofs.lemmas.List.{append-nil, take_more}
use Rattle.std.proofs.lemmas.Grind.{flat_map-append}
use Rattle.std.proofs.lemmas.Option.{get_or_from_slice_get, slice_get_within}
use Rattle.rv_io.specs.Sink.{SinkView}
use Rattle.rv_io.specs.Writer.{Writer, Adds}
use Rattle.rv_io.proofs.Adding.{adds_then, adds_as}

pub flat_map-more : {X : Type 0} (f : X → List ℕ) (xs : List X) (i : ℕ) (x : X) → slice_get xs i ≡ Some x
    → flat_map f (take i xs) ++ f x ≡ flat_map f (take (i + 1) xs)
flat_map-more f xs i x h =
    let here : get_or xs i x ≡ x = get_or_from_slice_get xs i x x h in
    sym (ap (flat_map f) (take_more xs i x (slice_get_within xs i x h)) ∙ flat_map-append f (take i xs) (get_or xs i x ∷ [])
    ∙ ap (λ piece. flat_map f (take i xs) ++ piece) (append-nil (f (get_or xs i x)) ∙ ap f here))

-- the piece of one more element
pub adds_more : {X : Type 0} (f : X → List ℕ) (xs : List X) (i : ℕ) (x : X) {a b c : Writer} {r s t : SinkView} → slice_get xs i ≡ Some x
    → Adds a r (flat_map f (take i xs)) b s → Adds b s (f x) c t → Adds a r (flat_map f (take (i + 1) xs)) c t
adds_more f xs i x h so_far next = adds_as (flat_map-more f xs i x h) (adds_then so_far next)
