-- What gates make of a key.
use Rattle.std.proofs.Common.{◌≡◌, ℕ, ◌^◌, ◌≤◌, List, [], ◌∷◌, ◌++◌, All, length, refl, sym, ◌∙◌, ap, append_assoc}
use Rattle.std.proofs.lemmas.List.{append-nil}
use Rattle.std.proofs.lemmas.List.Elements.{All-cons, All-nil}
use Rattle.rv_gate.specs.Gate.{run_on_number, IsFlipOn}
use Rattle.rv_gate.specs.declared.gate.Shape.{Shape}
use Rattle.rv_optimal.specs.inside.Packed.{packed, composed, move_of}
use Rattle.rv_optimal.specs.inside.Levels.{key_after, after, IsWhole}
use Rattle.rv_optimal.proofs.inside.Running.{key_more, map-same, run_on-append, undone}

-- one gate more on a key that is whole
pub key_moved : (n key : ℕ) (numbers : List ℕ) (gates : List Shape) (g : Shape) → n ≤ 4 → length numbers ≡ 2 ^ n → key ≡ key_after n numbers gates
    → composed (2 ^ n) (move_of n g) key ≡ key_after n numbers (gates ++ g ∷ [])
key_moved n key numbers gates g few all is =
    ap (composed (2 ^ n) (move_of n g)) is ∙ ap (λ k. composed k (move_of n g) (key_after n numbers gates)) (sym all) ∙ sym (key_more n numbers gates g few)

pub whole_more : (n key : ℕ) (g : Shape) → n ≤ 4 → IsWhole n key → IsWhole n (composed (2 ^ n) (move_of n g) key)
whole_more n key g few w = record {
  numbers = w.numbers;
  gates = w.gates ++ g ∷ [];
  all = w.all;
  is = key_moved n key w.numbers w.gates g few w.all w.is;
}

one_flip : (n : ℕ) (g : Shape) → IsFlipOn n g → All (IsFlipOn n) (g ∷ [])
one_flip n g h = All-cons (IsFlipOn n) g [] h (All-nil (IsFlipOn n))

-- a flip after itself undoes it
pub twice : (n key : ℕ) (g : Shape) → n ≤ 4 → IsFlipOn n g → IsWhole n key → composed (2 ^ n) (move_of n g) (composed (2 ^ n) (move_of n g) key) ≡ key
twice n key g few flip w =
    let once : List Shape = w.gates ++ g ∷ [] in
    key_moved n (composed (2 ^ n) (move_of n g) key) w.numbers once g few w.all (key_moved n key w.numbers w.gates g few w.all w.is)
    ∙ ap packed (map-same (run_on_number (once ++ g ∷ []) n) (run_on_number w.gates n)
    (λ x. run_on-append once (g ∷ []) n x ∙ undone n w.gates (g ∷ []) x (one_flip n g flip)) w.numbers)
    ∙ sym w.is

pub after-none : (n key : ℕ) → after n [] key ≡ key
unfolding after
after-none n key = refl

pub after-first : (n : ℕ) (g : Shape) (gates : List Shape) (key : ℕ) → after n (g ∷ gates) key ≡ after n gates (composed (2 ^ n) (move_of n g) key)
unfolding after
after-first n g gates key = refl

pub after-last : (n : ℕ) (gates : List Shape) (g : Shape) (key : ℕ) → after n (gates ++ g ∷ []) key ≡ composed (2 ^ n) (move_of n g) (after n gates key)
unfolding after
after-last n [] g key = refl
after-last n (h ∷ gates) g key = after-last n gates g (composed (2 ^ n) (move_of n h) key)

-- as on the numbers
pub after-key : (n : ℕ) (numbers : List ℕ) (gates more : List Shape) → n ≤ 4 → length numbers ≡ 2 ^ n → after n more (key_after n numbers gates) ≡ key_after n numbers (gates ++ more)
unfolding after
after-key n numbers gates [] few all = ap (key_after n numbers) (sym (append-nil gates))
after-key n numbers gates (g ∷ more) few all =
    ap (after n more) (key_moved n (key_after n numbers gates) numbers gates g few all refl)
    ∙ after-key n numbers (gates ++ g ∷ []) more few all
    ∙ ap (key_after n numbers) (append_assoc gates (g ∷ []) more)
