-- The inputs of a cube with another symbol at one input.
use Rattle.std.proofs.Common.{◌≡◌, ◌≢◌, ℕ, ◌<◌, true, false, not, sym, ◌∙◌, ap, inl, inr, arith, ◌∷◌, []}
use Rattle.std.specs.Prelude.{◌⊎◌}
use Rattle.std.proofs.lemmas.Bool.{cases_eq, not-true}
use Rattle.rv_pla.specs.Cube.{Symbol, symbol, IsCube}
use Rattle.rv_pla.specs.declared.cube.Cube.{Cube}
use Rattle.rv_cube.specs.Distance.{is_same, differs, differing, third, with_symbol, with_third}
use Rattle.rv_cube.specs.inside.Slots.{key_of}
use Rattle.rv_cube.specs.inside.Slotted.{turn}
use Rattle.rv_cube.proofs.Symbols.{symbol_with-same, symbol_with-other}
use Rattle.rv_cube.proofs.inside.Differing.{differing_as, differing_only}
use Rattle.rv_cube.proofs.inside.Merges.{with_cube}
use Rattle.rv_cube.proofs.inside.Keys.{alike_symbols, symbols_alike}
use Rattle.rv_cube.proofs.inside.Noting.{alike_key, key_alike}

key_symbol : (x y : Cube) (i : ℕ) → key_of x ≡ key_of y → symbol x i ≡ symbol y i
key_symbol x y i e = alike_symbols x y i (key_alike x y e)

-- ---- the two other symbols

pub two_others : (s t : Symbol) → is_same s t ≡ false → (t ≡ turn s) ⊎ (t ≡ third s (turn s))
two_others s t h = grind arith

pub turn_other : (s : Symbol) → is_same s (turn s) ≡ false
turn_other s = grind arith

pub third_other : (s : Symbol) → is_same s (third s (turn s)) ≡ false
third_other s = grind arith

pub third_turn : (cube one : Cube) (p : ℕ) → one ≡ with_symbol cube p (turn (symbol cube p))
    → with_third cube one p ≡ with_symbol cube p (third (symbol cube p) (turn (symbol cube p)))
unfolding with_third
third_turn cube one p e =
    ap (λ t. with_symbol cube p (third (symbol cube p) t)) (ap (λ (x : Cube). symbol x p) e ∙ symbol_with-same cube p (turn (symbol cube p)))

-- ---- one input

-- a cube with the inputs of a neighbour
pub neighbour_differing : (n p : ℕ) (x y : Cube) (s : Symbol) → p < n → is_same (symbol x p) s ≡ false → key_of y ≡ key_of (with_symbol x p s) → differing n x y ≡ p ∷ []
neighbour_differing n p x y s l d e =
    let there : symbol y p ≡ s = key_symbol y (with_symbol x p s) p e ∙ symbol_with-same x p s in
    differing_only n x y (p ∷ [])
    (l, ap (λ t. not (is_same (symbol x p) t)) there ∙ ap not d, λ i u ne. sym (key_symbol y (with_symbol x p s) i e ∙ symbol_with-other x p i s ne)) (omega arith)

pub same_but : (n outputs : ℕ) (x y : Cube) (p : ℕ) → p < n → IsCube n outputs x → IsCube n outputs y → ((i : ℕ) → i < n → i ≢ p → symbol x i ≡ symbol y i)
    → key_of y ≡ key_of (with_symbol x p (symbol y p))
same_but n outputs x y p l vx vy h =
    let m : Cube = with_symbol x p (symbol y p) in
    alike_key y m (symbols_alike n outputs y m vy (with_cube n outputs x p (symbol y p) l vx)
    (λ i u. elim (cases_eq i p) [
      | inl e ↦ rw e (sym (symbol_with-same x p (symbol y p)))
      | inr ne ↦ sym (symbol_with-other x p i (symbol y p) ne ∙ h i u ne)
    ]))

pub partner_key : (n outputs : ℕ) (x y : Cube) (p : ℕ) → IsCube n outputs x → IsCube n outputs y → differing n x y ≡ p ∷ []
    → (differs x y p ≡ true) × (key_of y ≡ key_of (with_symbol x p (symbol y p)))
partner_key n outputs x y p vx vy e =
    let is = differing_as n x y (p ∷ []) e in
    (is.1, same_but n outputs x y p is.0 vx vy is.2)

-- one of the two neighbours has the key
pub beside_either : (x y one other : Cube) (p : ℕ) → one ≡ with_symbol x p (turn (symbol x p)) → other ≡ with_third x one p
    → differs x y p ≡ true → key_of y ≡ key_of (with_symbol x p (symbol y p)) → (key_of y ≡ key_of one) ⊎ (key_of y ≡ key_of other)
beside_either x y one other p e f d k = grind (arith, two_others, not-true, key_of, with_symbol, third_turn)
