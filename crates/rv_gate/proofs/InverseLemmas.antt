-- A gate and the gates that undo it.
use Rattle.std.proofs.Common.{◌≡◌, ◌≢◌, ℕ, ◌^◌, ◌<◌, Bool, true, false, cond, ◌&&◌, ◌||◌, eqb, List, [], ◌∷◌, length, set, refl, sym, ◌∙◌, ap, inl, inr, arith, length-set, get_or-set_same, get_or-set_other, eq-eqb}
use Rattle.std.specs.Prelude.{bit_or}
use Rattle.std.proofs.lemmas.Bool.{cases_Bool, cond-true, cond-false, eqb-true, and_parts, and_from, or_cases, or_right}
use Rattle.std.proofs.lemmas.Bool.Decides.{same_from_decides}
use Rattle.std.proofs.lemmas.List.{set-set, set_comm, set-get_or}
use Rattle.std.proofs.lemmas.List.Elements.{All-nil, All-cons}
use Rattle.rv_gate.specs.Word.{has, bit_of}
use Rattle.rv_gate.specs.Gate.{holds, flip, exchanged, xor, peres, act, run, flip_under, inverse, AllFit, FitsIn, IsGate}
use Rattle.rv_gate.specs.declared.gate.Shape.{Shape}
use Rattle.rv_gate.specs.declared.gate.Shape.TheVariants.{Flip, Swap, Peres}
use Rattle.rv_gate.proofs.LineSets.{has-line, has-lines}
use Rattle.rv_gate.proofs.inside.GateLemmas.{Hold, holds_Decides, holds-set, flip_if, flip_twice, fits_flip, fits_swap_a, fits_swap_b, fits_peres_a, fits_peres_b, fits_peres_c}
use Rattle.rv_gate.proofs.Bits.{xor_back, xor_around}

-- ---- bits

-- ---- controls on one line and on two

pub holds_one_line : (a : ℕ) (word : List Bool) → a < length word → holds (2 ^ a) (2 ^ a) word ≡ bit_of word a
holds_one_line a word within =
    let on : has (2 ^ a) a ≡ true = has-line a a ∙ eq-eqb a a refl in
    same_from_decides {P = Hold (2 ^ a) (2 ^ a) word} _ _
    (holds_Decides (2 ^ a) (2 ^ a) word)
    (λ one line _ there. ap (bit_of word) (eqb-true line a (sym (has-line a line) ∙ there)) ∙ one ∙ sym there, λ hold. hold a within on ∙ on)

pub holds_two_lines : (a b : ℕ) (word : List Bool) → a < length word → b < length word
    → holds (bit_or (2 ^ a) (2 ^ b)) (bit_or (2 ^ a) (2 ^ b)) word ≡ (bit_of word a && bit_of word b)
holds_two_lines a b word la lb =
    let both : ℕ = bit_or (2 ^ a) (2 ^ b) in
    let on_a : has both a ≡ true = has-lines a b a ∙ ap (λ t. t || eqb a b) (eq-eqb a a refl) in
    let on_b : has both b ≡ true = has-lines a b b ∙ or_right (eqb b a) (eqb b b) (eq-eqb b b refl) in
    same_from_decides {P = Hold both both word} _ _
    (holds_Decides both both word) (
      λ ones line _ there.
          let parts = and_parts _ _ ones in
          elim (or_cases (eqb line a) (eqb line b) (sym (has-lines a b line) ∙ there)) [
            | inl at_a ↦ ap (bit_of word) (eqb-true line a at_a) ∙ parts.0 ∙ sym there
            | inr at_b ↦ ap (bit_of word) (eqb-true line b at_b) ∙ parts.1 ∙ sym there
          ],
      λ hold. and_from _ _ (hold a la on_a ∙ on_a) (hold b lb on_b ∙ on_b),
    )

-- ---- what undoes each gate

exchanged_twice : (word : List Bool) (a b : ℕ) → a < length word → b < length word → a ≢ b → exchanged (exchanged word a b) a b ≡ word
exchanged_twice word a b la lb apart =
    let x : Bool = bit_of word a in
    let y : Bool = bit_of word b in
    let half : List Bool = set word a y in
    let whole : List Bool = set half b x in
    let at_a : bit_of whole a ≡ y = get_or-set_other half b a x false apart ∙ get_or-set_same word a y false la in
    let at_b : bit_of whole b ≡ x = get_or-set_same half b x false (omega (arith, length-set word a y)) in
    ap (λ v. set (set whole a v) b (bit_of whole a)) at_b
    ∙ ap (set (set whole a x) b) at_a
    ∙ ap (λ w. set w b y) (set_comm half b a x x (λ e. apart (sym e)))
    ∙ set-set (set half a x) b x y
    ∙ ap (λ w. set w b y) (set-set word a y x ∙ set-get_or word a false)
    ∙ set-get_or word b false

swap_twice : (care want a b : ℕ) (word : List Bool) → has care a ≡ false → has care b ≡ false → a < length word → b < length word → a ≢ b
    → act (Swap care want a b) (act (Swap care want a b) word) ≡ word
swap_twice care want a b word free_a free_b la lb apart =
    let g : Shape = Swap care want a b in
    let kept : holds care want (exchanged word a b) ≡ holds care want word = holds-set care want b (set word a (bit_of word b)) (bit_of word a) free_b ∙ holds-set care want a word (bit_of word b) free_a in
    elim (cases_Bool (holds care want word)) [
      | inl on ↦
          let first : act g word ≡ exchanged word a b = cond-true (holds care want word) _ _ on in
          ap (act g) first
          ∙ cond-true (holds care want (exchanged word a b)) _ _ (kept ∙ on)
          ∙ exchanged_twice word a b la lb apart
      | inr off ↦ let first : act g word ≡ word = cond-false (holds care want word) _ _ off in ap (act g) first ∙ first
    ]

peres_undone : (a b c : ℕ) (word : List Bool) → a < length word → b < length word → c < length word → a ≢ b → a ≢ c → b ≢ c
    → run (inverse (Peres a b c)) (peres word a b c) ≡ word
peres_undone a b c word la lb lc ab ac bc =
    let x : Bool = bit_of word a in
    let y : Bool = bit_of word b in
    let z : Bool = bit_of word c in
    let new_b : Bool = xor x y in
    let new_c : Bool = xor z (x && y) in
    let half : List Bool = set word b new_b in
    let whole : List Bool = set half c new_c in
    let len : length whole ≡ length word = length-set half c new_c ∙ length-set word b new_b in
    let at_a : bit_of whole a ≡ x = get_or-set_other half c a new_c false ac ∙ get_or-set_other word b a new_b false ab in
    let at_b : bit_of whole b ≡ new_b = get_or-set_other half c b new_c false bc ∙ get_or-set_same word b new_b false lb in
    let first : act (flip_under (2 ^ a) b) whole ≡ set word c new_c =
    ap (λ t. cond t (flip whole b) whole) (holds_one_line a whole (omega arith) ∙ at_a)
    ∙ flip_if x whole b
    ∙ ap (λ v. set whole b (xor x v)) at_b
    ∙ ap (set whole b) (xor_back x y)
    ∙ set_comm half c b new_c y (λ e. bc (sym e))
    ∙ ap (λ w. set w c new_c) (set-set word b new_b y ∙ set-get_or word b false) in
    let left : List Bool = set word c new_c in
    let left_len : length left ≡ length word = length-set word c new_c in
    let left_a : bit_of left a ≡ x = get_or-set_other word c a new_c false ac in
    let left_b : bit_of left b ≡ y = get_or-set_other word c b new_c false bc in
    let left_c : bit_of left c ≡ new_c = get_or-set_same word c new_c false lc in
    let both : ℕ = bit_or (2 ^ a) (2 ^ b) in
    ap (act (flip_under both c)) first
    ∙ ap (λ t. cond t (flip left c) left) (holds_two_lines a b left (omega arith) (omega arith) ∙ ap (λ t. t && bit_of left b) left_a ∙ ap (λ t. x && t) left_b)
    ∙ flip_if (x && y) left c
    ∙ ap (λ v. set left c (xor (x && y) v)) left_c
    ∙ ap (set left c) (xor_around (x && y) z)
    ∙ set-set word c new_c z
    ∙ set-get_or word c false

-- a gate and then its inverse give the word back
pub run-inverse : (g : Shape) (word : List Bool) → IsGate g → FitsIn g (length word) → run (inverse g) (act g word) ≡ word
run-inverse (Flip care want target) word is fits =
    flip_twice care want target word is.1 (fits_flip (Flip care want target) care want target (length word) refl fits)
run-inverse (Swap care want a b) word is fits =
    let g : Shape = Swap care want a b in
    swap_twice care want a b word is.3 is.4 (fits_swap_a g care want a b (length word) refl fits) (fits_swap_b g care want a b (length word) refl fits) is.2
run-inverse (Peres a b c) word is fits =
    let g : Shape = Peres a b c in
    let n : ℕ = length word in
    peres_undone a b c word (fits_peres_a g a b c n refl fits) (fits_peres_b g a b c n refl fits) (fits_peres_c g a b c n refl fits) is.3 is.4 is.5

-- the same for gates that are its inverse
pub run-undoing : (g : Shape) (gates : List Shape) → gates ≡ inverse g → IsGate g → (word : List Bool) → FitsIn g (length word) → run gates (act g word) ≡ word
run-undoing g gates same is word fits = ap (λ gs. run gs (act g word)) same ∙ run-inverse g word is fits

-- ---- where the inverse fits

pub FitsIn-inverse : (g : Shape) (n : ℕ) → FitsIn g n → AllFit n (inverse g)
FitsIn-inverse (Flip care want target) n fits = All-cons (λ gate. FitsIn gate n) (Flip care want target) [] fits (All-nil (λ gate. FitsIn gate n))
FitsIn-inverse (Swap care want a b) n fits = All-cons (λ gate. FitsIn gate n) (Swap care want a b) [] fits (All-nil (λ gate. FitsIn gate n))
FitsIn-inverse (Peres a b c) n fits =
    let g : Shape = Peres a b c in
    let la = fits_peres_a g a b c n refl fits in
    let lb = fits_peres_b g a b c n refl fits in
    let lc = fits_peres_c g a b c n refl fits in
    let both : ℕ = bit_or (2 ^ a) (2 ^ b) in
    let first : FitsIn (flip_under (2 ^ a) b) n = λ line on.
    elim (or_cases (has (2 ^ a) line) (eqb line b) on) [
      | inl control ↦ let at : line ≡ a = eqb-true line a (sym (has-line a line) ∙ control) in omega arith
      | inr target ↦ let at : line ≡ b = eqb-true line b target in omega arith
    ] in
    let second : FitsIn (flip_under both c) n = λ line on.
    elim (or_cases (has both line) (eqb line c) on) [
      | inl control ↦
          (elim (or_cases (eqb line a) (eqb line b) (sym (has-lines a b line) ∙ control)) [
            | inl at_a ↦ let at : line ≡ a = eqb-true line a at_a in omega arith
            | inr at_b ↦ let at : line ≡ b = eqb-true line b at_b in omega arith
          ])
      | inr target ↦ let at : line ≡ c = eqb-true line c target in omega arith
    ] in
    All-cons (λ gate. FitsIn gate n) (flip_under (2 ^ a) b) (flip_under both c ∷ []) first
    (All-cons (λ gate. FitsIn gate n) (flip_under both c) [] second (All-nil (λ gate. FitsIn gate n)))
