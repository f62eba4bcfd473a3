-- Gates: the lines that they touch, what makes their controls hold, and what they do twice.
use Rattle.std.proofs.Common.{◌≡◌, ◌≢◌, ℕ, ◌^◌, ◌<◌, Bool, true, false, not, cond, ◌||◌, eqb, List, [], ◌∷◌, ◌++◌, length, set, refl, sym, ◌∙◌, ap, inl, inr, arith, length-set, get_or-set_same, get_or-set_other, eq-eqb, Decides}
use Rattle.std.specs.Prelude.{bit_or}
use Rattle.std.proofs.lemmas.Bool.{cases_Bool, cond-true, cond-false, or_left, or_right, false≢true}
use Rattle.std.proofs.lemmas.Bool.Decides.{same_from_decides, Decides-below_and}
use Rattle.std.proofs.lemmas.List.{set-set, set-get_or}
use Rattle.rv_gate.specs.Word.{has, bit_of, number_of, word_of}
use Rattle.rv_gate.specs.inside.laws.WordLaws.{length-word_of, number_of-lt, number_of-word_of_small, word_of-number_of}
use Rattle.rv_gate.specs.Gate.{all_below, same, holds, flip, xor, act, run, touches, touched, FitsIn, IsGate, IsFlip, Within, act_on_number}
use Rattle.rv_gate.specs.declared.gate.Shape.{Shape}
use Rattle.rv_gate.specs.declared.gate.Shape.TheVariants.{Flip, Swap, Peres}
use Rattle.rv_gate.proofs.LineSets.{has-or, has-line, has-lines, has-with_line, has-none}
use Rattle.rv_gate.proofs.Bits.{or_assoc, not_not}

-- a gate touches its controls and its targets
pub has-touched : (g : Shape) (line : ℕ) → has (touched g) line ≡ touches g line
has-touched (Flip care want target) line = has-with_line care target line
has-touched (Swap care want a b) line =
    has-or care (bit_or (2 ^ a) (2 ^ b)) line ∙ ap (λ t. has care line || t) (has-lines a b line) ∙ or_assoc (has care line) (eqb line a) (eqb line b)
has-touched (Peres a b d) line =
    has-or (2 ^ a) (bit_or (2 ^ b) (2 ^ d)) line ∙ ap (λ t. t || has (bit_or (2 ^ b) (2 ^ d)) line) (has-line a line)
    ∙ ap (λ t. eqb line a || t) (has-lines b d line) ∙ or_assoc (eqb line a) (eqb line b) (eqb line d)

-- the lines of a gate that fits
pub fits_flip : (g : Shape) (care want target n : ℕ) → g ≡ Flip care want target → FitsIn g n → target < n
fits_flip g care want target n e h = h target (rw e (or_right (has care target) _ (eq-eqb target target refl)))

pub fits_swap_a : (g : Shape) (care want a b n : ℕ) → g ≡ Swap care want a b → FitsIn g n → a < n
fits_swap_a g care want a b n e h =
    h a (rw e (or_left (has care a || eqb a a) (eqb a b) (or_right (has care a) _ (eq-eqb a a refl))))

pub fits_swap_b : (g : Shape) (care want a b n : ℕ) → g ≡ Swap care want a b → FitsIn g n → b < n
fits_swap_b g care want a b n e h = h b (rw e (or_right (has care b || eqb b a) _ (eq-eqb b b refl)))

-- the controls of what fits are among the lines
pub fits_flip_care : (g : Shape) (care want target n : ℕ) → g ≡ Flip care want target → FitsIn g n → Within care n
fits_flip_care g care want target n e h = λ line on. h line (rw e (or_left (has care line) (eqb line target) on))

pub fits_swap_care : (g : Shape) (care want a b n : ℕ) → g ≡ Swap care want a b → FitsIn g n → Within care n
fits_swap_care g care want a b n e h =
    λ line on. h line (rw e (or_left (has care line || eqb line a) (eqb line b) (or_left (has care line) (eqb line a) on)))

pub fits_peres_a : (g : Shape) (a b d n : ℕ) → g ≡ Peres a b d → FitsIn g n → a < n
fits_peres_a g a b d n e h =
    h a (rw e (or_left (eqb a a || eqb a b) (eqb a d) (or_left (eqb a a) (eqb a b) (eq-eqb a a refl))))

pub fits_peres_b : (g : Shape) (a b d n : ℕ) → g ≡ Peres a b d → FitsIn g n → b < n
fits_peres_b g a b d n e h =
    h b (rw e (or_left (eqb b a || eqb b b) (eqb b d) (or_right (eqb b a) (eqb b b) (eq-eqb b b refl))))

pub fits_peres_c : (g : Shape) (a b d n : ℕ) → g ≡ Peres a b d → FitsIn g n → d < n
fits_peres_c g a b d n e h = h d (rw e (or_right (eqb d a || eqb d b) _ (eq-eqb d d refl)))

-- ---- the controls

each : (c b w : Bool) → Decides (cond c (same b w) true) (c ≡ true → b ≡ w)
each false b w = (λ _ h. absurd (false≢true h), λ _. refl)
each true true w = (λ e _. sym e, λ f. sym (f refl))
each true false true = (λ e _. absurd (false≢true e), λ f. f refl)
each true false false = (λ _ _. refl, λ _. refl)

-- what it means that the controls hold
abbrev pub Hold : ℕ → ℕ → List Bool → Type 0
Hold care want word = (line : ℕ) → line < length word → has care line ≡ true → bit_of word line ≡ has want line

pub holds_Decides : (care want : ℕ) (word : List Bool) → Decides (holds care want word) (Hold care want word)
unfolding holds
holds_Decides care want word =
    let p : ℕ → Bool = λ line. cond (has care line) (same (bit_of word line) (has want line)) true in
    Decides-below_and p (λ line. has care line ≡ true → bit_of word line ≡ has want line) (all_below p)
    (λ line. each (has care line) (bit_of word line) (has want line)) refl (λ n. refl) (length word)

-- no control at all
pub holds_none : (word : List Bool) → holds 0 0 word ≡ true
holds_none word = (holds_Decides 0 0 word).1 (λ line within there. absurd (false≢true (sym (has-none line) ∙ there)))

-- ---- many gates

pub length-cond : (t : Bool) (v w : List Bool) (n : ℕ) → length v ≡ n → length w ≡ n → length (cond t v w) ≡ n
length-cond true v w n hv hw = hv
length-cond false v w n hv hw = hw

-- a gate keeps the length of a word, and so do many
pub length-act : (g : Shape) (word : List Bool) → length (act g word) ≡ length word
length-act (Flip care want target) word = length-cond (holds care want word) _ _ _ (length-set word target _) refl
length-act (Swap care want a b) word =
    length-cond (holds care want word) _ _ _ (length-set (set word a (bit_of word b)) b _ ∙ length-set word a _) refl
length-act (Peres a b c) word = length-set (set word b _) c _ ∙ length-set word b _

pub length-run : (gates : List Shape) (word : List Bool) → length (run gates word) ≡ length word
length-run [] word = refl
length-run (g ∷ rest) word = length-run rest (act g word) ∙ length-act g word

pub run-append : (gates more : List Shape) (word : List Bool) → run (gates ++ more) word ≡ run more (run gates word)
run-append [] more word = refl
run-append (g ∷ rest) more word = run-append rest more (act g word)

-- ---- a flip undoes itself

held_after : (care want target : ℕ) (word : List Bool) (b : Bool) → has care target ≡ false → Hold care want word → Hold care want (set word target b)
held_after care want target word b free h line within on =
    let other : line ≢ target = λ e. false≢true (sym free ∙ ap (has care) (sym e) ∙ on) in
    get_or-set_other word target line b false other ∙ h line (omega (arith, length-set word target b)) on

held_before : (care want target : ℕ) (word : List Bool) (b : Bool) → has care target ≡ false → Hold care want (set word target b) → Hold care want word
held_before care want target word b free h line within on =
    let other : line ≢ target = λ e. false≢true (sym free ∙ ap (has care) (sym e) ∙ on) in
    sym (get_or-set_other word target line b false other) ∙ h line (omega (arith, length-set word target b)) on

pub holds-set : (care want target : ℕ) (word : List Bool) (b : Bool) → has care target ≡ false → holds care want (set word target b) ≡ holds care want word
holds-set care want target word b free =
    let d = holds_Decides care want (set word target b) in
    let e = holds_Decides care want word in
    same_from_decides {P = Hold care want word} _ _
    (λ t. held_before care want target word b free (d.0 t), λ p. d.1 (held_after care want target word b free p)) e

-- a flip under a condition is a write
pub flip_if : (t : Bool) (word : List Bool) (line : ℕ) → cond t (flip word line) word ≡ set word line (xor t (bit_of word line))
flip_if true word line = refl
flip_if false word line = sym (ap (set word line) (not_not (bit_of word line)) ∙ set-get_or word line false)

pub flip-flip : (word : List Bool) (target : ℕ) → target < length word → flip (flip word target) target ≡ word
flip-flip word target h =
    let b : Bool = bit_of word target in
    set-set word target (not b) _
    ∙ ap (λ c. set word target (not c)) (get_or-set_same word target (not b) false h)
    ∙ ap (set word target) (not_not b)
    ∙ set-get_or word target false

pub flip_twice : (care want target : ℕ) (word : List Bool) → has care target ≡ false → target < length word
    → act (Flip care want target) (act (Flip care want target) word) ≡ word
flip_twice care want target word free h =
    elim (cases_Bool (holds care want word)) [
      | inl on ↦
          let first : act (Flip care want target) word ≡ flip word target = cond-true (holds care want word) _ _ on in
          ap (act (Flip care want target)) first
          ∙ cond-true (holds care want (flip word target)) _ _ (holds-set care want target word _ free ∙ on)
          ∙ flip-flip word target h
      | inr off ↦
          let first : act (Flip care want target) word ≡ word = cond-false (holds care want word) _ _ off in
          ap (act (Flip care want target)) first ∙ first
    ]

pub act_twice : (g : Shape) (n : ℕ) (word : List Bool) → IsFlip g → IsGate g → FitsIn g n → length word ≡ n → act g (act g word) ≡ word
act_twice (Flip care want target) n word f v fits len =
    flip_twice care want target word v.1 (omega (arith, fits_flip (Flip care want target) care want target n refl fits))
act_twice (Swap care want a b) n word f v fits len = absurd (false≢true f)
act_twice (Peres a b d) n word f v fits len = absurd (false≢true f)

pub act_on_number-lt : (g : Shape) (n x : ℕ) → act_on_number g n x < 2 ^ n
act_on_number-lt g n x =
    let len : length (act g (word_of n x)) ≡ n = length-act g (word_of n x) ∙ length-word_of n x in
    let lt : number_of (act g (word_of n x)) < 2 ^ length (act g (word_of n x)) = number_of-lt (act g (word_of n x)) in
    rw len at lt

-- the word with the number that a gate makes
pub word_of-act_on_number : (g : Shape) (n x : ℕ) → word_of n (act_on_number g n x) ≡ act g (word_of n x)
word_of-act_on_number g n x =
    let v : List Bool = act g (word_of n x) in
    let len : length v ≡ n = length-act g (word_of n x) ∙ length-word_of n x in
    ap (λ k. word_of k (number_of v)) (sym len) ∙ word_of-number_of v

pub act_on_number-twice : (g : Shape) (n x : ℕ) → IsFlip g → IsGate g → FitsIn g n → x < 2 ^ n → act_on_number g n (act_on_number g n x) ≡ x
act_on_number-twice g n x f v fits lt =
    ap (λ w. number_of (act g w)) (word_of-act_on_number g n x)
    ∙ ap number_of (act_twice g n (word_of n x) f v fits (length-word_of n x))
    ∙ number_of-word_of_small n x lt
