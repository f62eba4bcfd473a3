-- Gates that add a sum of products to a line.
use Rattle.std.proofs.Common.{◌≡◌, ℕ, zero, suc, ◌+◌, ◌<◌, ◌≤◌, Bool, true, false, cond, List, [], ◌∷◌, ◌++◌, length, set, take, refl, sym, subst, ◌∙◌, ap, inl, inr, arith, ne_eqb, length-append, length-set, get_or-set_same, get_or-set_other}
use Rattle.std.specs.Prelude.{Option}
use Rattle.std.proofs.lemmas.Bool.{cases_eq}
use Rattle.std.proofs.lemmas.List.{set-set, set-get_or, take_all}
use Rattle.std.proofs.lemmas.List.Elements.{All-append}
use Rattle.rv_gate.specs.Word.{has, bit_of}
use Rattle.rv_gate.specs.Gate.{holds, flip, act, same, xor, IsGate, FitsIn}
use Rattle.rv_gate.specs.declared.gate.Shape.{Shape}
use Rattle.rv_gate.specs.declared.gate.Shape.TheVariants.{Flip}
use Rattle.rv_gate.proofs.Bits.{xor_false, xor_true, xor_assoc, or_off}
use Rattle.rv_gate.proofs.inside.GateLemmas.{run-append}
use Rattle.rv_blif.specs.declared.product.Product.{Product}
use Rattle.rv_compute.specs.declared.controls.Controls.TheVariants.{Held, Never}
use Rattle.rv_compute.specs.declared.place.Place.{Place}
use Rattle.rv_compute.specs.declared.place.Place.TheVariants.{Line, Constant}
use Rattle.rv_compute.specs.inside.Places.{place_value, AreRead, AreBeside, AreThere, IsBeside}
use Rattle.rv_compute.specs.inside.Sums.{sum_of}
use Rattle.rv_compute.specs.inside.Blocks.{AreControls, Adds, AddsMore, AreFew, AreGates, Serve}

-- ---- sums

pub sum_of-append : (a b : List Product) (bits : List Bool) → sum_of (a ++ b) bits ≡ xor (sum_of a bits) (sum_of b bits)
unfolding sum_of
sum_of-append [] b bits = sym (xor_none (sum_of b bits))
  where
    xor_none : (x : Bool) → xor false x ≡ x
    xor_none true = refl
    xor_none false = refl
sum_of-append (p ∷ a) b bits =
    ap (xor (holds p.care p.want bits)) (sum_of-append a b bits)
    ∙ sym (xor_assoc (holds p.care p.want bits) (sum_of a bits) (sum_of b bits))

pub sum_of-one : (p : Product) (bits : List Bool) → sum_of (p ∷ []) bits ≡ holds p.care p.want bits
unfolding sum_of
sum_of-one p bits = xor_false (holds p.care p.want bits)

-- ---- one flip

pub act-flip : (care want target : ℕ) (word : List Bool)
    → act (Flip care want target) word ≡ set word target (xor (bit_of word target) (holds care want word))
act-flip care want target word = choose (holds care want word)
  where
    choose : (on : Bool) → cond on (flip word target) word ≡ set word target (xor (bit_of word target) on)
    choose true = ap (set word target) (sym (xor_true (bit_of word target)))
    choose false = sym (ap (set word target) (xor_false (bit_of word target)) ∙ set-get_or word target false)

-- ---- what is read stays the same while the target changes

beside : (lines target : ℕ) (place : Place) (word : List Bool) (bit : Bool) → IsBeside lines target place
    → place_value (set word target bit) place ≡ place_value word place
beside lines target (Line line on) word bit h =
    ap (λ b. same b on) (get_or-set_other word target line bit false h.1)
beside lines target (Constant b) word bit h = refl

pub still_read : (lines target : ℕ) (places : List (Option Place)) (word bits : List Bool) (bit : Bool)
    → AreBeside lines target places → AreRead places word bits → AreRead places (set word target bit) bits
still_read lines target places word bits bit apart read operand place at =
    beside lines target place word bit (apart operand place at) ∙ read operand place at

-- ---- one product after another

pub adds_none : (lines : ℕ) (places : List (Option Place)) (target : ℕ) → Adds lines places target [] []
unfolding sum_of
adds_none lines places target = record {
  adds = λ word bits lw lb read.
      sym (ap (set word target) (xor_false (bit_of word target)) ∙ set-get_or word target false);
}

-- a product that never holds
pub adds_never : (lines : ℕ) (places : List (Option Place)) (target : ℕ) (product : Product) (gates : List Shape)
    → AreControls lines places product Never → AddsMore lines places target product gates gates
adds_never lines places target product gates never = record {
  more = λ products so_far. record {
    adds = λ word bits lw lb read.
        so_far.adds word bits lw lb read
        ∙ ap (λ s. set word target (xor (bit_of word target) s))
        (sym (sum_of-append products (product ∷ []) bits
        ∙ ap (xor (sum_of products bits)) (sum_of-one product bits ∙ never word bits lw lb read)
        ∙ xor_false (sum_of products bits)));
  };
}

pub adds_flip : (lines : ℕ) (places : List (Option Place)) (target : ℕ) (product : Product) (care want : ℕ)
    (gates : List Shape)
    → target < lines → AreBeside lines target places → AreControls lines places product (Held care want)
    → AddsMore lines places target product gates (gates ++ Flip care want target ∷ [])
adds_flip lines places target product care want gates lt apart controls = record {
  more = λ products so_far. record {
    adds = λ word bits lw lb read.
        let s = sum_of products bits in
        let b = xor (bit_of word target) s in
        let next : List Bool = set word target b in
        let ln = length-set word target b in
        let here : target < length word = omega arith in
        run-append gates (Flip care want target ∷ []) word
        ∙ ap (act (Flip care want target)) (so_far.adds word bits lw lb read)
        ∙ act-flip care want target next
        ∙ ap (λ h. set next target (xor (bit_of next target) h))
        (controls next bits (ln ∙ lw) lb (still_read lines target places word bits b apart read))
        ∙ ap (λ v. set next target (xor v (holds product.care product.want bits)))
        (get_or-set_same word target b false here)
        ∙ set-set word target b _
        ∙ ap (set word target)
        (xor_assoc (bit_of word target) s (holds product.care product.want bits)
        ∙ ap (λ h. xor (bit_of word target) (xor s h)) (sym (sum_of-one product bits))
        ∙ ap (xor (bit_of word target)) (sym (sum_of-append products (product ∷ []) bits)));
  };
}

-- all products
pub adds_all : (lines : ℕ) (places : List (Option Place)) (target : ℕ) (products : List Product) (k : ℕ)
    (gates : List Shape) → length products ≤ k → Adds lines places target (take k products) gates
    → Adds lines places target products gates
adds_all lines places target products k gates le h =
    let P : List Product → Type 0 = λ l. Adds lines places target l gates in
    subst P (take_all k products le) h

-- ---- how many, and on which lines

pub few_append : (lines a b c : ℕ) (old block : List Shape) → AreFew lines a old → AreFew lines b block → a + b ≤ c
    → AreFew lines c (old ++ block)
few_append lines a b c old block x y le = record {
  few = let s = x.few in let t = y.few in omega (arith, length-append old block);
  fit = All-append (λ gate. IsGate gate × FitsIn gate lines) old block x.fit y.fit;
}

pub few_none : (lines : ℕ) → AreFew lines 0 []
few_none lines = record { few = omega arith; fit = λ k d lt. absurd (omega arith) }

pub few_flip : (lines care want target count : ℕ) (old : List Shape) → IsGate (Flip care want target) → target < lines
    → Serve lines target care want → AreFew lines count old → AreFew lines (count + 1) (old ++ Flip care want target ∷ [])
few_flip lines care want target count old valid lt serve few =
    few_append lines count 1 (count + 1) old (Flip care want target ∷ []) few
    (record {
      few = omega arith;
      fit = one;
    }) (omega arith)
  where
    fits : FitsIn (Flip care want target) lines
    fits line on =
        elim (cases_eq line target) [
          | inl e ↦ (omega arith)
          | inr ne ↦ (serve.within line (sym (or_off (has care line) _ (ne_eqb line target ne)) ∙ on))
        ]

    one : AreGates lines (Flip care want target ∷ [])
    one zero d il = (valid, fits)
    one (suc k) d il = absurd (omega arith)

-- after so many products
pub record HaveAdded (lines : ℕ) (places : List (Option Place)) (target : ℕ) (products : List Product) (k : ℕ)
    (gates : List Shape) : Type 0 where
  pub adds : Adds lines places target (take k products) gates
  pub few : AreThere places → AreFew lines k gates
