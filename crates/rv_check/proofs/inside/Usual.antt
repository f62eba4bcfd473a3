-- The operations that one pass with a mask does.
use Rattle.std.proofs.Common.{◌≡◌, ℕ, ◌-◌, ◌*◌, ◌%◌, ◌^◌, ◌<◌, ◌≤◌, ◌&&◌, ◌≢◌, Bool, true, false, not, cond, List, map, length, set, refl, sym, ap, ap₂, ◌∙◌, arith}
use Rattle.std.proofs.lemmas.Bool.{eq-eqb}
use Rattle.std.proofs.lemmas.List.{set_comm, set-get_or}
use Rattle.std.proofs.Math.Nat.{mod-eq_of_lt}
use Rattle.std.proofs.Math.Pow.{pow_mono}
use Rattle.rv_gate.specs.Gate.{xor}
use Rattle.std.specs.Int.Bits.{bit_or, or_zero_r}
use Rattle.rv_gate.specs.Word.{bit_of, number_of}
use Rattle.rv_net.specs.Cyclotomic.{Cyclotomic, times_w_power}
use Rattle.rv_net.specs.Op.{OpFitsIn, goes_to}
use Rattle.rv_net.specs.declared.op.Op.{Op}
use Rattle.rv_net.specs.declared.op.Op.TheVariants.{X, Cx, Cz, Ccx, Swap, Cswap}
use Rattle.rv_check.specs.Reduced.{words}
use Rattle.rv_check.specs.inside.Dense.{Marks, covers, moved_at}
use Rattle.rv_check.proofs.Back.{there}
use Rattle.rv_check.proofs.inside.Masks.{covers_both, covers_line}
use Rattle.rv_check.proofs.inside.Numbers.{same_map}
use Rattle.rv_check.proofs.inside.Sparse.{Word}

-- ---- sets of lines as the code makes them

pub shifted : (q n : ℕ) → q < n → n ≤ 10 → 1 * 2 ^ q % 18446744073709551616 ≡ 2 ^ q
shifted q n lt few = grind (arith, pow_mono, mod-eq_of_lt)

-- ---- phases

turned_if : (b : Bool) (power : ℕ) (u : Cyclotomic) → cond b (times_w_power power u) u ≡ times_w_power (cond b power 0) u
unfolding times_w_power
turned_if b power u = grind arith

abbrev Turned : ℕ → ℕ → (Word → Cyclotomic) → Word → Cyclotomic
Turned mask power f x = cond (covers mask (number_of x)) (times_w_power power (f x)) (f x)

masked_turned : (n power mask : ℕ) (on : Word → Bool) (f : Word → Cyclotomic) (ws : List Cyclotomic) → ((x : Word) → length x ≡ n → covers mask (number_of x) ≡ on x) → ws ≡ map (Turned mask power f) (words n)
    → ws ≡ map (λ x. times_w_power (cond (on x) power 0) (f x)) (words n)
masked_turned n power mask on f ws has is =
    is ∙ same_map _ _ n (λ x l. turned_if (covers mask (number_of x)) power (f x) ∙ ap (λ b. times_w_power (cond b power 0) (f x)) (has x l))

pub line_turned : (n q power mask : ℕ) (f : Word → Cyclotomic) (ws : List Cyclotomic) → q < n → mask ≡ 2 ^ (n - 1 - q) → ws ≡ map (Turned mask power f) (words n)
    → ws ≡ map (λ x. times_w_power (cond (bit_of x q) power 0) (f x)) (words n)
line_turned n q power mask f ws lt e is =
    masked_turned n power mask (λ x. bit_of x q) f ws (λ x l. ap (λ m. covers m (number_of x)) e ∙ covers_line n q x l lt) is

covers_two : (n a b p q : ℕ) (x : Word) → length x ≡ n → a < n → b < n → p ≡ 2 ^ (n - 1 - a) → q ≡ 2 ^ (n - 1 - b) → covers (bit_or p q) (number_of x) ≡ (bit_of x a && bit_of x b)
covers_two n a b p q x l lt less e g = grind (arith, covers_both, number_of, covers_line)

pub cz_done : (n a b p q : ℕ) (op : Op) (f : Word → Cyclotomic) (ws : List Cyclotomic) → op ≡ Cz a b → OpFitsIn (Cz a b) n → p ≡ 2 ^ (n - 1 - a) → q ≡ 2 ^ (n - 1 - b)
    → ws ≡ map (Turned (bit_or p q) 4 f) (words n) → ws ≡ map (moved_at op f) (words n)
cz_done n a b p q op f ws o fits e g is =
    masked_turned n 4 (bit_or p q) (λ x. bit_of x a && bit_of x b) f ws (λ x l. covers_two n a b p q x l fits.0 fits.1 e g) is
    ∙ ap (λ o. map (moved_at o f) (words n)) (sym o)

-- ---- bits changed

xor_true : (b : Bool) → xor true b ≡ not b
xor_true b = grind arith

abbrev Flipped : ℕ → (Word → Bool) → (Word → Cyclotomic) → Word → Cyclotomic
Flipped line on f x = f (set x line (xor (on x) (bit_of x line)))

-- what a pass with a mask does
abbrev pub Flips : ℕ → ℕ → ℕ → (Word → Cyclotomic) → List Cyclotomic → Type 0
Flips n mask line f ws = (on : Word → Bool) → Marks mask n line on → ws ≡ map (Flipped line on f) (words n)

pub x_done : (n q : ℕ) (f : Word → Cyclotomic) (ws : List Cyclotomic) → Flips n 0 q f ws → ws ≡ map (moved_at (X q) f) (words n)
unfolding times_w_power
x_done n q f ws is =
    is (λ x. true) (record { held = λ x l. eq-eqb _ (number_of x) (or_zero_r (number_of x)); free = λ x b. refl })
    ∙ same_map _ _ n (λ x l. ap (λ c. f (set x q c)) (xor_true (bit_of x q)))

pub cx_done : (n a b p : ℕ) (f : Word → Cyclotomic) (ws : List Cyclotomic) → OpFitsIn (Cx a b) n → p ≡ 2 ^ (n - 1 - a) → Flips n p b f ws → ws ≡ map (moved_at (Cx a b) f) (words n)
unfolding times_w_power
cx_done n a b p f ws fits e is =
    is (λ x. bit_of x a) (record { held = λ x l. ap (λ m. covers m (number_of x)) e ∙ covers_line n a x l fits.0; free = λ x c. there x b a c fits.2 })

pub ccx_done : (n a b c p q : ℕ) (f : Word → Cyclotomic) (ws : List Cyclotomic) → OpFitsIn (Ccx a b c) n → p ≡ 2 ^ (n - 1 - a) → q ≡ 2 ^ (n - 1 - b)
    → Flips n (bit_or p q) c f ws → ws ≡ map (moved_at (Ccx a b c) f) (words n)
unfolding times_w_power
ccx_done n a b c p q f ws fits e g is =
    is (λ x. bit_of x a && bit_of x b) (record {
      held = λ x l. covers_two n a b p q x l fits.0 fits.1 e g;
      free = λ x d. ap₂ (λ s t. s && t) (there x c a d fits.4) (there x c b d fits.5);
    })

-- what a pass that exchanges lines does
abbrev pub Exchanges : ℕ → ℕ → ℕ → ℕ → (Word → Cyclotomic) → List Cyclotomic → Type 0
Exchanges n mask a b f ws =
    (on : Word → Bool) → Marks mask n a on → Marks mask n b on → ws ≡ map (λ x. f (cond (on x) (goes_to (Swap a b) x) x)) (words n)

pub swap_done : (n a b : ℕ) (f : Word → Cyclotomic) (ws : List Cyclotomic) → Exchanges n 0 a b f ws → ws ≡ map (moved_at (Swap a b) f) (words n)
unfolding times_w_power
swap_done n a b f ws is = is (λ x. true) none none where
  none : {q : ℕ} → Marks 0 n q (λ x. true)
  none = record { held = λ x l. eq-eqb _ (number_of x) (or_zero_r (number_of x)); free = λ x b. refl }

pub cswap_done : (n c a b p : ℕ) (f : Word → Cyclotomic) (ws : List Cyclotomic) → OpFitsIn (Cswap c a b) n → p ≡ 2 ^ (n - 1 - c) → Exchanges n p a b f ws → ws ≡ map (moved_at (Cswap c a b) f) (words n)
unfolding times_w_power
cswap_done n c a b p f ws fits e is =
    is (λ x. bit_of x c) (marks a fits.3) (marks b fits.4) ∙ same_map _ _ n (λ x l. ap f (chosen x (bit_of x c))) where
      marks : (q : ℕ) → c ≢ q → Marks p n q (λ x. bit_of x c)
      marks q ne = record { held = λ x l. ap (λ m. covers m (number_of x)) e ∙ covers_line n c x l fits.0; free = λ x d. there x q c d ne }

      chosen : (x : Word) (on : Bool) → cond on (goes_to (Swap a b) x) x ≡ set (set x a (cond on (bit_of x b) (bit_of x a))) b (cond on (bit_of x a) (bit_of x b))
      chosen x true = refl
      chosen x false = sym (set_comm x a b _ _ fits.5 ∙ ap (λ y. set y a (bit_of x a)) (set-get_or x b false) ∙ set-get_or x a false)
