-- What a cube matches after one of its symbols has changed.
use Rattle.rv_gate.proofs.Bits.{xor_and}
use Rattle.std.proofs.Common.{◌≡◌, ◌≢◌, ℕ, zero, suc, ◌^◌, ◌<◌, Bool, true, false, not, cond, ◌&&◌, eqb, List, length, refl, sym, ◌∙◌, ap, inl, inr, arith, eq-eqb, ne_eqb}
use Rattle.std.specs.Prelude.{bit_xor}
use Rattle.std.proofs.lemmas.Bool.{cases_eq, not-true}
use Rattle.rv_gate.specs.Word.{has, bit_of}
use Rattle.rv_gate.specs.Gate.{all_below, same, xor}
use Rattle.rv_gate.proofs.AllBelow.{all_below-same}
use Rattle.rv_gate.proofs.LineSets.{has-changed_same, has-changed_other}
use Rattle.rv_pla.specs.Cube.{Symbol, symbol_of, symbol, agrees, matches}
use Rattle.rv_pla.specs.declared.cube.Cube.{Cube}
use Rattle.rv_cube.specs.Distance.{is_same, differs, third, put, cares, wants_one, with_symbol, with_third}

-- ---- tests on all lines

-- a test at each line but k
abbrev pub but : (ℕ → Bool) → ℕ → ℕ → Bool
but p k i = cond (eqb i k) true (p i)

but-same : (p : ℕ → Bool) (k : ℕ) → but p k k ≡ true
but-same p k = ap (λ b. cond b true (p k)) (eq-eqb k k refl)

but-other : (p : ℕ → Bool) (k i : ℕ) → i ≢ k → but p k i ≡ p i
but-other p k i h = ap (λ b. cond b true (p i)) (ne_eqb i k h)

and-swap : (a b c : Bool) → (a && (b && c)) ≡ (b && (a && c))
and-swap a b c = grind arith

pub all_below-split : (p q : ℕ → Bool) (k n : ℕ) → k < n → ((i : ℕ) → i < n → i ≢ k → p i ≡ q i)
    → all_below p n ≡ (p k && all_below (but q k) n)
all_below-split p q k zero h s = absurd (omega arith)
all_below-split p q k (suc n) h s =
    elim (cases_eq n k) [
      | inl e ↦
          let r : all_below p n ≡ all_below (but q k) n = all_below-same p (but q k) n (λ i l. let ne : i ≢ k = omega arith in s i (omega arith) ne ∙ sym (but-other q k i ne)) in
          let b : but q k n ≡ true = ap (but q k) e ∙ but-same q k in
          ap (λ x. x && all_below p n) (ap p e) ∙ ap (λ x. p k && x) (r ∙ ap (λ x. x && all_below (but q k) n) (sym b))
      | inr ne ↦
          let r : all_below p n ≡ (p k && all_below (but q k) n) = all_below-split p q k n (omega arith) (λ i l. s i (omega arith)) in
          let b : p n ≡ but q k n = s n (omega arith) ne ∙ sym (but-other q k n ne) in
          ap (λ x. p n && x) r ∙ and-swap (p n) (p k) _ ∙ ap (λ x. p k && (x && all_below (but q k) n)) b
    ]

-- ---- symbols

pub agrees-third : (s t : Symbol) (bit : Bool) → is_same s t ≡ false → agrees (third s t) bit ≡ xor (agrees s bit) (agrees t bit)
agrees-third s t bit h = grind arith

pub is_same-true : (s t : Symbol) → is_same s t ≡ true → s ≡ t
is_same-true s t h = grind arith

symbol_of-symbol : (s : Symbol) → symbol_of (cares s) (wants_one s) ≡ s
symbol_of-symbol s = grind arith

-- ---- a line put in or out

has_choice-same : (set k : ℕ) (h on : Bool) → has set k ≡ h → has (cond (same h on) set (bit_xor set (2 ^ k))) k ≡ on
has_choice-same set k true false e = has-changed_same set k ∙ ap not e
has_choice-same set k false true e = has-changed_same set k ∙ ap not e
has_choice-same set k o v e = e

pub has_put-same : (set k : ℕ) (on : Bool) → has (put set k on) k ≡ on
has_put-same set k on = has_choice-same set k (has set k) on refl

has_choice-other : (set k i : ℕ) (b : Bool) → i ≢ k → has (cond b set (bit_xor set (2 ^ k))) i ≡ has set i
has_choice-other set k i true ne = refl
has_choice-other set k i false ne = has-changed_other set k i ne

pub has_put-other : (set k i : ℕ) (on : Bool) → i ≢ k → has (put set k on) i ≡ has set i
has_put-other set k i on ne = has_choice-other set k i (same (has set k) on) ne

pub symbol_with-same : (cube : Cube) (k : ℕ) (s : Symbol) → symbol (with_symbol cube k s) k ≡ s
symbol_with-same cube k s = grind (arith, symbol_of, wants_one, has_put-same, symbol_of-symbol)

pub symbol_with-other : (cube : Cube) (k i : ℕ) (s : Symbol) → i ≢ k → symbol (with_symbol cube k s) i ≡ symbol cube i
symbol_with-other cube k i s ne = grind (arith, symbol_of, wants_one, has_put-other)

-- ---- what two cubes match

pub matches-same : (a b : Cube) (word : List Bool) → ((i : ℕ) → i < length word → symbol a i ≡ symbol b i) → matches a word ≡ matches b word
unfolding matches
matches-same a b word h = all_below-same _ _ (length word) (λ i l. ap (λ s. agrees s (bit_of word i)) (h i l))

-- m is the cube a with b's symbol at k
pub matches-with_third : (a b m : Cube) (k : ℕ) (word : List Bool) → k < length word → differs a b k ≡ true
    → symbol m k ≡ symbol b k → ((i : ℕ) → i < length word → i ≢ k → symbol m i ≡ symbol a i)
    → matches (with_third a b k) word ≡ xor (matches a word) (matches m word)
unfolding matches with_third
matches-with_third a b m k word h d mk mo =
    let n : ℕ = length word in
    let t : Cube = with_symbol a k (third (symbol a k) (symbol b k)) in
    let test : Cube → ℕ → Bool = λ c i. agrees (symbol c i) (bit_of word i) in
    let rest : Bool = all_below (but (test a) k) n in
    let st : all_below (test t) n ≡ (test t k && rest) = all_below-split (test t) (test a) k n h (λ i l ne. ap (λ s. agrees s (bit_of word i)) (symbol_with-other a k i _ ne)) in
    let sa : all_below (test a) n ≡ (test a k && rest) = all_below-split (test a) (test a) k n h (λ i l ne. refl) in
    let sm : all_below (test m) n ≡ (test m k && rest) = all_below-split (test m) (test a) k n h (λ i l ne. ap (λ s. agrees s (bit_of word i)) (mo i l ne)) in
    let apart_there : is_same (symbol a k) (symbol b k) ≡ false = not-true (is_same (symbol a k) (symbol b k)) d in
    let at_k : test t k ≡ xor (test a k) (test m k) =
    ap (λ s. agrees s (bit_of word k)) (symbol_with-same a k _)
    ∙ agrees-third (symbol a k) (symbol b k) (bit_of word k) apart_there
    ∙ ap (λ s. xor (test a k) (agrees s (bit_of word k))) (sym mk) in
    st ∙ ap (λ x. x && rest) at_k ∙ xor_and (test a k) (test m k) rest ∙ ap (λ x. xor x (test m k && rest)) (sym sa) ∙ ap (xor (all_below (test a) n)) (sym sm)
