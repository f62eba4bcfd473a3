-- Words whose bits are changed through the sets of their lines.
use Rattle.std.proofs.Common.{◌≡◌, ◌≢◌, ℕ, ◌-◌, ◌+◌, ◌*◌, ◌%◌, ◌^◌, ◌<◌, ◌≤◌, Bool, true, false, not, cond, ◌&&◌, eqb, min, List, length, get_or, set, refl, sym, ◌∙◌, ap, inl, inr, arith, ext_get_or, length-set, get_or-set_same, get_or-set_other, eq-eqb, ne_eqb, w64}
use Rattle.std.specs.Prelude.{bit_and, bit_or, bit_xor}
use Rattle.std.proofs.Math.Bool.{beq}
use mir.Val.{bool_byte}
use Rattle.std.proofs.lemmas.Bool.{cases_eq, cases_Bool, cond-true, cond-false, eqb-true}
use Rattle.std.proofs.lemmas.Bool.Decides.{same_from_decides}
use Rattle.std.proofs.lemmas.Nat.{one_shl, pow_below, or_lt, xor_lt, and_le_l}
use Rattle.std.proofs.lemmas.Nat.Bits.{bit_at-lt, bit_at-zero, bit_at_and, bit_at_xor, bit_at_set_same, bit_at_set_other, bit_at_clear_same, bit_at_clear_other, same_from_bits}
use Rattle.std.proofs.lemmas.List.{set-get_or}
use Rattle.std.specs.Int.{bit_at, bit_not}
use Rattle.rv_gate.specs.Word.{has, bit_of, word_of, word_with}
use Rattle.rv_gate.specs.inside.laws.WordLaws.{length-word_of, bit_of-word_of, length-word_with, bit_of-word_with, ones_of-word_with_small}
use Rattle.rv_gate.specs.Gate.{holds, flip, exchanged, xor, peres, act, Within}
use Rattle.rv_gate.specs.declared.gate.Shape.TheVariants.{Swap}
use Rattle.rv_gate.proofs.LineSets.{bit_cases, bits_from_has, has_one, has-changed_same, has-changed_other}
use Rattle.rv_gate.proofs.inside.GateLemmas.{Hold, holds_Decides, length-cond, flip_if}
use Rattle.rv_gate.proofs.Bits.{not_not, xor_comm}

pub ruleset words = (length-word_with, ones_of-word_with_small)

-- the length of the word that a value stands for
pub length_seen : (n s : ℕ) (w : List Bool) → word_with n s ≡ w → length w ≡ n
length_seen n s w e = ap length (sym e) ∙ length-word_with n s

-- a number that differs in one bit
pub word_of-set : (n x y line k : ℕ) (b : Bool) → k + 1 + line ≡ n → has y k ≡ b
    → ((i : ℕ) → i < n → i ≢ k → bit_at y i ≡ bit_at x i) → word_of n y ≡ set (word_of n x) line b
word_of-set n x y line k b place new old =
    ext_get_or false _ _ (length-word_of n y ∙ sym (length-set (word_of n x) line b ∙ length-word_of n x))
    (λ i h.
    let within : i < n = omega (arith, length-word_of n y) in
    bit_of-word_of n y i within
    ∙ (elim (cases_eq i line) as (λ _. has y (n - 1 - i) ≡ get_or (set (word_of n x) line b) i false) [
      | inl same ↦
          let at : n - 1 - i ≡ k = omega arith in
          let lt : line < length (word_of n x) = omega (arith, length-word_of n x) in
          rw (at, same) (new ∙ sym (get_or-set_same (word_of n x) line b false lt))
      | inr other ↦
          let ne : n - 1 - i ≢ k = omega arith in
          ap (λ d. eqb d 1) (old (n - 1 - i) (omega arith) ne)
          ∙ sym (bit_of-word_of n x i within)
          ∙ sym (get_or-set_other (word_of n x) line i b false other)
    ]))

-- a set that differs in one line
pub word_with-set : (n s t line : ℕ) (b : Bool) → line < n → has t line ≡ b
    → ((i : ℕ) → i < n → i ≢ line → bit_at t i ≡ bit_at s i) → word_with n t ≡ set (word_with n s) line b
word_with-set n s t line b lt new old =
    ext_get_or false _ _ (length-word_with n t ∙ sym (length-set (word_with n s) line b ∙ length-word_with n s))
    (λ i h.
    let within : i < n = omega (arith, length-word_with n t) in
    bit_of-word_with n t i within
    ∙ (elim (cases_eq i line) as (λ _. has t i ≡ get_or (set (word_with n s) line b) i false) [
      | inl same ↦
          let there : line < length (word_with n s) = omega (arith, length-word_with n s) in
          rw same (new ∙ sym (get_or-set_same (word_with n s) line b false there))
      | inr other ↦
          ap (λ d. eqb d 1) (old i within other)
          ∙ sym (bit_of-word_with n s i within)
          ∙ sym (get_or-set_other (word_with n s) line i b false other)
    ]))

pub word_with-set_one : (n s line : ℕ) → line < n → n ≤ 64 → word_with n (bit_or s (1 * 2 ^ line % 2 ^ 64)) ≡ set (word_with n s) line true
word_with-set_one n s line lt small =
    word_with-set n s _ line true lt (eq-eqb _ 1 (bit_at_set_same w64 s line (omega arith)))
    (λ i h ne. bit_at_set_other w64 s line (omega arith) i ne)

pub word_with-set_zero : (n s line : ℕ) → line < n → n ≤ 64
    → word_with n (bit_and s (bit_not w64 (1 * 2 ^ line % 2 ^ 64))) ≡ set (word_with n s) line false
word_with-set_zero n s line lt small =
    word_with-set n s _ line false lt
    (let e : bit_at (bit_and s (bit_not w64 (1 * 2 ^ line % 2 ^ 64))) line ≡ 0 = bit_at_clear_same w64 s line (omega arith) in ne_eqb _ 1 (λ o. omega arith))
    (λ i h ne. bit_at_clear_other w64 s line (omega arith) i (omega arith) ne)

-- a change of one line
pub word_with-flip : (n s line : ℕ) → line < n → word_with n (bit_xor s (2 ^ line)) ≡ flip (word_with n s) line
word_with-flip n s line lt =
    word_with-set n s _ line _ lt (has-changed_same s line ∙ ap not (sym (bit_of-word_with n s line lt)))
    (λ i h ne. bits_from_has _ i s i (has-changed_other s line i ne))

xor-zero : (s : ℕ) → bit_xor s 0 ≡ s
xor-zero s =
    same_from_bits _ s (λ i.
    let e = bit_at_xor s 0 i in
    let z = bit_at-zero i in
    let small = bit_at-lt s i in
    omega arith)

-- a change of one line where that is so
pub changed_if : (on : Bool) (n s line m : ℕ) → line < n → n ≤ 64 → m ≡ bool_byte on → bit_xor s (m * 2 ^ line % 2 ^ 64) ≡ cond on (bit_xor s (2 ^ line)) s
changed_if true n s line m lt few is = rw (is, one_shl line 64 (omega arith)) refl
changed_if false n s line m lt few is =
    let none : 0 * 2 ^ line % 2 ^ 64 ≡ 0 = omega arith in
    rw (is, none) (xor-zero s)

pub word_with-changed : (on : Bool) (n s line : ℕ) → line < n → word_with n (cond on (bit_xor s (2 ^ line)) s) ≡ cond on (flip (word_with n s) line) (word_with n s)
word_with-changed true n s line lt = word_with-flip n s line lt
word_with-changed false n s line lt = refl

pub changed-lt : (on : Bool) (n s line : ℕ) → line < n → s < 2 ^ n → cond on (bit_xor s (2 ^ line)) s < 2 ^ n
changed-lt true n s line h lt = xor_lt n s _ lt (pow_below line n h)
changed-lt false n s line h lt = lt

-- the changed sets are below 2 ^ n too
pub set_one-lt : (n s line : ℕ) → line < n → n ≤ 64 → s < 2 ^ n → bit_or s (1 * 2 ^ line % 2 ^ 64) < 2 ^ n
set_one-lt n s line h small lt = or_lt n s _ lt (rw (one_shl line 64 (omega arith)) (pow_below line n h))

pub set_zero-lt : (n s m : ℕ) → s < 2 ^ n → bit_and s m < 2 ^ n
set_zero-lt n s m lt = omega (arith, and_le_l s m)

-- ---- the controls by masks

by_masks : (n s care want : ℕ) → bit_and (bit_xor s want) care ≡ 0 → Hold care want (word_with n s)
by_masks n s care want e line h on =
    let within : line < n = omega (arith, length-word_with n s) in
    let one = has_one care line on in
    let m : min (bit_at (bit_xor s want) line) (bit_at care line) ≡ 0 = sym (bit_at_and (bit_xor s want) care line) ∙ ap (λ z. bit_at z line) e ∙ bit_at-zero line in
    let x = bit_at_xor s want line in
    let bs = bit_at-lt s line in
    let bw = bit_at-lt want line in
    let same : bit_at s line ≡ bit_at want line = omega arith in
    bit_of-word_with n s line within ∙ ap (λ b. eqb b 1) same

to_masks : (n s care want : ℕ) → Within care n → Hold care want (word_with n s) → bit_and (bit_xor s want) care ≡ 0
to_masks n s care want few h =
    same_from_bits _ 0 (λ i.
    bit_at_and (bit_xor s want) care i
    ∙ (elim (bit_cases care i) [
      | inl z ↦ omega arith
      | inr one ↦
          let on : has care i ≡ true = eq-eqb _ 1 one in
          let within : i < n = few i on in
          let bit = h i (omega (arith, length-word_with n s)) on in
          let same : bit_at s i ≡ bit_at want i = bits_from_has s i want i (sym (bit_of-word_with n s i within) ∙ bit) in
          let x = bit_at_xor s want i in
          omega arith
    ])
    ∙ sym (bit_at-zero i))

pub held : (n s care want : ℕ) → Within care n → eqb (bit_and (bit_xor s want) care) 0 ≡ holds care want (word_with n s)
held n s care want few =
    same_from_decides {P = Hold care want (word_with n s)} _ _
    (λ e. by_masks n s care want (eqb-true _ _ e), λ h. eq-eqb _ 0 (to_masks n s care want few h))
    (holds_Decides care want (word_with n s))

-- ---- the kinds of gate as changes of lines

abbrev pub turned_if : Bool → List Bool → ℕ → List Bool
turned_if on word line = cond on (flip word line) word

pub length-turned_if : (on : Bool) (word : List Bool) (line : ℕ) → length (turned_if on word line) ≡ length word
length-turned_if on word line = length-cond on _ _ _ (length-set word line _) refl

-- a line is there after a change too
pub still_there : (on : Bool) (word : List Bool) (line other : ℕ) → other < length word → other < length (turned_if on word line)
still_there on word line other lt = omega (arith, length-turned_if on word line)

beq_not : (x y : Bool) → not (beq x y) ≡ true → y ≡ not x
beq_not x y h = grind arith

beq_same : (x y : Bool) → not (beq x y) ≡ false → x ≡ y
beq_same x y h = grind arith

-- an exchange of two lines changes both where they differ
exchanged_same : (word : List Bool) (a b : ℕ) → bit_of word a ≡ bit_of word b → exchanged word a b ≡ word
exchanged_same word a b e =
    ap (λ v. set (set word a v) b (bit_of word a)) (sym e)
    ∙ ap (λ w. set w b (bit_of word a)) (set-get_or word a false)
    ∙ ap (set word b) e
    ∙ set-get_or word b false

exchanged_differ : (word : List Bool) (a b : ℕ) → a ≢ b → bit_of word b ≡ not (bit_of word a) → flip (flip word a) b ≡ exchanged word a b
exchanged_differ word a b apart e =
    let other : bit_of (flip word a) b ≡ bit_of word b = get_or-set_other word a b _ false (λ same. apart (sym same)) in
    ap (λ v. set (flip word a) b (not v)) (other ∙ e)
    ∙ ap (set (flip word a) b) (not_not (bit_of word a))
    ∙ ap (λ v. set (set word a v) b (bit_of word a)) (sym e)

swap_held : (care want a b : ℕ) (word : List Bool) → a ≢ b → holds care want word ≡ true
    → (on x y : Bool) → on ≡ not (beq x y) → x ≡ bit_of word a → y ≡ bit_of word b
    → turned_if on (turned_if on word a) b ≡ act (Swap care want a b) word
swap_held care want a b word apart on-now on x y is at_a at_b =
    let act_is : act (Swap care want a b) word ≡ exchanged word a b = cond-true (holds care want word) _ _ on-now in
    elim (cases_Bool on) [
      | inl differ ↦
          let other : bit_of word b ≡ not (bit_of word a) = sym at_b ∙ beq_not x y (sym is ∙ differ) ∙ ap not at_a in
          rw differ (exchanged_differ word a b apart other ∙ sym act_is)
      | inr agree ↦
          let one : bit_of word a ≡ bit_of word b = sym at_a ∙ beq_same x y (sym is ∙ agree) ∙ at_b in
          rw agree (sym (exchanged_same word a b one) ∙ sym act_is)
    ]

swap_not_held : (care want a b : ℕ) (word : List Bool) → holds care want word ≡ false → (on : Bool) → on ≡ false
    → turned_if on (turned_if on word a) b ≡ act (Swap care want a b) word
swap_not_held care want a b word off on is = rw is (sym (cond-false (holds care want word) _ _ off))

pub swap_by_turns : (care want a b : ℕ) (word : List Bool) → a ≢ b → (h x y : Bool) → h ≡ holds care want word → x ≡ bit_of word a → y ≡ bit_of word b
    → turned_if (h && not (beq x y)) (turned_if (h && not (beq x y)) word a) b ≡ act (Swap care want a b) word
swap_by_turns care want a b word apart true x y is at_a at_b = swap_held care want a b word apart (sym is) _ x y refl at_a at_b
swap_by_turns care want a b word apart false x y is at_a at_b = swap_not_held care want a b word (sym is) _ refl

pub peres_by_turns : (word : List Bool) (a b c : ℕ) → b ≢ c → (x both : Bool) → x ≡ bit_of word a → both ≡ (bit_of word a && bit_of word b)
    → turned_if both (turned_if x word b) c ≡ peres word a b c
peres_by_turns word a b c apart x both is_x is_both =
    let half : List Bool = set word b (xor (bit_of word a) (bit_of word b)) in
    let first : turned_if x word b ≡ half = ap (λ t. turned_if t word b) is_x ∙ flip_if (bit_of word a) word b in
    let at : bit_of half c ≡ bit_of word c = get_or-set_other word b c _ false (λ e. apart (sym e)) in
    ap (λ w. turned_if both w c) first
    ∙ ap (λ t. turned_if t half c) is_both
    ∙ flip_if (bit_of word a && bit_of word b) half c
    ∙ ap (λ v. set half c (xor (bit_of word a && bit_of word b) v)) at
    ∙ ap (set half c) (xor_comm (bit_of word a && bit_of word b) (bit_of word c))
