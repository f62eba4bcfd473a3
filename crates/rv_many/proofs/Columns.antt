-- Words side by side, changed by whole rows.
use Rattle.std.proofs.Common.{◌≡◌, ◌≢◌, ℕ, ◌*◌, ◌%◌, ◌^◌, ◌<◌, Bool, true, false, cond, ◌&&◌, ◌||◌, eqb, List, [], length, get_or, set, refl, sym, ◌∙◌, ap, inl, inr, arith, length-set, ne_eqb, w64, Decides}
use Rattle.std.specs.Prelude.{bit_and}
use Rattle.std.proofs.lemmas.Bool.{cases_eq, cases_lt, false≢true, or_left, and_parts, and_from}
use Rattle.std.proofs.lemmas.Bool.Decides.{same_from_decides}
use Rattle.std.proofs.lemmas.List.{length-map, map-set, get_or-map, set-get_or}
use Rattle.std.proofs.lemmas.Nat.{and_le_l}
use Rattle.std.proofs.lemmas.Nat.Bits.{bit_at-zero, bit_at_above, bit_at_clear_same, bit_at_clear_other}
use Rattle.std.specs.Int.{bit_not}
use Rattle.rv_gate.specs.Word.{has, bit_of}
use Rattle.rv_gate.specs.Gate.{same, xor, holds, Within, FitsIn, flip, exchanged, peres, act}
use Rattle.rv_gate.specs.declared.gate.Shape.TheVariants.{Flip, Swap}
use Rattle.rv_gate.proofs.inside.GateLemmas.{Hold, holds_Decides, flip_if}
use Rattle.rv_gate.proofs.LineSets.{has_one}
use Rattle.rv_many.specs.Column.{column, row_bit}
use Rattle.rv_many.specs.declared.row.Row.{Row}
use Rattle.rv_gate.proofs.Bits.{xor_comm, same_true, same_from}

-- ---- columns

pub length-column : (rows : List Row) (j : ℕ) → length (column rows j) ≡ length rows
length-column rows j = length-map rows (λ row. row_bit row j)

pub column-set : (rows : List Row) (line : ℕ) (row : Row) (j : ℕ) → column (set rows line row) j ≡ set (column rows j) line (row_bit row j)
column-set rows line row j = map-set (λ r. row_bit r j) rows line row

pub bit_of-column : (rows : List Row) (line j : ℕ) (none : Row) → line < length rows → bit_of (column rows j) line ≡ row_bit (get_or rows line none) j
bit_of-column rows line j none lt = get_or-map (λ r. row_bit r j) rows line none false lt

-- what stands where no row is
abbrev pub blank : Row
blank = record { parts = [] }

-- a line is there after a write too
pub still : (rows : List Row) (line : ℕ) (row : Row) (other : ℕ) → other < length rows → other < length (set rows line row)
still rows line row other lt = omega (arith, length-set rows line row)

-- ---- the controls of a gate

-- the controls that are not left hold
abbrev pub HeldBut : ℕ → ℕ → ℕ → List Bool → Type 0
HeldBut left care want word = (line : ℕ) → has care line ≡ true → has left line ≡ false → bit_of word line ≡ has want line

pub record Held (rows : List Row) (care want left : ℕ) (on : Row) : Type 0 where
  pub among : (line : ℕ) → has left line ≡ true → has care line ≡ true
  pub words : (j : ℕ) → j < 256 → Decides (row_bit on j) (HeldBut left care want (column rows j))

pub held_none : (rows : List Row) (care want : ℕ) (on : Row) → ((j : ℕ) → j < 256 → row_bit on j ≡ true) → Held rows care want care on
held_none rows care want on ones = record {
  among = λ line h. h;
  words = λ j lt. (λ _ line there gone. absurd (false≢true (sym gone ∙ there)), λ _. ones j lt);
}

cleared : (left line i : ℕ) → line < 64 → i < 64 → i ≢ line → has (bit_and left (bit_not w64 (1 * 2 ^ line % 2 ^ 64))) i ≡ has left i
cleared left line i within lt other = ap (λ b. eqb b 1) (bit_at_clear_other w64 left line within i lt other)

gone : (left line : ℕ) → line < 64 → has (bit_and left (bit_not w64 (1 * 2 ^ line % 2 ^ 64))) line ≡ false
gone left line within =
    let e = bit_at_clear_same w64 left line within in
    ne_eqb _ 1 (λ o. omega arith)

below_64 : (s line : ℕ) → s < 2 ^ 64 → has s line ≡ true → line < 64
below_64 s line small on =
    let one = has_one s line on in
    elim (cases_lt line 64) [ inl lt ↦ lt | inr ge ↦ let z = bit_at_above s 64 line small ge in absurd (omega arith) ]

pub held_more : (rows : List Row) (care want left line : ℕ) (on next : Row) → care < 2 ^ 64 → left < 2 ^ 64 → Held rows care want left on
    → has left line ≡ true → line < 64 → ((j : ℕ) → j < 256 → row_bit next j ≡ (row_bit on j && same (bit_of (column rows j) line) (has want line)))
    → Held rows care want (bit_and left (bit_not w64 (1 * 2 ^ line % 2 ^ 64))) next
held_more rows care want left line on next small left_small h there within at =
    let rest : ℕ = bit_and left (bit_not w64 (1 * 2 ^ line % 2 ^ 64)) in
    record {
      among = λ i on_i.
          elim (cases_eq i line) [
            | inl it ↦ absurd (false≢true (sym (gone left line within) ∙ ap (has rest) (sym it) ∙ on_i))
            | inr other ↦
                (elim (cases_lt i 64) [
                  | inl lt ↦ h.among i (sym (cleared left line i within lt other) ∙ on_i)
                  | inr ge ↦
                      let le = and_le_l left (bit_not w64 (1 * 2 ^ line % 2 ^ 64)) in
                      let z = bit_at_above rest 64 i (omega arith) ge in
                      absurd (omega (arith, has_one rest i on_i))
                ])
          ];
      words = λ j lt.
          let d = h.words j lt in (
            λ t i cared off.
                let parts = and_parts (row_bit on j) (same (bit_of (column rows j) line) (has want line)) (sym (at j lt) ∙ t) in
                elim (cases_eq i line) [
                  | inl it ↦ rw it (same_true _ _ parts.1)
                  | inr other ↦ d.0 parts.0 i cared (sym (cleared left line i within (below_64 care i small cared) other) ∙ off)
                ],
            λ p.
                at j lt
                ∙ and_from _ _
                (d.1 (λ i cared off.
                p i cared
                (elim (cases_eq i line) [
                  | inl it ↦ ap (has rest) it ∙ gone left line within
                  | inr other ↦ cleared left line i within (below_64 care i small cared) other ∙ off
                ])))
                (same_from _ _ (p line (h.among line there) (gone left line within))),
          );
    }

pub held_all : (rows : List Row) (care want : ℕ) (on : Row) → Within care (length rows) → Held rows care want 0 on → (j : ℕ) → j < 256 → row_bit on j ≡ holds care want (column rows j)
held_all rows care want on few h j lt =
    same_from_decides {P = Hold care want (column rows j)} _ _ (
      λ t line within cared. (h.words j lt).0 t line cared (ap (λ b. eqb b 1) (bit_at-zero line)),
      λ p. (h.words j lt).1 (λ line cared _. p line (omega (arith, length-column rows j, few line cared)) cared),
    )
    (holds_Decides care want (column rows j))

-- ---- what each kind of gate does

pub flip_rows : (rows : List Row) (care want target : ℕ) (on next : Row) (j : ℕ) → row_bit on j ≡ holds care want (column rows j) → row_bit next j ≡ xor (bit_of (column rows j) target) (row_bit on j)
    → column (set rows target next) j ≡ act (Flip care want target) (column rows j)
flip_rows rows care want target on next j held is =
    let word : List Bool = column rows j in
    column-set rows target next j
    ∙ ap (set word target) (is ∙ xor_comm (bit_of word target) (row_bit on j))
    ∙ sym (flip_if (row_bit on j) word target)
    ∙ ap (λ t. cond t (flip word target) word) held

-- an exchange by the bits in which two lines differ
xor-back : (x y : Bool) → xor x (xor x y && true) ≡ y
xor-back true true = refl
xor-back true false = refl
xor-back false true = refl
xor-back false false = refl

xor-over : (x y : Bool) → xor y (xor x y && true) ≡ x
xor-over true true = refl
xor-over true false = refl
xor-over false true = refl
xor-over false false = refl

xor-none : (x y : Bool) → xor x (y && false) ≡ x
xor-none true true = refl
xor-none true false = refl
xor-none false true = refl
xor-none false false = refl

exchanged_if : (t : Bool) (word : List Bool) (a b : ℕ)
    → set (set word a (xor (bit_of word a) (xor (bit_of word a) (bit_of word b) && t))) b (xor (bit_of word b) (xor (bit_of word a) (bit_of word b) && t))
    ≡ cond t (exchanged word a b) word
exchanged_if true word a b =
    ap (λ v. set (set word a v) b (xor (bit_of word b) (xor (bit_of word a) (bit_of word b) && true))) (xor-back (bit_of word a) (bit_of word b))
    ∙ ap (set (set word a (bit_of word b)) b) (xor-over (bit_of word a) (bit_of word b))
exchanged_if false word a b =
    ap (λ v. set (set word a v) b (xor (bit_of word b) (xor (bit_of word a) (bit_of word b) && false))) (xor-none (bit_of word a) (xor (bit_of word a) (bit_of word b)))
    ∙ ap (set (set word a (bit_of word a)) b) (xor-none (bit_of word b) (xor (bit_of word a) (bit_of word b)))
    ∙ ap (λ w. set w b (bit_of word b)) (set-get_or word a false)
    ∙ set-get_or word b false

-- two rows set one after the other
column-set_two : (rows : List Row) (a b : ℕ) (first second : Row) (j : ℕ) → column (set (set rows a first) b second) j ≡ set (set (column rows j) a (row_bit first j)) b (row_bit second j)
column-set_two rows a b first second j = column-set (set rows a first) b second j ∙ ap (λ w. set w b (row_bit second j)) (column-set rows a first j)

pub swap_rows : (rows : List Row) (care want a b : ℕ) (x y apart differ on first second : Row) (j : ℕ) → bit_of (column rows j) a ≡ row_bit x j → bit_of (column rows j) b ≡ row_bit y j
    → row_bit on j ≡ holds care want (column rows j) → row_bit apart j ≡ xor (row_bit x j) (row_bit y j) → row_bit differ j ≡ (row_bit apart j && row_bit on j)
    → row_bit first j ≡ xor (row_bit x j) (row_bit differ j) → row_bit second j ≡ xor (row_bit y j) (row_bit differ j)
    → column (set (set rows a first) b second) j ≡ act (Swap care want a b) (column rows j)
swap_rows rows care want a b x y apart differ on first second j at_a at_b held is_apart is_differ is_first is_second =
    column-set_two rows a b first second j
    ∙ rw (is_first, is_second, is_differ, is_apart, held, ← at_a, ← at_b) refl
    ∙ exchanged_if (holds care want (column rows j)) (column rows j) a b

pub peres_rows : (rows : List Row) (a b c : ℕ) (x y z and_parts second third : Row) (j : ℕ) → bit_of (column rows j) a ≡ row_bit x j → bit_of (column rows j) b ≡ row_bit y j → bit_of (column rows j) c ≡ row_bit z j
    → row_bit second j ≡ xor (row_bit y j) (row_bit x j) → row_bit and_parts j ≡ (row_bit x j && row_bit y j) → row_bit third j ≡ xor (row_bit z j) (row_bit and_parts j)
    → column (set (set rows b second) c third) j ≡ peres (column rows j) a b c
peres_rows rows a b c x y z and_parts second third j at_a at_b at_c is_second is_both is_third =
    column-set_two rows b c second third j
    ∙ rw (is_second, is_third, is_both, at_a, at_b, at_c, xor_comm (row_bit y j) (row_bit x j)) refl

-- ---- the lowest line of a set

pub one_fewer : (left line : ℕ) → line < 64 → has left line ≡ true → bit_and left (bit_not w64 (1 * 2 ^ line % 2 ^ 64)) < left
one_fewer left line within there =
    let rest : ℕ = bit_and left (bit_not w64 (1 * 2 ^ line % 2 ^ 64)) in
    let le = and_le_l left (bit_not w64 (1 * 2 ^ line % 2 ^ 64)) in
    elim (cases_eq rest left) [
      | inl same_set ↦ absurd (false≢true (sym (gone left line within) ∙ ap (λ s. has s line) same_set ∙ there))
      | inr fewer ↦ omega arith
    ]

-- ---- the lines of a gate that fits

pub care_of_flip : (care want target n : ℕ) → FitsIn (Flip care want target) n → Within care n
care_of_flip care want target n fits line on = fits line (or_left (has care line) _ on)

pub care_of_swap : (care want a b n : ℕ) → FitsIn (Swap care want a b) n → Within care n
care_of_swap care want a b n fits line on = fits line (or_left (has care line || eqb line a) _ (or_left (has care line) _ on))
