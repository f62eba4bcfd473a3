-- All words of some lines, in blocks.
use Rattle.std.proofs.Common.{◌≡◌, ℕ, ◌+◌, ◌-◌, ◌*◌, ◌/◌, ◌%◌, ◌^◌, ◌<◌, ◌≤◌, Bool, false, List, length, map, take, get_or, set, sym, ◌∙◌, ap, inl, inr, arith, ext_get_or, get_or-set_same, get_or-set_other, true≢false, zero, suc, ◌≢◌, ◌&&◌}
use Rattle.std.proofs.lemmas.Bool.{cases_eq, cases_lt, cases_Bool}
use Rattle.std.proofs.lemmas.List.{get_or-map, length-map}
use Rattle.std.proofs.lemmas.List.Elements.{All-more, All-weaker}
use Rattle.rv_gate.proofs.AllBelow.{all_below-at}
use Rattle.rv_gate.proofs.inside.Ones.{has-ones_of, ones_of-lt}
use Rattle.rv_gate.specs.Gate.{all_below, same}
use Rattle.rv_gate.proofs.LineSets.{same_lines_below}
use Rattle.rv_gate.specs.Word.{bit_of, has}
use Rattle.rv_gate.specs.declared.gate.Shape.{Shape}
use Rattle.rv_many.specs.Column.{column, row_bit}
use Rattle.rv_many.specs.declared.row.Row.{Row}
use Rattle.rv_many.proofs.Columns.{bit_of-column, blank, column-set, length-column}
use Rattle.rv_resynth.specs.inside.Lines.{AgreesAt, AlikeOn, number_on}
use Rattle.rv_gate.proofs.Bits.{same_true, same_from}

-- ---- words put in, line by line

pub number_bit : (lines : List ℕ) (word : List Bool) (k : ℕ) → k < length lines
    → has (number_on lines word) k ≡ bit_of word (get_or lines k 0)
number_bit lines word k lt = has-ones_of (map (bit_of word) lines) k ∙ get_or-map (bit_of word) lines k 0 false lt

pub number_small : (lines : List ℕ) (word : List Bool) → number_on lines word < 2 ^ length lines
number_small lines word =
    omega (arith, ones_of-lt (map (bit_of word) lines), ap (λ n. 2 ^ n) (length-map lines (bit_of word)))

put_kept : (rows : List Row) (target : ℕ) (row : Row) (j : ℕ) (word : List Bool) (line : ℕ) → target < length rows
    → row_bit row j ≡ bit_of word target
    → bit_of (column rows j) line ≡ bit_of word line → bit_of (column (set rows target row) j) line ≡ bit_of word line
put_kept rows target row j word line lt is h =
    ap (λ w. bit_of w line) (column-set rows target row j)
    ∙ (elim (cases_eq line target) [
      | inl e ↦ rw e (get_or-set_same (column rows j) target (row_bit row j) false (omega
          (arith, length-column rows j)) ∙ is)
      | inr ne ↦ get_or-set_other (column rows j) target line (row_bit row j) false ne ∙ h
    ])

put_new : (rows : List Row) (target : ℕ) (row : Row) (j : ℕ) (word : List Bool) → target < length rows
    → row_bit row j ≡ bit_of word target
    → bit_of (column (set rows target row) j) target ≡ bit_of word target
put_new rows target row j word lt is =
    ap (λ w. bit_of w target) (column-set rows target row j)
    ∙ get_or-set_same (column rows j) target (row_bit row j) false (omega (arith, length-column rows j)) ∙ is

-- the words of a block have their bits on the lines before one
abbrev pub ArePut : List ℕ → ℕ → List Row → ℕ → Type 0
ArePut lines block rows bit =
    (word : List Bool) (j : ℕ) → j < 256 → number_on lines word ≡ 256 * block + j → AlikeOn (take bit lines)
    (column rows j) word

pub put_more : (lines : List ℕ) (block : ℕ) (rows : List Row) (bit : ℕ) (row : Row) → bit < length lines
    → get_or lines bit 0 < length rows
    → ((j : ℕ) → j < 256 → row_bit row j ≡ has (256 * block + j) bit) → ArePut lines block rows bit
    → ArePut lines block (set rows (get_or lines bit 0) row) (bit + 1)
put_more lines block rows bit row lt within at h word j small is =
    let target : ℕ = get_or lines bit 0 in
    let here : row_bit row j ≡ bit_of word target = at j small ∙ ap (λ n. has n bit) (sym is)
    ∙ number_bit lines word bit lt in
    All-more (λ line. bit_of (column (set rows target row) j) line ≡ bit_of word line) lines bit 0 lt
    (All-weaker (λ line. bit_of (column rows j) line ≡ bit_of word line) (λ line. bit_of (column
    (set rows target row) j) line ≡ bit_of word line)
    (λ line e. put_kept rows target row j word line within here e) (take bit lines) (h word j small is))
    (put_new rows target row j word within here)

-- ---- two sides compared

none_differs : (p : ℕ → Bool) (n : ℕ) → all_below p n ≡ false → (i : ℕ) × (i < n) × (p i ≡ false)
none_differs p zero e = absurd (true≢false e)
none_differs p (suc n) e =
    elim (cases_Bool (p n)) [
      | inl on ↦ let rest = none_differs p n (sym (ap (λ b. b && all_below p n) on) ∙ e) in (
        rest.0,
        omega
            (arith, rest.1),
        rest.2,
      )
      | inr off ↦ (n, omega arith, off)
    ]

-- two numbers that differ have a bit that differs
differ_at : (n x y : ℕ) → x < 2 ^ n → y < 2 ^ n → x ≢ y → (i : ℕ) × (i < n) × (has x i ≢ has y i)
differ_at n x y hx hy ne =
    let p : ℕ → Bool = λ i. same (has x i) (has y i) in
    elim (cases_Bool (all_below p n)) [
      | inl all ↦ absurd (ne (same_lines_below n x y hx hy (λ i lt. same_true (has x i) (has y i)
          (all_below-at p n i all lt))))
      | inr some ↦ let found = none_differs p n some in (
        found.0,
        found.1,
        λ e. true≢false (sym (same_from
            (has x found.0) (has y found.0) e) ∙ found.2),
      )
    ]

-- rows with a part that differs differ at a place
pub part_differs : (a b : Row) (part : ℕ) → part < 4 → get_or a.parts part 0 < 2 ^ 64 → get_or b.parts part 0 < 2 ^ 64
    → get_or a.parts part 0 ≢ get_or b.parts part 0
    → (j : ℕ) × (j < 256) × (row_bit a j ≢ row_bit b j)
part_differs a b part lt ha hb ne =
    let d = differ_at 64 (get_or a.parts part 0) (get_or b.parts part 0) ha hb ne in
    let i : ℕ = d.0 in
    let small : i < 64 = d.1 in
    let j : ℕ = 64 * part + i in
    let at : j / 64 ≡ part = omega arith in
    let in_part : j % 64 ≡ i = omega arith in
    let is_a : row_bit a j ≡ has (get_or a.parts part 0) i = ap (λ k. has (get_or a.parts k 0) (j % 64)) at ∙ ap (has
    (get_or a.parts part 0)) in_part in
    let is_b : row_bit b j ≡ has (get_or b.parts part 0) i = ap (λ k. has (get_or b.parts k 0) (j % 64)) at ∙ ap (has
    (get_or b.parts part 0)) in_part in
    (j, omega arith, λ e. d.2 (sym is_a ∙ e ∙ is_b))

-- the parts before one are the same
abbrev pub PartsTo : Row → Row → ℕ → Type 0
PartsTo a b part = (k : ℕ) → k < part → get_or a.parts k 0 ≡ get_or b.parts k 0

pub same_bits : (a b : Row) (part : ℕ) → 4 ≤ part → PartsTo a b part → (j : ℕ) → j < 256 → row_bit a j ≡ row_bit b j
same_bits a b part all h j lt = ap (λ x. has x (j % 64)) (h (j / 64) (omega arith))

-- the rows of the lines before one have the same bits
abbrev pub SameTo : List Row → List Row → ℕ → Type 0
SameTo a b line = (i j : ℕ) → i < line → j < 256 → row_bit (get_or a i blank) j ≡ row_bit (get_or b i blank) j

pub same_columns : (a b : List Row) (line j : ℕ) → length a ≡ length b → length a ≤ line → SameTo a b line → j < 256
    → column a j ≡ column b j
same_columns a b line j lines all h small =
    ext_get_or false (column a j) (column b j) (length-column a j ∙ lines ∙ sym (length-column b j))
    (λ i lt.
    let within : i < length a = omega (arith, length-column a j) in
    bit_of-column a i j blank within ∙ h i j (omega arith) small ∙ sym (bit_of-column b i j blank (omega arith)))

-- a row that differs at a place makes the words there differ
pub columns_differ : (a b : List Row) (line j : ℕ) → line < length a → length a ≡ length b
    → row_bit (get_or a line blank) j ≢ row_bit (get_or b line blank) j → column a j ≢ column b j
columns_differ a b line j lt lines ne e =
    ne (sym (bit_of-column a line j blank lt) ∙ ap (λ w. bit_of w line) e ∙ bit_of-column b line j blank (omega arith))

-- ---- all blocks

-- both lists of gates make the same of each word with a number below this one
abbrev pub AgreeTo : List Shape → List Shape → List ℕ → ℕ → Type 0
AgreeTo old new lines number = (word : List Bool) → number_on lines word < number → AgreesAt old new lines word

pub agree_more : (old new : List Shape) (lines : List ℕ) (block : ℕ) → AgreeTo old new lines (256 * block)
    → ((word : List Bool) (j : ℕ) → j < 256 → number_on lines word ≡ 256 * block + j → AgreesAt old new lines word)
    → AgreeTo old new lines (256 * (block + 1))
agree_more old new lines block h here word lt =
    elim (cases_lt (number_on lines word) (256 * block)) [
      | inl below ↦ h word below
      | inr past ↦ here word (number_on lines word - 256 * block) (omega arith) (omega arith)
    ]
