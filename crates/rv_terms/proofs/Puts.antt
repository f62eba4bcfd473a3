-- Bits that are put for others.
use Rattle.std.proofs.Common.{◌≡◌, ◌≢◌, ℕ, ◌<◌, ◌^◌, Bool, true, false, not, ◌&&◌, cond, eqb, List, [], ◌∷◌, ◌++◌, ◌+◌, take, length, set, get_or, refl, sym, subst, ◌∙◌, ap, inl, inr, arith, eq-eqb, ne_eqb, get_or-set_same, get_or-set_other}
use Rattle.std.specs.Prelude.{bit_and, bit_xor, ◌⊎◌}
use Rattle.std.proofs.lemmas.Bool.{cases_eq}
use Rattle.rv_gate.specs.Word.{has, bit_of}
use Rattle.rv_gate.specs.Gate.{xor}
use Rattle.rv_gate.proofs.Bits.{same_bool}
use Rattle.rv_gate.proofs.LineSets.{same_lines, has-none, has-line, has-and, has-xor, has_self}
use Rattle.rv_terms.specs.Products.{all_on, value, parity, always, meets, less, line_alone, path_alone}
use Rattle.rv_terms.specs.inside.Put.{IsPut}
use Rattle.rv_terms.specs.declared.product.Product.{Product}
use Rattle.rv_terms.proofs.Parities.{parity-next, parity-push}
use Rattle.rv_terms.proofs.Products.{all_on-each, all_on-from, and_both, and_first, and_second, value-always}

pub cases_bool : (b : Bool) → (b ≡ true) ⊎ (b ≡ false)
cases_bool true = inl refl
cases_bool false = inr refl

-- ---- sets without a line

and_zero : (n : ℕ) → bit_and n 0 ≡ 0
and_zero n = same_lines _ 0 (λ line. has-and n 0 line ∙ (let e = has-none line in grind (arith, e)))

same_without : (n : ℕ) → bit_xor n (bit_and n 0) ≡ n
same_without n =
    same_lines _ n (λ line.
    has-xor n (bit_and n 0) line ∙ ap (λ s. xor (has n line) (has s line)) (and_zero n)
    ∙ (let e = has-none line in grind (arith, e)))

apart : (n line : ℕ) → has n line ≡ false → bit_and n (2 ^ line) ≡ 0
apart n line off =
    same_lines _ 0 (λ other.
    has-and n (2 ^ line) other
    ∙ (elim (cases_eq other line) [
      | inl same ↦ (let o : has n other ≡ false = ap (has n) same ∙ off in let z = has-none other in grind (arith, o, z))
      | inr ne ↦ (let o = has-line line other ∙ ne_eqb other line ne in let z = has-none other in grind (arith, o, z))
    ]))

and_eqb : (n line : ℕ) → eqb (bit_and n (2 ^ line)) 0 ≡ not (has n line)
and_eqb n line =
    elim (cases_bool (has n line)) [
      | inl on ↦
          (let one : has (bit_and n (2 ^ line)) line ≡ true = has-and n (2 ^ line) line ∙ and_both _ _ on (has_self line) in
          ne_eqb _ 0 (λ z. let none : has (bit_and n (2 ^ line)) line ≡ false = ap (λ s. has s line) z ∙ has-none line in absurd cc)
          ∙ ap not (sym on))
      | inr off ↦ eq-eqb _ 0 (apart n line off) ∙ ap not (sym off)
    ]

-- the set without a line
abbrev pub without : ℕ → ℕ → ℕ
without n line = bit_xor n (bit_and n (2 ^ line))

without_other : (n line other : ℕ) → has (without n line) other ≡ true → (has n other ≡ true) × (other ≢ line)
without_other n line other on =
    let h : xor (has n other) (has n other && eqb other line) ≡ true =
    sym (has-xor n (bit_and n (2 ^ line)) other ∙ ap (xor (has n other)) (has-and n (2 ^ line) other ∙ ap (λ t. has n other && t) (has-line line other))) ∙ on in
    (grind (arith, h), λ same. let e = eq-eqb other line same in absurd (grind (arith, h, e)))

without_from : (n line other : ℕ) → has n other ≡ true → other ≢ line → has (without n line) other ≡ true
without_from n line other on ne =
    let e = ne_eqb other line ne in
    has-xor n (bit_and n (2 ^ line)) other ∙ ap (xor (has n other)) (has-and n (2 ^ line) other ∙ ap (λ t. has n other && t) (has-line line other))
    ∙ (grind (arith, on, e))

-- ---- a word with one bit set

pub all_on-set_other : (n line : ℕ) (word : List Bool) (bit : Bool) → has n line ≡ false
    → all_on n (set word line bit) ≡ all_on n word
all_on-set_other n line word bit off =
    let ne : (other : ℕ) → has n other ≡ true → other ≢ line = λ other on same. let e : has n other ≡ false = ap (has n) same ∙ off in absurd cc in
    same_bool _ _ (λ on. all_on-from n word (λ other h.
    sym (get_or-set_other word line other bit false (ne other h)) ∙ all_on-each n (set word line bit) on other h))
    (λ on. all_on-from n (set word line bit) (λ other h.
    get_or-set_other word line other bit false (ne other h) ∙ all_on-each n word on other h))

pub all_on-set_same : (n line : ℕ) (word : List Bool) (bit : Bool) → line < length word → has n line ≡ true
    → all_on n (set word line bit) ≡ (all_on (without n line) word && bit)
all_on-set_same n line word bit lt on_line =
    same_bool _ _ (λ on.
    and_both _ _ (all_on-from (without n line) word (λ other h.
    let w = without_other n line other h in
    sym (get_or-set_other word line other bit false w.1) ∙ all_on-each n (set word line bit) on other w.0))
    (sym (get_or-set_same word line bit false lt) ∙ all_on-each n (set word line bit) on line on_line))
    (λ both. all_on-from n (set word line bit) (λ other h.
    elim (cases_eq other line) [
      | inl same ↦ ap (bit_of (set word line bit)) same ∙ get_or-set_same word line bit false lt ∙ and_second _ _ both
      | inr ne ↦
          get_or-set_other word line other bit false ne
          ∙ all_on-each (without n line) word (and_first _ _ both) other (without_from n line other h ne)
    ]))

-- ---- a sum that stands for a line, and for a path bit

meets_line : (p : Product) (line : ℕ) → meets p (line_alone line) ≡ has p.lines line
meets_line p line =
    let a = and_eqb p.lines line in
    let b = eq-eqb _ 0 (and_zero p.paths) in
    grind (arith, a, b)

meets_path : (p : Product) (path : ℕ) → meets p (path_alone path) ≡ has p.paths path
meets_path p path =
    let a = and_eqb p.paths path in
    let b = eq-eqb _ 0 (and_zero p.lines) in
    grind (arith, a, b)

move_line : (a b t : Bool) → ((a && t) && b) ≡ ((a && b) && t)
move_line a b t = grind arith

move_path : (a b t : Bool) → (a && (b && t)) ≡ ((a && b) && t)
move_path a b t = grind arith

pub put_line : (line : ℕ) (with : List Product) (x v : List Bool) → line < length x
    → IsPut (line_alone line) with x v (set x line (parity with x v)) v
put_line line with x v lt = record {
  each = λ p.
      (elim (cases_bool (has p.lines line)) [
        | inl on ↦
            ap (λ s. s && all_on p.paths v) (all_on-set_same p.lines line x (parity with x v) lt on)
            ∙ move_line (all_on (without p.lines line) x) (all_on p.paths v) (parity with x v)
            ∙ ap (λ s. (all_on (without p.lines line) x && all_on s v) && parity with x v) (sym (same_without p.paths))
            ∙ ap (λ b. cond b (value (less p (line_alone line)) x v && parity with x v) (value p x v)) (sym (meets_line p line ∙ on))
        | inr off ↦
            ap (λ s. s && all_on p.paths v) (all_on-set_other p.lines line x (parity with x v) off)
            ∙ ap (λ b. cond b (value (less p (line_alone line)) x v && parity with x v) (value p x v)) (sym (meets_line p line ∙ off))
      ]);
}

pub put_path : (path : ℕ) (with : List Product) (x v : List Bool) → path < length v
    → IsPut (path_alone path) with x v x (set v path (parity with x v))
put_path path with x v lt = record {
  each = λ p.
      (elim (cases_bool (has p.paths path)) [
        | inl on ↦
            ap (λ s. all_on p.lines x && s) (all_on-set_same p.paths path v (parity with x v) lt on)
            ∙ move_path (all_on p.lines x) (all_on (without p.paths path) v) (parity with x v)
            ∙ ap (λ s. (all_on s x && all_on (without p.paths path) v) && parity with x v) (sym (same_without p.lines))
            ∙ ap (λ b. cond b (value (less p (path_alone path)) x v && parity with x v) (value p x v)) (sym (meets_path p path ∙ on))
        | inr off ↦
            ap (λ s. all_on p.lines x && s) (all_on-set_other p.paths path v (parity with x v) off)
            ∙ ap (λ b. cond b (value (less p (path_alone path)) x v && parity with x v) (value p x v)) (sym (meets_path p path ∙ off))
      ]);
}

-- a path bit that a product doesn't ask for
pub value_free : (p : Product) (path : ℕ) (x v : List Bool) (bit : Bool) → has p.paths path ≡ false
    → value p x (set v path bit) ≡ value p x v
value_free p path x v bit off = ap (λ s. all_on p.lines x && s) (all_on-set_other p.paths path v bit off)

-- ---- products in which a bit is put for another one

pub put_off : (p bit : Product) (with : List Product) (x v y w : List Bool) → meets p bit ≡ false → IsPut bit with x v y w
    → value p y w ≡ value p x v
put_off p bit with x v y w off put =
    put.each p ∙ ap (λ b. cond b (value (less p bit) x v && parity with x v) (value p x v)) off

pub put_on : (p bit : Product) (with : List Product) (x v y w : List Bool) → meets p bit ≡ true → IsPut bit with x v y w
    → value p y w ≡ (value (less p bit) x v && parity with x v)
put_on p bit with x v y w on put =
    put.each p ∙ ap (λ b. cond b (value (less p bit) x v && parity with x v) (value p x v)) on

with_more : (t w g r l : Bool) → t ≡ xor (w && g) r → xor t (l && g) ≡ xor (xor w l && g) r
with_more t w g r l e = grind arith

rest_more : (t w g r p : Bool) → t ≡ xor (w && g) r → xor t p ≡ xor (w && g) (xor r p)
rest_more t w g r p e = grind arith

pub parted_on : (products with rest given : List Product) (bit next : Product) (d : Product) (i : ℕ) (x v y w : List Bool)
    → i < length products → meets (get_or products i d) bit ≡ true → next ≡ less (get_or products i d) bit
    → IsPut bit given x v y w
    → parity (take i products) y w ≡ xor (parity with x v && parity given x v) (parity rest x v)
    → parity (take (i + 1) products) y w ≡ xor (parity (with ++ next ∷ []) x v && parity given x v) (parity rest x v)
parted_on products with rest given bit next d i x v y w lt on is put so_far =
    parity-next products i d y w lt
    ∙ ap (xor (parity (take i products) y w)) (put_on (get_or products i d) bit given x v y w on put
    ∙ ap (λ t. value t x v && parity given x v) (sym is))
    ∙ with_more _ (parity with x v) (parity given x v) (parity rest x v) (value next x v) so_far
    ∙ ap (λ t. xor (t && parity given x v) (parity rest x v)) (sym (parity-push with next x v))

pub parted_off : (products with rest given : List Product) (bit : Product) (d : Product) (i : ℕ) (x v y w : List Bool)
    → i < length products → meets (get_or products i d) bit ≡ false
    → IsPut bit given x v y w
    → parity (take i products) y w ≡ xor (parity with x v && parity given x v) (parity rest x v)
    → parity (take (i + 1) products) y w ≡ xor (parity with x v && parity given x v) (parity (rest ++ get_or products i d ∷ []) x v)
parted_off products with rest given bit d i x v y w lt off put so_far =
    parity-next products i d y w lt
    ∙ ap (xor (parity (take i products) y w)) (put_off (get_or products i d) bit given x v y w off put)
    ∙ rest_more _ (parity with x v) (parity given x v) (parity rest x v) (value (get_or products i d) x v) so_far
    ∙ ap (xor (parity with x v && parity given x v)) (sym (parity-push rest (get_or products i d) x v))

-- a path bit that the products so far don't ask for
pub free_more : (products : List Product) (d : Product) (i path : ℕ) (x v : List Bool) (bit : Bool) → i < length products
    → has (get_or products i d).paths path ≡ false
    → parity (take i products) x (set v path bit) ≡ parity (take i products) x v
    → parity (take (i + 1) products) x (set v path bit) ≡ parity (take (i + 1) products) x v
free_more products d i path x v bit lt off so_far =
    parity-next products i d x (set v path bit) lt
    ∙ ap (λ t. xor t (value (get_or products i d) x (set v path bit))) so_far
    ∙ ap (xor (parity (take i products) x v)) (value_free (get_or products i d) path x v bit off)
    ∙ sym (parity-next products i d x v lt)

-- ---- a path bit that is 0, and one that is 1

pub single : (x v : List Bool) → parity (always ∷ []) x v ≡ true
single x v = ap (λ t. xor t false) (value-always x v)

pub put_path_off : (path : ℕ) (bit : Product) (x v : List Bool) → path < length v → bit ≡ path_alone path
    → IsPut bit [] x v x (set v path false)
put_path_off path bit x v lt is = rw is (put_path path [] x v lt)

pub put_path_on : (path : ℕ) (bit : Product) (x v : List Bool) → path < length v → bit ≡ path_alone path
    → IsPut bit (always ∷ []) x v x (set v path true)
put_path_on path bit x v lt is =
    rw is (subst (λ b. IsPut (path_alone path) (always ∷ []) x v x (set v path b)) (single x v) (put_path path (always ∷ []) x v lt))
