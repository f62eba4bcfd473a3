-- The words that fit a row, one after another.
use Rattle.std.proofs.Common.{◌≡◌, ℕ, zero, suc, ◌+◌, ◌-◌, ◌*◌, ◌/◌, ◌%◌, ◌^◌, ◌<◌, ◌≤◌, Bool, true, false, cond, ◌&&◌, ◌||◌, eqb, List, get_or, add-one, refl, sym, ◌∙◌, ap, ap₂, subst, inl, inr, arith, eq-eqb}
use Rattle.std.specs.Prelude.{◌↔◌, bit_and, bit_or}
use Rattle.std.specs.Int.Bits.{and_zero_r, or_zero_l}
use Rattle.std.proofs.lemmas.Bool.{and_from, and_parts, cases_eq, cases_order, eqb-true, false≢true}
use Rattle.std.proofs.lemmas.Nat.{and_block, and_le_l, and_le_r, or_block}
use Rattle.std.proofs.lemmas.Nat.Bits.{bit_at-suc, bit_at_lowest}
use Rattle.std.proofs.Math.Nat.{pow-suc}
use Rattle.rv_pla.specs.declared.entry.Entry.{Entry}
use Rattle.rv_pla.specs.declared.entry.Entry.TheVariants.{One, Zero, Free}
use Rattle.rv_gate.specs.Word.{has, number_of, word_of}
use Rattle.rv_gate.specs.inside.laws.WordLaws.{bit_of-word_of}
use Rattle.rv_pla.specs.Zeros.{bit_for}
use Rattle.rv_pla.specs.FreeEntries.{is_dont_care, allows}
use Rattle.rv_embed.specs.Filled.{suits, has_free, own_word, row}
use Rattle.rv_gate.proofs.AllBelow.{all_below-same}
use Rattle.rv_gate.proofs.Bits.{same_bool}
use Rattle.rv_embed.proofs.inside.ZerosLemmas.{front_of, front_more}
use Rattle.rv_pla.specs.Pla.{TwoLevel}
use Rattle.rv_embed.specs.inside.Rows.{bits_by, is_set, IsRow, IsCursor, fits}
use Rattle.rv_embed.specs.declared.row.Row.{Row}
use Rattle.rv_embed.specs.declared.least_used.Cursor.{Cursor}

-- ---- low bits

or_one : (b : ℕ) → b < 2 → bit_or b 1 ≡ 1
or_one b h = grind arith

and_one : (b : ℕ) → b < 2 → bit_and b 1 ≡ b
and_one b h = grind arith

or2 : (a b r s : ℕ) → r < 2 → s < 2 → bit_or (a * 2 + r) (b * 2 + s) ≡ bit_or a b * 2 + bit_or r s
or2 a b r s hr hs = or_block 1 a b r s hr hs

and2 : (a b r s : ℕ) → r < 2 → s < 2 → bit_and (a * 2 + r) (b * 2 + s) ≡ bit_and a b * 2 + bit_and r s
and2 a b r s hr hs = and_block 1 a b r s hr hs

-- both halves of a number are tested
and_halves : (c y k : ℕ) → k < 2 → bit_and y (c * 2 + k) ≡ bit_and (y / 2) c * 2 + bit_and (y % 2) k
and_halves c y k hk = let whole : y / 2 * 2 + y % 2 ≡ y = omega arith in ap (λ v. bit_and v (c * 2 + k)) (sym whole) ∙ and2 (y / 2) c (y % 2) k (omega arith) hk

halves : (c w y k b : ℕ) → k < 2 → b < 2 → bit_and y (c * 2 + k) ≡ w * 2 + b → (bit_and (y / 2) c ≡ w) × (bit_and (y % 2) k ≡ b)
halves c w y k b hk hb h = let e = and_halves c y k hk in let low = and_le_r (y % 2) k in (omega arith, omega arith)

joined_halves : (c w y k b : ℕ) → k < 2 → bit_and (y / 2) c ≡ w → bit_and (y % 2) k ≡ b → bit_and y (c * 2 + k) ≡ w * 2 + b
joined_halves c w y k b hk hw hb = let e = and_halves c y k hk in omega arith

-- ---- the word that the program comes to

-- with i = 1 the next word that fits, and with i = 0 the word itself
abbrev walk : ℕ → ℕ → ℕ → ℕ → ℕ → ℕ
walk i care want free z = bit_or (bit_and (bit_or z care + i) free) want

walk_half : (i c w f z q k b s zb r v : ℕ) → k < 2 → b < 2 → s < 2 → zb < 2 → r < 2 → bit_or zb k + i ≡ q * 2 + r → bit_or (bit_and r s) b ≡ v
    → walk i (c * 2 + k) (w * 2 + b) (f * 2 + s) (z * 2 + zb) ≡ walk q c w f z * 2 + v
walk_half i c w f z q k b s zb r v hk hb hs hz hr carry low =
    let e : bit_or (z * 2 + zb) (c * 2 + k) + i ≡ (bit_or z c + q) * 2 + r = omega (arith, or2 z c zb k hz hk) in
    ap (λ m. bit_or (bit_and m (f * 2 + s)) (w * 2 + b)) e
    ∙ ap (λ m. bit_or m (w * 2 + b)) (and2 (bit_or z c + q) f r s hr hs)
    ∙ or2 (bit_and (bit_or z c + q) f) w (bit_and r s) b (let l = and_le_l r s in omega arith) hb
    ∙ ap (λ m. walk q c w f z * 2 + m) low

-- ---- no word that fits is passed over

-- the word t fits, and where a word after z does, so is t, and it is the first one
record Next (care want n z t : ℕ) : Type 0 where
  pub within : t < 2 ^ n
  pub fit : bit_and t care ≡ want
  pub first : (y : ℕ) → y < 2 ^ n → bit_and y care ≡ want → z < y → (z < t) × (t ≤ y)

-- one more bit: of those that fit z has the greatest, and t the least
next_bit : (c w n z t k b zb tb : ℕ) → k < 2 → b < 2 → zb < 2 → tb < 2 → bit_and tb k ≡ b → ((yb : ℕ) → yb < 2 → bit_and yb k ≡ b → (tb ≤ yb) × (yb ≤ zb))
    → Next c w n z t → Next (c * 2 + k) (w * 2 + b) (suc n) (z * 2 + zb) (t * 2 + tb)
next_bit c w n z t k b zb tb hk hb hz ht fit ends s =
    let p = pow-suc 2 n in
    let half : (t * 2 + tb) / 2 ≡ t = omega arith in
    let low : (t * 2 + tb) % 2 ≡ tb = omega arith in
    record {
      within = omega (arith, s.within);
      fit = joined_halves c w (t * 2 + tb) k b hk (ap (λ v. bit_and v c) half ∙ s.fit) (ap (λ v. bit_and v k) low ∙ fit);
      first = λ y u f l.
          let h = halves c w y k b hk hb f in
          let e = ends (y % 2) (omega arith) h.1 in
          let n = s.first (y / 2) (omega arith) h.0 (omega (arith, e.1)) in
          (omega (arith, n.0), omega (arith, n.1, e.0));
    }

-- a free entry with a 0
next_even : (c w n z : ℕ) → z < 2 ^ n → bit_and z c ≡ w → Next (c * 2 + 0) (w * 2 + 0) (suc n) (z * 2 + 0) (z * 2 + 1)
next_even c w n z h f = grind (arith, pow-suc, joined_halves)

-- ---- the masks of a row

-- which of n entries aren't free, the bits that they want, and which are free
data Masks : ℕ → ℕ → ℕ → ℕ → Type 0 where
  no_entry : Masks 0 0 0 0
  set_entry : (n c w f b : ℕ) → b < 2 → Masks n c w f → Masks (suc n) (c * 2 + 1) (w * 2 + b) (f * 2 + 0)
  free_entry : (n c w f : ℕ) → Masks n c w f → Masks (suc n) (c * 2 + 0) (w * 2 + 0) (f * 2 + 1)

-- a word that fits, and the one that comes after it
abbrev Walks : ℕ → ℕ → ℕ → ℕ → ℕ → Type 0
Walks n c w f z = (walk 0 c w f z ≡ z) × Next c w n z (walk 1 c w f z)

walks : {n c w f : ℕ} → Masks n c w f → (z : ℕ) → z < 2 ^ n → bit_and z c ≡ w → Walks n c w f z
walks no_entry z h e =
    let o : z ≡ 0 = omega (arith, h) in
    rw o (refl, record { within = omega arith; fit = refl; first = λ y u g l. absurd (omega arith) })
walks (set_entry n c w f b small m) z h e =
    let s = halves c w z 1 b (omega arith) small e in
    let last : z % 2 ≡ b = sym (and_one (z % 2) (omega arith)) ∙ s.1 in
    let whole : z / 2 * 2 + b ≡ z = omega (arith, last) in
    let r = walks m (z / 2) (omega (arith, h, pow-suc 2 n)) s.0 in
    let one = or_one b small in
    let P : ℕ → Type 0 = Walks (suc n) (c * 2 + 1) (w * 2 + b) (f * 2 + 0) in
    subst P whole (
      walk_half 0 c w f (z / 2) 0 1 b 0 b 1 b (omega arith) small (omega arith) small (omega arith) (omega arith) (or_zero_l b) ∙ ap (λ k. k * 2 + b) r.0,
      rw (walk_half 1 c w f (z / 2) 1 1 b 0 b 0 b (omega arith) small (omega arith) small (omega arith) (omega arith) (or_zero_l b))
          (next_bit c w n (z / 2) _ 1 b b b (omega arith) small small small (and_one b small) (λ y u g. (let e = and_one y u in (omega arith, omega arith))) r.1),
    )
walks (free_entry n c w f m) z h e =
    let s = halves c w z 0 0 (omega arith) (omega arith) e in
    let half : z / 2 < 2 ^ n = omega (arith, h, pow-suc 2 n) in
    let r = walks m (z / 2) half s.0 in
    let P : ℕ → Type 0 = Walks (suc n) (c * 2 + 0) (w * 2 + 0) (f * 2 + 1) in
    let carry = λ (i q v zb : ℕ). walk_half i c w f (z / 2) q 0 0 1 zb v v (omega arith) (omega arith) (omega arith) in
    elim (cases_eq (z % 2) 0) [
      | inl even ↦
          let whole : z / 2 * 2 + 0 ≡ z = omega (arith, even) in
          subst P whole (
            carry 0 0 0 0 (omega arith) (omega arith) refl refl ∙ ap (λ k. k * 2 + 0) r.0,
            rw (carry 1 0 1 0 (omega arith) (omega arith) refl refl, r.0) (next_even c w n (z / 2) half s.0),
          )
      | inr odd ↦
          let whole : z / 2 * 2 + 1 ≡ z = omega (arith, odd) in
          subst P whole (
            carry 0 0 1 1 (omega arith) (omega arith) refl refl ∙ ap (λ k. k * 2 + 1) r.0,
            rw (carry 1 1 0 1 (omega arith) (omega arith) refl refl)
                (next_bit c w n (z / 2) _ 0 0 1 0 (omega arith) (omega arith) (omega arith) (omega arith) refl (λ y u g. (omega arith, omega arith)) r.1),
          )
    ]

-- the first word fits
want_fits : {n c w f : ℕ} → Masks n c w f → bit_and w c ≡ w
want_fits no_entry = refl
want_fits (set_entry n c w f b small m) = and2 w c b 1 small (omega arith) ∙ ap (λ k. k * 2 + bit_and b 1) (want_fits m) ∙ ap (λ k. w * 2 + k) (and_one b small)
want_fits (free_entry n c w f m) = and2 w c 0 0 (omega arith) (omega arith) ∙ ap (λ k. k * 2 + 0) (want_fits m)

-- ---- the rows of entries

abbrev care_of : (ℕ → Entry) → ℕ → ℕ
care_of entries n = bits_by is_set entries n

abbrev want_of : (ℕ → Entry) → ℕ → ℕ
want_of entries n = bits_by bit_for entries n

abbrev free_of : (ℕ → Entry) → ℕ → ℕ
free_of entries n = bits_by is_dont_care entries n

one_more : (n c w f : ℕ) (e : Entry) → Masks n c w f
    → Masks (suc n) (c * 2 + cond {A = ℕ} (is_set e) 1 0) (w * 2 + cond {A = ℕ} (bit_for e) 1 0) (f * 2 + cond {A = ℕ} (is_dont_care e) 1 0)
one_more n c w f One m = set_entry n c w f 1 (omega arith) m
one_more n c w f Zero m = set_entry n c w f 0 (omega arith) m
one_more n c w f Free m = free_entry n c w f m

masks_of : (entries : ℕ → Entry) (n : ℕ) → Masks n (care_of entries n) (want_of entries n) (free_of entries n)
unfolding bits_by
masks_of entries zero = no_entry
masks_of entries (suc n) = one_more n _ _ _ (entries n) (masks_of entries n)

-- ---- words that fit are those that agree

small_bit : (b : Bool) → cond {A = ℕ} b 1 0 < 2
small_bit true = omega arith
small_bit false = omega arith

low_bit : (y : ℕ) → cond {A = ℕ} (has y 0) 1 0 ≡ y % 2
low_bit y = grind (arith, bit_at_lowest)

higher : (y n j : ℕ) → j < n → has y (suc n - 1 - j) ≡ has (y / 2) (n - 1 - j)
higher y n j h =
    let e : suc n - 1 - j ≡ suc (n - 1 - j) = omega arith in
    ap (has y) e ∙ ap (λ k. eqb k 1) (bit_at-suc y (n - 1 - j))

-- a bit fits where the entry allows it
bit_fits : (e : Entry) (b : Bool) → eqb (bit_and (cond {A = ℕ} b 1 0) (cond {A = ℕ} (is_set e) 1 0)) (cond {A = ℕ} (bit_for e) 1 0) ≡ allows e b
bit_fits One true = refl
bit_fits One false = refl
bit_fits Zero true = refl
bit_fits Zero false = refl
bit_fits Free true = refl
bit_fits Free false = refl

fits_halves : (c w y k b : ℕ) → k < 2 → b < 2 → fits (c * 2 + k) (w * 2 + b) y ≡ (eqb (bit_and (y % 2) k) b && fits c w (y / 2))
fits_halves c w y k b hk hb = same_bool _ _
    (λ t. let h = halves c w y k b hk hb (eqb-true _ _ t) in and_from _ _ (eq-eqb _ _ h.1) (eq-eqb _ _ h.0))
    (λ t. let p = and_parts _ _ t in eq-eqb _ _ (joined_halves c w y k b hk (eqb-true _ _ p.1) (eqb-true _ _ p.0)))

pub fits_suits : (entries : ℕ → Entry) (n y : ℕ) → fits (care_of entries n) (want_of entries n) y ≡ suits entries n y
unfolding bits_by suits
fits_suits entries zero y = ap (λ k. eqb k 0) (and_zero_r y)
fits_suits entries (suc n) y =
    let e : Entry = entries n in
    let zero_at : suc n - 1 - n ≡ 0 = omega arith in
    fits_halves (care_of entries n) (want_of entries n) y _ _ (small_bit (is_set e)) (small_bit (bit_for e))
    ∙ ap₂ (λ a b. a && b)
    (ap (λ m. eqb (bit_and m (cond {A = ℕ} (is_set e) 1 0)) (cond {A = ℕ} (bit_for e) 1 0)) (sym (low_bit y)) ∙ bit_fits e (has y 0)
    ∙ ap (allows e) (sym (bit_of-word_of (suc n) y n (omega arith) ∙ ap (has y) zero_at)))
    (fits_suits entries n (y / 2)
    ∙ all_below-same _ _ n (λ j l. ap (allows (entries j)) (bit_of-word_of n (y / 2) j l ∙ sym (higher y n j l) ∙ sym (bit_of-word_of (suc n) y j (omega arith)))))

-- a row without free entries
no_free : (some last : Bool) (f : ℕ) → (f ≡ 0) ↔ (some ≡ false) → (f * 2 + cond {A = ℕ} last 1 0 ≡ 0) ↔ ((some || last) ≡ false)
no_free true true f is = (λ h. absurd (omega (arith, h)), λ h. absurd (false≢true (sym h)))
no_free true false f is = (λ h. is.0 (omega (arith, h)), λ h. absurd (false≢true (sym h)))
no_free false true f is = (λ h. absurd (omega (arith, h)), λ h. absurd (false≢true (sym h)))
no_free false false f is = (λ h. refl, λ h. omega (arith, is.1 refl))

pub free_is : (entries : ℕ → Entry) (n : ℕ) → (free_of entries n ≡ 0) ↔ (has_free entries n ≡ false)
unfolding bits_by has_free
free_is entries zero = (λ h. refl, λ h. refl)
free_is entries (suc n) = no_free (has_free entries n) (is_dont_care (entries n)) (free_of entries n) (free_is entries n)

-- ---- one more bit

pub bits_more : (p : Entry → Bool) (entries : ℕ → Entry) (n : ℕ) → bits_by p entries (n + 1) ≡ bits_by p entries n * 2 + cond (p (entries n)) 1 0
unfolding bits_by
bits_more p entries n = rw (add-one n) refl

pub bits-lt : (p : Entry → Bool) (entries : ℕ → Entry) (n : ℕ) → bits_by p entries n < 2 ^ n
unfolding bits_by
bits-lt p entries zero = omega arith
bits-lt p entries (suc n) = omega (arith, bits-lt p entries n, pow-suc 2 n, small_bit (p (entries n)))

-- ---- the search

abbrev row_next : Row → ℕ → ℕ
row_next r z = bit_or (bit_and (bit_or z r.care + 1) r.free) r.want

row_after : (n : ℕ) (r : Row) (z : ℕ) → IsRow n r → z < 2 ^ n → fits r.care r.want z ≡ true → Next r.care r.want n z (row_next r z)
row_after n r z is h f =
    let Q : Row → Type 0 = λ r. fits r.care r.want z ≡ true → Next r.care r.want n z (row_next r z) in
    subst Q (sym is.1) (λ g. (walks (masks_of is.0 n) z h (eqb-true _ _ g)).1) f

pub row_care-lt : (n : ℕ) (r : Row) → IsRow n r → r.care < 2 ^ n
row_care-lt n r is = rw is.1 (bits-lt is_set is.0 n)

pub row_want-lt : (n : ℕ) (r : Row) → IsRow n r → r.want < 2 ^ n
row_want-lt n r is = rw is.1 (bits-lt bit_for is.0 n)

pub row_want-fits : (n : ℕ) (r : Row) → IsRow n r → fits r.care r.want r.want ≡ true
row_want-fits n r is = rw is.1 (eq-eqb _ _ (want_fits (masks_of is.0 n)))

-- no word that fits is below the wanted one
pub want_first : (care want z : ℕ) → fits care want z ≡ true → want ≤ z
want_first care want z f = let l = and_le_l z care in let e = eqb-true _ _ f in omega arith

pub starts : (n : ℕ) (r : Row) (counts : List ℕ) → IsRow n r → IsCursor r.care r.want (2 ^ n) counts (record { level = 0; word = r.want })
starts n r counts is = record {
  within = row_want-lt n r is;
  passed = row_want-fits n r is;
  level = λ z h f. omega arith;
  before = λ z h f. absurd (let l = want_first r.care r.want z f in omega arith);
}

pub goes_on : (n : ℕ) (r : Row) (counts : List ℕ) (c : Cursor) (t : ℕ) → IsRow n r → IsCursor r.care r.want (2 ^ n) counts c → t ≡ row_next r c.word → c.level < get_or counts c.word 0 → c.word < t
    → IsCursor r.care r.want (2 ^ n) counts (record { level = c.level; word = t })
goes_on n r counts c t is b e more l = grind (arith, row_after, eq-eqb, cases_order, eqb-true)

pub wraps : (n : ℕ) (r : Row) (counts : List ℕ) (c : Cursor) (t : ℕ) → IsRow n r → IsCursor r.care r.want (2 ^ n) counts c → t ≡ row_next r c.word → c.level < get_or counts c.word 0 → t ≤ c.word
    → IsCursor r.care r.want (2 ^ n) counts (record { level = c.level + 1; word = r.want })
wraps n r counts c t is b e more l = record {
  within = row_want-lt n r is;
  passed = row_want-fits n r is;
  level = λ z h f. elim (cases_order z c.word) [
    | inl same ↦ (let s = ap (λ k. get_or counts k 0) same in omega arith)
    | inr (inl below) ↦ (let s = b.before z below f in omega arith)
    | inr (inr above) ↦ absurd (let s = (row_after n r c.word is b.within b.passed).first z h (eqb-true _ _ f) above in omega (arith, s.0))
  ];
  before = λ z h f. absurd (let w = want_first r.care r.want z f in omega arith);
}

pub shrinks : (m level size word want : ℕ) → level < m → word < size → (m - (level + 1)) * size + (size - want) < (m - level) * size + (size - word)
shrinks m level size word want h l = grind arith

want_front : (pla : TwoLevel) (x n : ℕ) → want_of (row pla x) n ≡ number_of (front_of pla (word_of pla.inputs x) n)
unfolding bits_by number_of
want_front pla x zero = refl
want_front pla x (suc n) =
    let e : number_of (front_of pla (word_of pla.inputs x) (suc n)) ≡ number_of (front_of pla (word_of pla.inputs x) (n + 1)) = ap (λ k. number_of (front_of pla (word_of pla.inputs x) k)) (sym (add-one n)) in
    ap (λ k. k * 2 + cond {A = ℕ} (bit_for (row pla x n)) 1 0) (want_front pla x n) ∙ sym (front_more pla (word_of pla.inputs x) n) ∙ sym e

-- what a row wants is the own word
pub want_own : (pla : TwoLevel) (x : ℕ) → want_of (row pla x) pla.outputs ≡ own_word pla x
want_own pla x = want_front pla x pla.outputs
