-- Eight digits of a text, put together as a number.
use mir.Val.{bool_byte}
use Rattle.std.proofs.Common.{◌≡◌, ◌∙◌, ℕ, suc, ◌+◌, ◌-◌, ◌*◌, ◌/◌, ◌%◌, ◌^◌, ◌<◌, ◌≤◌, Bool, true, false, List, [], ◌∷◌, length, map, take, get_or, refl, ap, sym, subst, arith, inl, inr, w64}
use Rattle.std.specs.Cmp.Derive.{both_true}
use Rattle.std.specs.Prelude.{bit_and}
use Rattle.std.specs.Int.{from_be_bytes}
use Rattle.std.specs.List.{list_all}
use Rattle.std.proofs.lemmas.Bool.{cases_eq, and_parts}
use Rattle.std.proofs.lemmas.List.{get_or-take, length-take}
use Rattle.std.proofs.lemmas.Nat.{and_block}
use Rattle.std.proofs.lemmas.Nat.Bits.{and_high_mask}
use Rattle.rv_gate.specs.Word.{number_of}
use Rattle.rv_simulate.specs.Simulation.{is_bit}
use Rattle.rv_simulate.specs.inside.WordLine.{IsOctet, is_one}
use Rattle.rv_simulate.proofs.inside.Bits.{digit_value}
use Rattle.rv_gate.proofs.Bits.{bool_byte-le}

-- the number of bytes behind a number
abbrev packed : ℕ → List ℕ → ℕ
packed high [] = high
packed high (byte ∷ bytes) = packed (high * 256 + byte) bytes

-- as many bytes that are all the same
abbrev all_as : ℕ → List ℕ → List ℕ
all_as byte bytes = map (λ _. byte) bytes

abbrev AreBytes : List ℕ → Type 0
AreBytes bytes = (i : ℕ) → i < length bytes → get_or bytes i 0 < 256

digit_by_mask : (high mask rest byte : ℕ) → byte < 256 → bit_and (high * 256 + byte) (mask * 256 + 254) ≡ rest * 256 + 48 → (bit_and high mask ≡ rest) × (is_bit byte ≡ true)
digit_by_mask high mask rest byte small is =
    let parts : bit_and (high * 256 + byte) (mask * 256 + 254) ≡ bit_and high mask * 256 + bit_and byte 254 = and_block 8 high mask byte 254 small (omega arith) in
    let even : bit_and byte 254 ≡ byte / 2 * 2 = and_high_mask 8 1 (omega arith) byte small in
    let low : byte / 2 ≡ 24 = omega (arith, parts, even, is, small) in (
      omega (arith, parts, even, is, small),
      elim (cases_eq byte 48) [
        | inl zero ↦ ap is_bit zero
        | inr other ↦ let one : byte ≡ 49 = omega (arith, low, other) in ap is_bit one
      ],
    )

-- each byte is a digit, if their highest seven bits are those of one
digits_by_mask : (bytes : List ℕ) (high mask rest : ℕ) → AreBytes bytes → bit_and (packed high bytes) (packed mask (all_as 254 bytes)) ≡ packed rest (all_as 48 bytes)
    → (bit_and high mask ≡ rest) × (list_all is_bit bytes ≡ true)
digits_by_mask [] high mask rest small is = (is, refl)
digits_by_mask (byte ∷ bytes) high mask rest small is =
    let later = digits_by_mask bytes (high * 256 + byte) (mask * 256 + 254) (rest * 256 + 48) (λ i lt. small (suc i) (omega (arith, lt))) is in
    let this = digit_by_mask high mask rest byte (small 0 (omega arith)) later.0 in
    (this.0, both_true this.1 later.1)

-- eight digits come together in the highest byte
gathered : (a b c d e f g h spread : ℕ) → a ≤ 1 → b ≤ 1 → c ≤ 1 → d ≤ 1 → e ≤ 1 → f ≤ 1 → g ≤ 1 → h ≤ 1
    → spread ≡ a * 72057594037927936 + b * 281474976710656 + c * 1099511627776 + d * 4294967296 + e * 16777216 + f * 65536 + g * 256 + h
    → spread * 72624976668147840 % 18446744073709551616 / 72057594037927936 ≡ a * 128 + b * 64 + c * 32 + d * 16 + e * 8 + f * 4 + g * 2 + h
gathered a b c d e f g h spread la lb lc ld le lf lg lh is = grind arith

number_of-cons : (bit : Bool) (word : List Bool) (size : ℕ) → 2 ^ length word ≡ size → number_of (bit ∷ word) ≡ bool_byte bit * size + number_of word
unfolding number_of
number_of-cons true word size is = omega (arith, is)
number_of-cons false word size is = omega arith

number_of-eight : (a b c d e f g h : Bool) → bool_byte a * 128 + bool_byte b * 64 + bool_byte c * 32 + bool_byte d * 16 + bool_byte e * 8 + bool_byte f * 4 + bool_byte g * 2 + bool_byte h ≡ number_of (a ∷ b ∷ c ∷ d ∷ e ∷ f ∷ g ∷ h ∷ [])
unfolding number_of
number_of-eight a b c d e f g h =
    omega (arith, number_of-cons a (b ∷ c ∷ d ∷ e ∷ f ∷ g ∷ h ∷ []) 128 refl, number_of-cons b (c ∷ d ∷ e ∷ f ∷ g ∷ h ∷ []) 64 refl, number_of-cons c (d ∷ e ∷ f ∷ g ∷ h ∷ []) 32 refl, number_of-cons d (e ∷ f ∷ g ∷ h ∷ []) 16 refl, number_of-cons e (f ∷ g ∷ h ∷ []) 8 refl, number_of-cons f (g ∷ h ∷ []) 4 refl, number_of-cons g (h ∷ []) 2 refl, number_of-cons h ([]) 1 refl)

digit_is : (byte : ℕ) → is_bit byte ≡ true → byte ≡ 48 + bool_byte (is_one byte)
digit_is byte is = let value = digit_value byte is in omega (arith, value.0, value.1)

-- the bits that a number of eight bytes gives, whose digits they are
of_eight : (chunk : List ℕ) (number : ℕ) → length chunk ≡ 8 → AreBytes chunk → number ≡ from_be_bytes w64 chunk → bit_and number 18374403900871474942 ≡ 3472328296227680304
    → (list_all is_bit chunk ≡ true) × ((number - 3472328296227680304) * 72624976668147840 % 18446744073709551616 / 72057594037927936 ≡ number_of (map is_one chunk))
of_eight [] number size small is mask = absurd (omega (arith, size))
of_eight (a ∷ []) number size small is mask = absurd (omega (arith, size))
of_eight (a ∷ b ∷ []) number size small is mask = absurd (omega (arith, size))
of_eight (a ∷ b ∷ c ∷ []) number size small is mask = absurd (omega (arith, size))
of_eight (a ∷ b ∷ c ∷ d ∷ []) number size small is mask = absurd (omega (arith, size))
of_eight (a ∷ b ∷ c ∷ d ∷ e ∷ []) number size small is mask = absurd (omega (arith, size))
of_eight (a ∷ b ∷ c ∷ d ∷ e ∷ f ∷ []) number size small is mask = absurd (omega (arith, size))
of_eight (a ∷ b ∷ c ∷ d ∷ e ∷ f ∷ g ∷ []) number size small is mask = absurd (omega (arith, size))
of_eight (a ∷ b ∷ c ∷ d ∷ e ∷ f ∷ g ∷ h ∷ i ∷ chunk) number size small is mask = absurd (omega (arith, size))
of_eight (a ∷ b ∷ c ∷ d ∷ e ∷ f ∷ g ∷ h ∷ []) number size small is mask =
    let chunk = a ∷ b ∷ c ∷ d ∷ e ∷ f ∷ g ∷ h ∷ [] in
    let sum : number ≡ packed 0 (a ∷ b ∷ c ∷ d ∷ e ∷ f ∷ g ∷ h ∷ []) = omega (arith, is) in
    let all : list_all is_bit (a ∷ b ∷ c ∷ d ∷ e ∷ f ∷ g ∷ h ∷ []) ≡ true = (digits_by_mask (a ∷ b ∷ c ∷ d ∷ e ∷ f ∷ g ∷ h ∷ []) 0 0 0 small (ap (λ n. bit_and n 18374403900871474942) (sym sum) ∙ mask)).1 in
    let ta = and_parts _ _ all in
    let tb = and_parts _ _ ta.1 in
    let tc = and_parts _ _ tb.1 in
    let td = and_parts _ _ tc.1 in
    let te = and_parts _ _ td.1 in
    let tf = and_parts _ _ te.1 in
    let tg = and_parts _ _ tf.1 in
    let th = and_parts _ _ tg.1 in
    let va = digit_is a ta.0 in
    let vb = digit_is b tb.0 in
    let vc = digit_is c tc.0 in
    let vd = digit_is d td.0 in
    let ve = digit_is e te.0 in
    let vf = digit_is f tf.0 in
    let vg = digit_is g tg.0 in
    let vh = digit_is h th.0 in
    (all, gathered (bool_byte (is_one a)) (bool_byte (is_one b)) (bool_byte (is_one c)) (bool_byte (is_one d)) (bool_byte (is_one e)) (bool_byte (is_one f)) (bool_byte (is_one g)) (bool_byte (is_one h)) (number - 3472328296227680304) (bool_byte-le (is_one a)) (bool_byte-le (is_one b)) (bool_byte-le (is_one c)) (bool_byte-le (is_one d)) (bool_byte-le (is_one e)) (bool_byte-le (is_one f)) (bool_byte-le (is_one g)) (bool_byte-le (is_one h)) (omega (arith, is, va, vb, vc, vd, ve, vf, vg, vh)) ∙ number_of-eight (is_one a) (is_one b) (is_one c) (is_one d) (is_one e) (is_one f) (is_one g) (is_one h))

pub octet_of : (bytes chunk : List ℕ) (number : ℕ) → 8 ≤ length bytes → chunk ≡ take 8 bytes → ((i : ℕ) → get_or bytes i 0 < 256) → number ≡ from_be_bytes w64 chunk → bit_and number 18374403900871474942 ≡ 3472328296227680304
    → IsOctet ((number - 3472328296227680304) * 72624976668147840 % 18446744073709551616 / 72057594037927936) bytes
octet_of bytes chunk number within same small is mask =
    let size : length (take 8 bytes) ≡ 8 = omega (arith, length-take 8 bytes, within) in
    let made = of_eight (take 8 bytes) number size (λ i lt. subst (λ b. b < 256) (sym (get_or-take 8 bytes i 0 (omega (arith, lt, size)))) (small i)) (is ∙ ap (from_be_bytes w64) same) mask in
    record { within = within; bits = made.0; number = made.1 }
