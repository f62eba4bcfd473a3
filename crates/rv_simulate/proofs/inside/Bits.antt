-- The bits of a line of words, as its bytes come, and the answer that they make.
use mir.Val.{bool_byte}
use Rattle.std.proofs.Common.{◌≡◌, ◌∙◌, ℕ, ◌+◌, ◌-◌, ◌<◌, ◌≤◌, Bool, true, false, cond, ◌||◌, List, [], ◌∷◌, ◌++◌, length, Option, Some, None, IfSome, refl, ap, sym, subst, arith, append_assoc, map, nat_lt, nat_eq, ne_eqb, inl, inr}
use Rattle.std.specs.Option.{option_map}
use Rattle.std.specs.List.{list_all}
use Rattle.std.proofs.lemmas.Bool.{cases_Bool, cond-false, ltb-false, and_parts}
use Rattle.std.proofs.lemmas.List.{append-nil, length-append, nil_from_length}
use Rattle.std.proofs.lemmas.List.Folds.{list_any-append}
use Rattle.rv_gate.specs.Circuit.{Cascade}
use Rattle.rv_gate.specs.Gate.{run}
use Rattle.rv_gate.specs.Marks.{input_count, with_constants}
use Rattle.rv_gate.specs.declared.word.TheConstants.{MOST_LINES}
use Rattle.rv_text.specs.Bytes.{hash, line_feed}
use Rattle.rv_simulate.specs.Simulation.{answer_text, answer_to, answer_to_bits, line_bits, is_gap, is_bit, marks_asked}
use Rattle.rv_simulate.specs.inside.WordLine.{AreBits, StandsForLine, WordLine, after_byte, after_bytes, bits_in, has_comment, is_one, unread, with_bit}

-- bits that stand one after the other
abbrev joined : Option (List Bool) → Option (List Bool) → Option (List Bool)
joined None more = None
joined (Some bits) None = None
joined (Some bits) (Some more) = Some (bits ++ more)

joined-nil : (more : Option (List Bool)) → more ≡ joined (Some []) more
joined-nil None = refl
joined-nil (Some more) = refl

joined-none : (known : Option (List Bool)) → joined known (Some []) ≡ known
joined-none None = refl
joined-none (Some bits) = ap Some (append-nil bits)

push_step : (is_hash is_gap is_digit c bit : Bool) (pushed known more : Option (List Bool)) → pushed ≡ cond c known (joined known more)
    → cond is_hash (Some []) (cond is_gap pushed (cond is_digit (option_map (λ bits. bit ∷ bits) pushed) None))
    ≡ cond (is_hash || c) (cond is_hash (Some []) (cond is_gap known (cond is_digit (option_map (λ bits. bit ∷ bits) known) None)))
    (joined (cond is_hash (Some []) (cond is_gap known (cond is_digit (option_map (λ bits. bit ∷ bits) known) None))) more)
push_step is_hash is_gap is_digit c bit pushed known more h = grind arith

-- one byte more counts, unless a comment was begun
pub bits_of-push : (bytes : List ℕ) (byte : ℕ) → line_bits (bytes ++ byte ∷ []) ≡ cond (has_comment bytes) (line_bits bytes) (joined (line_bits bytes) (line_bits (byte ∷ [])))
bits_of-push [] byte = joined-nil (line_bits (byte ∷ []))
bits_of-push (b ∷ bytes) byte =
    push_step (nat_eq b hash) (is_gap b) (is_bit b) (has_comment bytes) (nat_eq b 49) (line_bits (bytes ++ byte ∷ [])) (line_bits bytes) (line_bits (byte ∷ [])) (bits_of-push bytes byte)

-- a bit more, of a line that is wrong
longer : (known : Option (List Bool)) (bit : Bool) → IfSome known (λ all. MOST_LINES < length all) → IfSome (joined known (Some (bit ∷ []))) (λ all. MOST_LINES < length all)
longer None bit h = tt
longer (Some bits) bit h = omega (arith, h, length-append bits (bit ∷ []))

bit_kept : (is_wrong bit : Bool) (bits : List Bool) (known : Option (List Bool)) → AreBits is_wrong bits known → AreBits is_wrong (bits ++ bit ∷ []) (joined known (Some (bit ∷ [])))
bit_kept is_wrong bit bits known a = record { fine = λ f. ap (λ k. joined k (Some (bit ∷ []))) (a.fine f); wrong = λ w. longer known bit (a.wrong w) }

bit_over : (is_wrong bit : Bool) (bits : List Bool) (known : Option (List Bool)) → MOST_LINES ≤ length bits → AreBits is_wrong bits known → AreBits true bits (joined known (Some (bit ∷ [])))
bit_over true bit bits known many a = record { fine = λ f. absurd cc; wrong = λ w. longer known bit (a.wrong refl) }
bit_over false bit bits known many a = record {
  fine = λ f. absurd cc;
  wrong = λ w. let P : Option (List Bool) → Type 0 = λ k. IfSome (joined k (Some (bit ∷ []))) (λ all. MOST_LINES < length all) in
      subst P (sym (a.fine refl)) (omega (arith, many, length-append bits (bit ∷ [])));
}

bit_added : (s : WordLine) (known : Option (List Bool)) (bit : Bool) → AreBits s.is_wrong s.bits known → AreBits (with_bit s bit).is_wrong (with_bit s bit).bits (joined known (Some (bit ∷ [])))
bit_added s known bit a =
    let after : Bool → WordLine = λ few. cond few (record s { bits = s.bits ++ bit ∷ [] }) (record s { is_wrong = true }) in
    let P : Bool → Type 0 = λ few. AreBits (after few).is_wrong (after few).bits (joined known (Some (bit ∷ []))) in
    elim (cases_Bool (nat_lt (length s.bits) MOST_LINES)) [
      | inl few ↦ subst P (sym few) (bit_kept s.is_wrong bit s.bits known a)
      | inr many ↦ subst P (sym many) (bit_over s.is_wrong bit s.bits known (ltb-false (length s.bits) MOST_LINES many) a)
    ]

none_left : (known : Option (List Bool)) → IfSome (joined known None) (λ all. MOST_LINES < length all)
none_left None = tt
none_left (Some bits) = tt

-- the state with one more byte, by what the byte is, before which no comment was begun
abbrev stepped : Bool → Bool → Bool → WordLine → Bool → WordLine
stepped is_hash is_gap is_digit s bit = cond is_hash (record s { in_comment = true }) (cond is_gap s (cond is_digit (with_bit s bit) (record s { is_wrong = true })))

bits_stepped : (is_hash is_gap is_digit bit : Bool) (s : WordLine) (known : Option (List Bool)) → AreBits s.is_wrong s.bits known
    → AreBits (stepped is_hash is_gap is_digit s bit).is_wrong (stepped is_hash is_gap is_digit s bit).bits (joined known (cond is_hash (Some []) (cond is_gap (Some []) (cond is_digit (Some (bit ∷ [])) None))))
bits_stepped true is_gap is_digit bit s known a = subst (AreBits s.is_wrong s.bits) (sym (joined-none known)) a
bits_stepped false true is_digit bit s known a = subst (AreBits s.is_wrong s.bits) (sym (joined-none known)) a
bits_stepped false false true bit s known a = bit_added s known bit a
bits_stepped false false false bit s known a = record { fine = λ f. absurd cc; wrong = λ w. none_left known }

comment_stepped : (is_hash is_gap is_digit bit : Bool) (s : WordLine) → s.in_comment ≡ false → (stepped is_hash is_gap is_digit s bit).in_comment ≡ is_hash
comment_stepped is_hash is_gap is_digit bit s h = grind arith

abbrev step_of : WordLine → ℕ → WordLine
step_of s byte = stepped (nat_eq byte hash) (is_gap byte) (is_bit byte) s (nat_eq byte 49)

pub number-after_byte : (s : WordLine) (byte : ℕ) → (after_byte s byte).number ≡ s.number
number-after_byte s byte = grind arith

pub number-after_bytes : (s : WordLine) (bytes : List ℕ) → (after_bytes s bytes).number ≡ s.number
number-after_bytes s [] = refl
number-after_bytes s (byte ∷ bytes) = number-after_bytes (after_byte s byte) bytes ∙ number-after_byte s byte

or_false : (b : Bool) → b ≡ (b || false)
or_false true = refl
or_false false = refl

stands_in_comment : (s : WordLine) (bytes : List ℕ) (byte : ℕ) → StandsForLine s bytes → s.in_comment ≡ true → StandsForLine s (bytes ++ byte ∷ [])
stands_in_comment s bytes byte h on =
    let c : has_comment bytes ≡ true = sym h.comment ∙ on in
    record {
      comment = on ∙ sym (list_any-append (λ b. nat_eq b hash) bytes (byte ∷ []) ∙ ap (λ t. t || has_comment (byte ∷ [])) c);
      bits = subst (AreBits s.is_wrong s.bits) (sym (bits_of-push bytes byte ∙ ap (λ t. cond t (line_bits bytes) (joined (line_bits bytes) (line_bits (byte ∷ [])))) c)) h.bits;
    }

stands_stepped : (s : WordLine) (bytes : List ℕ) (byte : ℕ) → StandsForLine s bytes → s.in_comment ≡ false → StandsForLine (step_of s byte) (bytes ++ byte ∷ [])
stands_stepped s bytes byte h off =
    let c : has_comment bytes ≡ false = sym h.comment ∙ off in
    record {
      comment = comment_stepped (nat_eq byte hash) (is_gap byte) (is_bit byte) (nat_eq byte 49) s off ∙ or_false (nat_eq byte hash)
          ∙ sym (list_any-append (λ b. nat_eq b hash) bytes (byte ∷ []) ∙ ap (λ t. t || has_comment (byte ∷ [])) c);
      bits = subst (AreBits (step_of s byte).is_wrong (step_of s byte).bits) (sym (bits_of-push bytes byte ∙ ap (λ t. cond t (line_bits bytes) (joined (line_bits bytes) (line_bits (byte ∷ [])))) c))
          (bits_stepped (nat_eq byte hash) (is_gap byte) (is_bit byte) (nat_eq byte 49) s (line_bits bytes) h.bits);
    }

-- the state stands for one byte more
pub stands_next : (s : WordLine) (bytes : List ℕ) (byte : ℕ) → StandsForLine s bytes → StandsForLine (after_byte s byte) (bytes ++ byte ∷ [])
stands_next s bytes byte h =
    let P : Bool → Type 0 = λ t. StandsForLine (cond t s (step_of s byte)) (bytes ++ byte ∷ []) in
    elim (cases_Bool s.in_comment) [
      | inl on ↦ subst P (sym on) (stands_in_comment s bytes byte h on)
      | inr off ↦ subst P (sym off) (stands_stepped s bytes byte h off)
    ]

pub stands_unread : (number : ℕ) → StandsForLine (unread number) []
stands_unread number = record { comment = refl; bits = record { fine = λ f. refl; wrong = λ w. absurd cc } }

-- a line with more bits than a circuit may have lines is wrong
too_many : (c : Cascade) (all : Bool) (bits : List Bool) → input_count (marks_asked c all) < length bits → answer_to_bits c all (Some bits) ≡ None
too_many c all [] many = absurd (omega (arith, many))
too_many c all (bit ∷ bits) many = cond-false (nat_eq (length (bit ∷ bits)) (input_count (marks_asked c all))) _ None (ne_eqb _ _ (λ same. omega (arith, same, many)))

answer-known : (c : Cascade) (all is_wrong : Bool) (bits : List Bool) (known : Option (List Bool)) → input_count (marks_asked c all) ≤ MOST_LINES → AreBits is_wrong bits known
    → answer_to_bits c all (cond is_wrong None (Some bits)) ≡ answer_to_bits c all known
answer-known c all is_wrong bits known h h1 = grind arith

-- the state of a line has the answer of the line
pub answer_stands : (c : Cascade) (all : Bool) (s : WordLine) (bytes : List ℕ) → input_count (marks_asked c all) ≤ MOST_LINES → StandsForLine s bytes
    → answer_to_bits c all (bits_in s) ≡ answer_to c all bytes
answer_stands c all s bytes few h = answer-known c all s.is_wrong s.bits (line_bits bytes) few h.bits

pub digit_value : (byte : ℕ) → is_bit byte ≡ true → (48 ≤ byte) × (byte - 48 ≡ bool_byte (is_one byte))
digit_value byte is = grind arith

bit_taken : (s : WordLine) (byte : ℕ) → s.in_comment ≡ false → length s.bits < MOST_LINES → is_bit byte ≡ true → after_byte s byte ≡ record s { bits = s.bits ++ is_one byte ∷ [] }
bit_taken s byte off room is = grind arith

-- bits are taken one after another
pub bits_taken : (s : WordLine) (bytes : List ℕ) → s.in_comment ≡ false → length s.bits + length bytes ≤ MOST_LINES → list_all is_bit bytes ≡ true
    → after_bytes s bytes ≡ record s { bits = s.bits ++ map is_one bytes }
bits_taken s [] off room are = ap (λ bits. record s { bits = bits }) (sym (append-nil s.bits))
bits_taken s (byte ∷ bytes) off room are =
    let one = and_parts (is_bit byte) (list_all is_bit bytes) are in
    let next : WordLine = record s { bits = s.bits ++ is_one byte ∷ [] } in
    ap (λ from. after_bytes from bytes) (bit_taken s byte off (omega (arith, room)) one.0)
    ∙ bits_taken next bytes off (omega (arith, room, length-append s.bits (is_one byte ∷ []))) one.1
    ∙ ap (λ bits. record s { bits = bits }) (append_assoc s.bits (is_one byte ∷ []) (map is_one bytes))

-- no byte of bits is a line feed
pub bit_no_feed : (byte : ℕ) → is_bit byte ≡ true → nat_eq byte line_feed ≡ false
bit_no_feed byte is = ne_eqb byte line_feed (λ feed. absurd (omega (arith, feed, (digit_value byte is).0)))

-- what a line makes whose bits are more than lines, or which is wrong
pub unanswered-many : (c : Cascade) (all : Bool) (s : WordLine) → input_count (marks_asked c all) < length s.bits → answer_to_bits c all (bits_in s) ≡ None
unanswered-many c all s many = elim s.is_wrong as (λ w. answer_to_bits c all (cond w None (Some s.bits)) ≡ None) [ true ↦ refl | false ↦ too_many c all s.bits many ]

pub unanswered-wrong : (c : Cascade) (all : Bool) (s : WordLine) → s.is_wrong ≡ true → answer_to_bits c all (bits_in s) ≡ None
unanswered-wrong c all s wrong = ap (λ w. answer_to_bits c all (cond w None (Some s.bits))) wrong

known_bits : (s : WordLine) → s.is_wrong ≡ false → bits_in s ≡ Some s.bits
known_bits s right = ap (λ w. cond w None (Some s.bits)) right

answered_bits : (c : Cascade) (all : Bool) (bits : List Bool) → 0 < length bits → length bits ≡ input_count (marks_asked c all)
    → answer_to_bits c all (Some bits) ≡ Some (answer_text c all (run c.gates (with_constants (marks_asked c all) bits)))
answered_bits c all bits h h1 = grind arith

other_count : (c : Cascade) (all : Bool) (bits : List Bool) → 0 < length bits → ¬ (length bits ≡ input_count (marks_asked c all)) → answer_to_bits c all (Some bits) ≡ None
other_count c all [] some other = absurd (omega (arith, some))
other_count c all (bit ∷ bits) some other = cond-false (nat_eq (length (bit ∷ bits)) (input_count (marks_asked c all))) _ None (ne_eqb _ _ other)

-- what a line makes that is right so far: nothing, a word, or no word for the number of its bits
pub skipped : (c : Cascade) (all : Bool) (s : WordLine) → s.is_wrong ≡ false → length s.bits ≡ 0 → answer_to_bits c all (bits_in s) ≡ Some []
skipped c all s right none = ap (answer_to_bits c all) (known_bits s right ∙ ap Some (nil_from_length s.bits none))

pub answered : (c : Cascade) (all : Bool) (s : WordLine) → s.is_wrong ≡ false → 0 < length s.bits → length s.bits ≡ input_count (marks_asked c all)
    → answer_to_bits c all (bits_in s) ≡ Some (answer_text c all (run c.gates (with_constants (marks_asked c all) s.bits)))
answered c all s right some same = ap (answer_to_bits c all) (known_bits s right) ∙ answered_bits c all s.bits some same

pub unanswered-count : (c : Cascade) (all : Bool) (s : WordLine) → s.is_wrong ≡ false → 0 < length s.bits → ¬ (length s.bits ≡ input_count (marks_asked c all)) → answer_to_bits c all (bits_in s) ≡ None
unanswered-count c all s right some other = ap (answer_to_bits c all) (known_bits s right) ∙ other_count c all s.bits some other
