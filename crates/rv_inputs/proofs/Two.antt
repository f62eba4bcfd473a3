-- Two inputs are read.
use Rattle.std.proofs.Common.{◌≡◌, ℕ, ◌≤◌, true, List, [], ◌∷◌, length, Option, Some, Result, Ok, Err, refl, ap, sym, subst, ◌∙◌, inl, inr, arith}
use Rattle.std.proofs.lemmas.List.Elements.{All-nil, All-cons}
use Rattle.rv_io.specs.Files.{FilesView, Keeps}
use Rattle.rv_reader.specs.Files.{IsReadToEnd}
use Rattle.rv_reader.specs.Rules.{◌>>=◌}
use Rattle.rv_text.specs.declared.lines.TheConstants.{MOST_BYTES}
use Rattle.rv_faults.specs.declared.fault.InputFault.{InputFault}
use Rattle.rv_faults.specs.declared.fault.Refusal.{Refusal}
use Rattle.rv_faults.specs.declared.fault.Unmade.{Unmade}
use Rattle.rv_faults.specs.declared.fault.Unmade.TheVariants.{CannotRead, Refused, TooLong, OutOfMemory}
use Rattle.rv_inputs.specs.Contents.{StaysAt, content_or_fault, texts_of}
use Rattle.rv_inputs.specs.Formats.{Format, at_input}
use Rattle.rv_inputs.specs.Reading.{HasLongInput, HasObjects, HasTexts, IsUnread, IsUnreadInput, LacksInput, LacksObjects, ReadsOnly, first_told}
use Rattle.rv_inputs.proofs.Contained.{content-short, too_long_content}

abbrev IsShort : List ℕ → Type 0
IsShort text = length text ≤ MOST_BYTES

-- what follows the first text
abbrev with_first : Option (List ℕ) → Result (List ℕ) Unmade → Result (List (List ℕ)) Unmade
with_first second first = first >>= λ text. (content_or_fault 1 second >>= λ other. Ok (other ∷ [])) >>= λ texts. Ok (text ∷ texts)

abbrev with_rest : List ℕ → Result (List ℕ) Unmade → Result (List (List ℕ)) Unmade
with_rest text second = (second >>= λ other. Ok (other ∷ [])) >>= λ texts. Ok (text ∷ texts)

texts-first : (first second : Option (List ℕ)) (unmade : Unmade) → content_or_fault 0 first ≡ Err unmade → texts_of (first ∷ second ∷ []) ≡ Err unmade
texts-first first second unmade h = ap (with_first second) h

texts-second : (text : List ℕ) (second : Option (List ℕ)) (unmade : Unmade) → length text ≤ MOST_BYTES → content_or_fault 1 second ≡ Err unmade
    → texts_of (Some text ∷ second ∷ []) ≡ Err unmade
texts-second text second unmade short h = ap (with_first second) (content-short 0 text short) ∙ ap (with_rest text) h

-- the second one is the last that is started
pub reads_both : (a b : List ℕ) (old mid new : FilesView) → Keeps old mid → Keeps mid new → StaysAt b mid new → ReadsOnly (a ∷ b ∷ []) old new
reads_both a b old mid new first second stays = record {
  keeps = record { tells = second.tells ∙ first.tells; held = λ name. second.held name ∙ first.held name; later = omega (arith, first.later, second.later) };
  stays = record {
    input = 1;
    named = omega arith;
    stays = record { opened = λ tells. stays.opened (first.tells ∙ tells); place = stays.place };
  };
}

-- ---- the first one isn't read

pub reads_first : (a b : List ℕ) (old new : FilesView) → Keeps old new → StaysAt a old new → ReadsOnly (a ∷ b ∷ []) old new
reads_first a b old new keeps stays = record { keeps = keeps; stays = record { input = 0; named = omega arith; stays = stays } }

module _ {X Y : Type 0} (first : Format X) (second : Format Y) (a b : List ℕ) (old new : FilesView) where
  first-unread : (i : ℕ) → IsUnreadInput first 0 a old new (CannotRead i) → LacksInput (a ∷ b ∷ []) old new i
  first-unread i u =
      let P : ℕ → Type 0 = λ n. LacksInput (a ∷ b ∷ []) old new n in
      subst P (sym u.0) (record {
        named = omega arith;
        opened = u.1.started;
        cause = elim u.1.cause [
          | inl rose ↦ inr rose
          | inr none ↦ inl (none.0, texts-first (old.held a) (old.held b) (CannotRead 0) (ap (content_or_fault 0) none.1))
        ];
      })

  first-long : (i : ℕ) → IsUnreadInput first 0 a old new (TooLong i) → HasLongInput (a ∷ b ∷ []) old new i
  first-long i u =
      let P : ℕ → Type 0 = λ n. HasLongInput (a ∷ b ∷ []) old new n in
      let c = too_long_content old a old.tells refl u.1.told in
      subst P (sym u.0) (record {
        contents = c.content ∷ old.held b ∷ [];
        counted = refl;
        told = λ tells. ap (λ held. held ∷ old.held b ∷ []) (c.told tells);
        faulty = texts-first c.content (old.held b) (TooLong 0) (c.faulty 0);
        named = omega arith;
        started = record { started = u.1.started; opened = u.1.opened };
        place = u.1.place;
        uncounted = u.1.uncounted;
      })

  pub unread-first : (unmade : Unmade) → IsUnreadInput first 0 a old new unmade → ((i : ℕ) (reason : InputFault) → unmade ≡ Refused i reason → ⊥)
      → IsUnread (a ∷ b ∷ []) old new (LacksObjects first second (a ∷ b ∷ []) old new) unmade
  unread-first (CannotRead i) u other = first-unread i u
  unread-first (Refused i reason) u other = absurd (other i reason refl)
  unread-first (TooLong i) u other = first-long i u
  unread-first OutOfMemory u other = u

-- ---- the first one is read to its end

module _ (a b : List ℕ) (old mid new : FilesView) (keeps : Keeps old mid) {P : List ℕ → Type 0} (first : IsReadToEnd a old mid P) where
  mid-tells : old.tells ≡ true → mid.tells ≡ true
  mid-tells tells = keeps.tells ∙ tells

  two-texts : {Q : List ℕ → Type 0} (second : IsReadToEnd b mid new Q) → HasTexts (a ∷ b ∷ []) old new (first.bytes ∷ second.bytes ∷ [])
  two-texts second = record {
    counted = refl;
    told = λ tells.
        ap (λ held. held ∷ Some second.bytes ∷ []) (sym (first.held tells))
        ∙ ap (λ held. old.held a ∷ held ∷ []) (sym (second.held (mid-tells tells)) ∙ keeps.held b);
    short = All-cons IsShort first.bytes (second.bytes ∷ []) first.limited (All-cons IsShort second.bytes [] second.limited (All-nil IsShort));
    read = record { started = record { started = second.started; opened = λ tells. second.opened (mid-tells tells) }; place = second.place };
    uncounted = second.uncounted ∙ first.uncounted;
  }

  second-unread : {Y : Type 0} (second : Format Y) (i : ℕ) → IsUnreadInput second 1 b mid new (CannotRead i) → LacksInput (a ∷ b ∷ []) old new i
  second-unread second i u =
      let Lacks : ℕ → Type 0 = λ n. LacksInput (a ∷ b ∷ []) old new n in
      subst Lacks (sym u.0) (record {
        named = omega arith;
        opened = λ tells. u.1.started (mid-tells tells);
        cause = elim u.1.cause [
          | inl rose ↦ inr (omega (arith, rose, keeps.later))
          | inr none ↦
              let tells : old.tells ≡ true = sym keeps.tells ∙ none.0 in
              inl (
                tells,
                ap (λ held. texts_of (held ∷ old.held b ∷ [])) (first.held tells)
                    ∙ texts-second first.bytes (old.held b) (CannotRead 1) first.limited (ap (content_or_fault 1) (sym (keeps.held b) ∙ none.1)),
              )
        ];
      })

  second-long : {Y : Type 0} (second : Format Y) (i : ℕ) → IsUnreadInput second 1 b mid new (TooLong i) → HasLongInput (a ∷ b ∷ []) old new i
  second-long second i u =
      let Long : ℕ → Type 0 = λ n. HasLongInput (a ∷ b ∷ []) old new n in
      let c = too_long_content mid b mid.tells refl u.1.told in
      subst Long (sym u.0) (record {
        contents = Some first.bytes ∷ c.content ∷ [];
        counted = refl;
        told = λ tells.
            ap (λ held. held ∷ c.content ∷ []) (sym (first.held tells))
            ∙ ap (λ held. old.held a ∷ held ∷ []) (c.told (mid-tells tells) ∙ keeps.held b);
        faulty = texts-second first.bytes c.content (TooLong 1) first.limited (c.faulty 1);
        named = omega arith;
        started = record { started = u.1.started; opened = λ tells. u.1.opened (mid-tells tells) };
        place = u.1.place;
        uncounted = u.1.uncounted ∙ first.uncounted;
      })

module _ {X Y : Type 0} (first : Format X) (second : Format Y) (a b : List ℕ) (old mid new : FilesView) (keeps : Keeps old mid) where
  abbrev both_of : Result X Refusal → Result Y Refusal → Result Y Refusal
  both_of x y = x >>= λ object. y

  abbrev Lacks : Refusal → Type 0
  Lacks = LacksObjects first second (a ∷ b ∷ []) old new

  pub has_objects : (x : X) (y : Y) → IsReadToEnd a old mid (λ bytes. first bytes ≡ Ok x) → IsReadToEnd b mid new (λ bytes. second bytes ≡ Ok y)
      → HasObjects first second (a ∷ b ∷ []) old new x y
  has_objects x y read other = record {
    first_text = read.bytes;
    second_text = other.bytes;
    read = two-texts a b old mid new keeps read other;
    first_is = read.fact;
    second_is = other.fact;
  }

  -- the second one isn't read, or its text is refused
  pub unread-second : (x : X) (unmade : Unmade) → IsReadToEnd a old mid (λ bytes. first bytes ≡ Ok x) → IsUnreadInput second 1 b mid new unmade
      → IsUnread (a ∷ b ∷ []) old new Lacks unmade
  unread-second x (CannotRead i) read u = second-unread a b old mid new keeps read second i u
  unread-second x (Refused i reason) read u = (
    omega (arith, u.0),
    record {
      first_text = read.bytes;
      second_text = u.1.bytes;
      read = two-texts a b old mid new keeps read u.1;
      is = ap (λ (r : Result X (Option InputFault)). both_of (at_input 0 r) (at_input 1 (second u.1.bytes))) read.fact ∙ u.1.fact;
    },
  )
  unread-second x (TooLong i) read u = second-long a b old mid new keeps read second i u
  unread-second x OutOfMemory read u = u ∙ read.uncounted

  -- the first text is refused, and the second input is read to its end
  refused-first : {Q : List ℕ → Type 0} (i : ℕ) (reason : InputFault) → IsUnreadInput first 0 a old mid (Refused i reason) → IsReadToEnd b mid new Q
      → IsUnread (a ∷ b ∷ []) old new Lacks (Refused i reason)
  refused-first i reason u other = (
    omega (arith, u.0),
    record {
      first_text = u.1.bytes;
      second_text = other.bytes;
      read = two-texts a b old mid new keeps u.1 other;
      is = ap (λ x. both_of x (at_input 1 (second other.bytes))) u.1.fact;
    },
  )

  pub unread-text : {Q : List ℕ → Type 0} (unmade : Unmade) (i : ℕ) (reason : InputFault) → unmade ≡ Refused i reason → IsUnreadInput first 0 a old mid unmade
      → IsReadToEnd b mid new Q → IsUnread (a ∷ b ∷ []) old new Lacks unmade
  unread-text unmade i reason is u other =
      let Two : Unmade → Type 0 = λ it. IsUnread (a ∷ b ∷ []) old new Lacks it in
      let First : Unmade → Type 0 = λ it. IsUnreadInput first 0 a old mid it in
      subst Two (sym is) (refused-first i reason (subst First is u) other)

  -- the first text is refused, and the second input gives no object
  pub unread-after : (unmade other : Unmade) (i : ℕ) (reason : InputFault) → unmade ≡ Refused i reason → IsUnreadInput first 0 a old mid unmade
      → IsUnreadInput second 1 b mid new other → IsUnread (a ∷ b ∷ []) old new Lacks (first_told unmade other)
  unread-after unmade other i reason is u v =
      let Two : Unmade → Type 0 = λ it. IsUnread (a ∷ b ∷ []) old new Lacks (first_told it other) in
      let First : Unmade → Type 0 = λ it. IsUnreadInput first 0 a old mid it in
      subst Two (sym is) (told other (subst First is u) v)
    where
      told : (other : Unmade) → IsUnreadInput first 0 a old mid (Refused i reason) → IsUnreadInput second 1 b mid new other
          → IsUnread (a ∷ b ∷ []) old new Lacks (first_told (Refused i reason) other)
      told (CannotRead j) u v = second-unread a b old mid new keeps u.1 second j v
      told (Refused j cause) u v = refused-first i reason u v.1
      told (TooLong j) u v = second-long a b old mid new keeps u.1 second j v
      told OutOfMemory u v = v ∙ u.1.uncounted
