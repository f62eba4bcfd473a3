-- An only input is read.
use Rattle.std.proofs.Common.{◌≡◌, ◌⊎◌, ℕ, ◌≤◌, List, [], ◌∷◌, length, Option, Some, None, Result, Ok, Err, refl, ap, sym, subst, ◌∙◌, inl, inr, arith}
use Rattle.std.proofs.lemmas.List.Elements.{All-nil, All-cons}
use Rattle.rv_io.specs.Files.{FilesView, Keeps}
use Rattle.rv_reader.specs.Files.{IsReadToEnd}
use Rattle.rv_reader.specs.Rules.{◌>>=◌}
use Rattle.rv_text.specs.declared.lines.TheConstants.{MOST_BYTES}
use Rattle.rv_faults.specs.declared.fault.InputFault.{InputFault}
use Rattle.rv_faults.specs.declared.fault.Unmade.{Unmade}
use Rattle.rv_faults.specs.declared.fault.Unmade.TheVariants.{CannotRead, Refused, TooLong, OutOfMemory}
use Rattle.rv_faults.specs.Fault.{unmade_by}
use Rattle.rv_inputs.specs.Contents.{StaysAt, texts_of}
use Rattle.rv_inputs.specs.Formats.{Format, at_input, format, refused_as, refused_at}
use Rattle.rv_inputs.specs.Reading.{HasLongInput, HasObject, HasTexts, IsUnread, IsUnreadInput, LacksInput, LacksObject, ReadsOnly}
use Rattle.rv_inputs.proofs.Contained.{too_long_content}

refused_by : {X E : Type 0} (denoted : List ℕ → Result X E) (why : E → Option InputFault) (mem : E) (input : ℕ) (name : List ℕ) (old new : FilesView) (fault : E) (kind : Option InputFault)
    → why mem ≡ None → why fault ≡ kind → IsReadToEnd name old new (λ bytes. (fault ≡ mem) ⊎ (denoted bytes ≡ Err fault))
    → IsUnreadInput (format denoted why) input name old new (unmade_by (refused_at input kind))
refused_by denoted why mem input name old new fault None memory is r = r.uncounted
refused_by denoted why mem input name old new fault (Some reason) memory is r = (
  refl,
  record {
    bytes = r.bytes;
    held = r.held;
    limited = r.limited;
    started = r.started;
    opened = r.opened;
    place = r.place;
    uncounted = r.uncounted;
    fact = elim r.fact [
      | inl none ↦ absurd (let z = sym is ∙ ap why none ∙ memory in cc)
      | inr denotes ↦ ap (λ read. at_input input (refused_as why read)) denotes ∙ ap (λ w. Err (refused_at input w)) is
    ];
  },
)

-- a fault of its text is that of the input
pub unread_refused : {X E : Type 0} (denoted : List ℕ → Result X E) (why : E → Option InputFault) (mem : E) (input : ℕ) (name : List ℕ) (old new : FilesView) (fault : E)
    → why mem ≡ None → IsReadToEnd name old new (λ bytes. (fault ≡ mem) ⊎ (denoted bytes ≡ Err fault))
    → IsUnreadInput (format denoted why) input name old new (unmade_by (refused_at input (why fault)))
unread_refused denoted why mem input name old new fault memory r = refused_by denoted why mem input name old new fault (why fault) memory refl r

-- what denotes an object is one in the format
pub read_denoted : {X E : Type 0} (denoted : List ℕ → Result X E) (why : E → Option InputFault) (name : List ℕ) (old new : FilesView) (object : X)
    → IsReadToEnd name old new (λ bytes. denoted bytes ≡ Ok object) → IsReadToEnd name old new (λ bytes. format denoted why bytes ≡ Ok object)
read_denoted denoted why name old new object r = record {
  bytes = r.bytes;
  held = r.held;
  limited = r.limited;
  started = r.started;
  opened = r.opened;
  place = r.place;
  uncounted = r.uncounted;
  fact = ap (refused_as why) r.fact;
}

abbrev IsShort : List ℕ → Type 0
IsShort text = length text ≤ MOST_BYTES

has_text : {P : List ℕ → Type 0} (name : List ℕ) (old new : FilesView) (r : IsReadToEnd name old new P) → HasTexts (name ∷ []) old new (r.bytes ∷ [])
has_text name old new r = record {
  counted = refl;
  told = λ tells. ap (λ held. held ∷ []) (sym (r.held tells));
  short = All-cons IsShort r.bytes [] r.limited (All-nil IsShort);
  read = record { started = record { started = r.started; opened = r.opened }; place = r.place };
  uncounted = r.uncounted;
}

pub has_object : {X : Type 0} (form : Format X) (name : List ℕ) (old new : FilesView) (object : X)
    → IsReadToEnd name old new (λ bytes. form bytes ≡ Ok object) → HasObject form (name ∷ []) old new object
has_object form name old new object r = record { text = r.bytes; read = has_text name old new r; is = r.fact }

pub unread_one : {X : Type 0} (form : Format X) (name : List ℕ) (old new : FilesView) (unmade : Unmade)
    → IsUnreadInput form 0 name old new unmade → IsUnread (name ∷ []) old new (LacksObject form (name ∷ []) old new) unmade
unread_one form name old new (CannotRead i) u =
    let P : ℕ → Type 0 = λ n. LacksInput (name ∷ []) old new n in
    subst P (sym u.0) (record {
      named = omega arith;
      opened = u.1.started;
      cause = elim u.1.cause [
        | inl rose ↦ inr rose
        | inr none ↦ inl (none.0, ap (λ held. texts_of (held ∷ [])) none.1)
      ];
    })
unread_one form name old new (Refused i reason) u =
    (omega (arith, u.0), record { text = u.1.bytes; read = has_text name old new u.1; is = u.1.fact })
unread_one form name old new (TooLong i) u =
    let P : ℕ → Type 0 = λ n. HasLongInput (name ∷ []) old new n in
    let c = too_long_content old name old.tells refl u.1.told in
    subst P (sym u.0) (record {
      contents = c.content ∷ [];
      counted = refl;
      told = λ tells. ap (λ held. held ∷ []) (c.told tells);
      faulty = ap (λ (text : Result (List ℕ) Unmade). text >>= λ text. Ok (text ∷ [])) (c.faulty 0);
      named = omega arith;
      started = record { started = u.1.started; opened = u.1.opened };
      place = u.1.place;
      uncounted = u.1.uncounted;
    })
unread_one form name old new OutOfMemory u = u

pub reads_one : (name : List ℕ) (old new : FilesView) → Keeps old new → StaysAt name old new → ReadsOnly (name ∷ []) old new
reads_one name old new keeps stays = record { keeps = keeps; stays = record { input = 0; named = omega arith; stays = stays } }
