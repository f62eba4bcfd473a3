-- The inputs of a command are read, and something is made of them.
use Rattle.std.proofs.Common.{◌≡◌, ℕ, ◌≤◌, Bool, false, List, [], ◌∷◌, length, Option, Some, Result, Ok, Err, refl, ap, sym, subst, ◌∙◌, inl, inr, arith}
use Rattle.std.proofs.lemmas.List.Elements.{All-nil}
use Rattle.rv_io.specs.Files.{FilesView}
use Rattle.rv_reader.specs.Rules.{◌>>=◌}
use Rattle.rv_text.specs.declared.lines.TheConstants.{MOST_BYTES}
use Rattle.rv_faults.specs.declared.fault.InputFault.{InputFault}
use Rattle.rv_faults.specs.declared.fault.Refusal.{Refusal}
use Rattle.rv_faults.specs.declared.fault.Refusal.TheVariants.{Refused, OutOfMemory}
use Rattle.rv_faults.specs.declared.fault.Unmade.{Unmade}
use Rattle.rv_faults.specs.declared.fault.Unmade.TheVariants as unmade
use Rattle.rv_faults.specs.Fault.{unmade_by}
use Rattle.rv_inputs.specs.Formats.{Format, at_input}
use Rattle.rv_inputs.specs.Reading.{HasObject, HasObjects, IsUnread, LacksObject, LacksObjects, ReadsOnly}
use Rattle.rv_cmd.specs.declared.product.Made.{Made}
use Rattle.rv_cmd.specs.declared.product.Product.{Product}
use Rattle.rv_cmd.specs.Limits.{AreKept, Limit, LimitedText, Report, first_refused, found_within, within}
use Rattle.rv_cmd.specs.Row.{ReadsFirst, finds, none, one, tells, two}
use Rattle.rv_cmd.specs.inside.Making.{IsMadeBy, IsRefusedBy, IsUnmadeBy, Makes}
use Rattle.rv_cmd.specs.inside.Products.{IsLackOf, IsProductOf, IsRefusalOf, IsUntoldOf, alike, product_text, report_of}
use Rattle.rv_cmd.proofs.inside.Limits.{within-kept, within-refused}

-- what holds of one refusal holds of another
unread-as : (names : List (List ℕ)) (old new : FilesView) (P Q : Refusal → Type 0) → ((refused : Refusal) → P refused → Q refused) → (it : Unmade) → IsUnread names old new P it
    → IsUnread names old new Q it
unread-as names old new P Q each (unmade.CannotRead i) u = u
unread-as names old new P Q each (unmade.Refused i reason) u = (u.0, each (Refused i reason) u.1)
unread-as names old new P Q each (unmade.TooLong i) u = u
unread-as names old new P Q each unmade.OutOfMemory u = u

-- what a command refuses
unread-refused : (names : List (List ℕ)) (old new : FilesView) (P : Refusal → Type 0) (count : ℕ) (limits : List Limit) → count ≡ length names → new.faults ≡ old.faults
    → ((refused : Refusal) → first_refused limits ≡ Some refused → P refused) → (refused : Refusal) → IsRefusalOf count limits refused → IsUnread names old new P (unmade_by refused)
unread-refused names old new P count limits counted uncounted each (Refused i reason) f = (omega (arith, f.0, counted), each (Refused i reason) f.1)
unread-refused names old new P count limits counted uncounted each OutOfMemory f = uncounted

abbrev ok : Report → Result Report Refusal
ok report = Ok report

-- the report of a product whose text is known
told : (product : Product) (text : List ℕ) (differs : Bool) → product_text product ≡ text
    → ok (record { text = text; differs = differs }) ≡ ok (report_of (record { product = product; differs = differs }))
told product text differs is = ap (λ (t : List ℕ). ok (record { text = t; differs = differs })) (sym is)

-- ---- a command without inputs

reads-none : (view : FilesView) → ReadsOnly [] view view
reads-none view = record { keeps = record { tells = refl; held = λ name. refl; later = omega arith }; stays = refl }

pub makes-none : (text : List ℕ) (Means : List ℕ → Type 0) (view : FilesView) (product : Product) → product_text product ≡ text → Means text
    → Makes (none text Means) [] view view (Ok (alike product))
makes-none text Means view product is means =
    let Short : List ℕ → Type 0 = λ it. length it ≤ MOST_BYTES in
    let made : IsMadeBy (none text Means) [] view view (alike product) = record {
      texts = [];
      read = record { counted = refl; told = λ tells. refl; short = All-nil Short; read = refl; uncounted = refl };
      report = record { is = told product text false is; means = subst Means (sym is) means };
    } in
    record { keeps = reads-none view; made = made; unmade = tt }

-- memory was wanting
pub lacks-none : (row : ReadsFirst) (view : FilesView) → Makes row [] view view (Err unmade.OutOfMemory)
lacks-none row view = record { keeps = reads-none view; made = tt; unmade = refl }

-- ---- of one input

module _ {X : Type 0} (form : Format X) (report : X → LimitedText) (Means : X → List ℕ → Type 0) (name : List ℕ) (old new : FilesView) where
  abbrev reported : Result X Refusal → Result Report Refusal
  reported read = read >>= λ x. within (report x) false

  made-alike : (object : X) (product : Product) → HasObject form (name ∷ []) old new object → IsProductOf (report object) (Means object) product
      → IsMadeBy (one form report Means) (name ∷ []) old new (alike product)
  made-alike object product has made = record {
    texts = has.text ∷ [];
    read = has.read;
    report = record {
      is = ap (λ (read : Result X (Option InputFault)). reported (at_input 0 read)) has.is ∙ within-kept (report object) false made.kept
          ∙ told product (report object).text false made.is;
      means = record { object = object; is = has.is; fact = subst (Means object) (sym made.is) made.means };
    };
  }

  pub makes-one : (object : X) (product : Product) (it : Made) → it ≡ alike product → ReadsOnly (name ∷ []) old new → HasObject form (name ∷ []) old new object
      → IsProductOf (report object) (Means object) product → Makes (one form report Means) (name ∷ []) old new (Ok it)
  makes-one object product it is keeps has made = record {
    keeps = keeps;
    made = subst (IsMadeBy (one form report Means) (name ∷ []) old new) (sym is) (made-alike object product has made);
    unmade = tt;
  }

  pub unread-one : (it : Unmade) → ReadsOnly (name ∷ []) old new → IsUnread (name ∷ []) old new (LacksObject form (name ∷ []) old new) it
      → Makes (one form report Means) (name ∷ []) old new (Err it)
  unread-one it keeps u = record {
    keeps = keeps;
    made = tt;
    unmade = unread-as (name ∷ []) old new (LacksObject form (name ∷ []) old new) (IsRefusedBy (one form report Means) (name ∷ []) old new)
        (λ refused l. record { texts = l.text ∷ []; read = l.read; is = inl (ap reported l.is) }) it u;
  }

  refusal-one : (object : X) (refused : Refusal) → HasObject form (name ∷ []) old new object → IsRefusalOf 1 (report object).limits refused
      → IsUnmadeBy (one form report Means) (name ∷ []) old new (unmade_by refused)
  refusal-one object refused has f =
      unread-refused (name ∷ []) old new (IsRefusedBy (one form report Means) (name ∷ []) old new) 1 (report object).limits refl has.read.uncounted
      (λ by is. record {
        texts = has.text ∷ [];
        read = has.read;
        is = inl (ap (λ (read : Result X (Option InputFault)). reported (at_input 0 read)) has.is ∙ within-refused (report object) false by is);
      }) refused f

  pub refused-one : (object : X) (refused : Refusal) (it : Unmade) → it ≡ unmade_by refused → ReadsOnly (name ∷ []) old new → HasObject form (name ∷ []) old new object
      → IsRefusalOf 1 (report object).limits refused → Makes (one form report Means) (name ∷ []) old new (Err it)
  refused-one object refused it same keeps has f = record {
    keeps = keeps;
    made = tt;
    unmade = subst (IsUnmadeBy (one form report Means) (name ∷ []) old new) (sym same) (refusal-one object refused has f);
  }

-- ---- of one input, by a search

abbrev text_in : Result Made Unmade → List ℕ
text_in (Ok made) = product_text made.product
text_in (Err it) = []

-- What makes a text makes it as the text that is found.
makes-found : {X : Type 0} (form : Format X) (limits : X → List Limit) (Lacks : X → Refusal → Type 0) (Means : X → List ℕ → Type 0) (names : List (List ℕ)) (old new : FilesView)
    (result : Result Made Unmade) → Makes (one form (λ x. found_within (limits x) (text_in result)) Means) names old new result
    → Makes (finds form limits Lacks Means) names old new result
makes-found form limits Lacks Means names old new (Ok made) m =
    record { keeps = m.keeps; made = record { texts = m.made.texts; read = m.made.read; report = m.made.report }; unmade = tt }
makes-found form limits Lacks Means names old new (Err it) m = record {
  keeps = m.keeps;
  made = tt;
  unmade = unread-as names old new (IsRefusedBy (one form (λ x. found_within (limits x) []) Means) names old new) (IsRefusedBy (finds form limits Lacks Means) names old new)
      (λ refused l. record { texts = l.texts; read = l.read; is = elim l.is [ inl is ↦ inl is | inr lacks ↦ absurd lacks ] }) it m.unmade;
}

module _ {X : Type 0} (form : Format X) (limits : X → List Limit) (Lacks : X → Refusal → Type 0) (Means : X → List ℕ → Type 0) (name : List ℕ)
    (old new : FilesView) where
  pub finds-one : (object : X) (product : Product) (it : Made) → it ≡ alike product → ReadsOnly (name ∷ []) old new → HasObject form (name ∷ []) old new object
      → IsProductOf (found_within (limits object) (product_text product)) (Means object) product → Makes (finds form limits Lacks Means) (name ∷ []) old new (Ok it)
  finds-one object product it is keeps has found =
      let By : Made → Type 0 = λ made. Makes (finds form limits Lacks Means) (name ∷ []) old new (Ok made) in
      subst By (sym is) (makes-found form limits Lacks Means (name ∷ []) old new (Ok (alike product))
      (makes-one form (λ x. found_within (limits x) (product_text product)) Means name old new object product (alike product) refl keeps has found))

  pub finds-unread : (it : Unmade) → ReadsOnly (name ∷ []) old new → IsUnread (name ∷ []) old new (LacksObject form (name ∷ []) old new) it
      → Makes (finds form limits Lacks Means) (name ∷ []) old new (Err it)
  finds-unread it keeps u = makes-found form limits Lacks Means (name ∷ []) old new (Err it) (unread-one form (λ x. found_within (limits x) []) Means name old new it keeps u)

  pub finds-refused : (object : X) (refused : Refusal) (it : Unmade) → it ≡ unmade_by refused → ReadsOnly (name ∷ []) old new → HasObject form (name ∷ []) old new object
      → IsRefusalOf 1 (limits object) refused → Makes (finds form limits Lacks Means) (name ∷ []) old new (Err it)
  finds-refused object refused it same keeps has f =
      makes-found form limits Lacks Means (name ∷ []) old new (Err it) (refused-one form (λ x. found_within (limits x) []) Means name old new object refused it same keeps has f)

  -- the search ended without a text
  pub finds-none : (object : X) (why : InputFault) (it : Unmade) → it ≡ unmade_by (Refused 0 why) → ReadsOnly (name ∷ []) old new → HasObject form (name ∷ []) old new object
      → AreKept (limits object) → Lacks object (Refused 0 why) → Makes (finds form limits Lacks Means) (name ∷ []) old new (Err it)
  finds-none object why it same keeps has kept lacks =
      let is : IsRefusedBy (finds form limits Lacks Means) (name ∷ []) old new (Refused 0 why) = record {
        texts = has.text ∷ [];
        read = has.read;
        is = inr (record { object = object; is = has.is; fact = (kept, lacks) });
      } in record {
        keeps = keeps;
        made = tt;
        unmade = subst (IsUnmadeBy (finds form limits Lacks Means) (name ∷ []) old new) (sym same) (omega arith, is);
      }

-- by names that are given otherwise
pub makes-at : (row : ReadsFirst) (names others : List (List ℕ)) (old new : FilesView) (result : Result Made Unmade) → names ≡ others
    → Makes row names old new result → Makes row others old new result
makes-at row names others old new result same makes = subst (λ n. Makes row n old new result) same makes

-- ---- of two inputs

module _ {X Y : Type 0} (first : Format X) (second : Format Y) (report : X → Y → LimitedText) (differs : X → Y → Bool)
    (Lacks : X → Y → Refusal → Type 0) (Means : X → Y → List ℕ → Type 0) (a b : List ℕ) (old new : FilesView) where
  abbrev row : ReadsFirst
  row = two first second report differs Lacks Means

  -- after the second text, and after both
  abbrev after_second : X → Result Y Refusal → Result Report Refusal
  after_second x read = read >>= λ y. within (report x y) (differs x y)

  abbrev after_both : Result X Refusal → Result Y Refusal → Result Report Refusal
  after_both read other = read >>= λ x. after_second x other

  both-read : (x : X) (y : Y) (first_text second_text : List ℕ) → first first_text ≡ Ok x → second second_text ≡ Ok y
      → after_both (at_input 0 (first first_text)) (at_input 1 (second second_text)) ≡ within (report x y) (differs x y)
  both-read x y first_text second_text first_is second_is =
      ap (λ (read : Result X (Option InputFault)). after_both (at_input 0 read) (at_input 1 (second second_text))) first_is
      ∙ ap (λ (read : Result Y (Option InputFault)). after_second x (at_input 1 read)) second_is

  made-two : (x : X) (y : Y) (it : Made) → HasObjects first second (a ∷ b ∷ []) old new x y → IsProductOf (report x y) (Means x y) it.product
      → it.differs ≡ differs x y → IsMadeBy row (a ∷ b ∷ []) old new it
  made-two x y it has made same = record {
    texts = has.first_text ∷ has.second_text ∷ [];
    read = has.read;
    report = record {
      is = both-read x y has.first_text has.second_text has.first_is has.second_is ∙ within-kept (report x y) (differs x y) made.kept
          ∙ ap (λ (d : Bool). ok (record { text = (report x y).text; differs = d })) (sym same)
          ∙ told it.product (report x y).text it.differs made.is;
      means = record {
        object = x;
        is = has.first_is;
        fact = record { object = y; is = has.second_is; fact = subst (Means x y) (sym made.is) made.means };
      };
    };
  }

  pub makes-two : (x : X) (y : Y) (it : Made) → ReadsOnly (a ∷ b ∷ []) old new → HasObjects first second (a ∷ b ∷ []) old new x y
      → IsProductOf (report x y) (Means x y) it.product → it.differs ≡ differs x y → Makes row (a ∷ b ∷ []) old new (Ok it)
  makes-two x y it keeps has made same = record { keeps = keeps; made = made-two x y it has made same; unmade = tt }

  -- a refusal, as that of what is made
  abbrev recast : {Z : Type 0} → Result Z Refusal → Result Report Refusal
  recast (Ok z) = Err OutOfMemory
  recast (Err refused) = Err refused

  lacking : (read : Result X Refusal) (other : Result Y Refusal) (refused : Refusal) → (read >>= λ x. other) ≡ Err refused → after_both read other ≡ Err refused
  lacking (Err by) other refused is = ap recast is
  lacking (Ok x) (Err by) refused is = ap recast is
  lacking (Ok x) (Ok y) refused is = absurd (let z = is in cc)

  pub unread-two : (it : Unmade) → ReadsOnly (a ∷ b ∷ []) old new → IsUnread (a ∷ b ∷ []) old new (LacksObjects first second (a ∷ b ∷ []) old new) it
      → Makes row (a ∷ b ∷ []) old new (Err it)
  unread-two it keeps u = record {
    keeps = keeps;
    made = tt;
    unmade = unread-as (a ∷ b ∷ []) old new (LacksObjects first second (a ∷ b ∷ []) old new) (IsRefusedBy row (a ∷ b ∷ []) old new)
        (λ refused l. record {
          texts = l.first_text ∷ l.second_text ∷ [];
          read = l.read;
          is = inl (lacking (at_input 0 (first l.first_text)) (at_input 1 (second l.second_text)) refused l.is);
        }) it u;
  }

  refusal-two : (x : X) (y : Y) (refused : Refusal) → HasObjects first second (a ∷ b ∷ []) old new x y → IsRefusalOf 2 (report x y).limits refused
      → IsUnmadeBy row (a ∷ b ∷ []) old new (unmade_by refused)
  refusal-two x y refused has f =
      unread-refused (a ∷ b ∷ []) old new (IsRefusedBy row (a ∷ b ∷ []) old new) 2 (report x y).limits refl has.read.uncounted
      (λ by is. record {
        texts = has.first_text ∷ has.second_text ∷ [];
        read = has.read;
        is = inl (both-read x y has.first_text has.second_text has.first_is has.second_is ∙ within-refused (report x y) (differs x y) by is);
      }) refused f

  -- there is no report
  lack-two : (x : X) (y : Y) (refused : Refusal) → HasObjects first second (a ∷ b ∷ []) old new x y → IsLackOf 2 (report x y).limits (Lacks x y) refused
      → IsUnmadeBy row (a ∷ b ∷ []) old new (unmade_by refused)
  lack-two x y (Refused input why) has lack =
      let by : IsRefusedBy row (a ∷ b ∷ []) old new (Refused input why) = record {
        texts = has.first_text ∷ has.second_text ∷ [];
        read = has.read;
        is = inr (record { object = x; is = has.first_is; fact = record { object = y; is = has.second_is; fact = (lack.1, lack.2) } });
      } in (lack.0, by)
  lack-two x y OutOfMemory has lack = absurd lack

  pub refused-two : (x : X) (y : Y) (refused : Refusal) (it : Unmade) → it ≡ unmade_by refused → ReadsOnly (a ∷ b ∷ []) old new → HasObjects first second (a ∷ b ∷ []) old new x y
      → IsUntoldOf 2 (report x y).limits (Lacks x y) refused → Makes row (a ∷ b ∷ []) old new (Err it)
  refused-two x y refused it same keeps has f = record {
    keeps = keeps;
    made = tt;
    unmade = subst (IsUnmadeBy row (a ∷ b ∷ []) old new) (sym same)
        (elim f [ inl by ↦ refusal-two x y refused has by | inr lack ↦ lack-two x y refused has lack ]);
  }

-- ---- of two inputs, by a search

-- What makes a text makes it as the text that is found.
makes-told : {X Y : Type 0} (first : Format X) (second : Format Y) (limits : X → Y → List Limit) (differs : X → Y → Bool) (Lacks : X → Y → Refusal → Type 0)
    (Means : X → Y → List ℕ → Type 0) (names : List (List ℕ)) (old new : FilesView) (result : Result Made Unmade)
    → Makes (two first second (λ x y. found_within (limits x y) (text_in result)) differs Lacks Means) names old new result
    → Makes (tells first second limits differs Lacks Means) names old new result
makes-told first second limits differs Lacks Means names old new (Ok made) m =
    record { keeps = m.keeps; made = record { texts = m.made.texts; read = m.made.read; report = m.made.report }; unmade = tt }
makes-told first second limits differs Lacks Means names old new (Err it) m = record {
  keeps = m.keeps;
  made = tt;
  unmade = unread-as names old new (IsRefusedBy (two first second (λ x y. found_within (limits x y) []) differs Lacks Means) names old new)
      (IsRefusedBy (tells first second limits differs Lacks Means) names old new)
      (λ refused l. record { texts = l.texts; read = l.read; is = l.is }) it m.unmade;
}

module _ {X Y : Type 0} (first : Format X) (second : Format Y) (limits : X → Y → List Limit) (differs : X → Y → Bool)
    (Lacks : X → Y → Refusal → Type 0) (Means : X → Y → List ℕ → Type 0) (a b : List ℕ) (old new : FilesView) where
  pub tells-two : (x : X) (y : Y) (it : Made) → ReadsOnly (a ∷ b ∷ []) old new → HasObjects first second (a ∷ b ∷ []) old new x y
      → IsProductOf (found_within (limits x y) (product_text it.product)) (Means x y) it.product → it.differs ≡ differs x y
      → Makes (tells first second limits differs Lacks Means) (a ∷ b ∷ []) old new (Ok it)
  tells-two x y it keeps has made same =
      makes-told first second limits differs Lacks Means (a ∷ b ∷ []) old new (Ok it)
      (makes-two first second (λ x y. found_within (limits x y) (product_text it.product)) differs Lacks Means a b old new x y it keeps has made same)

  pub tells-unread : (it : Unmade) → ReadsOnly (a ∷ b ∷ []) old new → IsUnread (a ∷ b ∷ []) old new (LacksObjects first second (a ∷ b ∷ []) old new) it
      → Makes (tells first second limits differs Lacks Means) (a ∷ b ∷ []) old new (Err it)
  tells-unread it keeps u =
      makes-told first second limits differs Lacks Means (a ∷ b ∷ []) old new (Err it)
      (unread-two first second (λ x y. found_within (limits x y) []) differs Lacks Means a b old new it keeps u)

  pub tells-refused : (x : X) (y : Y) (refused : Refusal) (it : Unmade) → it ≡ unmade_by refused → ReadsOnly (a ∷ b ∷ []) old new
      → HasObjects first second (a ∷ b ∷ []) old new x y → IsUntoldOf 2 (limits x y) (Lacks x y) refused
      → Makes (tells first second limits differs Lacks Means) (a ∷ b ∷ []) old new (Err it)
  tells-refused x y refused it same keeps has f =
      makes-told first second limits differs Lacks Means (a ∷ b ∷ []) old new (Err it)
      (refused-two first second (λ x y. found_within (limits x y) []) differs Lacks Means a b old new x y refused it same keeps has f)
