-- What a reader answers that is fed a text.
use Rattle.std.specs.Prelude.{◌≡◌, ℕ, List, Option, Some, None, Result, Ok, Err, ◌⊎◌}
use Rattle.rv_text.specs.declared.fault.TextFault.{TextFault}
use Rattle.rv_reader.specs.declared.whole.Whole.{Whole}
use Rattle.rv_reader.specs.declared.text_refusal.TextRefusal.{TextRefusal}
use Rattle.rv_reader.specs.declared.text_refusal.TextRefusal.TheVariants as refusals
use Rattle.rv_reader.specs.Rules.{Rules, ◌>>=◌, whole_of}

-- what was wanted is answered, or want of memory
abbrev pub Answers : {X E : Type 0} → E → Result X E → Result X E → Type 0
Answers mem result want = (result ≡ Err mem) ⊎ (result ≡ want)

-- a fault that was found, or a refusal that is kept, is answered
abbrev pub unless_refused : {E : Type 0} → Option E → Result (Unit {0}) E
unless_refused None = Ok tt
unless_refused (Some fault) = Err fault

-- a text fault as a fault of the format
abbrev pub faulted : {X E : Type 0} → (TextFault → E) → Result X TextFault → Result X E
faulted text (Ok x) = Ok x
faulted text (Err fault) = Err (text fault)

-- whether there is a fault, as a fault of the format
abbrev pub checked : {X E : Type 0} → (TextFault → E) → Result X TextFault → Result (Unit {0}) E
checked text (Ok x) = Ok tt
checked text (Err fault) = Err (text fault)

-- a text fault as a fault of the format
abbrev pub text_as : {E : Type 0} → (TextRefusal → E) → TextFault → E
text_as as_fault fault = as_fault (refusals.Text fault)

-- what a text denotes by the rules of its lines and of its end, or its first fault
unfoldable pub object_of : {S X E : Type 0} → Rules S → (TextRefusal → E) → (Whole S → Result X E) → List ℕ → Result X E
object_of rules as_fault end_of text = faulted (text_as as_fault) (whole_of rules text) >>= end_of
