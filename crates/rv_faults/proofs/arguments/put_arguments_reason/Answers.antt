use Rattle.std.proofs.Common.{◌++◌, List, ℕ, ap, codes, ◌∙◌}
use Rattle.rv_io.proofs.Adding.{adds_then, adds_as}
use Rattle.rv_words.specs.Options.{option_name}
use Rattle.rv_faults.proofs.arguments.put_arguments_reason.Goals as goal

pub returns-in-NotUnderstood : goal.returns-in-NotUnderstood
returns-in-NotUnderstood g c = rw c.in-NotUnderstood.is c.put.ensures

pub returns-in-UnknownCommand : goal.returns-in-UnknownCommand
returns-in-UnknownCommand g c =
    rw c.in-UnknownCommand.is
    (adds_as (ap (λ (name : List ℕ). codes "unknown command " ++ name) (c.as_bytes.ensures.value ∙ c.text.ensures)) (adds_then c.put-in-UnknownCommand.ensures c.put-in-UnknownCommand-2.ensures))

pub returns-in-NotUsed : goal.returns-in-NotUsed
returns-in-NotUsed g c =
    rw c.in-NotUsed.is
    (adds_as (ap (λ (name : List ℕ). codes "option --" ++ (name ++ (codes " not used by " ++ c.as_bytes-in-NotUsed-2.result.now))) (c.as_bytes-in-NotUsed.ensures.value ∙ c.option_name.ensures)
    ∙ ap (λ (name : List ℕ). codes "option --" ++ (option_name c.in-NotUsed.place ++ (codes " not used by " ++ name))) (c.as_bytes-in-NotUsed-2.ensures.value ∙ c.name.ensures.name))
    (adds_then c.put-in-NotUsed.ensures (adds_then c.put-in-NotUsed-2.ensures (adds_then c.put-in-NotUsed-3.ensures c.put-in-NotUsed-4.ensures))))

pub returns-in-BadValue : goal.returns-in-BadValue
returns-in-BadValue g c =
    rw c.in-BadValue.is
    (adds_as (ap (λ (name : List ℕ). codes "bad value for --" ++ name) (c.as_bytes-in-BadValue.ensures.value ∙ c.option_name-in-BadValue.ensures)) (adds_then c.put-in-BadValue.ensures c.put-in-BadValue-2.ensures))

pub returns-in-InputCount : goal.returns-in-InputCount
returns-in-InputCount g c =
    rw c.in-InputCount.is
    (adds_as (ap (λ (name : List ℕ). codes "wrong number of inputs for " ++ name) (c.as_bytes-in-InputCount.ensures.value ∙ c.name-in-InputCount.ensures.name))
    (adds_then c.put-in-InputCount.ensures c.put-in-InputCount-2.ensures))

pub returns-in-TwiceStandard : goal.returns-in-TwiceStandard
returns-in-TwiceStandard g c = rw c.in-TwiceStandard.is c.put-in-TwiceStandard.ensures

pub returns-in-Mem : goal.returns-in-Mem
returns-in-Mem g c = rw c.in-Mem.is c.put-in-Mem.ensures
