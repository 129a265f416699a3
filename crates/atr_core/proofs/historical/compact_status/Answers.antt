use Rattle.std.proofs.Common.{◌≡◌, ◌<◌, ◌+◌, ◌-◌, ◌%◌, ◌∙◌, List, ℕ, sym, ap, arith, drop, length, length-drop, get_or, rules, true, false}
use Rattle.std.proofs.lemmas.List.{take_all}
use Rattle.atr_core.specs.HistoricalBytes.{compact_status, status_from}
use Rattle.atr_core.proofs.Compact.{is_last, last_object, other_object, cut_object}
use Rattle.atr_core.proofs.historical.compact_status.Goals as goal

pub objects-preserved : goal.objects-preserved
objects-preserved c =
    let bytes : List ℕ = c.args.bytes.now in
    let place : ℕ = c.objects.place in
    let no : is_last bytes place ≡ false = search rules in (
      ap (λ m. compact_status 0 (drop (place + (1 + m)) bytes)) c.from-in-objects.ensures
          ∙ sym (other_object bytes place c.objects-test.true no) ∙ c.objects.invariant.0,
      omega arith,
    )

pub returns-then-is_status : goal.returns-then-is_status
returns-then-is_status c =
    let bytes : List ℕ = c.args.bytes.now in
    let place : ℕ = c.objects.place in
    let yes : is_last bytes place ≡ true = search rules in
    c.status_from.ensures
    ∙ ap status_from (take_all (length bytes - (place + 1)) (drop (place + 1) bytes)
    (omega (arith, length-drop (place + 1) bytes)))
    ∙ sym (last_object bytes place c.objects-test.true yes) ∙ c.objects.invariant.0

pub returns-then-behind-from : goal.returns-then-behind-from
returns-then-behind-from c =
    let bytes : List ℕ = c.args.bytes.now in
    let place : ℕ = c.objects.place in
    let no : is_last bytes place ≡ false = search rules in
    let short : length bytes - place - 1 < get_or bytes place 0 % 16 = omega arith in
    sym (cut_object bytes place c.objects-test.true no short) ∙ c.objects.invariant.0
