-- The turn of an exchange that has ended, and the characters that led to it.
use Rattle.std.proofs.Common.{◌≡◌, List, sym, ◌∙◌, ap, true, Some, if◌then◌else◌}
use Rattle.std.specs.List.{AllByRecursion, flat_map}
use Rattle.apdu_core.specs.StatusWord.{StatusWord}
use Rattle.apdu_core.specs.CommandBytes.{Command}
use Rattle.t0_core.specs.declared.host_end.HostTurn.TheVariants.{Done, Failed}
use Rattle.t0_core.specs.declared.line_fault.LineFault.{LineFault}
use Rattle.t0_core.specs.declared.line_fault.LineFault.TheVariants.{BadProcedure, AfterEnd, TooLong, Stalled, NotListening}
use Rattle.t0_core.specs.Character.{Character}
use Rattle.t0_core.specs.Dialogue.{Dialogue, characters, IsDialogue}
use Rattle.t0_core.specs.HostSide.{turn_of}
use Rattle.t0_core.specs.HostLaws.{going}
use Rattle.t0_core.specs.DataSent.{sent_in_all, Tells}
use Rattle.exchange_core.specs.Gathered.{UnitOf, Gathers, dialogues_of}
use Rattle.exchange_core.specs.ExchangeSide.{ExchangeOf, IsOver, Stall, exchange_turn, exchange_sent, is_final}
use Rattle.exchange_core.specs.ExchangeHistory.{unit_characters, ComesTo, to_front, to_end, to_stall, to_fault}

-- the turn of an exchange that has ended is `Done`
pub over_turn : (c : Command) (ex : ExchangeOf) (units : List UnitOf) (status : StatusWord)
    → IsOver c ex units status → exchange_turn ex ≡ Done status
over_turn c ex units status over = ap (λ b. if b then Failed else turn_of ex.host) over.going
    ∙ over.done

-- a final fault is not `AfterEnd`
pub final_is_no_end : (fault : LineFault) → is_final fault ≡ true → fault ≡ AfterEnd → ⊥
final_is_no_end (BadProcedure byte) final is = absurd (cc)
final_is_no_end AfterEnd final is = absurd (cc)
final_is_no_end TooLong final is = absurd (cc)
final_is_no_end Stalled final is = absurd (cc)
final_is_no_end NotListening final is = absurd (cc)

pub some_fault : (a b : LineFault) → Some a ≡ Some b → a ≡ b
some_fault a b e = cc

-- the characters of an exchange that has ended are those of a whole one
pub end_leads : (c : Command) (came : List Character) (ex : ExchangeOf) (status : StatusWord)
    → exchange_turn ex ≡ Done status → ComesTo c came ex
    → (units : List UnitOf) × Gathers c units ex.gather.bytes status
    × (came ≡ unit_characters units) × AllByRecursion IsDialogue (flat_map dialogues_of units)
    × Tells (exchange_sent ex) (sent_in_all (flat_map dialogues_of units))
end_leads c came ex status done (to_front units first front under is) =
    absurd (going ex.host front status under.stands
    (ap (λ b. if b then Failed else turn_of ex.host) (sym under.going) ∙ done))
end_leads c came ex status done (to_end units other over is) =
    let turn = over_turn c ex units other over in
    let same : other ≡ status = cc in
    (units, rw same at over.gathers, is, over.are_dialogues, over.sent_is)
end_leads c came ex status done (to_stall units stall are failed is) = absurd (cc)
end_leads c came ex status done
    (to_fault units first front before b fault under why final failed same is) = absurd (cc)
